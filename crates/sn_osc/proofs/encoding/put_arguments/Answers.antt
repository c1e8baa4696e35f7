use Rattle.std.proofs.Common.{arith}
use Rattle.sn_osc.proofs.Octets.{arguments_fewer, arguments_put}
use Rattle.sn_osc.proofs.encoding.put_arguments.Goals as goal

pub put_argument-requires-clause-few : goal.put_argument-requires-clause-few
put_argument-requires-clause-few c =
    let fewer = arguments_fewer c.args.arguments.now c.argument-item.result c.loop-argument.argument-index c.loop-argument-test.true c.argument-item.is in
    omega (arith, fewer, c.loop-argument.invariant.few)

pub put_argument-requires-clause-room : goal.put_argument-requires-clause-room
put_argument-requires-clause-room c =
    let fewer = arguments_fewer c.args.arguments.now c.argument-item.result c.loop-argument.argument-index c.loop-argument-test.true c.argument-item.is in
    omega (arith, fewer, c.loop-argument.invariant.room)

pub loop-argument-preserved : goal.loop-argument-preserved
loop-argument-preserved c =
    let fewer = arguments_fewer c.args.arguments.now c.argument-item.result c.loop-argument.argument-index c.loop-argument-test.true c.argument-item.is in
    record {
      put = arguments_put c.args.arguments.now c.argument-item.result c.loop-argument.argument-index c.loop-argument.out.bytes c.put_argument.new.out.bytes _ c.loop-argument-test.true c.argument-item.is c.put_argument.ensures.bytes c.loop-argument.invariant.put;
      few = omega (arith, fewer, c.loop-argument.invariant.few);
      room = omega (arith, fewer, c.loop-argument.invariant.room, c.put_argument.ensures.room);
      left = omega (arith, fewer, c.loop-argument.invariant.left, c.put_argument.ensures.room);
    }
