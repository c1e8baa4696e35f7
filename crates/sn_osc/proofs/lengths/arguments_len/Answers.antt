use Rattle.std.proofs.Common.{rules, arith}
use Rattle.sn_osc.proofs.Octets.{arguments_next, arguments_end, arguments_fewer}
use Rattle.sn_osc.proofs.lengths.arguments_len.Goals as goal

pub loop-argument-preserved : goal.loop-argument-preserved
loop-argument-preserved c =
    let xs = c.args.arguments.now in
    let x = c.argument-item.result in
    let i = c.loop-argument.argument-index in
    record {
      whole = omega (arith, c.loop-argument.invariant.whole, arguments_fewer xs x i c.loop-argument-test.true c.argument-item.is, c.sum-len.ensures, c.argument_len.ensures.len);
      few = search rules;
      octets = arguments_next xs x i _ c.loop-argument-test.true c.argument-item.is c.argument_len.ensures.octets c.loop-argument.invariant.octets;
    }

pub returns-clause-octets : goal.returns-clause-octets
returns-clause-octets c = arguments_end c.args.arguments.now c.loop-argument.argument-index _ c.loop-argument-test.false c.loop-argument.invariant.octets
