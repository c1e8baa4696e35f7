use Rattle.std.proofs.Common.{◌≤◌, length, arith}
use Rattle.sn_settle.proofs.Sending.{first_all}
use Rattle.sn_settle.proofs.telling.tell.Goals as goal

pub returns : goal.returns
returns c =
    let all : length c.args.outs.now ≤ c.loop-client.client = omega (arith, c.loop-client-test.false, c.loop-client.auto.client-end, c.loop-client.invariant.clients) in
    first_all c.args.flags.now c.args.event.now c.args.outs.now c.loop-client.outs c.loop-client.client all c.loop-client.invariant
