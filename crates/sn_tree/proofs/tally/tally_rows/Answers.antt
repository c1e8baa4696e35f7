use Rattle.std.proofs.Common.{ap}
use Rattle.sn_tree.specs.Tallies.{gathered}
use Rattle.sn_tree.specs.Reading.{held_by}
use Rattle.sn_tree.proofs.ReadLaws.{tally_some, tally_none}
use Rattle.sn_tree.proofs.tally.tally_rows.Goals as goal

pub loop-row-init : goal.loop-row-init
loop-row-init g c = ap (λ r. gathered g.T.Tally.with_one c.args.tally.now (held_by c.args.root.now c.args.payloads.now.slots r)) c.into_iter-row-iterator.ensures.into_iter_gives

pub loop-row-preserved-in-Some-payload_at : goal.loop-row-preserved-in-Some-payload_at
loop-row-preserved-in-Some-payload_at g c =
    tally_some g.T.Tally.with_one c.args.root.now c.args.payloads.now.slots _ c.loop-row.tally c.loop-row.row-iterator _ c.in-Some.row.key c.in-Some.row.item.now c.in-Some.ensures.steps c.loop-row.invariant c.add.new.self c.in-Some-payload_at.payload.now c.in-Some-payload_at.ensures c.add.ensures

pub loop-row-preserved : goal.loop-row-preserved
loop-row-preserved g c =
    tally_none g.T.Tally.with_one c.args.root.now c.args.payloads.now.slots _ c.loop-row.tally c.loop-row.row-iterator _ c.in-Some.row.key c.in-Some.row.item.now c.in-Some.ensures.steps c.loop-row.invariant c.in-None-payload_at.ensures
