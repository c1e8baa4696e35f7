use Rattle.sn_tree.specs.Reading.{synths_by}
use Rattle.sn_tree.proofs.ReadLaws.{synths_step}
use Rattle.sn_tree.proofs.reading.synths_in.Goals as goal

pub loop-row-preserved : goal.loop-row-preserved
loop-row-preserved c =
    synths_step (synths_by c.args.rows) c.loop-row.found.items c.add_synth.new.found.items c.loop-row.row-iterator _ c.in-Some.row.key c.in-Some.row.item.now c.in-Some.ensures.steps c.loop-row.invariant c.in_ok-add_synth.ensures
