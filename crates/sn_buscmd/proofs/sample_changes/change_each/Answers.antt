use Rattle.sn_buscmd.proofs.SampleRowLemmas.{head_free}
use Rattle.sn_buscmd.proofs.sample_changes.change_each.Goals as goal

pub change-requires-clause-free : goal.change-requires-clause-free
change-requires-clause-free g c = head_free (g.R.Judged.judge c.args.words.len) c.args.all.now c.loop-repetition.repetition-index c.repetition-item.result c.loop-repetition-test.true c.repetition-item.is c.loop-repetition.invariant.free
