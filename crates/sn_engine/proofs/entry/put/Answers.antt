use Rattle.std.proofs.Common.{◌∙◌}
use Rattle.sn_engine.proofs.EntryLemmas.{moves_entries, moves_count}
use Rattle.sn_engine.proofs.entry.put.Goals as goal

pub loop-last-preserved : goal.loop-last-preserved
loop-last-preserved c = record {
  entries = moves_entries _ _ _ _ c.in-Some.last c.in-Some.ensures.items c.in_ok-push.ensures.items ∙ c.loop-last.invariant.entries;
  count = moves_count _ _ _ _ c.in-Some.last c.in-Some.ensures.items c.in_ok-push.ensures.items ∙ c.loop-last.invariant.count;
}
