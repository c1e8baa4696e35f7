use Rattle.sn_engine.proofs.EntryLemmas.{takes_bundle, takes_one}
use Rattle.sn_engine.proofs.entry.bundle_entries.Goals as goal

pub loop-next-smaller : goal.loop-next-smaller
loop-next-smaller c = takes_one _ _ _ c.in-Some.next (record { tag = c.counts_as-tag.result; messages = c.in_ok-parts.parts.messages }) _ c.in-Some.ensures.items c.in_ok-put.ensures.count
    (record { tag = c.counts_as-tag.ensures; messages = c.in_ok-parts.ensures.messages; enclosed = c.in_ok-parts.ensures.enclosed; fewer = c.in_ok-parts.ensures.fewer })

pub loop-next-preserved : goal.loop-next-preserved
loop-next-preserved c = takes_bundle _ _ _ _ _ c.put.new.left.items c.in-Some.next (record { tag = c.counts_as-tag.result; messages = c.in_ok-parts.parts.messages }) _ c.in-Some.ensures.items c.in_ok-push-2.ensures.items c.in_ok-put.ensures.entries
    (record { tag = c.counts_as-tag.ensures; messages = c.in_ok-parts.ensures.messages; enclosed = c.in_ok-parts.ensures.enclosed; fewer = c.in_ok-parts.ensures.fewer }) c.loop-next.invariant
