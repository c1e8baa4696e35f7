use Rattle.sn_engine.proofs.EntryLemmas.{sorts_message, sorts_bundle}
use Rattle.sn_engine.proofs.entry.sort_out.Goals as goal

pub loop-packet-preserved-in-Continue-branch-2 : goal.loop-packet-preserved-in-Continue-branch-2
loop-packet-preserved-in-Continue-branch-2 c = sorts_message c.args.tag _ _ c.in-Message.message _ _ _ c.in-Message.is c.in_ok-push-in-Message.ensures.items c.loop-packet.invariant

pub loop-packet-preserved : goal.loop-packet-preserved
loop-packet-preserved c = sorts_bundle c.args.tag _ _ c.in-Bundle.bundle _ _ _ c.in-Bundle.is c.in_ok-push-in-Bundle.ensures.items c.loop-packet.invariant
