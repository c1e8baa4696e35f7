use Rattle.std.proofs.Common.{reverse}
use Rattle.sn_tree.proofs.Dropping.{dropping_next}
use Rattle.sn_tree.proofs.tree.remove_all.Goals as goal

pub loop-key-preserved : goal.loop-key-preserved
loop-key-preserved g c =
    dropping_next (reverse c.args.keys.items) c.args.payloads.now c.loop-key.payloads c.try_remove.new.self c.loop-key.keys.items c.pop.new.self.items c.in-Some.key
    c.loop-key.invariant c.in-Some.ensures.items c.try_remove.ensures.updates
