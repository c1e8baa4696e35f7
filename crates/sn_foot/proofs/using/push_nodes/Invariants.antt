-- What the nodes that are left make of the uses is what all of them made of the first.
use Rattle.std.proofs.Common.{◌≡◌, drop, map}
use Rattle.sn_foot.specs.Putting.{put_nodes}
use Rattle.sn_foot.proofs.using.push_nodes.Given as goal

abbrev pub invariant-loop-held : goal.invariant-loop-held
invariant-loop-held l = put_nodes (map (λ h. h.now) (drop l.held-index l.nodes)) l.uses.items ≡ put_nodes (map (λ h. h.now) l.nodes) l.fn.uses.items
