-- What was put, and what the nodes that are left put.
use Rattle.std.proofs.Common.{◌≡◌, ◌++◌, drop, map}
use Rattle.sn_foot.specs.Footprints.{states_of}
use Rattle.sn_foot.proofs.feet.put_states.Given as goal

abbrev pub invariant-loop-held : goal.invariant-loop-held
invariant-loop-held l = l.places.items ++ states_of (map (λ h. h.now) (drop l.held-index l.nodes)) ≡ l.fn.places.items ++ states_of (map (λ h. h.now) l.nodes)
