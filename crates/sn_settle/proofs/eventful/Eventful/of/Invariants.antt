-- Those so far, and then those of the nodes that are left, are all.
use Rattle.std.proofs.Common.{◌≡◌, ◌++◌, map}
use Rattle.sn_tree.specs.Trees.{running_labels}
use Rattle.sn_settle.specs.Eventful.{synth_at, eventful_in}
use Rattle.sn_settle.proofs.eventful.Eventful.of.Given as goal

abbrev pub invariant-loop-visit : goal.invariant-loop-visit
invariant-loop-visit l = map synth_at l.synths.items ++ eventful_in l.visit-iterator ≡ eventful_in (running_labels l.stage.tree.attached)
