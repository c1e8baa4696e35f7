use Rattle.std.proofs.Common.{map, length}
use Rattle.sn_osc.specs.Shape.{argument_of}
use Rattle.sn_tree.specs.Trees.{subtree}
use Rattle.sn_nodecmd.specs.Runs.{reader}
use Rattle.sn_layout.specs.Reading.{ArePlain}
use Rattle.sn_layout.proofs.controls.runs_laid.Given as goal

abbrev pub invariant-loop-rest : goal.invariant-loop-rest
invariant-loop-rest l = ArePlain (subtree l.node.id l.tree.attached) (reader l.form) (map argument_of l.rest) → ArePlain (subtree l.node.id l.tree.attached) (reader l.form) (map argument_of l.arguments)

abbrev pub decreases-loop-rest : goal.decreases-loop-rest
decreases-loop-rest l = length l.rest
