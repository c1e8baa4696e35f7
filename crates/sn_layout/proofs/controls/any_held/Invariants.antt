use Rattle.std.proofs.Common.{◌≡◌, length}
use Rattle.sn_tree.specs.Trees.{subtree}
use Rattle.sn_world.specs.Mappings.{any_node}
use Rattle.sn_nodecmd.specs.Runs.{name_of, values_of}
use Rattle.sn_layout.specs.Leaving.{holds_laid}
use Rattle.sn_layout.proofs.Settings.{any_member}
use Rattle.sn_layout.proofs.controls.any_held.Given as goal

abbrev pub invariant-loop-member : goal.invariant-loop-member
invariant-loop-member l = any_member (holds_laid (name_of l.run.control) (length (values_of l.run.values))) l.member-iterator ≡ any_node (holds_laid (name_of l.run.control) (length (values_of l.run.values))) (subtree l.node.id l.tree.attached)
