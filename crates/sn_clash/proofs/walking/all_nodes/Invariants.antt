-- Those so far, and then those that are left, are all.
use Rattle.std.proofs.Common.{◌≡◌, ◌++◌, map}
use Rattle.std.specs.Prelude.{pos}
use Rattle.sn_tree.specs.Members.{members}
use Rattle.sn_tree.specs.Trees.{subtree}
use Rattle.sn_clash.specs.Rows.{row_of}
use Rattle.sn_clash.proofs.walking.all_nodes.Given as goal

abbrev pub invariant-loop-member : goal.invariant-loop-member
invariant-loop-member l = map row_of l.nodes.items ++ l.member-iterator ≡ members (subtree (pos 0) l.tree.attached)
