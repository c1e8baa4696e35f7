use Rattle.std.proofs.Common.{◌≡◌, map}
use Rattle.sn_tree.specs.Trees.{subtree}
use Rattle.sn_world.specs.Mappings.{any_node}
use Rattle.sn_nodecmd.specs.Mapped.{mapping_of}
use Rattle.sn_nodecmd.specs.Indexing.{held_takes}
use Rattle.sn_nodecmd.proofs.MappingLemmas.{any_member}
use Rattle.sn_nodecmd.proofs.indexing.take_index_below.Given as goal

abbrev pub invariant-loop-member : goal.invariant-loop-member
invariant-loop-member l = any_member (held_takes (map mapping_of l.mappings)) l.member-iterator ≡ any_node (held_takes (map mapping_of l.mappings)) (subtree l.id l.tree.attached)
