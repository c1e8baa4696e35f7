-- What is linked and what is left are all nodes.
use Rattle.std.proofs.Common.{◌≡◌, length, map}
use Rattle.sn_graph.specs.Voices.{none}
use Rattle.sn_graph.specs.Inputs.{nodes_of}
use Rattle.sn_graph.specs.Pieces.{linked, piece_of}
use Rattle.sn_graph.proofs.parts.linked.Given as goal

abbrev pub invariant-loop-part : goal.invariant-loop-part
invariant-loop-part l = linked (map piece_of l.parts.items) (nodes_of l.nodes) ≡ linked (map piece_of l.initial.parts.items) none

abbrev pub decreases-loop-part : goal.decreases-loop-part
decreases-loop-part l = length l.parts.items
