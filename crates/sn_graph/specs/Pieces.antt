-- Nodes by themselves, and how they are put together from the end of the walk on.
use Rattle.std.specs.Prelude.{ℕ, ℤ, Bool, false, if◌then◌else◌, List, [], ◌∷◌, map, reverse, take, drop, Option}
use Rattle.sn_mem.specs.declared.buffers.BufferPlace.{BufferPlace}
use Rattle.sn_tree.specs.declared.node.NodeKind.{NodeKind}
use Rattle.sn_tree.specs.declared.node.NodeKind.TheVariants as kinds
use Rattle.sn_tree.specs.Trees.{Label}
use Rattle.sn_world.specs.declared.stage.Held.{Held}
use Rattle.sn_graph.specs.declared.nodes.Voice.{Voice}
use Rattle.sn_graph.specs.declared.parts.Part.TheVariants as given
use Rattle.sn_graph.specs.declared.parts.Part.{Part}
use Rattle.sn_graph.specs.Voices.{HeardNodes, none, synth, group, is_none, lanes_if}
use Rattle.sn_graph.specs.Inputs.{nodes_of}
use Rattle.sn_graph.specs.Stages.{may_split, voice_of}

-- a node by itself, with what is kept below it, or nothing if it is left out
pub data Piece : Type 0 where
  nothing : Piece
  voice : Voice → Piece
  below : Bool → HeardNodes → Piece

abbrev pub piece_of : Part → Piece
piece_of given.Nothing = nothing
piece_of (given.Synth v) = voice v
piece_of (given.Group flag inner) = below flag (nodes_of inner.value)

-- those that were put, of which the first one was put last
abbrev pub pieces : List Part → List Piece
pieces parts = reverse (map piece_of parts)

-- a node before others
abbrev pub before : Piece → HeardNodes → HeardNodes
before nothing rest = rest
before (voice v) rest = synth v rest
before (below flag inner) rest = group (lanes_if flag) inner rest

abbrev pub linked : List Piece → HeardNodes → HeardNodes
linked [] rest = rest
linked (p ∷ ps) rest = before p (linked ps rest)

abbrev pub group_piece : Bool → HeardNodes → Piece
group_piece flag inner = if is_none inner then nothing else below flag inner

module _ (buffers : List (Option BufferPlace)) (clashing : List ℤ) where
  abbrev pub running_piece : NodeKind → Label Held → HeardNodes → Piece
  running_piece kinds.Synth label inner = voice (voice_of buffers label.id label.payload)
  running_piece kinds.Group label inner = group_piece false inner
  running_piece kinds.Parallel label inner = group_piece (may_split clashing label.id) inner

  abbrev pub piece : Label Held → HeardNodes → Piece
  piece label inner = if label.running then running_piece label.kind label inner else nothing

  -- a node takes those just below it
  abbrev pub with_member : Label Held × ℕ → List Piece → List Piece
  with_member m ps = piece m.0 (linked (take m.1 ps) none) ∷ drop m.1 ps

  -- all these nodes before others
  abbrev pub built : List (Label Held × ℕ) → List Piece → List Piece
  built [] ps = ps
  built (m ∷ ms) ps = with_member m (built ms ps)
