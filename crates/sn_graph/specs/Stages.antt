-- The running nodes of a stage.
use Rattle.std.specs.Prelude.{ℕ, ℤ, pos, Bool, false, not, if◌then◌else◌, List, [], ◌∷◌, map, Option}
use Rattle.sn_mem.specs.declared.buffers.BufferPlace.{BufferPlace}
use Rattle.sn_tree.specs.declared.node.NodeKind.{NodeKind}
use Rattle.sn_tree.specs.declared.node.NodeKind.TheVariants as kinds
use Rattle.sn_tree.specs.Trees as trees
use Rattle.sn_tree.specs.Trees.{Label, Nodes, subtree}
use Rattle.sn_world.specs.declared.stage.Held.{Held}
use Rattle.sn_world.specs.declared.stage.Stage.{Stage}
use Rattle.sn_foot.specs.Footprints.{foot_of}
use Rattle.sn_clash.specs.Clashing.{clashes_in}
use Rattle.sn_graph.specs.declared.nodes.Voice.{Voice}
use Rattle.sn_graph.specs.Voices.{HeardNodes, none, synth, group, is_none, lanes_if}
use Rattle.sn_graph.specs.Plans.{is_listed}
use Rattle.sn_graph.specs.Lanes.{with_lanes}

-- a synth that runs, with its words, and without lanes
abbrev pub voice_of : List (Option BufferPlace) → ℤ → Held → Voice
voice_of buffers id held = record { id = id; reach = foot_of buffers (held ∷ []); moves = [] }

-- a group that may be split or not, with what is kept below it, before others; if nothing is, it is left out
abbrev pub with_group : Bool → HeardNodes → HeardNodes → HeardNodes
with_group flag below after = if is_none below then after else group (lanes_if flag) below after

-- A parallel group may be split unless two of its members clash.
abbrev pub may_split : List ℤ → ℤ → Bool
may_split clashing id = not (is_listed clashing id)

-- the buffers, and the ids of the parallel groups whose members clash
module _ (buffers : List (Option BufferPlace)) (clashing : List ℤ) where
  -- a node that runs, with those that run below it, before others
  abbrev pub with_node : NodeKind → Label Held → HeardNodes → HeardNodes → HeardNodes
  with_node kinds.Synth label below after = synth (voice_of buffers label.id label.payload) after
  with_node kinds.Group label below after = with_group false below after
  with_node kinds.Parallel label below after = with_group (may_split clashing label.id) below after

  -- The nodes that are heard: a paused node is left out with all below it, and so is a group in which no synth runs.
  abbrev pub running_of : Nodes Held → HeardNodes
  running_of trees.none = none
  running_of (trees.node label below after) =
      if label.running then with_node label.kind label (running_of below) (running_of after)
      else running_of after

  -- those of the root, which has the id 0, and of all below it
  abbrev pub running_nodes : Nodes Held → HeardNodes
  running_nodes nodes = running_of (subtree (pos 0) nodes)

-- ---- a stage

-- the ids of the parallel groups that its clashes name
abbrev pub clashing_in : Stage → List ℤ
clashing_in stage = map (λ c. c.group) (clashes_in stage)

-- its running nodes, of which a parallel group may be split unless two of its members clash
abbrev pub nodes_in : Stage → HeardNodes
nodes_in stage = running_nodes stage.buffers (clashing_in stage) stage.tree.attached

-- with so many lanes, which begin at a word
abbrev pub nodes_with : ℕ → ℕ → Stage → HeardNodes
nodes_with first most stage = with_lanes first most (nodes_in stage)
