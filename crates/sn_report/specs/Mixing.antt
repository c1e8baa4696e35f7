-- Which audio buses nodes beside each other mix together.
use Rattle.std.specs.Prelude.{ℕ, ◌+◌, Bool, false, not, ◌&&◌, ◌||◌, if◌then◌else◌, List, length, slice_index_or}
use Rattle.std.specs.List.{filter}
use Rattle.sn_ports.specs.Limits.{audio_bus_count}
use Rattle.sn_mem.specs.Blocks.{table}
use Rattle.sn_tree.specs.declared.node.NodeKind.{NodeKind}
use Rattle.sn_tree.specs.declared.node.NodeKind.TheVariants as kinds
use Rattle.sn_tree.specs.Trees.{Label, Nodes, none, node}

-- nodes with payloads of some sort, of which a test tells which audio buses each mixes
module _ {P : Type 0} (mixes : P → ℕ → Bool) where
  -- a node which runs mixes a bus, a group by a synth below it
  abbrev pub node_mixes : NodeKind → Label P → Bool → ℕ → Bool
  node_mixes kinds.Synth label below n = mixes label.payload n
  node_mixes kinds.Group label below n = below
  node_mixes kinds.Parallel label below n = below

  -- one of nodes beside each other mixes it; a paused one does not
  abbrev pub some_mix : Nodes P → ℕ → Bool
  some_mix none n = false
  some_mix (node label below after) n = (label.running && node_mixes label.kind label (some_mix below n) n) || some_mix after n

  -- two of them mix it
  abbrev pub two_mix : Nodes P → ℕ → Bool
  two_mix none n = false
  two_mix (node label below after) n = (label.running && (node_mixes label.kind label (some_mix below n) n && some_mix after n)) || two_mix after n

  -- the buses that two of them mix and no split group above shares; a flag of each bus says whether one does
  abbrev pub shared_by : List Bool → Nodes P → List ℕ
  shared_by above nodes = filter (λ n. two_mix nodes n && not (slice_index_or above n false)) (table (λ n. n) audio_bus_count)

  -- how many pairs there are of a synth which runs, among nodes or below them, and one of these buses that it mixes
  abbrev pub node_pairs : NodeKind → Label P → List ℕ → ℕ → ℕ
  node_pairs kinds.Synth label ns below = length (filter (mixes label.payload) ns)
  node_pairs kinds.Group label ns below = below
  node_pairs kinds.Parallel label ns below = below

  abbrev pub pairs : List ℕ → Nodes P → ℕ
  pairs ns none = 0
  pairs ns (node label below after) = (if label.running then node_pairs label.kind label ns (pairs ns below) else 0) + pairs ns after
