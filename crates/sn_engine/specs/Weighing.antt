-- Whether members that mix one bus run at the same time, each onto a lane.
use Rattle.std.specs.Prelude.{ℕ, ◌+◌, ◌-◌, Bool, ◌&&◌, if◌then◌else◌, List, [], ◌∷◌, length, nat_le}
use Rattle.sn_def.specs.Defs.{definition_of}
use Rattle.sn_tree.specs.Trees.{Label, Nodes, none, node}
use Rattle.sn_world.specs.declared.stage.Held.{Held}
use Rattle.sn_world.specs.declared.stage.Held.TheVariants as held
use Rattle.sn_world.specs.Nodes.{Content, group, synth}
use Rattle.sn_world.specs.World.{World}

-- how many units a synth has more than ten, which take about as long as a lane
abbrev pub units_more : Content → ℕ
units_more group = 0
units_more (synth s) = length s.definition.units - 10

-- those of the synths that run, together
abbrev pub all_more : Nodes Content → ℕ
all_more none = 0
all_more (node label below after) = (if label.running then units_more label.payload + all_more below else 0) + all_more after

-- A plan for so many workers has lanes if there are several, and the synths that run have 128 such units together.
abbrev pub has_lanes : ℕ → World → Bool
has_lanes workers w = nat_le 2 workers && nat_le 128 (all_more w.nodes)

-- ---- as the walk tells them

abbrev pub held_more : Held → ℕ
held_more held.Group = 0
held_more (held.Synth def controls state) = length (definition_of def.value).units - 10

abbrev pub labels_more : List (Label Held) → ℕ
labels_more [] = 0
labels_more (l ∷ ls) = held_more l.payload + labels_more ls
