-- What may run beside what, told in lines.
use Rattle.std.specs.Prelude.{ℕ, ◌+◌, ℤ, Bool, true, false, ◌&&◌, if◌then◌else◌, List, [], ◌∷◌, ◌++◌, map, length, replicate, codes, filter}
use Rattle.std.specs.Fmt.{decimal, signed_decimal}
use Rattle.sn_ports.specs.Limits.{audio_bus_count}
use Rattle.sn_def.specs.declared.control.Control.{Control as SynthControl}
use Rattle.sn_def.specs.Definition.{Definition}
use Rattle.sn_def.specs.Defs.{definition_of}
use Rattle.sn_tree.specs.Trees.{Label, Nodes, running_labels, with_payloads}
use Rattle.sn_world.specs.declared.stage.Held.{Held}
use Rattle.sn_world.specs.declared.stage.Held.TheVariants as held
use Rattle.sn_world.specs.declared.stage.Stage.{Stage}
use Rattle.sn_world.specs.Nodes.{Content, group, synth}
use Rattle.sn_world.specs.World.{World}
use Rattle.sn_foot.specs.declared.resource.Resource.{Resource}
use Rattle.sn_foot.specs.declared.resource.Resource.TheVariants.{Audio, Control, Buffer}
use Rattle.sn_foot.specs.declared.uses.Role.{Role}
use Rattle.sn_foot.specs.declared.uses.Role.TheVariants.{Read, Write, Mix}
use Rattle.sn_foot.specs.Footprints.{Footprint, is_there}
use Rattle.sn_clash.specs.Clashing.{clashes_of, resources, synth_uses}
use Rattle.sn_graph.specs.Stages.{clashing_in}
use Rattle.sn_report.specs.Weights.{Weight, in_order, weighed}

-- ---- what is told of a node

-- Nothing of a group. Of a synth, how many units it has, and which resources it reads, writes and mixes, as far as they
-- are there.
pub data Sight : Type 0 where
  nothing : Sight
  some : ℕ → (Role → Resource → Bool) → Sight

abbrev pub synth_sight : Definition → List SynthControl → Sight
synth_sight d controls = some (length d.units) (λ role r. synth_uses role d.units controls r)

abbrev pub held_sight : Held → Sight
held_sight held.Group = nothing
held_sight (held.Synth def controls state) = synth_sight (definition_of def.value) controls

abbrev pub content_sight : Content → Sight
content_sight group = nothing
content_sight (synth s) = synth_sight s.definition s.controls

abbrev pub seen_units : Sight → ℕ
seen_units nothing = 0
seen_units (some units uses) = units

abbrev pub is_seen : Sight → Bool
is_seen nothing = false
is_seen (some units uses) = true

-- it mixes audio bus n
abbrev pub seen_mixes : Sight → ℕ → Bool
seen_mixes nothing n = false
seen_mixes (some units uses) n = uses Mix (Audio n)

-- ---- lines

abbrev pub resource_word : Resource → List ℕ
resource_word (Audio n) = codes "a" ++ decimal n
resource_word (Control n) = codes "c" ++ decimal n
resource_word (Buffer n) = codes "b" ++ decimal n

-- each after a comma
abbrev pub more_words : List Resource → List ℕ
more_words [] = []
more_words (r ∷ rs) = codes "," ++ resource_word r ++ more_words rs

-- with commas between them, or `-` for none
abbrev pub resource_list : List Resource → List ℕ
resource_list [] = codes "-"
resource_list (r ∷ rs) = resource_word r ++ more_words rs

-- The resources are told in their order: audio buses, control buses, and buffers, each by their numbers.
abbrev pub foot_line : ℤ → ℕ → Footprint → List ℕ
foot_line id units foot =
    codes "node " ++ signed_decimal id ++ codes " units " ++ decimal units ++ codes " reads " ++ resource_list (filter foot.reads resources) ++ codes " writes " ++ resource_list (filter foot.writes resources) ++ codes " mixes " ++ resource_list (filter foot.mixes resources) ++ 10 ∷ []

-- of the resources that a synth uses, those that are there
abbrev pub foot_there : (Resource → Bool) → (Role → Resource → Bool) → Footprint
foot_there there uses = record { reads = λ r. there r && uses Read r; writes = λ r. there r && uses Write r; mixes = λ r. there r && uses Mix r }

abbrev pub node_line : (Resource → Bool) → ℤ → Sight → List ℕ
node_line there id nothing = []
node_line there id (some units uses) = foot_line id units (foot_there there uses)

abbrev pub head_line : ℕ → ℕ → ℕ → List ℕ
head_line synths units cost = codes "synths " ++ decimal synths ++ codes " units " ++ decimal units ++ codes " cost " ++ decimal cost ++ 10 ∷ []

-- ids, each after a space
abbrev pub id_words : List ℤ → List ℕ
id_words [] = []
id_words (id ∷ ids) = codes " " ++ signed_decimal id ++ id_words ids

abbrev pub chain_words : List ℤ → List ℕ
chain_words [] = codes " -"
chain_words (id ∷ ids) = id_words (id ∷ ids)

abbrev pub chain_line : List ℤ → List ℕ
chain_line ids = codes "chain" ++ chain_words ids ++ 10 ∷ []

-- ---- the whole

abbrev pub synths_among : List (Label Sight) → ℕ
synths_among [] = 0
synths_among (l ∷ ls) = (if is_seen l.payload then 1 else 0) + synths_among ls

abbrev pub units_among : List (Label Sight) → ℕ
units_among [] = 0
units_among (l ∷ ls) = seen_units l.payload + units_among ls

-- the buffers tell which resources are there
module _ (there : Resource → Bool) where
  abbrev pub node_lines : List (Label Sight) → List ℕ
  node_lines [] = []
  node_lines (l ∷ ls) = node_line there l.id l.payload ++ node_lines ls

  -- the lines of running nodes and of a weight
  abbrev pub lines : List (Label Sight) → Weight → List ℕ
  lines labels w = head_line (synths_among labels) (units_among labels) w.cost ++ node_lines labels ++ chain_line w.chain

-- the weight of nodes, of which these parallel groups have members that clash
abbrev pub weight_of : Nodes Sight → List ℤ → Weight
weight_of nodes clashing = in_order (weighed seen_units seen_mixes clashing (replicate audio_bus_count false) 0 nodes).weights

-- ---- of a world and of a stage

abbrev pub clashing_of : World → List ℤ
clashing_of w = map (λ c. c.group) (clashes_of w)

abbrev pub world_weight : World → Weight
world_weight w = weight_of (with_payloads content_sight w.nodes) (clashing_of w)

abbrev pub report_of : World → List ℕ
report_of w = lines (is_there w.buffers) (running_labels (with_payloads content_sight w.nodes)) (world_weight w)

abbrev pub stage_weight : Stage → Weight
stage_weight stage = weight_of (with_payloads held_sight stage.tree.attached) (clashing_in stage)

abbrev pub report_in : Stage → List ℕ
report_in stage = lines (is_there stage.buffers) (running_labels (with_payloads held_sight stage.tree.attached)) (stage_weight stage)
