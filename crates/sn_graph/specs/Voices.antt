-- Running synths, and the nodes that hold them.
use Rattle.std.specs.Prelude.{◌≡◌, ◌≤◌, ℕ, ◌*◌, ◌==◌, ℤ, Bool, true, false, not, ◌&&◌, ◌||◌, if◌then◌else◌, List, [], ◌∷◌, ◌++◌, length, map, Option, Some, None}
use Rattle.std.specs.List.{filter, list_any}
use Rattle.std.specs.Ordering.{int_eq}
use Rattle.sn_mem.specs.declared.extents.Extent.{Extent}
use Rattle.sn_mem.specs.declared.extents.Foot.{Foot}
use Rattle.sn_mem.specs.declared.moves.Moved.{Moved}
use Rattle.sn_mem.specs.Blocks.{table}
use Rattle.sn_mem.specs.Lanes.{buses_in, lanes_in}
use Rattle.sn_mem.specs.Layout.{audio_place, audio_bus_words}
use Rattle.sn_mem.specs.Words as words
use Rattle.sn_graph.specs.declared.nodes.Voice.{Voice}
use Rattle.std.specs.List.{All}
use Rattle.sn_ports.specs.Limits.{audio_bus_count}
use Rattle.sn_foot.specs.Canonical.{Ends, canonical}

-- The children of a group that are kept, each group with its own. A group that is split has the lanes that its joint
-- adds.
pub data HeardNodes : Type 0 where
  none : HeardNodes
  synth : Voice → HeardNodes → HeardNodes
  group : Option (List Moved) → HeardNodes → HeardNodes → HeardNodes

-- the lanes that the joint of a group adds
abbrev pub joint_lanes : Option (List Moved) → List Moved
joint_lanes None = []
joint_lanes (Some lanes) = lanes

-- a group that is split or not, whose members have no lanes
abbrev pub lanes_if : Bool → Option (List Moved)
lanes_if split = if split then Some [] else None

abbrev pub is_none : HeardNodes → Bool
is_none none = true
is_none (synth v rest) = false
is_none (group lanes inner rest) = false

-- all running synths, in the order of the walk
abbrev pub voices : HeardNodes → List Voice
voices none = []
voices (synth v rest) = v ∷ voices rest
voices (group lanes inner rest) = voices inner ++ voices rest

-- each group holds a synth
abbrev pub AreHeard : HeardNodes → Type 0
AreHeard none = Unit {0}
AreHeard (synth v rest) = AreHeard rest
AreHeard (group lanes inner rest) = (1 ≤ length (voices inner)) × (AreHeard inner × AreHeard rest)

abbrev pub ids_of : List Voice → List ℤ
ids_of [] = []
ids_of (v ∷ vs) = v.id ∷ ids_of vs

-- a synth with this id is among them
abbrev pub has : List Voice → ℤ → Bool
has [] a = false
has (v ∷ vs) a = int_eq v.id a || has vs a

-- no id stands twice
abbrev pub Once : List Voice → Type 0
Once [] = Unit {0}
Once (v ∷ vs) = (has vs v.id ≡ false) × Once vs

-- ---- feet

-- bus n is moved
abbrev pub is_moved : List Moved → ℕ → Bool
is_moved ms n = list_any (λ m. m.bus.at == audio_bus_words * n) ms

-- the buses among these words that are not moved
abbrev pub buses_left : List Moved → List Extent → List Extent
buses_left ms es = map audio_place (filter (λ n. words.has es (audio_bus_words * n) && not (is_moved ms n)) (table (λ n. n) audio_bus_count))

-- what is mixed, with its lane in place of each bus that is moved
abbrev pub mixed_onto : List Moved → List Extent → List Extent
mixed_onto [] es = es
mixed_onto (m ∷ ms) es = buses_left (m ∷ ms) es ++ lanes_in (m ∷ ms)

-- the words that a synth touches: what it mixes it writes
abbrev pub own_foot : Voice → Foot
own_foot v = record { reads = v.reach.reads; writes = v.reach.writes ++ mixed_onto v.moves v.reach.mixes }

-- the words that synths may read, and those that they may write
abbrev pub all_reads : List Voice → List Extent
all_reads [] = []
all_reads (v ∷ vs) = (own_foot v).reads ++ all_reads vs

abbrev pub all_writes : List Voice → List Extent
all_writes [] = []
all_writes (v ∷ vs) = (own_foot v).writes ++ all_writes vs

-- the words of synths, and of lanes that are added to their buses after them
abbrev pub foot_of : List Voice → List Moved → Foot
foot_of vs lanes = record { reads = canonical (lanes_in lanes ++ all_reads vs); writes = canonical (buses_in lanes ++ all_writes vs) }

-- the words of each have numbers
abbrev pub AreWithin : List Voice → Type 0
AreWithin [] = Unit {0}
AreWithin (v ∷ vs) = (All Ends (own_foot v).reads × All Ends (own_foot v).writes) × AreWithin vs

-- so do those of lanes and of their buses
abbrev pub HaveEnds : List Moved → Type 0
HaveEnds lanes = All Ends (lanes_in lanes) × All Ends (buses_in lanes)

abbrev pub JointsEnd : HeardNodes → Type 0
JointsEnd none = Unit {0}
JointsEnd (synth v rest) = JointsEnd rest
JointsEnd (group lanes inner rest) = HaveEnds (joint_lanes lanes) × (JointsEnd inner × JointsEnd rest)
