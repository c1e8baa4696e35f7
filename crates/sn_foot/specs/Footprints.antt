-- What a node may read and write besides its own state: audio buses, control buses and buffers.
use Rattle.std.specs.Prelude.{◌≡◌, ◌↔◌, ◌⊎◌, ℕ, zero, suc, ◌+◌, ◌-◌, ◌==◌, nat_lt, ℤ, pos, negsuc, ◌+ℤ◌, Bool, true, false, not, ◌&&◌, ◌||◌, if◌then◌else◌, List, [], ◌∷◌, ◌++◌, length, map, slice_index_or, Option, Some, None, is_some}
use Rattle.std.specs.List.{list_any}
use Rattle.std.specs.Ordering.{int_eq}
use Rattle.sn_ports.specs.Limits.{audio_bus_count, control_bus_count, buffer_count}
use Rattle.sn_mem.specs.declared.extents.Extent.{Extent}
use Rattle.sn_foot.specs.declared.reach.Reach.{Reach}
use Rattle.sn_mem.specs.Words.{covers, has}
use Rattle.sn_mem.specs.Layout.{audio_place, control_place}
use Rattle.sn_def.specs.declared.control.Control.{Control as SynthControl}
use Rattle.sn_def.specs.declared.unit.Unit.{Unit as UnitLine}
use Rattle.sn_def.specs.Defs.{definition_of}
use Rattle.sn_io.specs.BusUnits.{reads_audio, reads_control, writes_audio, writes_control}
use Rattle.sn_foot.specs.Mixers.{mixes_audio}
use Rattle.sn_io.specs.BufferUnits.{reads_buffer, writes_buffer}
use Rattle.sn_synth.specs.Conditions.{index_of}
use Rattle.sn_mem.specs.declared.buffers.BufferPlace.{BufferPlace}
use Rattle.sn_tree.specs.Trees.{Nodes, running_labels, subtree}
use Rattle.sn_world.specs.declared.stage.Held.{Held}
use Rattle.sn_world.specs.declared.stage.Held.TheVariants as held
use Rattle.sn_world.specs.Pictures.{held_extents}
use Rattle.sn_foot.specs.declared.resource.Resource.{Resource}
use Rattle.sn_foot.specs.declared.resource.Resource.TheVariants.{Audio, Control, Buffer}
use Rattle.sn_foot.specs.Canonical.{canonical}

-- ---- resources

abbrev pub buffer_words : Option BufferPlace → Option Extent
buffer_words None = None
buffer_words (Some p) = Some p.extent

abbrev pub number_of : Resource → ℕ
number_of (Audio n) = n
number_of (Control n) = n
number_of (Buffer n) = n

-- A resource is an audio bus 0 to 127, a control bus 0 to 1,023, or a buffer 0 to 1,023 that is allocated.
abbrev pub is_there : {B : Type 0} → List (Option B) → Resource → Bool
is_there buffers (Audio n) = nat_lt n audio_bus_count
is_there buffers (Control n) = nat_lt n control_bus_count
is_there buffers (Buffer n) = nat_lt n buffer_count && is_some (slice_index_or buffers n None)

-- It has a place in the words.
abbrev pub place_of : List (Option BufferPlace) → Resource → Option Extent
place_of buffers (Audio n) = if nat_lt n audio_bus_count then Some (audio_place n) else None
place_of buffers (Control n) = if nat_lt n control_bus_count then Some (control_place n) else None
place_of buffers (Buffer n) = if nat_lt n buffer_count then buffer_words (slice_index_or buffers n None) else None

-- ---- units

abbrev pub is_number : ℤ → ℕ → Bool
is_number (pos m) n = m == n
is_number (negsuc m) n = false

-- n is one of so many numbers, from a first one on
unfoldable pub is_among : ℤ → ℕ → ℕ → Bool
is_among first zero n = false
is_among first (suc i) n = is_among first i n || is_number (first +ℤ pos i) n

-- A unit reads the buses of its outputs, from the present value of its index on, or the one buffer of that number.
abbrev pub unit_reads : List SynthControl → UnitLine → Resource → Bool
unit_reads controls u (Audio n) = reads_audio u.kind && is_among (index_of controls u) u.outputs n
unit_reads controls u (Control n) = reads_control u.kind && is_among (index_of controls u) u.outputs n
unit_reads controls u (Buffer n) = reads_buffer u.kind && is_among (index_of controls u) 1 n

-- It writes those of the signals that follow the index.
abbrev pub unit_writes : List SynthControl → UnitLine → Resource → Bool
unit_writes controls u (Audio n) = writes_audio u.kind && is_among (index_of controls u) (length u.inputs - 1) n
unit_writes controls u (Control n) = writes_control u.kind && is_among (index_of controls u) (length u.inputs - 1) n
unit_writes controls u (Buffer n) = writes_buffer u.kind && is_among (index_of controls u) 1 n

-- To audio buses it adds, if it is Out.ar.
abbrev pub unit_mixes : List SynthControl → UnitLine → Resource → Bool
unit_mixes controls u (Audio n) = mixes_audio u.kind && unit_writes controls u (Audio n)
unit_mixes controls u (Control n) = false
unit_mixes controls u (Buffer n) = false

-- how many of some units read or write a resource
abbrev pub users : List SynthControl → List UnitLine → Resource → ℕ
users controls [] r = 0
users controls (u ∷ us) r = (if unit_reads controls u r || unit_writes controls u r then 1 else 0) + users controls us r

-- ---- synths

abbrev pub is_bus : Option ℕ → ℕ → Bool
is_bus None n = false
is_bus (Some bus) n = bus == n

-- the bus that a control follows
abbrev pub follows : SynthControl → Resource → Bool
follows control (Audio n) = false
follows control (Control n) = is_bus control.bus n
follows control (Buffer n) = false

-- A synth reads what its controls follow, even those that no unit uses, and what its units read.
abbrev pub synth_reads : List UnitLine → List SynthControl → Resource → Bool
synth_reads units controls r = list_any (λ c. follows c r) controls || list_any (λ u. unit_reads controls u r) units

-- It mixes an audio bus if one of its units adds a signal to it, and no other unit reads or writes it.
abbrev pub synth_mixes : List UnitLine → List SynthControl → Resource → Bool
synth_mixes units controls r = list_any (λ u. unit_mixes controls u r) units && (users controls units r == 1)

-- It writes what its units write and it does not mix.
abbrev pub synth_writes : List UnitLine → List SynthControl → Resource → Bool
synth_writes units controls r = list_any (λ u. unit_writes controls u r) units && not (synth_mixes units controls r)

abbrev pub held_reads : Held → Resource → Bool
held_reads held.Group r = false
held_reads (held.Synth def controls state) r = synth_reads (definition_of def.value).units controls r

abbrev pub held_writes : Held → Resource → Bool
held_writes held.Group r = false
held_writes (held.Synth def controls state) r = synth_writes (definition_of def.value).units controls r

abbrev pub held_mixes : Held → Resource → Bool
held_mixes held.Group r = false
held_mixes (held.Synth def controls state) r = synth_mixes (definition_of def.value).units controls r

-- ---- nodes

-- the walk reaches the node: it runs, and so does each group that it lies below
abbrev pub is_reached : {P : Type 0} → ℤ → Nodes P → Bool
is_reached id nodes = list_any (λ l. int_eq l.id id) (running_labels nodes)

-- what the walk finds at a node and below it, nothing if it doesn't reach the node
abbrev pub found_at : {P : Type 0} → ℤ → Nodes P → List P
found_at id nodes = if is_reached id nodes then map (λ l. l.payload) (running_labels (subtree id nodes)) else []

-- the resources that may be read, those that may be written, and those that are only mixed
pub record Footprint : Type 0 where
  pub reads : Resource → Bool
  pub writes : Resource → Bool
  pub mixes : Resource → Bool

-- that of all synths among these
abbrev pub footprint_of : List (Option BufferPlace) → List Held → Footprint
footprint_of buffers hs = record {
  reads = λ r. is_there buffers r && list_any (λ h. held_reads h r) hs;
  writes = λ r. is_there buffers r && list_any (λ h. held_writes h r) hs;
  mixes = λ r. is_there buffers r && list_any (λ h. held_mixes h r) hs;
}

-- that of a node
abbrev pub footprint_at : List (Option BufferPlace) → ℤ → Nodes Held → Footprint
footprint_at buffers id nodes = footprint_of buffers (found_at id nodes)

-- the first writes what the second reads, writes or mixes, or mixes what it reads or writes
abbrev pub meets_on : Footprint → Footprint → Resource → Bool
meets_on a b r = (a.writes r && ((b.reads r || b.writes r) || b.mixes r)) || (a.mixes r && (b.reads r || b.writes r))

-- so does one of the two with the other
abbrev pub clash_on : Footprint → Footprint → Resource → Bool
clash_on a b r = meets_on a b r || meets_on b a r

abbrev pub Clash : Footprint → Footprint → Type 0
Clash a b = (r : Resource) × (clash_on a b r ≡ true)

-- ---- the words of a footprint

-- what a function gives for the numbers below a count, in order
unfoldable pub listed : {A : Type 0} → (ℕ → List A) → ℕ → List A
listed f zero = []
listed f (suc n) = listed f n ++ f n

abbrev pub where_used : Bool → Option Extent → List Extent
where_used used None = []
where_used used (Some e) = if used then e ∷ [] else []

-- the places of the resources that a test admits: audio buses, control buses, and buffers, each by their numbers
abbrev pub used_places : List (Option BufferPlace) → (Resource → Bool) → List Extent
used_places buffers used =
    listed (λ n. where_used (used (Audio n)) (place_of buffers (Audio n))) audio_bus_count
    ++ (listed (λ n. where_used (used (Control n)) (place_of buffers (Control n))) control_bus_count
    ++ listed (λ n. where_used (used (Buffer n)) (place_of buffers (Buffer n))) buffer_count)

-- where the synths among these have their states
abbrev pub states_of : List Held → List Extent
states_of [] = []
states_of (h ∷ hs) = held_extents h ++ states_of hs

-- The words of all synths among these: those of their resources, and among the writes those of their states.
abbrev pub foot_of : List (Option BufferPlace) → List Held → Reach
foot_of buffers hs =
    let f = footprint_of buffers hs in
    record {
      reads = canonical (used_places buffers f.reads);
      writes = canonical (used_places buffers f.writes ++ states_of hs);
      mixes = canonical (used_places buffers f.mixes);
    }

abbrev pub foot_at : List (Option BufferPlace) → ℤ → Nodes Held → Reach
foot_at buffers id nodes = foot_of buffers (found_at id nodes)

-- ---- what is said of single words

abbrev pub lies_in : ℕ → Option Extent → Bool
lies_in x None = false
lies_in x (Some e) = covers e x

-- the word is one of a resource that a test admits
abbrev pub IsOfUsed : List (Option BufferPlace) → (Resource → Bool) → ℕ → Type 0
IsOfUsed buffers used x = (r : Resource) × ((used r ≡ true) × (lies_in x (place_of buffers r) ≡ true))

-- A reach has just the words of its resources and, among the writes, those of the states.
pub record AreItsWords (buffers : List (Option BufferPlace)) (hs : List Held) (reach : Reach) : Type 0 where
  pub reads : (x : ℕ) → (has reach.reads x ≡ true) ↔ IsOfUsed buffers (footprint_of buffers hs).reads x
  pub writes : (x : ℕ) → (has reach.writes x ≡ true) ↔ (IsOfUsed buffers (footprint_of buffers hs).writes x ⊎ (has (states_of hs) x ≡ true))
  pub mixes : (x : ℕ) → (has reach.mixes x ≡ true) ↔ IsOfUsed buffers (footprint_of buffers hs).mixes x
