-- A foot that has the words of synths has all that their running asks for.
use Rattle.std.proofs.Common.{◌≡◌, ◌≢◌, ◌<◌, ◌⊎◌, inl, inr, ⊎_elim, not, ℕ, zero, suc, ◌+◌, ◌-◌, nat_lt, Bool, true, false, cond, List, [], ◌∷◌, ◌++◌, length, get_or, ℤ, pos, negsuc, ◌+ℤ◌, Option, Some, None, sym, refl, ap, subst, ◌∙◌, arith, All}
use Rattle.std.specs.List.{list_any}
use Rattle.std.specs.Prelude.{is_some}
use Rattle.std.proofs.lemmas.Bool.{cases_Bool, cases_eq, eq-eqb, and_from, or_left, or_right, ltb-true, lt-ltb, cond-true}
use Rattle.std.proofs.lemmas.Int.{ints}
use Rattle.sn_mem.specs.declared.extents.Extent.{Extent}
use Rattle.sn_mem.specs.declared.extents.Foot.{Foot}
use Rattle.sn_foot.specs.declared.reach.Reach.{Reach}
use Rattle.sn_mem.specs.declared.buffers.BufferPlace.{BufferPlace}
use Rattle.sn_mem.specs.Layout.{audio_place, control_place}
use Rattle.sn_mem.specs.Words.{covers, has, MayWrite, MayRead}
use Rattle.sn_foot.specs.Reaches.{unmoved}
use Rattle.sn_mem.specs.Buses.{audio_number}
use Rattle.sn_mem.proofs.Meetings.{covered}
use Rattle.sn_def.specs.declared.control.Control.{Control as SynthControl}
use Rattle.sn_def.specs.declared.unit.Unit.{Unit as UnitLine}
use Rattle.sn_def.specs.Defs.{definition_of}
use Rattle.sn_def.specs.Definition.{Definition}
use Rattle.sn_io.specs.Channels.{control_number}
use Rattle.sn_io.specs.BusUnits.{reads_audio, reads_control, writes_audio, writes_control}
use Rattle.sn_io.specs.BufferUnits.{reads_buffer, writes_buffer, numbered}
use Rattle.sn_io.specs.Conditions.{MayReadAudio, MayReadControl, MayWriteAudio, MayWriteControl, MayReadBuffer, MayWriteBuffer}
use Rattle.sn_synth.specs.Conditions.{IsFollowed, index_of, MayPlay}
use Rattle.sn_world.specs.Buffers.{MayBeBuffer, AreEach}
use Rattle.sn_world.specs.Pictures.{held_extents, IsHeld}
use Rattle.sn_world.specs.declared.stage.Held.{Held}
use Rattle.sn_world.specs.declared.stage.Held.TheVariants as held
use Rattle.sn_foot.specs.declared.resource.Resource.{Resource}
use Rattle.sn_foot.specs.declared.resource.Resource.TheVariants.{Audio, Control, Buffer}
use Rattle.sn_foot.specs.Footprints.{buffer_words, is_there, place_of, is_number, is_among, unit_reads, unit_writes, is_bus, follows, synth_mixes, synth_reads, synth_writes, held_mixes, held_reads, held_writes, states_of, lies_in, AreItsWords}
use Rattle.sn_foot.specs.Suffices.{Suffices, AreOfWorld}
use Rattle.sn_foot.proofs.Runs.{has_append}

pub any_at : {A : Type 0} (p : A → Bool) (xs : List A) (k : ℕ) (d : A) → k < length xs → p (get_or xs k d) ≡ true → list_any p xs ≡ true
any_at p [] k d lt h = absurd (omega arith)
any_at p (x ∷ xs) zero d lt h = or_left (p x) (list_any p xs) h
any_at p (x ∷ xs) (suc k) d lt h = or_right (p x) (list_any p xs) (any_at p xs k d (omega arith) h)

-- ---- numbers

number_is : (z : ℤ) (n : ℕ) → z ≡ pos n → is_number z n ≡ true
number_is z n e = let P : ℤ → Type 0 = λ (z : ℤ). is_number z n ≡ true in subst P (sym e) (eq-eqb n n refl)

pub among : (first : ℤ) (count i n : ℕ) → i < count → first +ℤ pos i ≡ pos n → is_among first count n ≡ true
unfolding is_among
among first zero i n lt e = absurd (omega arith)
among first (suc k) i n lt e = ⊎_elim
    (λ (s : i ≡ k). let P : ℕ → Type 0 = λ j. is_number (first +ℤ pos j) n ≡ true in or_right (is_among first k n) (is_number (first +ℤ pos k) n) (subst P s (number_is (first +ℤ pos i) n e)))
    (λ (d : i ≢ k). or_left (is_among first k n) (is_number (first +ℤ pos k) n) (among first k i n (omega (arith, d)) e))
    (cases_eq i k)

alone : (first : ℤ) (n : ℕ) → first ≡ pos n → is_among first 1 n ≡ true
alone first n e = let none : first +ℤ pos 0 ≡ first = omega (arith, ints) in among first 1 0 n (omega arith) (none ∙ e)

picked : (P : Option ℕ → Type 0) (m : ℕ) (t : Bool) → P None → (t ≡ true → P (Some m)) → P (cond t (Some m) None)
picked P m true none some = some refl
picked P m false none some = none

-- what holds of no bus, and of each that is, holds of that of a number
pub by_audio : (P : Option ℕ → Type 0) (z : ℤ) → P None → ((n : ℕ) → z ≡ pos n → n < 128 → P (Some n)) → P (audio_number z)
by_audio P (pos m) none some = picked P m (nat_lt m 128) none (λ e. some m refl (ltb-true m 128 e))
by_audio P (negsuc m) none some = none

pub by_control : (P : Option ℕ → Type 0) (z : ℤ) → P None → ((n : ℕ) → z ≡ pos n → n < 1024 → P (Some n)) → P (control_number z)
by_control P (pos m) none some = picked P m (nat_lt m 1024) none (λ e. some m refl (ltb-true m 1024 e))
by_control P (negsuc m) none some = none

pub by_place : (P : Option BufferPlace → Type 0) (q : Option BufferPlace) → P None → ((p : BufferPlace) → q ≡ Some p → P (Some p)) → P q
by_place P None none some = none
by_place P (Some p) none some = some p refl

-- ---- the words of resources

-- what may be written may be written, or is mixed
written : (reach : Reach) (x : ℕ) → has reach.writes x ≡ true → has (reach.writes ++ reach.mixes) x ≡ true
written reach x h = has_append reach.writes reach.mixes x ∙ or_left (has reach.writes x) (has reach.mixes x) h

mixed : (reach : Reach) (x : ℕ) → has reach.mixes x ≡ true → has (reach.writes ++ reach.mixes) x ≡ true
mixed reach x h = has_append reach.writes reach.mixes x ∙ or_right (has reach.writes x) (has reach.mixes x) h

reads_place : (buffers : List (Option BufferPlace)) (hs : List Held) (reach : Reach) (r : Resource) (e : Extent) → AreItsWords buffers hs reach → is_there buffers r ≡ true → list_any (λ h. held_reads h r) hs ≡ true → place_of buffers r ≡ Some e → e.at + e.len < 4294967296 → MayRead (unmoved reach) e.at e.len
reads_place buffers hs reach r e is there some place below = record {
  below = below;
  each = λ i lt.
      let x : ℕ = e.at + i in
      let lies : lies_in x (place_of buffers r) ≡ true = ap (λ (p : Option Extent). lies_in x p) place ∙ covered e x (omega arith) (omega (arith, lt)) in
      or_right (has (reach.writes ++ reach.mixes) x) (has reach.reads x) ((is.reads x).1 (r, (and_from (is_there buffers r) (list_any (λ h. held_reads h r) hs) there some, lies)));
}

-- some of them writes the resource, or mixes it
abbrev IsPut : List Held → Resource → Type 0
IsPut hs r = (list_any (λ h. held_writes h r) hs ≡ true) ⊎ (list_any (λ h. held_mixes h r) hs ≡ true)

writes_place : (buffers : List (Option BufferPlace)) (hs : List Held) (reach : Reach) (r : Resource) (e : Extent) → AreItsWords buffers hs reach → is_there buffers r ≡ true → IsPut hs r → place_of buffers r ≡ Some e → e.at + e.len < 4294967296 → MayWrite (unmoved reach) e.at e.len
writes_place buffers hs reach r e is there some place below = record {
  below = below;
  each = λ i lt.
      let x : ℕ = e.at + i in
      let lies : lies_in x (place_of buffers r) ≡ true = ap (λ (p : Option Extent). lies_in x p) place ∙ covered e x (omega arith) (omega (arith, lt)) in
      ⊎_elim
      (λ (w : list_any (λ h. held_writes h r) hs ≡ true). written reach x ((is.writes x).1 (inl (r, (and_from (is_there buffers r) (list_any (λ h. held_writes h r) hs) there w, lies)))))
      (λ (m : list_any (λ h. held_mixes h r) hs ≡ true). mixed reach x ((is.mixes x).1 (r, (and_from (is_there buffers r) (list_any (λ h. held_mixes h r) hs) there m, lies))))
      some;
}

pub audio_at : (buffers : List (Option BufferPlace)) (n : ℕ) → n < 128 → place_of buffers (Audio n) ≡ Some (audio_place n)
audio_at buffers n low = cond-true (nat_lt n 128) (Some (audio_place n)) None (lt-ltb n 128 low)

control_at : (buffers : List (Option BufferPlace)) (n : ℕ) → n < 1024 → place_of buffers (Control n) ≡ Some (control_place n)
control_at buffers n low = cond-true (nat_lt n 1024) (Some (control_place n)) None (lt-ltb n 1024 low)

buffer_at : (buffers : List (Option BufferPlace)) (n : ℕ) (p : BufferPlace) → n < 1024 → get_or buffers n None ≡ Some p → place_of buffers (Buffer n) ≡ Some p.extent
buffer_at buffers n p low e = cond-true (nat_lt n 1024) (buffer_words (get_or buffers n None)) None (lt-ltb n 1024 low) ∙ ap buffer_words e

buffer_there : (buffers : List (Option BufferPlace)) (n : ℕ) (p : BufferPlace) → n < 1024 → get_or buffers n None ≡ Some p → is_there buffers (Buffer n) ≡ true
buffer_there buffers n p low e = and_from (nat_lt n 1024) (is_some (get_or buffers n None)) (lt-ltb n 1024 low) (ap (λ (o : Option BufferPlace). is_some o) e)

-- ---- the units of a synth whose resources are among those of some

module _ (buffers : List (Option BufferPlace)) (hs : List Held) (reach : Reach) (units : List UnitLine) (controls : List SynthControl) (is : AreItsWords buffers hs reach) (reading : (r : Resource) → synth_reads units controls r ≡ true → list_any (λ h. held_reads h r) hs ≡ true) (writing : (r : Resource) → synth_writes units controls r ≡ true → list_any (λ h. held_writes h r) hs ≡ true) (mixing : (r : Resource) → synth_mixes units controls r ≡ true → list_any (λ h. held_mixes h r) hs ≡ true) (below : (n : ℕ) (p : BufferPlace) → get_or buffers n None ≡ Some p → p.extent.at + p.extent.len < 4294967296) where
  unit_reading : (k : ℕ) (e : UnitLine) (r : Resource) → k < length units → unit_reads controls (get_or units k e) r ≡ true → list_any (λ h. held_reads h r) hs ≡ true
  unit_reading k e r lt h = reading r (or_right (list_any (λ c. follows c r) controls) (list_any (λ u. unit_reads controls u r) units) (any_at (λ u. unit_reads controls u r) units k e lt h))

  abbrev foot : Foot
  foot = unmoved reach

  unit_writing : (k : ℕ) (e : UnitLine) (r : Resource) → k < length units → unit_writes controls (get_or units k e) r ≡ true → IsPut hs r
  unit_writing k e r lt h =
      ⊎_elim
      (λ (m : synth_mixes units controls r ≡ true). inr (mixing r m))
      (λ (m : synth_mixes units controls r ≡ false). inl (writing r (and_from (list_any (λ u. unit_writes controls u r) units) (not (synth_mixes units controls r)) (any_at (λ u. unit_writes controls u r) units k e lt h) (ap not m))))
      (cases_Bool (synth_mixes units controls r))

  audio_reads : (n : ℕ) → n < 128 → list_any (λ h. held_reads h (Audio n)) hs ≡ true → MayReadAudio foot (Some n)
  audio_reads n low some = reads_place buffers hs reach (Audio n) (audio_place n) is (lt-ltb n 128 low) some (audio_at buffers n low) (omega arith)

  audio_writes : (n : ℕ) → n < 128 → IsPut hs (Audio n) → MayWriteAudio foot (Some n)
  audio_writes n low some = writes_place buffers hs reach (Audio n) (audio_place n) is (lt-ltb n 128 low) some (audio_at buffers n low) (omega arith)

  control_reads : (n : ℕ) → n < 1024 → list_any (λ h. held_reads h (Control n)) hs ≡ true → MayReadControl foot (Some n)
  control_reads n low some = reads_place buffers hs reach (Control n) (control_place n) is (lt-ltb n 1024 low) some (control_at buffers n low) (omega arith)

  control_writes : (n : ℕ) → n < 1024 → IsPut hs (Control n) → MayWriteControl foot (Some n)
  control_writes n low some = writes_place buffers hs reach (Control n) (control_place n) is (lt-ltb n 1024 low) some (control_at buffers n low) (omega arith)

  unit_plays : (k : ℕ) (e : UnitLine) → k < length units → MayPlay foot buffers controls (get_or units k e)
  unit_plays k e lt =
      let u : UnitLine = get_or units k e in
      let z : ℤ = index_of controls u in record {
        hears = λ on i low. by_audio (MayReadAudio foot) (z +ℤ pos i) tt (λ n at l. audio_reads n l (unit_reading k e (Audio n) lt (and_from (reads_audio u.kind) (is_among z u.outputs n) on (among z u.outputs i n low at))));
        reads = λ on i low. by_control (MayReadControl foot) (z +ℤ pos i) tt (λ n at l. control_reads n l (unit_reading k e (Control n) lt (and_from (reads_control u.kind) (is_among z u.outputs n) on (among z u.outputs i n low at))));
        writes = λ on i low. by_audio (MayWriteAudio foot) (z +ℤ pos i) tt (λ n at l. audio_writes n l (unit_writing k e (Audio n) lt (and_from (writes_audio u.kind) (is_among z (length u.inputs - 1) n) on (among z (length u.inputs - 1) i n (omega (arith, low)) at))));
        sets = λ on i low. by_control (MayWriteControl foot) (z +ℤ pos i) tt (λ n at l. control_writes n l (unit_writing k e (Control n) lt (and_from (writes_control u.kind) (is_among z (length u.inputs - 1) n) on (among z (length u.inputs - 1) i n (omega (arith, low)) at))));
        plays = λ on. by_control (λ (o : Option ℕ). MayReadBuffer foot (numbered o buffers)) z tt (λ n at l. by_place (MayReadBuffer foot) (get_or buffers n None) tt (λ p place.
            reads_place buffers hs reach (Buffer n) p.extent is (buffer_there buffers n p l place) (unit_reading k e (Buffer n) lt (and_from (reads_buffer u.kind) (is_among z 1 n) on (alone z n at))) (buffer_at buffers n p l place) (below n p place)));
        records = λ on. by_control (λ (o : Option ℕ). MayWriteBuffer foot (numbered o buffers)) z tt (λ n at l. by_place (MayWriteBuffer foot) (get_or buffers n None) tt (λ p place.
            writes_place buffers hs reach (Buffer n) p.extent is (buffer_there buffers n p l place) (unit_writing k e (Buffer n) lt (and_from (writes_buffer u.kind) (is_among z 1 n) on (alone z n at))) (buffer_at buffers n p l place) (below n p place)));
      }

  bus_follows : (o : Option ℕ) → IsFollowed o → ((n : ℕ) → is_bus o n ≡ true → list_any (λ h. held_reads h (Control n)) hs ≡ true) → MayReadControl foot o
  bus_follows None low some = tt
  bus_follows (Some n) low some = control_reads n low (some n (eq-eqb n n refl))

  control_follows : (k : ℕ) (e : SynthControl) → k < length controls → IsFollowed (get_or controls k e).bus → MayReadControl foot (get_or controls k e).bus
  control_follows k e lt low = bus_follows (get_or controls k e).bus low (λ n on. reading (Control n) (or_left (list_any (λ c. follows c (Control n)) controls) (list_any (λ u. unit_reads controls u (Control n)) units) (any_at (λ c. follows c (Control n)) controls k e lt on)))

-- ---- all of them

held_suffices : (rate : ℕ) (region : Extent) (buffers : List (Option BufferPlace)) (hs : List Held) (reach : Reach) (h : Held) → region.at + region.len < 4294967296 → ((n : ℕ) (p : BufferPlace) → get_or buffers n None ≡ Some p → p.extent.at + p.extent.len < 4294967296) → AreItsWords buffers hs reach → IsHeld rate region h
    → ((r : Resource) → held_reads h r ≡ true → list_any (λ h. held_reads h r) hs ≡ true) → ((r : Resource) → held_writes h r ≡ true → list_any (λ h. held_writes h r) hs ≡ true) → ((r : Resource) → held_mixes h r ≡ true → list_any (λ h. held_mixes h r) hs ≡ true) → ((x : ℕ) → has (held_extents h) x ≡ true → has (states_of hs) x ≡ true)
    → Suffices (unmoved reach) buffers h
held_suffices rate region buffers hs reach held.Group bounded below is it reading writing mixing states = tt
held_suffices rate region buffers hs reach (held.Synth def controls state) bounded below is it reading writing mixing states =
    let d : Definition = definition_of def.value in
    let within = it.within in record {
      keeps = record {
        below = omega (arith, within.1, bounded);
        each = λ i lt. let x : ℕ = state.at + i in written reach x ((is.writes x).1 (inr (states x (or_left (covers state x) false (covered state x (omega arith) (omega (arith, lt)))))));
      };
      follows = λ k e lt. control_follows buffers hs reach d.units controls is reading writing mixing below k e lt (it.each.followed k e lt);
      plays = λ k e lt. unit_plays buffers hs reach d.units controls is reading writing mixing below k e lt;
    }

pub states_at : (hs : List Held) (k : ℕ) (d : Held) (x : ℕ) → k < length hs → has (held_extents (get_or hs k d)) x ≡ true → has (states_of hs) x ≡ true
states_at [] k d x lt h = absurd (omega arith)
states_at (g ∷ hs) zero d x lt h = has_append (held_extents g) (states_of hs) x ∙ or_left (has (held_extents g) x) (has (states_of hs) x) h
states_at (g ∷ hs) (suc k) d x lt h = has_append (held_extents g) (states_of hs) x ∙ or_right (has (held_extents g) x) (has (states_of hs) x) (states_at hs k d x (omega arith) h)

place_below : (region : Extent) (q : Option BufferPlace) (p : BufferPlace) → region.at + region.len < 4294967296 → MayBeBuffer region q → q ≡ Some p → p.extent.at + p.extent.len < 4294967296
place_below region None p bounded may e = absurd cc
place_below region (Some q) p bounded may e = let s : q ≡ p = cc in let within = may.within in subst (λ (p : BufferPlace). p.extent.at + p.extent.len < 4294967296) s (omega (arith, within.1, bounded))

buffers_below : (region : Extent) (buffers : List (Option BufferPlace)) (n : ℕ) (p : BufferPlace) → region.at + region.len < 4294967296 → AreEach region buffers → get_or buffers n None ≡ Some p → p.extent.at + p.extent.len < 4294967296
unfolding AreEach
buffers_below region [] n p bounded each e = absurd cc
buffers_below region (q ∷ qs) zero p bounded each e = place_below region q p bounded each.0 e
buffers_below region (q ∷ qs) (suc n) p bounded each e = buffers_below region qs n p bounded each.1 e

pub foot_suffices : (rate : ℕ) (region : Extent) (buffers : List (Option BufferPlace)) (hs : List Held) (reach : Reach) → AreOfWorld rate region buffers hs → AreItsWords buffers hs reach → All (Suffices (unmoved reach) buffers) hs
foot_suffices rate region buffers hs reach world is = λ k d lt.
    held_suffices rate region buffers hs reach (get_or hs k d) world.bounded (λ n p e. buffers_below region buffers n p world.bounded world.each e) is (world.held k d lt)
    (λ r on. any_at (λ h. held_reads h r) hs k d lt on)
    (λ r on. any_at (λ h. held_writes h r) hs k d lt on)
    (λ r on. any_at (λ h. held_mixes h r) hs k d lt on)
    (λ x on. states_at hs k d x lt on)
