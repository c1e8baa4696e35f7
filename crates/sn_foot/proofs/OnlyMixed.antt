-- A synth that moves buses that it only mixes: it sees and changes the other words of its foot, and onto each of these
-- buses it puts one signal.
use Rattle.std.proofs.Common.{◌≡◌, ◌≢◌, ◌≤◌, ◌<◌, ◌⊎◌, inl, inr, ⊎_elim, not, ℕ, zero, suc, ◌+◌, ◌*◌, ◌-◌, ◌==◌, nat_lt, Bool, true, false, ◌&&◌, ◌||◌, cond, if◌then◌else◌, List, [], ◌∷◌, ◌++◌, length, get_or, ℤ, pos, negsuc, ◌+ℤ◌, Option, Some, None, sym, refl, ap, subst, ◌∙◌, arith, All, true≢false}
use Rattle.std.specs.List.{list_any}
use Rattle.std.specs.Prelude.{nat_le}
use Rattle.std.proofs.lemmas.Bool.{and_from, and_parts, cases_Bool, eqb-true, false_from_ne_true, eq-eqb, cases_eq, ne_eqb, le-leb, leb-true, lt-ltb, ltb-true, or_cases, or_from, or_left, or_right}
use Rattle.std.proofs.lemmas.List.{length-map}
use Rattle.std.proofs.lemmas.List.Elements.{All-cons, All-head, All-nil, All-tail}
use Rattle.sn_mem.specs.declared.extents.Extent.{Extent}
use Rattle.sn_mem.specs.declared.extents.Foot.{Foot}
use Rattle.sn_mem.specs.declared.moves.Moved.{Moved}
use Rattle.sn_mem.specs.declared.buffers.BufferPlace.{BufferPlace}
use Rattle.sn_mem.specs.Blocks.{block, sample}
use Rattle.sn_mem.specs.Buffers.{MayBePlace}
use Rattle.sn_mem.specs.Buses.{ControlBus, audio_number, control_buses}
use Rattle.sn_mem.specs.Lanes.{buses_in, words_where}
use Rattle.sn_mem.specs.Layout.{audio_place}
use Rattle.sn_mem.specs.Words.{MayRead, MayWrite, covers, has, touches, writes}
use Rattle.sn_mem.proofs.Feet.{may_touch, part_at}
use Rattle.sn_mem.specs.Through.{is_where, where_is}
use Rattle.sn_def.specs.declared.control.Control.{Control as SynthControl}
use Rattle.sn_def.specs.declared.kind.Kind.{Kind}
use Rattle.sn_def.specs.declared.kind.Kind.TheVariants as kinds
use Rattle.sn_def.specs.declared.table.Access.TheVariants as accesses
use Rattle.sn_def.specs.declared.table.Bank.TheVariants as banks
use Rattle.sn_def.specs.declared.unit.Unit.{Unit as UnitLine}
use Rattle.sn_def.specs.Definition.{Definition}
use Rattle.sn_def.specs.Units.{row_of}
use Rattle.sn_def.specs.StateWords.{state_words, unit_words, units_words}
use Rattle.sn_def.specs.WellFormed.{UnitsFit}
use Rattle.sn_def.proofs.RowLaws.{bus_index}
use Rattle.sn_io.specs.BusUnits.{reads_audio, writes_audio}
use Rattle.sn_foot.specs.Mixers.{mixes_audio}
use Rattle.sn_io.specs.BufferUnits.{numbered}
use Rattle.sn_io.specs.ByFoot.{Agree, IsByFoot}
use Rattle.sn_io.specs.Channels.{audio_channel, control_number}
use Rattle.sn_io.specs.Conditions.{MayReadAudio, MayReadBuffer, MayReadControl, MayWriteAudio, MayWriteBuffer, MayWriteControl}
use Rattle.sn_io.specs.OverWords.{onto_block}
use Rattle.sn_io.specs.Queues.{IsAmong, Puts}
use Rattle.sn_io.proofs.Agreeing.{AreSeen}
use Rattle.sn_io.proofs.Alike.{AreUnseen}
use Rattle.sn_synth.specs.Conditions.{AreControlsOf, MayFollow, MayOutput, MayPlay, MayRun, index_of}
use Rattle.sn_synth.specs.Synths.{control_values, input_blocks}
use Rattle.sn_synth.specs.Words.{after_units, begun, synth_words}
use Rattle.sn_synth.proofs.Alike.{IsAlike, IsMixer, signal_is, units_alike}
use Rattle.sn_synth.proofs.ByFoot.{standing, synth_by_foot, values_same}
use Rattle.sn_synth.proofs.Indices.{index_is, reaches}
use Rattle.sn_foot.specs.declared.resource.Resource.{Resource}
use Rattle.sn_foot.specs.declared.resource.Resource.TheVariants.{Audio, Control, Buffer}
use Rattle.sn_foot.specs.Footprints.{is_among, is_number, synth_mixes, unit_mixes, unit_reads, unit_writes, users}
use Rattle.sn_foot.proofs.Finding.{all_parts}
use Rattle.sn_foot.proofs.Sufficing.{among, by_audio, by_control, by_place}

-- ---- the unit that mixes a bus

abbrev uses : List SynthControl → UnitLine → Resource → Bool
uses controls u r = unit_reads controls u r || unit_writes controls u r

abbrev NoneUses : List SynthControl → List UnitLine → Resource → Type 0
NoneUses controls [] r = Unit {0}
NoneUses controls (u ∷ us) r = (uses controls u r ≡ false) × NoneUses controls us r

abbrev one_if : Bool → ℕ
one_if b = if b then 1 else 0

none_use : (controls : List SynthControl) (us : List UnitLine) (r : Resource) → users controls us r ≡ 0 → NoneUses controls us r
none_use controls [] r e = tt
none_use controls (u ∷ us) r e = ⊎_elim
    (λ (h : uses controls u r ≡ true). absurd (omega (arith, e, ap one_if h)))
    (λ (h : uses controls u r ≡ false). (h, none_use controls us r (omega (arith, e, ap one_if h))))
    (cases_Bool (uses controls u r))

none_at : (controls : List SynthControl) (us : List UnitLine) (r : Resource) (k : ℕ) (e : UnitLine) → NoneUses controls us r → k < length us → uses controls (get_or us k e) r ≡ false
none_at controls [] r k e h lt = absurd (omega arith)
none_at controls (u ∷ us) r zero e h lt = h.0
none_at controls (u ∷ us) r (suc k) e h lt = none_at controls us r k e h.1 (omega arith)

mixes_use : (controls : List SynthControl) (u : UnitLine) (r : Resource) → unit_mixes controls u r ≡ true → uses controls u r ≡ true
mixes_use controls u (Audio n) h = or_right (unit_reads controls u (Audio n)) (unit_writes controls u (Audio n)) (and_parts (mixes_audio u.kind) (unit_writes controls u (Audio n)) h).1
mixes_use controls u (Control n) h = absurd (true≢false (sym h))
mixes_use controls u (Buffer n) h = absurd (true≢false (sym h))

none_mixes : (controls : List SynthControl) (us : List UnitLine) (r : Resource) → NoneUses controls us r → list_any (λ u. unit_mixes controls u r) us ≡ true → ⊥
none_mixes controls [] r h a = true≢false (sym a)
none_mixes controls (u ∷ us) r h a = ⊎_elim
    (λ (m : unit_mixes controls u r ≡ true). true≢false (sym (mixes_use controls u r m) ∙ h.0))
    (λ (m : list_any (λ u. unit_mixes controls u r) us ≡ true). none_mixes controls us r h.1 m)
    (or_cases (unit_mixes controls u r) (list_any (λ u. unit_mixes controls u r) us) a)

-- the units before the only one that uses a bus, and those after it
pub record Cut (controls : List SynthControl) (units : List UnitLine) (r : Resource) : Type 0 where
  pub first : List UnitLine
  pub unit : UnitLine
  pub last : List UnitLine
  pub are : units ≡ first ++ unit ∷ last
  pub mixes : unit_mixes controls unit r ≡ true
  pub before : NoneUses controls first r
  pub behind : NoneUses controls last r

cut : (controls : List SynthControl) (us : List UnitLine) (r : Resource) → users controls us r ≡ 1 → list_any (λ u. unit_mixes controls u r) us ≡ true → Cut controls us r
cut controls [] r e h = absurd (true≢false (sym h))
cut controls (u ∷ us) r e h =
    let either = or_cases (unit_mixes controls u r) (list_any (λ u. unit_mixes controls u r) us) h in
    ⊎_elim
    (λ (s : uses controls u r ≡ true).
    let rest : NoneUses controls us r = none_use controls us r (omega (arith, e, ap one_if s)) in
    record {
      first = [];
      unit = u;
      last = us;
      are = refl;
      mixes = ⊎_elim (λ (m : unit_mixes controls u r ≡ true). m) (λ (m : list_any (λ u. unit_mixes controls u r) us ≡ true). absurd (none_mixes controls us r rest m)) either;
      before = tt;
      behind = rest;
    })
    (λ (s : uses controls u r ≡ false).
    let some : list_any (λ u. unit_mixes controls u r) us ≡ true =
    ⊎_elim (λ (m : unit_mixes controls u r ≡ true). absurd (true≢false (sym (mixes_use controls u r m) ∙ s))) (λ (m : list_any (λ u. unit_mixes controls u r) us ≡ true). m) either in
    let c : Cut controls us r = cut controls us r (omega (arith, e, ap one_if s)) some in
    record {
      first = u ∷ c.first;
      unit = c.unit;
      last = c.last;
      are = ap (λ (vs : List UnitLine). u ∷ vs) c.are;
      mixes = c.mixes;
      before = (s, c.before);
      behind = c.behind;
    })
    (cases_Bool (uses controls u r))

-- a unit that uses it mixes it
user_mixes : (controls : List SynthControl) (us : List UnitLine) (r : Resource) (k : ℕ) (e : UnitLine) → users controls us r ≡ 1 → list_any (λ u. unit_mixes controls u r) us ≡ true → k < length us → uses controls (get_or us k e) r ≡ true → unit_mixes controls (get_or us k e) r ≡ true
user_mixes controls [] r k e one h lt on = absurd (omega arith)
user_mixes controls (u ∷ us) r zero e one h lt on =
    let rest : NoneUses controls us r = none_use controls us r (omega (arith, one, ap one_if on)) in
    ⊎_elim (λ (m : unit_mixes controls u r ≡ true). m) (λ (m : list_any (λ u. unit_mixes controls u r) us ≡ true). absurd (none_mixes controls us r rest m)) (or_cases (unit_mixes controls u r) (list_any (λ u. unit_mixes controls u r) us) h)
user_mixes controls (u ∷ us) r (suc k) e one h lt on = ⊎_elim
    (λ (s : uses controls u r ≡ true). absurd (true≢false (sym on ∙ none_at controls us r k e (none_use controls us r (omega (arith, one, ap one_if s))) (omega (arith, lt)))))
    (λ (s : uses controls u r ≡ false).
    user_mixes controls us r k e (omega (arith, one, ap one_if s))
    (⊎_elim (λ (m : unit_mixes controls u r ≡ true). absurd (true≢false (sym (mixes_use controls u r m) ∙ s))) (λ (m : list_any (λ u. unit_mixes controls u r) us ≡ true). m) (or_cases (unit_mixes controls u r) (list_any (λ u. unit_mixes controls u r) us) h))
    (omega (arith, lt)) on)
    (cases_Bool (uses controls u r))

out_ar : (k : Kind) → mixes_audio k ≡ true → k ≡ kinds.Outar
out_ar kinds.Outar h = refl
out_ar _ h = absurd cc

out_writes : writes_audio kinds.Outar ≡ true
unfolding row_of
out_writes = refl

-- ---- numbers

is_number_of : (z : ℤ) (n : ℕ) → is_number z n ≡ true → z ≡ pos n
is_number_of (pos m) n h = ap pos (eqb-true m n h)
is_number_of (negsuc m) n h = absurd (true≢false (sym h))

among_at : (first : ℤ) (count n : ℕ) → is_among first count n ≡ true → (i : ℕ) × ((i < count) × (first +ℤ pos i ≡ pos n))
unfolding is_among
among_at first zero n h = absurd (true≢false (sym h))
among_at first (suc k) n h = ⊎_elim
    (λ (a : is_among first k n ≡ true). let q = among_at first k n a in (q.0, (omega (arith, q.1.0), q.1.1)))
    (λ (a : is_number (first +ℤ pos k) n ≡ true). (k, (omega arith, is_number_of (first +ℤ pos k) n a)))
    (or_cases (is_among first k n) (is_number (first +ℤ pos k) n) h)

audio_is : (z : ℤ) (n : ℕ) → n < 128 → z ≡ pos n → audio_number z ≡ Some n
audio_is z n lt e = let P : ℤ → Type 0 = λ (z : ℤ). audio_number z ≡ Some n in subst P (sym e) (ap (λ b. cond b (Some n) None) (lt-ltb n 128 lt))

picked_low : (c : Bool) (m n : ℕ) → (c ≡ true → m < 128) → cond c (Some m) None ≡ Some n → n < 128
picked_low true m n h e = let same : m ≡ n = cc in omega (arith, same, h refl)
picked_low false m n h e = absurd cc

audio_low : (z : ℤ) (n : ℕ) → audio_number z ≡ Some n → n < 128
audio_low (pos m) n e = picked_low (nat_lt m 128) m n (λ h. ltb-true m 128 h) e
audio_low (negsuc m) n e = absurd cc

-- ---- a foot without some words

module _ (size : ℕ) (big : 4294967296 ≤ size) (whole : Foot) (off : ℕ → Bool) where
  abbrev pub without : Foot
  without = record { reads = words_where (λ x. has whole.reads x && not (off x)) size; writes = words_where (λ x. has whole.writes x && not (off x)) size }

  pub still_writes : (x : ℕ) → x < size → writes whole x ≡ true → off x ≡ false → writes without x ≡ true
  still_writes x lt h o = is_where (λ x. has whole.writes x && not (off x)) size x lt (and_from (has whole.writes x) (not (off x)) h (ap not o))

  pub still_touches : (x : ℕ) → x < size → touches whole x ≡ true → off x ≡ false → touches without x ≡ true
  still_touches x lt h o = ⊎_elim
      (λ (w : has whole.writes x ≡ true). or_left (has without.writes x) (has without.reads x) (still_writes x lt w o))
      (λ (r : has whole.reads x ≡ true). or_right (has without.writes x) (has without.reads x) (is_where (λ x. has whole.reads x && not (off x)) size x lt (and_from (has whole.reads x) (not (off x)) r (ap not o))))
      (or_cases (has whole.writes x) (has whole.reads x) h)

  gone : (b : Bool) → not b ≡ true → b ≡ true → ⊥
  gone b h e = true≢false (sym h ∙ ap not e)

  pub no_write : (x : ℕ) → off x ≡ true → writes without x ≡ false
  no_write x o = false_from_ne_true (writes without x) (λ h. gone (off x) (and_parts (has whole.writes x) (not (off x)) (where_is (λ x. has whole.writes x && not (off x)) size x h).1).1 o)

  pub no_touch : (x : ℕ) → off x ≡ true → touches without x ≡ false
  no_touch x o = or_from (has without.writes x) (has without.reads x) (no_write x o)
      (false_from_ne_true (has without.reads x) (λ h. gone (off x) (and_parts (has whole.reads x) (not (off x)) (where_is (λ x. has whole.reads x && not (off x)) size x h).1).1 o))

  pub was_touched : (x : ℕ) → touches without x ≡ true → touches whole x ≡ true
  was_touched x h = ⊎_elim
      (λ (w : has without.writes x ≡ true). or_left (has whole.writes x) (has whole.reads x) (and_parts (has whole.writes x) (not (off x)) (where_is (λ x. has whole.writes x && not (off x)) size x w).1).0)
      (λ (r : has without.reads x ≡ true). or_right (has whole.writes x) (has whole.reads x) (and_parts (has whole.reads x) (not (off x)) (where_is (λ x. has whole.reads x && not (off x)) size x r).1).0)
      (or_cases (has without.writes x) (has without.reads x) h)

  -- runs of words none of which is taken away
  may_write : (at n : ℕ) → ((i : ℕ) → i < n → off (at + i) ≡ false) → MayWrite whole at n → MayWrite without at n
  may_write at n o m = record { below = m.below; each = λ i lt. still_writes (at + i) (omega (arith, lt, big, m.below)) (m.each i lt) (o i lt) }

  may_read : (at n : ℕ) → ((i : ℕ) → i < n → off (at + i) ≡ false) → MayRead whole at n → MayRead without at n
  may_read at n o m = record { below = m.below; each = λ i lt. still_touches (at + i) (omega (arith, lt, big, m.below)) (m.each i lt) (o i lt) }

  module _ (moved : ℕ → Bool) (is_off : (n x : ℕ) → n < 128 → 65 * n ≤ x → x < 65 * n + 65 → off x ≡ moved n) (past : (x : ℕ) → 8320 ≤ x → off x ≡ false) where
    audio_on : (n : ℕ) → n < 128 → moved n ≡ false → (i : ℕ) → i < 65 → off (65 * n + i) ≡ false
    audio_on n low m i lt = is_off n (65 * n + i) low (omega arith) (omega (arith, lt)) ∙ m

    -- a unit that uses no bus that is moved may play
    pub plays : (places : List (Option BufferPlace)) (controls : List SynthControl) (u : UnitLine) → ((o : Option ℕ) (p : BufferPlace) → numbered o places ≡ Some p → 8320 ≤ p.extent.at) → ((n : ℕ) → n < 128 → uses controls u (Audio n) ≡ true → moved n ≡ false)
        → MayPlay whole places controls u → MayPlay without places controls u
    plays places controls u behind apart may =
        let z : ℤ = index_of controls u in
        let place : Option BufferPlace = numbered (control_number z) places in record {
          hears = λ on i low. by_audio (λ (o : Option ℕ). MayReadAudio whole o → MayReadAudio without o) (z +ℤ pos i) (λ t. tt)
              (λ n at l. may_read (65 * n) 65 (audio_on n l (apart n l (or_left (unit_reads controls u (Audio n)) (unit_writes controls u (Audio n)) (and_from (reads_audio u.kind) (is_among z u.outputs n) on (among z u.outputs i n low at))))))
              (may.hears on i low);
          reads = λ on i low. by_control (λ (o : Option ℕ). MayReadControl whole o → MayReadControl without o) (z +ℤ pos i) (λ t. tt)
              (λ n at l. may_read (8320 + 2 * n) 2 (λ j lt. past (8320 + 2 * n + j) (omega arith)))
              (may.reads on i low);
          writes = λ on i low. by_audio (λ (o : Option ℕ). MayWriteAudio whole o → MayWriteAudio without o) (z +ℤ pos i) (λ t. tt)
              (λ n at l. may_write (65 * n) 65 (audio_on n l (apart n l (or_right (unit_reads controls u (Audio n)) (unit_writes controls u (Audio n)) (and_from (writes_audio u.kind) (is_among z (length u.inputs - 1) n) on (among z (length u.inputs - 1) i n (omega (arith, low)) at))))))
              (may.writes on i low);
          sets = λ on i low. by_control (λ (o : Option ℕ). MayWriteControl whole o → MayWriteControl without o) (z +ℤ pos i) (λ t. tt)
              (λ n at l. may_write (8320 + 2 * n) 2 (λ j lt. past (8320 + 2 * n + j) (omega arith)))
              (may.sets on i low);
          plays = λ on. by_place (λ (q : Option BufferPlace). MayReadBuffer whole q → MayReadBuffer without q) place (λ t. tt)
              (λ p is. may_read p.extent.at p.extent.len (λ j lt. past (p.extent.at + j) (omega (arith, behind (control_number z) p is))))
              (may.plays on);
          records = λ on. by_place (λ (q : Option BufferPlace). MayWriteBuffer whole q → MayWriteBuffer without q) place (λ t. tt)
              (λ p is. may_write p.extent.at p.extent.len (λ j lt. past (p.extent.at + j) (omega (arith, behind (control_number z) p is))))
              (may.records on);
        }

    pub follows : (controls : List SynthControl) → MayFollow whole controls → MayFollow without controls
    follows [] may = All-nil (λ (c : SynthControl). MayReadControl without c.bus)
    follows (c ∷ cs) may =
        All-cons (λ (c : SynthControl). MayReadControl without c.bus) c cs (one c.bus (All-head (λ (c : SynthControl). MayReadControl whole c.bus) c cs may)) (follows cs (All-tail (λ (c : SynthControl). MayReadControl whole c.bus) c cs may))
      where
        one : (o : Option ℕ) → MayReadControl whole o → MayReadControl without o
        one None m = tt
        one (Some n) m = may_read (8320 + 2 * n) 2 (λ j lt. past (8320 + 2 * n + j) (omega arith)) m

    -- a bus that may be written is seen whole, or not at all
    pub whole_bus : (n : ℕ) → n < 128 → MayWriteAudio whole (Some n) → AreSeen (touches without) (65 * n) 65 ⊎ AreUnseen (touches without) (65 * n) 65
    whole_bus n low may = ⊎_elim
        (λ (m : moved n ≡ true). inr (λ j from to. no_touch j (is_off n j low from to ∙ m)))
        (λ (m : moved n ≡ false). inl (λ j from to. may_touch without without (65 * n) 65 j (may_write (65 * n) 65 (audio_on n low m) may) refl from to))
        (cases_Bool (moved n))

-- ---- units

units_words-append : (rate : ℕ) (us vs : List UnitLine) → units_words rate (us ++ vs) ≡ units_words rate us + units_words rate vs
units_words-append rate [] vs = omega arith
units_words-append rate (u ∷ us) vs = omega (arith, units_words-append rate us vs)

-- ---- a synth

-- What a synth asks of a foot, all that it may touch.
pub record IsOfSynth (rate : ℕ) (size : ℕ) (whole : Foot) (places : List (Option BufferPlace)) (d : Definition) (controls : List SynthControl) (state : Extent) : Type 0 where
  pub are : AreControlsOf d controls
  pub fit : UnitsFit (length d.controls) 0 d.units
  pub each : All MayBePlace places
  pub long : state.len ≡ state_words rate d
  pub may : MayRun whole places controls d state
  pub big : 4294967296 ≤ size
  pub inside : (x : ℕ) → touches whole x ≡ true → x < size
  pub behind : 8320 ≤ state.at
  pub buffers : (o : Option ℕ) (p : BufferPlace) → numbered o places ≡ Some p → 8320 ≤ p.extent.at

module _ (rate b : ℕ) (node : ℤ) (size : ℕ) (whole : Foot) (places : List (Option BufferPlace)) (d : Definition) (controls : List SynthControl) (state : Extent) (is : IsOfSynth rate size whole places d controls state) where
  abbrev change : List ℕ → List ℕ
  change ws = synth_words rate b node d controls places state.at ws

  abbrev values_of : List ℕ → List ℤ
  values_of ws = control_values (control_buses ws) controls

  all_by_foot : IsByFoot whole change
  all_by_foot = synth_by_foot rate b node whole places d controls state is.are is.fit is.each is.long is.may

  -- the units of a foot that lacks some buses, each used at most by a unit that mixes it
  module _ (off moved : ℕ → Bool) (is_off : (n x : ℕ) → n < 128 → 65 * n ≤ x → x < 65 * n + 65 → off x ≡ moved n) (past : (x : ℕ) → 8320 ≤ x → off x ≡ false) where
    abbrev part : Foot
    part = without size is.big whole off

    state_kept : MayWrite part state.at state.len
    state_kept = may_write size is.big whole off state.at state.len (λ i lt. past (state.at + i) (omega (arith, is.behind))) is.may.keeps

    -- one that uses no such bus
    apart_outputs : (buses : List ControlBus) (k : ℕ) (e : UnitLine) → k < length d.units → ((n : ℕ) → n < 128 → uses controls (get_or d.units k e) (Audio n) ≡ true → moved n ≡ false) → MayOutput part places (control_values buses controls) (get_or d.units k e)
    apart_outputs buses k e lt none =
        λ wires. reaches part places d controls buses wires k e is.are is.fit lt is.each (plays size is.big whole off moved is_off past places controls (get_or d.units k e) is.buffers none (is.may.plays k e lt))

    -- one that adds signals
    mixer : (buses : List ControlBus) (k : ℕ) (e : UnitLine) → k < length d.units → mixes_audio (get_or d.units k e).kind ≡ true → IsMixer part (control_values buses controls) (get_or d.units k e)
    mixer buses k e lt on =
        let u : UnitLine = get_or d.units k e in
        let kind : u.kind ≡ kinds.Outar = out_ar u.kind on in
        let writes_it : writes_audio u.kind ≡ true = ap (λ (k : Kind). writes_audio k) kind ∙ out_writes in
        record {
          kind = kind;
          whole = λ wires i low n at.
              let ins : List (List ℤ) = input_blocks (control_values buses controls) wires u.inputs in
              let may = (reaches whole places d controls buses wires k e is.are is.fit lt is.each (is.may.plays k e lt)).buses.writes writes_it i (omega (arith, low)) in
              whole_bus size is.big whole off moved is_off past n (audio_low (sample ins 0 0 +ℤ pos i) n at) (subst (λ (o : Option ℕ). MayWriteAudio whole o) at may);
        }

    all_alike : (buses : List ControlBus) → ((n : ℕ) → n < 128 → moved n ≡ true → synth_mixes d.units controls (Audio n) ≡ true) → All (IsAlike part places (control_values buses controls)) d.units
    all_alike buses only = λ k e lt. ⊎_elim
        (λ (m : mixes_audio (get_or d.units k e).kind ≡ true). inr (mixer buses k e lt m))
        (λ (m : mixes_audio (get_or d.units k e).kind ≡ false). inl (apart_outputs buses k e lt
        (λ n low on. false_from_ne_true (moved n) (λ t.
        let p = and_parts (list_any (λ u. unit_mixes controls u (Audio n)) d.units) (users controls d.units (Audio n) == 1) (only n low t) in
        let mixes_it = user_mixes controls d.units (Audio n) k e (eqb-true (users controls d.units (Audio n)) 1 p.1) p.0 lt on in
        true≢false (sym (and_parts (mixes_audio (get_or d.units k e).kind) (unit_writes controls (get_or d.units k e) (Audio n)) mixes_it).0 ∙ m)))))
        (cases_Bool (mixes_audio (get_or d.units k e).kind))

  -- ---- one bus alone

  module _ (n : ℕ) (low : n < 128) (mixed : synth_mixes d.units controls (Audio n) ≡ true) where
    abbrev off_one : ℕ → Bool
    off_one x = nat_le (65 * n) x && nat_lt x (65 * n + 65)

    abbrev is_it : ℕ → Bool
    is_it k = k == n

    one_off : (k x : ℕ) → k < 128 → 65 * k ≤ x → x < 65 * k + 65 → off_one x ≡ is_it k
    one_off k x lt from to = ⊎_elim
        (λ (e : k ≡ n). and_from (nat_le (65 * n) x) (nat_lt x (65 * n + 65)) (le-leb (65 * n) x (omega (arith, e, from))) (lt-ltb x (65 * n + 65) (omega (arith, e, to))) ∙ sym (eq-eqb k n e))
        (λ (ne : k ≢ n).
        false_from_ne_true (off_one x) (λ t.
        let p = and_parts (nat_le (65 * n) x) (nat_lt x (65 * n + 65)) t in
        ne (omega (arith, from, to, leb-true (65 * n) x p.0, ltb-true x (65 * n + 65) p.1)))
        ∙ sym (ne_eqb k n ne))
        (cases_eq k n)

    one_past : (x : ℕ) → 8320 ≤ x → off_one x ≡ false
    one_past x far = false_from_ne_true (off_one x) (λ t.
        let p = and_parts (nat_le (65 * n) x) (nat_lt x (65 * n + 65)) t in omega (arith, far, low, ltb-true x (65 * n + 65) p.1))

    abbrev others : Foot
    others = without size is.big whole off_one

    pub the_cut : Cut controls d.units (Audio n)
    the_cut =
        let p = and_parts (list_any (λ u. unit_mixes controls u (Audio n)) d.units) (users controls d.units (Audio n) == 1) mixed in
        cut controls d.units (Audio n) (eqb-true (users controls d.units (Audio n)) 1 p.1) p.0

    -- what holds of each unit, before, at and after it
    module _ (buses : List ControlBus) where
      abbrev Given : UnitLine → Type 0
      Given u = (uses controls u (Audio n) ≡ false → MayOutput others places (control_values buses controls) u) × (mixes_audio u.kind ≡ true → (wires : List (List ℤ)) → sample (input_blocks (control_values buses controls) wires u.inputs) 0 0 ≡ index_of controls u)

      all_given : All Given d.units
      all_given = λ k e lt. (
        (λ none. apart_outputs off_one is_it one_off one_past buses k e lt (λ m l on. false_from_ne_true (m == n) (λ t. true≢false (sym on ∙ ap (λ j. uses controls (get_or d.units k e) (Audio j)) (eqb-true m n t) ∙ none)))),
        (λ on wires.
            let kind : (get_or d.units k e).kind ≡ kinds.Outar = out_ar (get_or d.units k e).kind on in
            index_is d controls buses wires [] k e is.are is.fit lt (bus_index accesses.Write banks.Audio (get_or d.units k e).kind refl (ap (λ (j : Kind). writes_audio j) kind ∙ out_writes))),
      )

      parts : All Given (the_cut.first ++ the_cut.unit ∷ the_cut.last)
      parts = subst (λ (us : List UnitLine). All Given us) the_cut.are all_given

      before_outputs : All (MayOutput others places (control_values buses controls)) the_cut.first
      before_outputs = λ k e lt. ((all_parts Given the_cut.first (the_cut.unit ∷ the_cut.last) parts).0 k e lt).0 (none_at controls the_cut.first (Audio n) k e the_cut.before lt)

      behind_outputs : All (MayOutput others places (control_values buses controls)) the_cut.last
      behind_outputs = λ k e lt. (All-tail Given the_cut.unit the_cut.last (all_parts Given the_cut.first (the_cut.unit ∷ the_cut.last) parts).1 k e lt).0 (none_at controls the_cut.last (Audio n) k e the_cut.behind lt)

      mixes_it : (mixes_audio the_cut.unit.kind ≡ true) × (is_among (index_of controls the_cut.unit) (length the_cut.unit.inputs - 1) n ≡ true)
      mixes_it =
          let p = and_parts (mixes_audio the_cut.unit.kind) (unit_writes controls the_cut.unit (Audio n)) the_cut.mixes in
          (p.0, (and_parts (writes_audio the_cut.unit.kind) (is_among (index_of controls the_cut.unit) (length the_cut.unit.inputs - 1) n) p.1).1)

      index_at : (wires : List (List ℤ)) → sample (input_blocks (control_values buses controls) wires the_cut.unit.inputs) 0 0 ≡ index_of controls the_cut.unit
      index_at wires = (All-head Given the_cut.unit the_cut.last (all_parts Given the_cut.first (the_cut.unit ∷ the_cut.last) parts).1).1 mixes_it.0 wires

    -- the channel
    pub channel : (i : ℕ) × ((i < length the_cut.unit.inputs - 1) × (index_of controls the_cut.unit +ℤ pos i ≡ pos n))
    channel = among_at (index_of controls the_cut.unit) (length the_cut.unit.inputs - 1) n (mixes_it []).1

    abbrev ins_of : List ℕ → List (List ℤ)
    ins_of ws = input_blocks (values_of ws) (after_units rate b node places (values_of ws) the_cut.first (begun ws state.at)).wires the_cut.unit.inputs

    words_are : units_words rate the_cut.first + (unit_words rate the_cut.unit + units_words rate the_cut.last) ≡ state.len
    words_are = sym (is.long ∙ ap (units_words rate) the_cut.are ∙ units_words-append rate the_cut.first (the_cut.unit ∷ the_cut.last))

    pub signal_put : (ws : List ℕ) (x : ℕ) → 65 * n ≤ x → x < 65 * n + 65 → get_or (change ws) x 0 ≡ get_or (onto_block true b ws (65 * n) (block (ins_of ws) (suc channel.0))) x 0
    signal_put ws x from to =
        let buses : List ControlBus = control_buses ws in
        let values : List ℤ = values_of ws in
        let kind : the_cut.unit.kind ≡ kinds.Outar = out_ar the_cut.unit.kind (mixes_it buses).0 in
        let keeps : MayWrite others state.at state.len = state_kept off_one is_it one_off one_past in
        let first : ℕ = units_words rate the_cut.first in
        let own : ℕ = unit_words rate the_cut.unit in
        let more : ℕ = units_words rate the_cut.last in
        let long : length (ins_of ws) ≡ length the_cut.unit.inputs = length-map the_cut.unit.inputs _ in
        let there : audio_channel (ins_of ws) channel.0 ≡ Some n =
        audio_is (sample (ins_of ws) 0 0 +ℤ pos channel.0) n low (ap (λ (z : ℤ). z +ℤ pos channel.0) (index_at buses (after_units rate b node places values the_cut.first (begun ws state.at)).wires) ∙ channel.1.1) in
        ap (λ (us : List UnitLine). get_or (after_units rate b node places values us (begun ws state.at)).words x 0) the_cut.are
        ∙ signal_is rate b node places values others n (λ y f t. no_write size is.big whole off_one y (one_off n y low f t ∙ eq-eqb n n refl)) the_cut.first the_cut.last the_cut.unit channel.0 (begun ws state.at) kind (before_outputs buses) (behind_outputs buses)
        (part_at others others state.at state.len state.at first keeps refl (omega arith) (omega (arith, words_are)))
        (part_at others others state.at state.len (state.at + first + own) more keeps refl (omega arith) (omega (arith, words_are)))
        (omega (arith, long, channel.1.0)) there x from to

  -- ---- some buses together

  module _ (ms : List Moved) (are_buses : (m : Moved) → IsAmong ms m → (n : ℕ) × ((n < 128) × ((m.bus ≡ audio_place n) × (synth_mixes d.units controls (Audio n) ≡ true)))) where
    abbrev off : ℕ → Bool
    off x = has (buses_in ms) x

    abbrev moved : ℕ → Bool
    moved n = has (buses_in ms) (65 * n)

    -- the move of a word of one of the buses
    bus_of : (ks : List Moved) (x : ℕ) → has (buses_in ks) x ≡ true → (m : Moved) × (IsAmong ks m × (covers m.bus x ≡ true))
    bus_of [] x h = absurd (true≢false (sym h))
    bus_of (k ∷ ks) x h = ⊎_elim
        (λ (c : covers k.bus x ≡ true). (k, (inl refl, c)))
        (λ (c : has (buses_in ks) x ≡ true). let q = bus_of ks x c in (q.0, (inr q.1.0, q.1.1)))
        (or_cases (covers k.bus x) (has (buses_in ks) x) h)

    has_bus : (ks : List Moved) (m : Moved) (x : ℕ) → IsAmong ks m → covers m.bus x ≡ true → has (buses_in ks) x ≡ true
    has_bus [] m x a c = absurd a
    has_bus (k ∷ ks) m x a c = ⊎_elim
        (λ (e : k ≡ m). or_left (covers k.bus x) (has (buses_in ks) x) (ap (λ (l : Moved). covers l.bus x) e ∙ c))
        (λ (i : IsAmong ks m). or_right (covers k.bus x) (has (buses_in ks) x) (has_bus ks m x i c))
        a

    in_place : (n x : ℕ) → covers (audio_place n) x ≡ true → (65 * n ≤ x) × (x < 65 * n + 65)
    in_place n x c = let p = and_parts (nat_le (65 * n) x) (nat_lt x (65 * n + 65)) c in (leb-true (65 * n) x p.0, ltb-true x (65 * n + 65) p.1)

    to_place : (n x : ℕ) → 65 * n ≤ x → x < 65 * n + 65 → covers (audio_place n) x ≡ true
    to_place n x from to = and_from (nat_le (65 * n) x) (nat_lt x (65 * n + 65)) (le-leb (65 * n) x from) (lt-ltb x (65 * n + 65) to)

    -- two words of one bus
    other_word : (n x y : ℕ) → 65 * n ≤ x → x < 65 * n + 65 → 65 * n ≤ y → y < 65 * n + 65 → off x ≡ true → off y ≡ true
    other_word n x y from to low high h =
        let q = bus_of ms x h in
        let k = are_buses q.0 q.1.0 in
        let c = in_place k.0 x (subst (λ (e : Extent). covers e x ≡ true) k.1.1.0 q.1.1) in
        let same : n ≡ k.0 = omega (arith, c.0, c.1, from, to) in
        has_bus ms q.0 y q.1.0 (subst (λ (e : Extent). covers e y ≡ true) (sym k.1.1.0) (to_place k.0 y (omega (arith, same, low)) (omega (arith, same, high))))

    all_off : (n x : ℕ) → n < 128 → 65 * n ≤ x → x < 65 * n + 65 → off x ≡ moved n
    all_off n x lt from to = ⊎_elim
        (λ (h : off x ≡ true). h ∙ sym (other_word n x (65 * n) from to (omega arith) (omega arith) h))
        (λ (h : off x ≡ false). h ∙ sym (false_from_ne_true (moved n) (λ t. true≢false (sym (other_word n (65 * n) x (omega arith) (omega arith) from to t) ∙ h))))
        (cases_Bool (off x))

    all_past : (x : ℕ) → 8320 ≤ x → off x ≡ false
    all_past x far = false_from_ne_true (off x) (λ h.
        let q = bus_of ms x h in
        let k = are_buses q.0 q.1.0 in
        let c = in_place k.0 x (subst (λ (e : Extent). covers e x ≡ true) k.1.1.0 q.1.1) in
        omega (arith, far, c.1, k.1.0))

    only_mixed : (n : ℕ) → n < 128 → moved n ≡ true → synth_mixes d.units controls (Audio n) ≡ true
    only_mixed n lt h =
        let q = bus_of ms (65 * n) h in
        let k = are_buses q.0 q.1.0 in
        let c = in_place k.0 (65 * n) (subst (λ (e : Extent). covers e (65 * n) ≡ true) k.1.1.0 q.1.1) in
        let same : k.0 ≡ n = omega (arith, c.0, c.1) in
        subst (λ j. synth_mixes d.units controls (Audio j) ≡ true) same k.1.1.1

    abbrev pub left : Foot
    left = without size is.big whole off

    keeps_it : MayWrite left state.at state.len
    keeps_it = state_kept off moved all_off all_past

    alike_at : (ws : List ℕ) → All (IsAlike left places (values_of ws)) d.units
    alike_at ws = all_alike off moved all_off all_past (control_buses ws) only_mixed

    values_are : (us ws : List ℕ) → Agree (touches left) us ws → values_of us ≡ values_of ws
    values_are us ws a = values_same left us ws controls (follows size is.big whole off moved all_off all_past controls is.may.follows) is.are.followed a

    agrees : (us ws : List ℕ) → Agree (touches left) us ws → Agree (touches left) (change us) (change ws)
    unfolding standing
    agrees us ws a =
        let Q : List ℤ → Type 0 = λ (values : List ℤ). Agree (touches left) (change us) (after_units rate b node places values d.units (begun ws state.at)).words in
        subst Q (values_are us ws a) (units_alike rate b node places (values_of us) left d.units [] state.at 0 us ws (subst (λ k. MayWrite left state.at k) is.long keeps_it) (alike_at us) a).0

    -- the signal is the same if the words agree
    same_signal : (n : ℕ) (low : n < 128) (mixed : synth_mixes d.units controls (Audio n) ≡ true) (us ws : List ℕ) → Agree (touches left) us ws → ins_of n low mixed us ≡ ins_of n low mixed ws
    unfolding standing
    same_signal n low mixed us ws a =
        let c : Cut controls d.units (Audio n) = the_cut n low mixed in
        let own : All (IsAlike left places (values_of us)) (c.first ++ c.unit ∷ c.last) = subst (λ (vs : List UnitLine). All (IsAlike left places (values_of us)) vs) c.are (alike_at us) in
        let room : MayWrite left state.at (units_words rate c.first) = part_at left left state.at state.len state.at (units_words rate c.first) keeps_it refl (omega arith) (omega (arith, words_are n low mixed)) in
        let wires = (units_alike rate b node places (values_of us) left c.first [] state.at 0 us ws room (all_parts (IsAlike left places (values_of us)) c.first (c.unit ∷ c.last) own).0 a).1 in
        ap (λ (w : List (List ℤ)). input_blocks (values_of us) w c.unit.inputs) wires
        ∙ ap (λ (values : List ℤ). input_blocks values (after_units rate b node places values c.first (begun ws state.at)).wires c.unit.inputs) (values_are us ws a)

    pub synth_puts : Puts b left ms change
    synth_puts = record {
      long = all_by_foot.long;
      keeps = λ ws x none apart. all_by_foot.keeps ws x (false_from_ne_true (writes whole x) (λ h. true≢false (sym (still_writes size is.big whole off x (is.inside x (or_left (has whole.writes x) (has whole.reads x) h)) h apart) ∙ none)));
      agree = agrees;
      puts = λ m a us.
          let k = are_buses m a in
          let n : ℕ = k.0 in
          let c = channel n k.1.0 k.1.1.1 in (
            block (ins_of n k.1.0 k.1.1.1 us) (suc c.0),
            (λ ws g x on.
                let p = in_place n x (subst (λ (e : Extent). covers e x ≡ true) k.1.1.0 on) in
                let at : 65 * n ≡ m.bus.at = ap (λ (e : Extent). e.at) (sym k.1.1.0) in
                signal_put n k.1.0 k.1.1.1 ws x p.0 p.1
                ∙ ap (λ (ins : List (List ℤ)). get_or (onto_block true b ws (65 * n) (block ins (suc c.0))) x 0) (sym (same_signal n k.1.0 k.1.1.1 us ws g))
                ∙ ap (λ j. get_or (onto_block true b ws j (block (ins_of n k.1.0 k.1.1.1 us) (suc c.0))) x 0) at),
          );
    }
