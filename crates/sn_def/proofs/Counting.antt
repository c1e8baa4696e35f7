-- The words of state of a definition that is written are few.
use Rattle.std.proofs.Common.{◌≡◌, ℕ, ℤ, pos, negsuc, ◌+◌, ◌*◌, ◌≤◌, ◌≤ℤ◌, true, List, [], ◌∷◌, length, position, slice_get, Option, Some, None, IfSome, refl, sym, subst, arith, lit≤, mul-le-mul, zero-le, zero, suc}
use Rattle.std.proofs.lemmas.Option.{unwrap_or-slice_get}
use Rattle.std.proofs.lemmas.List.Quantifiers.{position-Some}
use Rattle.std.proofs.lemmas.Int.{ints}
use Rattle.sn_fixed.specs.Fixed.{frames_of}
use Rattle.sn_def.specs.declared.table.Mark.{Mark}
use Rattle.sn_def.specs.declared.table.Mark.TheVariants.{Signal, Index, Constant, Longest}
use Rattle.sn_def.specs.declared.table.StateSize.{StateSize}
use Rattle.sn_def.specs.declared.table.StateSize.TheVariants.{Fixed, Delay, Comb, DampedComb}
use Rattle.sn_def.specs.declared.unit.Input.{Input}
use Rattle.sn_def.specs.declared.unit.Input.TheVariants.{Literal, Control, Wire}
use Rattle.sn_def.specs.declared.unit.Unit.{Unit as UnitLine}
use Rattle.sn_def.specs.Units.{row_of}
use Rattle.sn_def.specs.Definition.{Definition}
use Rattle.sn_def.specs.Reading.{mark_at, IsWritten}
use Rattle.sn_def.specs.WellFormed.{IsAllowed, AreAllowed, UnitFits, UnitsFit}
use Rattle.sn_def.specs.StateWords.{is_longest, literal_value, input_there, longest, words_of, unit_words, units_words, state_words}
use Rattle.sn_def.proofs.Forming.{formed}
use Rattle.sn_def.proofs.RowLaws.{few_fixed}

-- frames of at most a minute
frames_few : (v : ℤ) (rate : ℕ) → v ≤ℤ pos 60000 → rate ≤ 96000 → frames_of v rate ≤ 5760000
unfolding frames_of
frames_few (pos ms) rate h r =
    let few : ms ≤ 60000 = omega (arith, ints) in
    let product : ms * rate ≤ 60000 * 96000 = mul-le-mul few r in
    omega arith
frames_few (negsuc n) rate h r = zero-le

few_words : (words : StateSize) (frames : ℕ) → frames ≤ 5760000 → words_of words 0 ≤ 19 → words_of words frames ≤ 5760003
few_words (Fixed n) frames h i = omega arith
few_words Delay frames h i = omega arith
few_words Comb frames h i = omega arith
few_words DampedComb frames h i = omega arith

-- the input that a delay takes
value_few : (c w : ℕ) (o : Option Input) → IfSome o (IsAllowed Longest c w) → literal_value o ≤ℤ pos 60000
value_few c w None h = omega (arith, ints)
value_few c w (Some (Literal v)) h = h.high
value_few c w (Some (Control k)) h = absurd h
value_few c w (Some (Wire k)) h = absurd h

allowed_there : (marks : List Mark) (c w i : ℕ) (xs : List Input) (k : ℕ) → AreAllowed marks c w i xs → IfSome (slice_get xs k) (IsAllowed (mark_at marks (i + k)) c w)
allowed_there marks c w i [] k h = tt
allowed_there marks c w i (x ∷ xs) zero h = subst (λ (n : ℕ). IsAllowed (mark_at marks n) c w x) (omega arith) h.0
allowed_there marks c w i (x ∷ xs) (suc k) h = subst (λ (n : ℕ). IfSome (slice_get xs k) (IsAllowed (mark_at marks n) c w)) (omega arith) (allowed_there marks c w (i + 1) xs k h.1)

a_longest : (m : Mark) → is_longest m ≡ true → m ≡ Longest
a_longest Longest h = refl
a_longest Signal h = cc
a_longest Index h = cc
a_longest Constant h = cc

place_marked : (marks : List Mark) (k : ℕ) → position is_longest marks ≡ Some k → mark_at marks k ≡ Longest
place_marked marks k h = a_longest (mark_at marks k) (subst (λ (m : Mark). is_longest m ≡ true) (sym (unwrap_or-slice_get marks k Signal)) (position-Some is_longest marks k Signal h).1)

longest_few : (marks : List Mark) (xs : List Input) (c w : ℕ) (o : Option ℕ) → position is_longest marks ≡ o → AreAllowed marks c w 0 xs → literal_value (input_there xs o) ≤ℤ pos 60000
longest_few marks xs c w (Some k) is h =
    let at : IfSome (slice_get xs k) (IsAllowed (mark_at marks k) c w) = subst (λ (n : ℕ). IfSome (slice_get xs k) (IsAllowed (mark_at marks n) c w)) (omega arith) (allowed_there marks c w 0 xs k h) in
    value_few c w (slice_get xs k) (subst (λ (m : Mark). IfSome (slice_get xs k) (IsAllowed m c w)) (place_marked marks k is) at)
longest_few marks xs c w None is h = omega (arith, ints)

unit_few : (rate c w : ℕ) (u : UnitLine) → rate ≤ 96000 → UnitFits c w u → unit_words rate u ≤ 5760003
unfolding unit_words
unit_few rate c w u r h =
    few_words (row_of u.kind).words (frames_of (longest (row_of u.kind).inputs u.inputs) rate)
    (frames_few (longest (row_of u.kind).inputs u.inputs) rate (longest_few (row_of u.kind).inputs u.inputs c w (position is_longest (row_of u.kind).inputs) refl h.inputs) r) (few_fixed u.kind)

units_few : (rate c w : ℕ) (us : List UnitLine) → rate ≤ 96000 → UnitsFit c w us → units_words rate us ≤ 5760003 * length us
units_few rate c w [] r h = lit≤ tt
units_few rate c w (u ∷ us) r h =
    let one = unit_few rate c w u r h.0 in
    let more = units_few rate c (w + u.outputs) us r h.1 in
    omega arith

-- at most 256 units of at most 5760003 words
pub few : (rate : ℕ) (d : Definition) → rate ≤ 96000 → ∥ IsWritten d ∥₁ → state_words rate d ≤ 1474560768
few rate d r w =
    let ok = formed d w in
    let all : units_words rate d.units ≤ 5760003 * length d.units = units_few rate (length d.controls) 0 d.units r ok.fit in
    let units : length d.units ≤ 256 = ok.units in
    omega arith

pub frames_fit : (v : ℤ) (rate : ℕ) → frames_of v rate ≤ 2147483647
unfolding frames_of
frames_fit (pos ms) rate = omega arith
frames_fit (negsuc n) rate = zero-le
