-- Each row of the table fits, and what follows of it.
use Rattle.std.proofs.Common.{◌≡◌, ◌≤◌, ◌⊎◌, inl, inr, ℕ, ℤ, Bool, true, false, not, ◌||◌, List, [], ◌∷◌, ◌+◌, length, slice_get, Option, Some, None, refl, ap, ◌∙◌, subst, arith}
use Rattle.std.specs.List.{position_from}
use Rattle.std.proofs.lemmas.Bool.{and_parts, leb-true}
use Rattle.std.proofs.lemmas.Iterator.Adapters.{position_from-zero}
use Rattle.sn_def.specs.declared.kind.Kind.{Kind}
use Rattle.sn_def.specs.declared.kind.Kind.TheVariants as kinds
use Rattle.sn_def.specs.declared.table.Mark.{Mark}
use Rattle.sn_def.specs.declared.table.Mark.TheVariants.{Signal, Index, Constant, Longest}
use Rattle.sn_def.specs.declared.table.StateSize.{StateSize}
use Rattle.sn_def.specs.declared.table.StateSize.TheVariants.{Fixed, Delay, Comb, DampedComb}
use Rattle.sn_def.specs.declared.table.Family.{Family}
use Rattle.sn_def.specs.declared.table.Family.TheVariants as families
use Rattle.sn_def.specs.declared.table.Access.{Access}
use Rattle.sn_def.specs.declared.table.Bank.{Bank}
use Rattle.sn_def.specs.declared.table.Bank.TheVariants as banks
use Rattle.sn_def.specs.declared.table.Use.{Use}
use Rattle.sn_def.specs.declared.table.Ends.{Ends}
use Rattle.sn_def.specs.declared.table.Ends.TheVariants as ends
use Rattle.sn_def.specs.declared.unit.Input.{Input}
use Rattle.sn_def.specs.declared.unit.Unit.{Unit as UnitLine}
use Rattle.sn_def.specs.Units.{row_of}
use Rattle.sn_def.specs.Reading.{mark_at}
use Rattle.sn_def.specs.StateWords.{is_longest, literal_value, input_there, longest, words_of, unit_words}
use Rattle.sn_def.specs.Facts.{is_family, is_of, is_bank, uses_so, touches, sends, action_of, done_action}
use Rattle.sn_def.specs.Fitting.{index_fits, bank_fits, use_fits, delay_fits, words_fit, least_words, does_end, RowFits}

-- one computation over all kinds
pub row_fits : (k : Kind) → RowFits (row_of k)
unfolding row_of
row_fits kinds.SinOsc = record { inputs = refl; index = refl; uses = refl; words = refl; few = refl; action = refl; done = refl; sent = refl }
row_fits _ = record { inputs = refl; index = refl; uses = refl; words = refl; few = refl; action = refl; done = refl; sent = refl }

-- ---- inputs

pub inputs_few : (k : Kind) → length (row_of k).inputs + (row_of k).signals ≤ 12
inputs_few k = leb-true _ 12 (row_fits k).inputs

buffer_first : (f : Family) (marks : List Mark) → is_family families.Buffer f ≡ true → index_fits f marks ≡ true → (more : List Mark) × (marks ≡ Index ∷ more)
buffer_first families.Buffer (Index ∷ marks) is h = (marks, refl)
buffer_first _ _ is h = absurd cc

-- the first input of a unit on a buffer is the index
pub first_index : (k : Kind) → is_of families.Buffer k ≡ true → (marks : List Mark) × ((row_of k).inputs ≡ Index ∷ marks)
first_index k is = buffer_first (row_of k).family (row_of k).inputs is (row_fits k).index

-- ---- what units use

bank_is : (b c : Bank) → is_bank b c ≡ true → c ≡ b
bank_is banks.Audio banks.Audio h = refl
bank_is banks.Control banks.Control h = refl
bank_is banks.Buffer banks.Buffer h = refl
bank_is _ _ h = absurd cc

on_bank : (a : Access) (b : Bank) (o : Option Use) (f : Family) → uses_so a b o ≡ true → use_fits o f ≡ true → bank_fits b f ≡ true
on_bank a b None f h fits = absurd cc
on_bank a b (Some u) f h fits = subst (λ (c : Bank). bank_fits c f ≡ true) (bank_is b u.bank (and_parts _ _ h).1) fits

bus_alone : (b : Bank) (f : Family) (marks : List Mark) → is_bank banks.Buffer b ≡ false → bank_fits b f ≡ true → index_fits f marks ≡ true → marks ≡ Index ∷ []
bus_alone banks.Buffer f marks bus h fits = absurd cc
bus_alone _ families.Bus (Index ∷ []) bus h fits = refl
bus_alone _ _ _ bus h fits = absurd cc

-- the one input that a unit on buses always has is the index
pub bus_index : (a : Access) (b : Bank) (k : Kind) → is_bank banks.Buffer b ≡ false → touches a b k ≡ true → (row_of k).inputs ≡ Index ∷ []
bus_index a b k bus h = bus_alone b (row_of k).family (row_of k).inputs bus (on_bank a b (row_of k).uses (row_of k).family h (row_fits k).uses) (row_fits k).index

buffer_alone : (f : Family) → bank_fits banks.Buffer f ≡ true → is_family families.Buffer f ≡ true
buffer_alone families.Buffer h = refl
buffer_alone _ h = absurd cc

-- what reads or writes a buffer is a unit on buffers
pub on_a_buffer : (a : Access) (k : Kind) → touches a banks.Buffer k ≡ true → is_of families.Buffer k ≡ true
on_a_buffer a k h = buffer_alone (row_of k).family (on_bank a banks.Buffer (row_of k).uses (row_of k).family h (row_fits k).uses)

-- ---- words

-- the second input is the longest delay
pub record HasDelay (marks : List Mark) (xs : List Input) : Type 0 where
  pub second : mark_at marks 1 ≡ Longest
  pub long : 2 ≤ length marks
  pub most : longest marks xs ≡ literal_value (slice_get xs 1)

at_second : (marks : List Mark) (xs : List Input) → position_from is_longest 0 marks ≡ Some 1 → longest marks xs ≡ literal_value (slice_get xs 1)
at_second marks xs is = ap (λ (o : Option ℕ). literal_value (input_there xs o)) (position_from-zero is_longest marks ∙ is)

delay_second : (f : Family) (marks : List Mark) (xs : List Input) → delay_fits f marks ≡ true → HasDelay marks xs
delay_second families.Filter (Signal ∷ Longest ∷ marks) xs h = record { second = refl; long = omega arith; most = at_second (Signal ∷ Longest ∷ marks) xs refl }
delay_second families.Filter (Index ∷ Longest ∷ marks) xs h = record { second = refl; long = omega arith; most = at_second (Index ∷ Longest ∷ marks) xs refl }
delay_second families.Filter (Constant ∷ Longest ∷ marks) xs h = record { second = refl; long = omega arith; most = at_second (Constant ∷ Longest ∷ marks) xs refl }
delay_second families.Filter (Longest ∷ Longest ∷ marks) xs h = absurd cc
delay_second _ _ xs h = absurd cc

fixed_or_delay : (w : StateSize) (f : Family) (marks : List Mark) (xs : List Input) → words_fit w f marks ≡ true → ((n : ℕ) × (w ≡ Fixed n)) ⊎ HasDelay marks xs
fixed_or_delay (Fixed n) f marks xs h = inl (n, refl)
fixed_or_delay Delay f marks xs h = inr (delay_second f marks xs h)
fixed_or_delay Comb f marks xs h = inr (delay_second f marks xs h)
fixed_or_delay DampedComb f marks xs h = inr (delay_second f marks xs h)

-- a unit has a fixed number of words, or a delay
pub words_or_delay : (k : Kind) (xs : List Input) → ((n : ℕ) × ((row_of k).words ≡ Fixed n)) ⊎ HasDelay (row_of k).inputs xs
words_or_delay k xs = fixed_or_delay (row_of k).words (row_of k).family (row_of k).inputs xs (row_fits k).words

no_delay : (f : Family) (marks : List Mark) → is_family families.Filter f ≡ false → delay_fits f marks ≡ true → ⊥
no_delay families.Filter marks other h = cc
no_delay _ marks other h = cc

fixed : (w : StateSize) (f : Family) (marks : List Mark) (frames len : ℕ) → is_family families.Filter f ≡ false → words_fit w f marks ≡ true → words_of w frames ≡ len → w ≡ Fixed len
fixed (Fixed n) f marks frames len other h e = ap Fixed e
fixed Delay f marks frames len other h e = absurd (no_delay f marks other h)
fixed Comb f marks frames len other h e = absurd (no_delay f marks other h)
fixed DampedComb f marks frames len other h e = absurd (no_delay f marks other h)

-- a unit that is no filter has a fixed number of words
pub fixed_words : (k : Kind) (frames len : ℕ) → is_of families.Filter k ≡ false → words_of (row_of k).words frames ≡ len → (row_of k).words ≡ Fixed len
fixed_words k frames len other e = fixed (row_of k).words (row_of k).family (row_of k).inputs frames len other (row_fits k).words e

pub few_fixed : (k : Kind) → words_of (row_of k).words 0 ≤ 19
few_fixed k = leb-true _ 19 (row_fits k).few

least : (w : StateSize) (frames n : ℕ) → n ≤ words_of w 0 → n ≤ words_of w frames
least (Fixed m) frames n h = h
least Delay frames n h = omega arith
least Comb frames n h = omega arith
least DampedComb frames n h = omega arith

implied : (b c : Bool) → (not b || c) ≡ true → b ≡ true → c ≡ true
implied true c h is = h
implied false c h is = absurd cc

-- the words that are read of a unit that sends are its own
pub sender_words : (rate : ℕ) (u : UnitLine) → sends u.kind ≡ true → 3 ≤ unit_words rate u
unfolding unit_words
sender_words rate u is = least (row_of u.kind).words _ 3 (leb-true 3 (least_words (row_of u.kind)) (implied (row_of u.kind).sends _ (row_fits u.kind).sent is))

acts : (e : Ends) (inputs : List Input) (action : ℤ) → action_of e inputs ≡ Some action → does_end e ≡ true
acts ends.Never inputs action h = absurd cc
acts _ inputs action h = refl

-- and so is that of a unit that ends
pub ender_words : (rate : ℕ) (u : UnitLine) (action : ℤ) → done_action u.kind u.inputs ≡ Some action → 1 ≤ unit_words rate u
unfolding unit_words
ender_words rate u action is =
    let does = acts (row_of u.kind).ends u.inputs action is in
    least (row_of u.kind).words _ 1 (leb-true 1 (least_words (row_of u.kind)) (implied (does_end (row_of u.kind).ends) _ (row_fits u.kind).done does))
