-- A sample put onto a control bus in the words is the sample put onto the bus.
use Rattle.std.proofs.Common.{◌≡◌, ◌≤◌, ◌<◌, ◌⊎◌, ℕ, zero, suc, ◌+◌, ◌*◌, nat_lt, Bool, true, false, cond, List, [], ℤ, pos, negsuc, ◌+ℤ◌, Option, Some, None, length, get_or, set, refl, ap, sym, subst, ◌∙◌, ⊎_elim, inl, inr, arith, length-set, get_or-set_same, get_or-set_other}
use Rattle.std.proofs.lemmas.Bool.{ltb-true}
use Rattle.sn_fixed.specs.Fixed.{sat}
use Rattle.sn_mem.specs.Blocks.{block, sample_in, word_for}
use Rattle.sn_mem.specs.Buses.{ControlBus, control_bus, control_buses, resting}
use Rattle.sn_mem.proofs.BusLaws.{sample_in-word_for, control_at, control_set}
use Rattle.sn_io.specs.Channels.{control_number, control_channel, channels}
use Rattle.sn_io.specs.BusOutputs.{control_mixed, change_control}
use Rattle.sn_io.specs.OverWords.{held_at, onto_value, onto_control, onto_control_channel}
use Rattle.sn_io.proofs.Samples.{sat_fits}
use Rattle.sn_io.proofs.Mixing.{apart_from}

same_bus : (w w' : ℕ) (x x' : ℤ) → w ≡ w' → x ≡ x' → ◌≡◌ {A = ControlBus} (record { written = w; value = x }) (record { written = w'; value = x' })
same_bus w w' x x' p q = cc

value_is : (b : ℕ) (ws : List ℕ) (n : ℕ) (xs : List ℤ) → 8320 + 2 * n + 2 ≤ length ws → control_bus (onto_value b ws (8320 + 2 * n) (get_or xs 0 (pos 0))) n ≡ control_mixed b (control_bus ws n) xs
value_is b ws n xs inside =
    let at : ℕ = 8320 + 2 * n in
    let z : ℤ = held_at b ws at +ℤ get_or xs 0 (pos 0) in
    let vs : List ℕ = set ws (at + 1) (word_for (sat z)) in
    let us : List ℕ = set vs at (b + 1) in
    let long : length vs ≡ length ws = length-set ws (at + 1) (word_for (sat z)) in
    same_bus (get_or us at 0) (b + 1) (sample_in (get_or us (at + 1) 0)) (sat z)
    (get_or-set_same vs at (b + 1) 0 (omega (arith, long, inside)))
    (ap sample_in (get_or-set_other vs at (at + 1) (b + 1) 0 (omega arith) ∙ get_or-set_same ws (at + 1) (word_for (sat z)) 0 (omega (arith, inside))) ∙ sample_in-word_for (sat z) (sat_fits z))

pub value_apart : (b : ℕ) (ws : List ℕ) (at : ℕ) (x : ℤ) (j : ℕ) → (j < at) ⊎ (at + 2 ≤ j) → get_or (onto_value b ws at x) j 0 ≡ get_or ws j 0
value_apart b ws at x j apart =
    let v : ℕ = word_for (sat (held_at b ws at +ℤ x)) in
    get_or-set_other (set ws (at + 1) v) at j (b + 1) 0 (⊎_elim (λ (l : j < at). omega (arith, l)) (λ (r : at + 2 ≤ j). omega (arith, r)) apart)
    ∙ get_or-set_other ws (at + 1) j v 0 (⊎_elim (λ (l : j < at). omega (arith, l)) (λ (r : at + 2 ≤ j). omega (arith, r)) apart)

pub value_long : (b : ℕ) (ws : List ℕ) (at : ℕ) (x : ℤ) → length (onto_value b ws at x) ≡ length ws
value_long b ws at x = let v : ℕ = word_for (sat (held_at b ws at +ℤ x)) in length-set (set ws (at + 1) v) at (b + 1) ∙ length-set ws (at + 1) v

-- ---- one channel

-- the buses after a change of words: of the control buses alone
pub record IsSet (us ws : List ℕ) (after : List ControlBus) : Type 0 where
  pub control : control_buses us ≡ after
  pub others : (j : ℕ) → (j < 8320) ⊎ (10368 ≤ j) → get_or us j 0 ≡ get_or ws j 0
  pub long : length us ≡ length ws

-- the bus is one, and inside the words
abbrev pub IsControlInside : ℕ → Option ℕ → Type 0
IsControlInside len None = Unit {0}
IsControlInside len (Some n) = 8320 + 2 * n + 2 ≤ len

number_low : (b : Bool) (n m : ℕ) → b ≡ nat_lt n 1024 → cond b (Some n) None ≡ Some m → m < 1024
number_low true n m e h = let l : n < 1024 = ltb-true n 1024 (sym e) in let s : n ≡ m = cc in omega arith
number_low false n m e h = absurd cc

pub control_bound : (z : ℤ) (n : ℕ) → control_number z ≡ Some n → n < 1024
control_bound (pos m) n h = number_low (nat_lt m 1024) m n refl h
control_bound (negsuc m) n h = absurd cc

one_sets : (b : ℕ) (ws : List ℕ) (o : Option ℕ) (xs : List ℤ) → ((n : ℕ) → o ≡ Some n → n < 1024) → IsControlInside (length ws) o → IsSet (onto_control b ws o xs) ws (change_control (control_mixed b) (control_buses ws) o xs)
one_sets b ws None xs low inside = record { control = refl; others = λ j off. refl; long = refl }
one_sets b ws (Some n) xs low inside =
    let l : n < 1024 = low n refl in
    let x : ℤ = get_or xs 0 (pos 0) in record {
      control = control_set (onto_value b ws (8320 + 2 * n) x) ws n l (λ j le lt off. value_apart b ws (8320 + 2 * n) x j (apart_from j (8320 + 2 * n) 2 (λ p q. off p (omega (arith, q)))))
          ∙ ap (set (control_buses ws) n) (value_is b ws n xs inside ∙ ap (λ (bus : ControlBus). control_mixed b bus xs) (sym (control_at ws n resting l)));
      others = λ j off. value_apart b ws (8320 + 2 * n) x j (⊎_elim (λ (p : j < 8320). inl (omega (arith, p))) (λ (q : 10368 ≤ j). inr (omega (arith, q, l))) off);
      long = value_long b ws (8320 + 2 * n) x;
    }

-- ---- all channels

pub channels_set : (b : ℕ) (inputs : List (List ℤ)) (m : ℕ) (ws : List ℕ) → ((i : ℕ) → i < m → IsControlInside (length ws) (control_channel inputs i))
    → IsSet (channels (onto_control_channel b inputs) inputs m ws) ws (channels (λ (bs : List ControlBus) i signal. change_control (control_mixed b) bs (control_channel inputs i) signal) inputs m (control_buses ws))
unfolding channels
channels_set b inputs zero ws inside = record { control = refl; others = λ j off. refl; long = refl }
channels_set b inputs (suc i) ws inside =
    let before = channels_set b inputs i ws (λ k lt. inside k (omega arith)) in
    let us : List ℕ = channels (onto_control_channel b inputs) inputs i ws in
    let o : Option ℕ = control_channel inputs i in
    let P : ℕ → Type 0 = λ n. IsControlInside n o in
    let one = one_sets b us o (block inputs (suc i)) (λ n e. control_bound (get_or (get_or inputs 0 []) 0 (pos 0) +ℤ pos i) n e) (subst P (sym before.long) (inside i (omega arith))) in record {
      control = one.control ∙ ap (λ (bs : List ControlBus). change_control (control_mixed b) bs o (block inputs (suc i))) before.control;
      others = λ j off. one.others j off ∙ before.others j off;
      long = one.long ∙ before.long;
    }
