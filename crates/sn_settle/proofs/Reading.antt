-- Words that may be read and written, unit by unit.
use Rattle.std.proofs.Common.{◌≡◌, ◌≤◌, ◌<◌, ◌+◌, ◌-◌, ℕ, zero, suc, ℤ, Bool, true, false, ◌==◌, List, [], ◌∷◌, length, get_or, take, drop, refl, ap, sym, subst, ◌∙◌, arith}
use Rattle.sn_ports.specs.Octets.{Octets}
use Rattle.sn_mem.specs.declared.extents.Foot.{Foot}
use Rattle.sn_mem.specs.Words.{touches, writes, MayRead, MayWrite}
use Rattle.sn_def.specs.declared.unit.Unit.{Unit as UnitLine}
use Rattle.sn_def.specs.StateWords.{unit_words, units_words}
use Rattle.sn_reply.specs.declared.events.Notice.{Notice}
use Rattle.sn_world.specs.declared.endings.Ending.{Ending}
use Rattle.sn_world.specs.Noted.{Noted}
use Rattle.sn_world.specs.Settling.{unit_triggers, unit_endings}
use Rattle.sn_settle.proofs.Sending.{IsUnderway}

pub read_word : (f : Foot) (at n : ℕ) → MayRead f at n → 1 ≤ n → touches f at ≡ true
read_word f at n may some = ap (touches f) (let e : at ≡ at + 0 = omega arith in e) ∙ may.each 0 (omega (arith, some))

pub write_word : (f : Foot) (at n : ℕ) → MayWrite f at n → 1 ≤ n → writes f at ≡ true
write_word f at n may some = ap (writes f) (let e : at ≡ at + 0 = omega arith in e) ∙ may.each 0 (omega (arith, some))

pub drop_next : {A : Type 0} (xs : List A) (i : ℕ) (x : A) → i < length xs → x ≡ get_or xs i x → drop i xs ≡ x ∷ drop (i + 1) xs
drop_next [] i x lt is = absurd (omega arith)
drop_next (y ∷ ys) zero x lt is = ap (λ z. z ∷ ys) (sym is)
drop_next (y ∷ ys) (suc i) x lt is = drop_next ys i x (omega arith) is ∙ ap (λ n. x ∷ drop n (y ∷ ys)) (let e : suc (i + 1) ≡ suc i + 1 = omega arith in e)

pub drop_first : {A : Type 0} (xs : List A) (i : ℕ) (d : A) → i < length xs → drop i xs ≡ get_or xs i d ∷ drop (i + 1) xs
drop_first [] i d lt = absurd (omega arith)
drop_first (y ∷ ys) zero d lt = refl
drop_first (y ∷ ys) (suc i) d lt = drop_first ys i d (omega arith) ∙ ap (λ n. get_or ys i d ∷ drop n (y ∷ ys)) (let e : suc (i + 1) ≡ suc i + 1 = omega arith in e)

pub nothing : {A : Type 0} (xs : List A) → length xs ≤ 0 → xs ≡ []
nothing [] few = refl
nothing (x ∷ xs) few = absurd (omega (arith, few))

pub none_there : {A : Type 0} (xs : List A) → (length xs == 0) ≡ false → xs ≡ [] → true ≡ false
none_there [] some nil = some
none_there (x ∷ xs) some nil = absurd (omega (arith, ap length nil))

pub drop_past : {A : Type 0} (xs : List A) (i : ℕ) → length xs ≤ i → drop i xs ≡ []
drop_past [] zero past = refl
drop_past [] (suc i) past = refl
drop_past (y ∷ ys) zero past = absurd (omega arith)
drop_past (y ∷ ys) (suc i) past = drop_past ys i (omega arith)

-- the words of the units before a number, and those of the others
parted : (rate : ℕ) (us : List UnitLine) (i : ℕ) → units_words rate (take i us) + units_words rate (drop i us) ≡ units_words rate us
parted rate [] zero = refl
parted rate [] (suc i) = refl
parted rate (u ∷ us) zero = omega arith
parted rate (u ∷ us) (suc i) = omega (arith, parted rate us i)

-- where the words of the unit of a number begin
abbrev pub place_of : ℕ → List UnitLine → ℕ → ℕ → ℕ
place_of rate us first i = first + units_words rate (take i us)

-- the words of the next unit begin at a place
pub record IsAt (rate : ℕ) (units : List UnitLine) (first i at : ℕ) : Type 0 where
  pub low : first ≤ at
  pub place : at + units_words rate (drop i units) ≡ first + units_words rate units

pub placed : (rate : ℕ) (us : List UnitLine) (first i : ℕ) → IsAt rate us first i (place_of rate us first i)
placed rate us first i = record { low = omega arith; place = omega (arith, parted rate us i) }

pub next_place : (rate : ℕ) (us : List UnitLine) (first i : ℕ) (u : UnitLine) → i < length us → u ≡ get_or us i u → place_of rate us first (i + 1) ≡ place_of rate us first i + unit_words rate u
next_place rate us first i u lt item = omega (arith, parted rate us i, parted rate us (i + 1), ap (units_words rate) (drop_next us i u lt item))

module _ (rate : ℕ) (units : List UnitLine) (first i : ℕ) (u : UnitLine) (at : ℕ) (lt : i < length units) (item : u ≡ get_or units i u) (is : IsAt rate units first i at) where
  words_left : units_words rate (drop i units) ≡ unit_words rate u + units_words rate (drop (i + 1) units)
  words_left = ap (units_words rate) (drop_next units i u lt item)

  pub next_at : (n : ℕ) → n ≡ unit_words rate u → IsAt rate units first (i + 1) (at + n)
  next_at n e = record { low = omega (arith, is.low); place = omega (arith, is.place, words_left, e) }

  pub next_fits : (n : ℕ) → n ≡ unit_words rate u → first + units_words rate units < 4294967296 → at + n < 4294967296
  next_fits n e below = omega (arith, is.place, words_left, e, below)

  pub part_read : (f f' : Foot) → f' ≡ f → MayRead f first (units_words rate units) → MayRead f' at (unit_words rate u)
  part_read f f' e may = subst (λ (h : Foot). MayRead h at (unit_words rate u)) (sym e) (record {
    below = omega (arith, is.place, words_left, may.below);
    each = λ k low.
        ap (touches f) (let e : at + k ≡ first + (at - first + k) = omega (arith, is.low) in e)
        ∙ may.each (at - first + k) (omega (arith, is.low, is.place, words_left, low));
  })

  pub part_write : (f f' : Foot) → f' ≡ f → MayWrite f first (units_words rate units) → MayWrite f' at (unit_words rate u)
  part_write f f' e may = subst (λ (h : Foot). MayWrite h at (unit_words rate u)) (sym e) (record {
    below = omega (arith, is.place, words_left, may.below);
    each = λ k low.
        ap (writes f) (let e : at + k ≡ first + (at - first + k) = omega (arith, is.low) in e)
        ∙ may.each (at - first + k) (omega (arith, is.low, is.place, words_left, low));
  })

-- the next unit's events come next
pub seen_next : (rate b : ℕ) (id : ℤ) (flags : List Bool) (here left : List UnitLine) (u : UnitLine) (at : ℕ) (ws : List ℕ) → here ≡ u ∷ left → (es : List Notice) (xs : List Ending) (a o : List Octets) (n m : Noted)
    → IsUnderway flags es (unit_triggers rate b id here at ws) xs (unit_endings rate id here at ws) a o n m
    → IsUnderway flags es (unit_triggers rate b id (u ∷ left) at ws) xs (unit_endings rate id (u ∷ left) at ws) a o n m
seen_next rate b id flags here left u at ws is es xs a o n m under = subst (λ us. IsUnderway flags es (unit_triggers rate b id us at ws) xs (unit_endings rate id us at ws) a o n m) is under
