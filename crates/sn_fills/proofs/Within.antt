-- Where fills end.
use Rattle.std.proofs.Common.{◌≡◌, ◌≤◌, ◌<◌, ◌+◌, ◌-◌, ⊎_elim, ℕ, zero, suc, ℤ, List, [], ◌∷◌, length, get_or, All, Option, Some, None, refl, ap, ◌∙◌, arith}
use Rattle.std.specs.Option.{option_or}
use Rattle.std.proofs.lemmas.Bool.{cases_lt}
use Rattle.std.proofs.lemmas.List.Elements.{All-head, All-tail}
use Rattle.sn_fills.specs.declared.fill.Fill.{Fill}
use Rattle.sn_fills.specs.Fills.{fill_at, last_at}
use Rattle.sn_fills.proofs.Lying.{set-inside, none-above}

-- all end by a place
abbrev EndBy : ℕ → List Fill → Type 0
EndBy end fs = All (λ (f : Fill). f.first + f.count ≤ end) fs

-- from that place on nothing is set
none-set : (n end : ℕ) (fs : List Fill) → EndBy end fs → end ≤ n → last_at n fs ≡ None
none-set n end [] all high = refl
none-set n end (f ∷ fs) all high =
    ap (λ o. option_or o (fill_at n f)) (none-set n end fs (All-tail (λ (g : Fill). g.first + g.count ≤ end) f fs all) high)
    ∙ none-above n f (omega (arith, high, All-head (λ (g : Fill). g.first + g.count ≤ end) f fs all))

-- if nothing is set at a place, none of the fills sets anything there
first-none : (o p : Option ℤ) → option_or o p ≡ None → o ≡ None
first-none None p h = refl
first-none (Some v) p h = absurd cc

second-none : (o p : Option ℤ) → option_or o p ≡ None → p ≡ None
second-none None p h = h
second-none (Some v) p h = absurd cc

each-none : (n : ℕ) (fs : List Fill) (k : ℕ) (d : Fill) → k < length fs → last_at n fs ≡ None → fill_at n (get_or fs k d) ≡ None
each-none n [] k d low none = absurd (omega arith)
each-none n (f ∷ fs) zero d low none = second-none (last_at n fs) (fill_at n f) none
each-none n (f ∷ fs) (suc k) d low none = each-none n fs k d (omega arith) (first-none (last_at n fs) (fill_at n f) none)

ends-by : (end : ℕ) (f : Fill) → 0 < f.count → ((n : ℕ) → end ≤ n → fill_at n f ≡ None) → f.first + f.count ≤ end
ends-by end f some none = ⊎_elim
    (λ (beyond : end < f.first + f.count).
    let n : ℕ = f.first + f.count - 1 in
    let last : fill_at n f ≡ Some f.value = set-inside n f (omega (arith, some)) (omega (arith, some)) in
    let free : fill_at n f ≡ None = none n (omega (arith, beyond)) in
    absurd (cc (last, free)))
    (λ (within : f.first + f.count ≤ end). within)
    (cases_lt end (f.first + f.count))

-- fills that set the same, of which none is empty, end by it too
pub same-end : (end : ℕ) (fs gs : List Fill) → ((n : ℕ) → last_at n gs ≡ last_at n fs) → All (λ (f : Fill). 0 < f.count) gs → EndBy end fs → EndBy end gs
same-end end fs gs same some all = λ k d low.
    ends-by end (get_or gs k d) (some k d low) (λ n high. each-none n gs k d low (same n ∙ none-set n end fs all high))
