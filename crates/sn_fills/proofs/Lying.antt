-- What fills set, and fills that lie in order.
use Rattle.std.proofs.Common.{◌≡◌, ◌≤◌, ◌<◌, ◌+◌, ⊎_elim, ℕ, zero, suc, ℤ, Bool, true, false, List, [], ◌∷◌, ◌++◌, drop, take, Option, Some, None, refl, ap, sym, ◌∙◌, arith, leb, ltb}
use Rattle.std.specs.Prelude.{if◌then◌else◌}
use Rattle.std.specs.Option.{option_or}
use Rattle.std.proofs.lemmas.Bool.{cases_lt, and_from, and_left, and_right, le-leb, lt-leb, lt-ltb, le-ltb}
use Rattle.std.proofs.lemmas.List.{take-append-drop}
use Rattle.sn_fills.specs.declared.fill.Fill.{Fill}
use Rattle.sn_fills.specs.Fills.{covers, fill_at, last_at, times_at}
use Rattle.sn_fills.specs.Rows.{LieInOrder}

-- ---- one fill

covered : (n : ℕ) (f : Fill) → f.first ≤ n → n < f.first + f.count → covers n f ≡ true
covered n f low high = and_from (leb f.first n) (ltb n (f.first + f.count)) (le-leb f.first n low) (lt-ltb n (f.first + f.count) high)

free-before : (n : ℕ) (f : Fill) → n < f.first → covers n f ≡ false
free-before n f low = and_left (leb f.first n) (ltb n (f.first + f.count)) (lt-leb f.first n low)

free-behind : (n : ℕ) (f : Fill) → f.first + f.count ≤ n → covers n f ≡ false
free-behind n f high = and_right (leb f.first n) (ltb n (f.first + f.count)) (le-ltb n (f.first + f.count) high)

abbrev given : Fill → Bool → Option ℤ
given f b = if b then Some f.value else None

pub set-inside : (n : ℕ) (f : Fill) → f.first ≤ n → n < f.first + f.count → fill_at n f ≡ Some f.value
set-inside n f low high = ap (given f) (covered n f low high)

pub none-below : (n : ℕ) (f : Fill) → n < f.first → fill_at n f ≡ None
none-below n f low = ap (given f) (free-before n f low)

pub none-above : (n : ℕ) (f : Fill) → f.first + f.count ≤ n → fill_at n f ≡ None
none-above n f high = ap (given f) (free-behind n f high)

-- ---- several

pub or-none : (o : Option ℤ) → option_or o None ≡ o
or-none None = refl
or-none (Some v) = refl

or-later : (o p q : Option ℤ) → option_or (option_or o p) q ≡ option_or o (option_or p q)
or-later None p q = refl
or-later (Some v) p q = refl

pub last-append : (n : ℕ) (fs gs : List Fill) → last_at n (fs ++ gs) ≡ option_or (last_at n gs) (last_at n fs)
last-append n [] gs = sym (or-none (last_at n gs))
last-append n (f ∷ fs) gs = ap (λ o. option_or o (fill_at n f)) (last-append n fs gs) ∙ or-later (last_at n gs) (last_at n fs) (fill_at n f)

pub last-halves : (n m : ℕ) (fs : List Fill) → option_or (last_at n (drop m fs)) (last_at n (take m fs)) ≡ last_at n fs
last-halves n m fs = sym (last-append n (take m fs) (drop m fs)) ∙ ap (last_at n) (take-append-drop m fs)

-- ---- in order

pub order-within : (from until : ℕ) (fs : List Fill) → LieInOrder from until fs → from ≤ until
order-within from until [] h = h
order-within from until (f ∷ fs) h = omega (arith, h.0, h.1, order-within (f.first + f.count) until fs h.2)

pub order-lower : (from low until : ℕ) (fs : List Fill) → low ≤ from → LieInOrder from until fs → LieInOrder low until fs
order-lower from low until [] le h = omega (arith, le, h)
order-lower from low until (f ∷ fs) le h = (omega (arith, le, h.0), h.1, h.2)

pub order-wider : (from until high : ℕ) (fs : List Fill) → until ≤ high → LieInOrder from until fs → LieInOrder from high fs
order-wider from until high [] le h = omega (arith, le, h)
order-wider from until high (f ∷ fs) le h = (h.0, h.1, order-wider (f.first + f.count) until high fs le h.2)

pub order-drop : (i from until : ℕ) (fs : List Fill) → LieInOrder from until fs → LieInOrder from until (drop i fs)
order-drop zero from until fs h = h
order-drop (suc i) from until [] h = h
order-drop (suc i) from until (f ∷ fs) h =
    order-lower (f.first + f.count) from until (drop i fs) (omega (arith, h.0)) (order-drop i (f.first + f.count) until fs h.2)

pub order-put : (from until : ℕ) (fs : List Fill) (f : Fill) → LieInOrder from until fs → until ≤ f.first → 0 < f.count → LieInOrder from (f.first + f.count) (fs ++ f ∷ [])
order-put from until [] f h le some = (omega (arith, h, le), some, omega arith)
order-put from until (g ∷ fs) f h le some = (h.0, h.1, order-put (g.first + g.count) until fs f h.2 le some)

pub none-before : (n from until : ℕ) (fs : List Fill) → LieInOrder from until fs → n < from → last_at n fs ≡ None
none-before n from until [] h low = refl
none-before n from until (f ∷ fs) h low =
    ap (λ o. option_or o (fill_at n f)) (none-before n (f.first + f.count) until fs h.2 (omega (arith, h.0, low)))
    ∙ none-below n f (omega (arith, h.0, low))

pub none-behind : (n from until : ℕ) (fs : List Fill) → LieInOrder from until fs → until ≤ n → last_at n fs ≡ None
none-behind n from until [] h high = refl
none-behind n from until (f ∷ fs) h high =
    ap (λ o. option_or o (fill_at n f)) (none-behind n (f.first + f.count) until fs h.2 high)
    ∙ none-above n f (omega (arith, order-within (f.first + f.count) until fs h.2, high))

-- ---- each place is set once

abbrev one : Bool → ℕ
one b = if b then 1 else 0

times-before : (n from until : ℕ) (fs : List Fill) → LieInOrder from until fs → n < from → times_at n fs ≡ 0
times-before n from until [] h low = refl
times-before n from until (f ∷ fs) h low =
    omega (arith, ap one (free-before n f (omega (arith, h.0, low))), times-before n (f.first + f.count) until fs h.2 (omega (arith, h.0, low)))

at-most-one : (b : Bool) → one b ≤ 1
at-most-one true = omega arith
at-most-one false = omega arith

pub order-apart : (n from until : ℕ) (fs : List Fill) → LieInOrder from until fs → times_at n fs ≤ 1
order-apart n from until [] h = omega arith
order-apart n from until (f ∷ fs) h = ⊎_elim
    (λ (l : n < f.first + f.count). omega (arith, at-most-one (covers n f), times-before n (f.first + f.count) until fs h.2 l))
    (λ (m : f.first + f.count ≤ n). omega (arith, ap one (free-behind n f m), order-apart n (f.first + f.count) until fs h.2))
    (cases_lt n (f.first + f.count))
