-- Fills of places in a row, one after the other.
use Rattle.std.specs.Prelude.{◌≤◌, ◌+◌, ℕ, ℤ, Bool, ◌&&◌, nat_le, nat_lt, if◌then◌else◌, List, [], ◌∷◌, Option, Some, None}
use Rattle.std.specs.Option.{option_or}
use Rattle.sn_fills.specs.declared.fill.Fill.{Fill}

abbrev pub covers : ℕ → Fill → Bool
covers n f = nat_le f.first n && nat_lt n (f.first + f.count)

-- what a fill sets a place to, if it covers it
abbrev pub fill_at : ℕ → Fill → Option ℤ
fill_at n f = if covers n f then Some f.value else None

-- what the last fill that covers a place sets it to
abbrev pub last_at : ℕ → List Fill → Option ℤ
last_at n [] = None
last_at n (f ∷ fs) = option_or (last_at n fs) (fill_at n f)

-- how many fills cover a place
abbrev pub times_at : ℕ → List Fill → ℕ
times_at n [] = 0
times_at n (f ∷ fs) = (if covers n f then 1 else 0) + times_at n fs

-- No place is covered twice.
abbrev pub AreApart : List Fill → Type 0
AreApart fs = (n : ℕ) → times_at n fs ≤ 1
