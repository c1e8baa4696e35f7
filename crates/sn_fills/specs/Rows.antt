-- Fills that lie in order.
use Rattle.std.specs.Prelude.{◌≡◌, ◌≤◌, ◌<◌, ◌+◌, ℕ, List, [], ◌∷◌, drop, min, max}
use Rattle.std.specs.Option.{option_or}
use Rattle.sn_fills.specs.declared.fill.Fill.{Fill}
use Rattle.sn_fills.specs.Fills.{fill_at, last_at}

-- None is empty, each one lies after the one before, the first one from a place on, and all before another.
abbrev pub LieInOrder : ℕ → ℕ → List Fill → Type 0
LieInOrder from until [] = from ≤ until
LieInOrder from until (f ∷ fs) = (from ≤ f.first) × (0 < f.count) × LieInOrder (f.first + f.count) until fs

-- What a fill sets before `until` was put after a row that ended at `end`.
pub record IsPut (f : Fill) (until end : ℕ) (old : List Fill) (new-end : ℕ) (new : List Fill) : Type 0 where
  pub order : LieInOrder 0 new-end new
  pub grows : end ≤ new-end
  pub limit : new-end ≤ max end (min (f.first + f.count) until)
  pub kept : (n : ℕ) → n < end → last_at n new ≡ last_at n old
  pub set : (n : ℕ) → end ≤ n → n < until → last_at n new ≡ fill_at n f

-- The same of several fills, of which those from `next` on are left.
pub record ArePut (fs : List Fill) (until next end : ℕ) (old : List Fill) (new-end : ℕ) (new : List Fill) : Type 0 where
  pub order : LieInOrder 0 new-end new
  pub grows : end ≤ new-end
  pub limit : new-end ≤ until
  pub kept : (n : ℕ) → n < end → last_at n new ≡ last_at n old
  pub set : (n : ℕ) → end ≤ n → n < until → last_at n new ≡ last_at n fs
  pub left : (n : ℕ) → new-end ≤ n → last_at n (drop next fs) ≡ last_at n fs

-- Fills in order set what these set.
pub record IsInOrder (fs new : List Fill) : Type 0 where
  pub order : LieInOrder 0 4294967295 new
  pub same : (n : ℕ) → last_at n new ≡ last_at n fs

-- Fills in order set what the later ones set, and elsewhere what the earlier ones set.
pub record IsOverlaid (earlier later new : List Fill) : Type 0 where
  pub order : LieInOrder 0 4294967295 new
  pub same : (n : ℕ) → last_at n new ≡ option_or (last_at n later) (last_at n earlier)
