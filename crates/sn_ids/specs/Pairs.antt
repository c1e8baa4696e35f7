-- Pairs of an id and a key, by rising id.
use Rattle.std.specs.Prelude.{◌≡◌, ℕ, ◌<◌, ◌≤◌, ℤ, pos, ◌<ℤ◌, List, [], ◌∷◌, length, if◌then◌else◌, slice_index_or, Some, None, Option}
use Rattle.std.specs.Ordering.{int_eq}

abbrev pub Pairs : Type 0
Pairs = List (ℤ × ℕ)

-- the pairs, and how many of them there is room for
pub record Table : Type 0 where
  pub pairs : Pairs
  pub room : ℕ

-- the key of the first pair that has the id
abbrev pub key_for : ℤ → Pairs → Option ℕ
key_for id [] = None
key_for id ((other, key) ∷ rest) = if int_eq other id then Some key else key_for id rest

-- the id of the pair at place i
abbrev pub id_at : Pairs → ℕ → ℤ
id_at pairs i = let pair = slice_index_or pairs i (pos 0, 0) in pair.0

-- the ids rise, so no id comes twice
abbrev pub IsRising : Pairs → Type 0
IsRising pairs = (i j : ℕ) → i < j → j < length pairs → id_at pairs i <ℤ id_at pairs j

-- the pair at place i has the id
pub record IsAt (pairs : Pairs) (id : ℤ) (i : ℕ) : Type 0 where
  pub in_range : i < length pairs
  pub has_id : id_at pairs i ≡ id

-- the id would go at place i: smaller ids before it, and greater ids from it on
pub record IsGapFor (pairs : Pairs) (id : ℤ) (i : ℕ) : Type 0 where
  pub in_range : i ≤ length pairs
  pub smaller_before : (j : ℕ) → j < i → id_at pairs j <ℤ id
  pub greater_after : (j : ℕ) → i ≤ j → j < length pairs → id <ℤ id_at pairs j
