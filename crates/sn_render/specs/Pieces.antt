-- A stream that is read piece by piece.
use Rattle.std.specs.Prelude.{◌≡◌, ◌≤◌, ◌<◌, ℕ, Bool, true, false, List, ◌++◌, length, Option}
use Rattle.std.specs.Io.KnownBytes.{Consumes, IsAtEnd}

-- A source gave bytes, which were appended to others: as many as there was room for, or fewer at its end.
pub record IsPiece (left_old left_new : Option (List ℕ)) (old new : List ℕ) (most : ℕ) (is_full : Bool) : Type 0 where
  pub given : List ℕ
  pub taken : Consumes left_old left_new given
  pub joined : new ≡ old ++ given
  pub few : length given ≤ most
  pub full : is_full ≡ true → length given ≡ most
  pub end : is_full ≡ false → IsAtEnd left_new × length given < most
