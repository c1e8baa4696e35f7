-- What a contract sees of a framer.
use Rattle.std.specs.Prelude.{◌-◌, ℕ, List, length}

-- the bytes that are kept, and how many were fed
pub record Framing : Type 0 where
  pub kept : List ℕ
  pub fed : ℕ

-- the place in the stream of the first byte that is kept
abbrev pub kept_place : Framing → ℕ
kept_place f = f.fed - length f.kept
