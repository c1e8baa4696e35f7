-- What a contract sees of a source and of a sink in memory.
use Rattle.std.specs.Prelude.{ℕ, List, ◌+◌, ◌-◌, ◌^◌, min, Contains}

-- A source: the bytes that are left, how many a call gives at most, which calls fail, and how many calls and faults
-- there were.
pub record Played : Type 0 where
  pub left : List ℕ
  pub piece : ℕ
  pub fails : List ℕ
  pub calls : ℕ
  pub faults : ℕ

-- A sink: the bytes that it took, how many it takes in all and in a call, which calls fail, and how many calls and
-- faults there were.
pub record Kept : Type 0 where
  pub taken : List ℕ
  pub capacity : ℕ
  pub piece : ℕ
  pub fails : List ℕ
  pub calls : ℕ
  pub faults : ℕ

-- one more, up to the end of a count of that many bits
abbrev pub counted : ℕ → ℕ → ℕ
counted bits n = min (n + 1) (2 ^ bits - 1)

-- The next call is one of those that fail. The count of calls ends at 2^32 - 1, so that number stands for each later
-- call.
abbrev pub FailsNext : List ℕ → ℕ → Type 0
FailsNext fails calls = Contains fails calls
