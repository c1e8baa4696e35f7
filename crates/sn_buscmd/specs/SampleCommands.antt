-- What commands on samples are given.
use Rattle.std.specs.Prelude.{◌<◌, ◌+◌, ◌^◌, ℤ, List, [], ◌∷◌, length, Option, Some, None}
use Rattle.sn_osc.specs.Bytes.{arguments_bytes}
use Rattle.sn_osc.specs.Shape.{Argument}
use Rattle.sn_world.specs.Rows.{some_of}
use Rattle.sn_world.specs.Runs.{number}

-- a number and what is repeated after it
abbrev pub asked : {R : Type 0} → Option ℤ → Option (List R) → Option (ℤ × List R)
asked None all = None
asked (Some n) None = None
asked (Some n) (Some all) = Some (n, all)

-- the same of arguments
abbrev pub numbered : {R : Type 0} → (List Argument → Option (List R)) → List Argument → Option (ℤ × List R)
numbered read [] = None
numbered read (x ∷ xs) = asked (number x) (some_of (read xs))

-- arguments that a message can hold
abbrev pub AreFew : List Argument → Type 0
AreFew xs = length (arguments_bytes xs) + length xs + 256 < 2 ^ 31
