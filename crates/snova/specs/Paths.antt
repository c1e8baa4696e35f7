-- The paths of a rendering, and those of a conversion.
use Rattle.std.specs.Prelude.{ℕ, Bool, ◌&&◌, not, List}
use Rattle.std.specs.Str.{bytes_eq}

-- no two are spelled alike
abbrev pub are_apart : List ℕ → List ℕ → List ℕ → Bool
are_apart commands sound replies = not (bytes_eq commands sound) && (not (bytes_eq commands replies) && not (bytes_eq sound replies))

-- the two are not spelled alike
abbrev pub is_other : List ℕ → List ℕ → Bool
is_other given made = not (bytes_eq given made)
