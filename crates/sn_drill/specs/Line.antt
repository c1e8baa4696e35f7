-- What a drill tells of what was played.
use Rattle.std.specs.Prelude.{ℕ, ◌%◌, ◌^◌, List, [], ◌∷◌, ◌++◌, length, sum, codes}
use Rattle.std.specs.Fmt.{decimal}
use Rattle.sn_drill.specs.declared.line.Played.{Played}

-- the sum of bytes modulo 2^32
abbrev pub sum_of : List ℕ → ℕ
sum_of bytes = sum bytes % 2 ^ 32

-- the line of these numbers: of blocks, of bytes of the sound and of the replies, and the sum
abbrev pub line_with : ℕ → ℕ → ℕ → ℕ → List ℕ
line_with blocks heard told sum =
    codes "drill blocks " ++ decimal blocks ++ codes " sound " ++ decimal heard ++ codes " replies " ++ decimal told ++ codes " sum " ++ decimal sum ++ 10 ∷ []

abbrev pub played_line : Played → List ℕ
played_line played = line_with played.blocks played.heard played.told played.sum

-- the line of a drill of so many blocks, which gave this sound and these replies
abbrev pub drill_line : ℕ → List ℕ → List ℕ → List ℕ
drill_line blocks sound replies = line_with blocks (length sound) (length replies) (sum_of sound)
