-- How the words of a score are written.
use Rattle.std.specs.Prelude.{ℕ, ◌+◌, ◌/◌, ◌%◌, List, [], ◌∷◌, ◌++◌, flat_map, Bool, not, nat_lt, nat_le, ◌==◌, ◌&&◌, ◌||◌, if◌then◌else◌}
use Rattle.std.specs.List.{list_all}

-- the lower-case hexadecimal digit of a number below 16
abbrev pub digit : ℕ → ℕ
digit n = if nat_lt n 10 then 48 + n else 87 + n

-- two digits
abbrev pub hex_byte : ℕ → List ℕ
hex_byte b = digit (b / 16) ∷ digit (b % 16) ∷ []

abbrev pub hex : List ℕ → List ℕ
hex bytes = flat_map hex_byte bytes

-- `\"`, `\\`, a byte from 32 to 126 as it is, or `\x` and two digits
abbrev pub quoted_byte : ℕ → List ℕ
quoted_byte b =
    if b == 34 || b == 92 then 92 ∷ b ∷ [] else
    if nat_le 32 b && nat_le b 126 then b ∷ [] else 92 ∷ 120 ∷ hex_byte b

-- the bytes between two `"`
abbrev pub quoted : List ℕ → List ℕ
quoted bytes = 34 ∷ flat_map quoted_byte bytes ++ 34 ∷ []

-- 33 to 126, but neither `"` nor `\`
abbrev pub is_plain_byte : ℕ → Bool
is_plain_byte b = nat_le 33 b && nat_le b 126 && not (b == 34 || b == 92)

-- as it is if all its bytes are plain, and else quoted
abbrev pub address_word : List ℕ → List ℕ
address_word address = if list_all is_plain_byte address then address else quoted address

-- `#` and the digits of the bytes
abbrev pub blob_word : List ℕ → List ℕ
blob_word bytes = 35 ∷ hex bytes
