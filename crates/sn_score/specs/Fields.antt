-- What the fields of a line say, if they are written as they should be. Of other bytes it may give anything, so what is
-- read counts only if the line is the one that is written for it.
use Rattle.std.specs.Prelude.{ℕ, zero, suc, ℤ, ◌+◌, ◌-◌, ◌*◌, ◌%◌, min, List, [], ◌∷◌, length, take, drop, slice_index, codes, Bool, not, nat_lt, ◌==◌, ◌||◌, if◌then◌else◌}
use Rattle.std.specs.List.{position_or_len}
use Rattle.std.specs.Str.{bytes_eq}
use Rattle.std.specs.Int.{w32, cast_signed}
use Rattle.sn_osc.specs.Shape.{Argument, int, string, blob, BodyShape, bare, arguments, foreign, MessageShape}
use Rattle.sn_osc.specs.Bytes.{begins_with}

-- ---- digits

abbrev pub nibble : ℕ → ℕ
nibble c = if nat_lt c 58 then c % 16 else (c % 16 + 9) % 16

abbrev pub hex_value : ℕ → ℕ → ℕ
hex_value high low = nibble high * 16 + nibble low

-- a byte of each two digits
abbrev pub unhex : List ℕ → List ℕ
unhex [] = []
unhex (high ∷ []) = []
unhex (high ∷ low ∷ digits) = hex_value high low ∷ unhex digits

-- a number after digits that were read, up to the most of 32 bits
unfoldable pub natural_after : ℕ → List ℕ → ℕ
natural_after n [] = n
natural_after n (b ∷ bytes) = natural_after (min (n * 10 + b % 16) 4294967295) bytes

abbrev pub natural : List ℕ → ℕ
natural digits = natural_after 0 digits

-- a number of 32 bits; 45 is `-`
unfoldable pub signed : List ℕ → ℤ
signed word = cast_signed w32 (if begins_with 45 word then (4294967296 - natural (drop 1 word)) % 4294967296 else natural word)

-- ---- words

-- how many bytes stand before the first space
abbrev pub word_len : List ℕ → ℕ
word_len bytes = position_or_len (λ b. b == 32) bytes

-- a quoted text ends here
abbrev pub is_closed : List ℕ → Bool
is_closed bytes = length bytes == 0 || begins_with 34 bytes

-- a byte of a quoted text, and what follows it
abbrev pub byte_at : List ℕ → ℕ × List ℕ
byte_at bytes =
    if not (slice_index bytes 0 == 92) then (slice_index bytes 0, drop 1 bytes) else
    if not (slice_index bytes 1 == 120) then (slice_index bytes 1, drop 2 bytes) else
    (hex_value (slice_index bytes 2) (slice_index bytes 3), drop 4 bytes)

-- at most so many bytes of a quoted text, and what follows its end
unfoldable pub bytes_at : ℕ → List ℕ → List ℕ × List ℕ
bytes_at zero bytes = ([], drop 1 bytes)
bytes_at (suc n) bytes = if is_closed bytes then ([], drop 1 bytes) else ((byte_at bytes).0 ∷ (bytes_at n (byte_at bytes).1).0, (bytes_at n (byte_at bytes).1).1)

-- a quoted text after its first `"`, and what follows its end
abbrev pub unquoted : List ℕ → List ℕ × List ℕ
unquoted bytes = bytes_at (length bytes) bytes

-- ---- fields

abbrev pub string_at : List ℕ → Argument × List ℕ
string_at bytes = (string (unquoted bytes).0, (unquoted bytes).1)

-- a blob or a number
abbrev pub word_at : List ℕ → Argument
word_at word = if begins_with 35 word then blob (unhex (drop 1 word)) else int (signed word)

-- the first argument, and what follows it
unfoldable pub argument_at : List ℕ → Argument × List ℕ
argument_at bytes = if begins_with 34 bytes then string_at (drop 1 bytes) else (word_at (take (word_len bytes) bytes), drop (word_len bytes) bytes)

-- at most so many arguments, each after a space
unfoldable pub arguments_at : ℕ → List ℕ → List Argument
arguments_at zero bytes = []
arguments_at (suc n) bytes = if length bytes == 0 then [] else (argument_at (drop 1 bytes)).0 ∷ arguments_at n (argument_at (drop 1 bytes)).1

-- quoted tags and a blob
abbrev pub foreign_at : List ℕ → BodyShape
foreign_at bytes = foreign (unquoted bytes).0 (unhex (drop 2 (unquoted bytes).1))

unfoldable pub body_at : List ℕ → BodyShape
body_at bytes =
    if length bytes == 0 then bare else
    if bytes_eq bytes (codes " ()") then arguments [] else
    if slice_index bytes 1 == 63 then foreign_at (drop 3 bytes) else arguments (arguments_at (length bytes) bytes)

-- the address, and what follows it
unfoldable pub address_at : List ℕ → List ℕ × List ℕ
address_at line = if begins_with 34 line then unquoted (drop 1 line) else (take (word_len line) line, drop (word_len line) line)

unfoldable pub message_at : List ℕ → MessageShape
message_at line = record { address = (address_at line).0; body = body_at (address_at line).1 }

-- the halves of a bundle's tag
unfoldable pub tag_at : List ℕ → ℕ
tag_at line =
    let halves = drop 2 line in
    natural (take (word_len halves) halves) * 4294967296 + natural (drop (word_len halves + 1) halves)
