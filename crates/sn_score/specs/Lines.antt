-- The lines of a score.
use Rattle.std.specs.Prelude.{ℕ, ◌/◌, ◌%◌, ◌^◌, List, [], ◌∷◌, ◌++◌, map, flat_map, codes}
use Rattle.std.specs.Fmt.{decimal, signed_decimal}
use Rattle.sn_osc.specs.Shape.{Argument, int, string, blob, BodyShape, bare, arguments, foreign, MessageShape, Shape, Shapes, message, bundle, none, more}
use Rattle.sn_score.specs.Words.{quoted, address_word, blob_word}

-- a number in decimal, a string quoted, or a blob
abbrev pub argument_word : Argument → List ℕ
argument_word (int n) = signed_decimal n
argument_word (string s) = quoted s
argument_word (blob b) = blob_word b

-- The fields of a message: none, `()` if it has no arguments, its arguments, or `?` with the quoted tags and the bytes
-- that are not read.
abbrev pub body_words : BodyShape → List (List ℕ)
body_words bare = []
body_words (arguments []) = codes "()" ∷ []
body_words (arguments (x ∷ xs)) = map argument_word (x ∷ xs)
body_words (foreign tags rest) = (63 ∷ quoted tags) ∷ blob_word rest ∷ []

-- each after one space
abbrev pub fields : List (List ℕ) → List ℕ
fields words = flat_map (λ w. 32 ∷ w) words

abbrev pub message_line : MessageShape → List ℕ
message_line m = address_word m.address ++ fields (body_words m.body)

-- `[` and the two halves of the tag
abbrev pub bundle_line : ℕ → List ℕ
bundle_line tag = 91 ∷ fields (decimal (tag / 2 ^ 32) ∷ decimal (tag % 2 ^ 32) ∷ [])

-- each line ends with a line feed
abbrev pub line : List ℕ → List ℕ
line bytes = bytes ++ 10 ∷ []

abbrev mutual
  -- a message's line; or a bundle's first line, its elements, and the line `]`
  pub packet_text : Shape → List ℕ
  packet_text (message m) = line (message_line m)
  packet_text (bundle tag inner) = line (bundle_line tag) ++ elements_text inner ++ line (93 ∷ [])

  pub elements_text : Shapes → List ℕ
  elements_text none = []
  elements_text (more x xs) = packet_text x ++ elements_text xs
