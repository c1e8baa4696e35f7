-- The one spelling of a packet, and which packets have one.
use Rattle.std.specs.Prelude.{◌^◌, ◌-◌, ◌%◌, ℕ, zero, suc, ℤ, pos, negsuc, List, [], ◌∷◌, ◌++◌, length, map, replicate, Bool, true, false, not, ◌&&◌, ◌==◌, nat_lt, if◌then◌else◌}
use Rattle.std.specs.List.{list_all}
use Rattle.std.specs.Int.{w32, w64, to_be_bytes, cast_unsigned}
use Rattle.sn_osc.specs.Shape.{Argument, int, string, blob, BodyShape, bare, arguments, foreign, MessageShape, Shape, Shapes, message, bundle, none, more}

-- ---- bytes

abbrev pub are_octets : List ℕ → Bool
are_octets bytes = list_all (λ b. nat_lt b 256) bytes

-- 4 bytes, big-endian, two's complement
abbrev pub int_bytes : ℤ → List ℕ
int_bytes n = to_be_bytes w32 (cast_unsigned w32 n)

-- the string, and 1 to 4 null bytes up to a multiple of 4
abbrev pub string_bytes : List ℕ → List ℕ
string_bytes s = s ++ replicate (4 - length s % 4) 0

-- a size, that many bytes, and zero bytes up to a multiple of 4
abbrev pub blob_bytes : List ℕ → List ℕ
blob_bytes b = to_be_bytes w32 (length b) ++ b ++ replicate ((4 - length b % 4) % 4) 0

abbrev pub argument_bytes : Argument → List ℕ
argument_bytes (int n) = int_bytes n
argument_bytes (string s) = string_bytes s
argument_bytes (blob b) = blob_bytes b

-- one after the other
abbrev pub arguments_bytes : List Argument → List ℕ
arguments_bytes [] = []
arguments_bytes (x ∷ xs) = argument_bytes x ++ arguments_bytes xs

-- `i`, `s` and `b`
abbrev pub tag_of : Argument → ℕ
tag_of (int n) = 105
tag_of (string s) = 115
tag_of (blob b) = 98

-- a comma, and the tags after it
abbrev pub tags_bytes : List ℕ → List ℕ
tags_bytes tags = string_bytes (44 ∷ tags)

abbrev pub body_bytes : BodyShape → List ℕ
body_bytes bare = []
body_bytes (arguments xs) = tags_bytes (map tag_of xs) ++ arguments_bytes xs
body_bytes (foreign tags rest) = tags_bytes tags ++ rest

abbrev pub message_bytes : MessageShape → List ℕ
message_bytes m = string_bytes m.address ++ body_bytes m.body

-- `#bundle` and a null byte
abbrev pub bundle_head : List ℕ
bundle_head = 35 ∷ 98 ∷ 117 ∷ 110 ∷ 100 ∷ 108 ∷ 101 ∷ 0 ∷ []

abbrev mutual
  pub packet_bytes : Shape → List ℕ
  packet_bytes (message m) = message_bytes m
  packet_bytes (bundle tag inner) = bundle_head ++ to_be_bytes w64 tag ++ elements_bytes inner

  -- each a size and a packet of that size
  pub elements_bytes : Shapes → List ℕ
  elements_bytes none = []
  elements_bytes (more x xs) = to_be_bytes w32 (length (packet_bytes x)) ++ packet_bytes x ++ elements_bytes xs

-- ---- which packets have a spelling

abbrev pub has_no_null : List ℕ → Bool
has_no_null s = list_all (λ b. not (b == 0)) s

abbrev pub begins_with : ℕ → List ℕ → Bool
begins_with b [] = false
begins_with b (x ∷ xs) = x == b

-- the range of 32 bits, two's complement
abbrev pub fits_int : ℤ → Bool
fits_int (pos n) = nat_lt n (2 ^ 31)
fits_int (negsuc n) = nat_lt n (2 ^ 31)

abbrev pub is_argument : Argument → Bool
is_argument (int n) = fits_int n
is_argument (string s) = has_no_null s
is_argument (blob b) = true

-- `i`, `s` or `b`
abbrev pub is_argument_tag : ℕ → Bool
is_argument_tag tag = if tag == 105 then true else if tag == 115 then true else tag == 98

abbrev pub is_body : BodyShape → Bool
is_body bare = true
is_body (arguments xs) = list_all is_argument xs
is_body (foreign tags rest) = has_no_null tags && not (list_all is_argument_tag tags) && length rest % 4 == 0

abbrev pub is_message : MessageShape → Bool
is_message m = begins_with 47 m.address && has_no_null m.address && is_body m.body

-- An enclosed tag of 1 counts as the tag that the enclosing bundle counts as.
abbrev pub counts_as : ℕ → ℕ → ℕ
counts_as around tag = if tag == 1 then around else tag

-- An enclosed tag may be earlier than the enclosing bundle's only if one of the two is 1.
abbrev pub is_early : ℕ → ℕ → Bool
is_early around tag = not (tag == 1) && not (around == 1) && nat_lt tag around

abbrev mutual
  -- a packet in a bundle that counts as around, in which bundles may nest so deep
  pub is_packet : ℕ → ℕ → Shape → Bool
  is_packet deep around (message m) = is_message m
  is_packet zero around (bundle tag inner) = false
  is_packet (suc deep) around (bundle tag inner) = nat_lt tag (2 ^ 64) && not (is_early around tag) && are_packets deep (counts_as around tag) inner

  pub are_packets : ℕ → ℕ → Shapes → Bool
  are_packets deep around none = true
  are_packets deep around (more x xs) = is_packet deep around x && are_packets deep around xs

-- ---- frames

-- Over a stream each packet is preceded by its int32 size.
abbrev pub frame_bytes : List ℕ → List ℕ
frame_bytes packet = to_be_bytes w32 (length packet) ++ packet
