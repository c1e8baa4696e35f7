-- Reading a packet from left to right, up to the first fault. A place is that of a byte in the whole packet; end is the
-- place after the last byte of what is read.
use Rattle.std.specs.Prelude.{◌≡◌, ◌+◌, ◌-◌, ◌%◌, ℕ, zero, suc, ℤ, List, [], ◌∷◌, length, take, drop, Result, Ok, Err, Bool, not, nat_lt, nat_le, ◌==◌, ◌&&◌, ◌||◌, if◌then◌else◌}
use Rattle.std.specs.List.{position_or_len, list_all, starts_with}
use Rattle.std.specs.Int.{w32, w64, from_be_bytes, cast_signed}
use Rattle.sn_ports.specs.Limits.{most_packet, most_bundles}
use Rattle.sn_osc.specs.declared.fault.PacketFault.{PacketFault}
use Rattle.sn_osc.specs.declared.fault.PacketKind.{PacketKind}
use Rattle.sn_osc.specs.declared.fault.PacketKind.TheVariants.{Size, Start, Unended, Padding, NoTags, ShortArgs, LongArgs, BlobSize, ElementSize, Head, NestedEarly, TooDeep}
use Rattle.sn_osc.specs.declared.fault.Undecoded.{Undecoded}
use Rattle.sn_osc.specs.declared.fault.Undecoded.TheVariants as undecoded
use Rattle.sn_osc.specs.Shape.{Argument, int, string, blob, BodyShape, bare, arguments, foreign, MessageShape, Shape, message, bundle, shapes_from}
use Rattle.sn_osc.specs.Bytes.{bundle_head, begins_with, is_argument_tag, counts_as, is_early}

infixl 10 ◌>>=◌
abbrev pub ◌>>=◌ : {A B : Type 0} → Result A PacketFault → (A → Result B PacketFault) → Result B PacketFault
(Ok x) >>= f = f x
(Err e) >>= f = Err e

-- What a function returned, seen by view, is what reading gives, unless memory ran out.
abbrev pub Fails : {Y : Type 0} → Undecoded → Result Y PacketFault → Type 0
Fails undecoded.NoMemory read = Unit {0}
Fails (undecoded.Bad f) read = read ≡ Err f

abbrev pub Gives : {X Y : Type 0} → (X → Y) → Result X Undecoded → Result Y PacketFault → Type 0
Gives view (Ok x) read = read ≡ Ok (view x)
Gives view (Err e) read = Fails e read

abbrev pub fault : {Y : Type 0} → PacketKind → ℕ → Result Y PacketFault
fault kind place = Err (record { kind = kind; place = place })

-- ---- the data of a message

-- the first 4 bytes, signed
abbrev pub int_in : List ℕ → ℤ
int_in bytes = cast_signed w32 (from_be_bytes w32 (take 4 bytes))

abbrev pub size_in : List ℕ → ℕ
size_in bytes = from_be_bytes w32 (take 4 bytes)

-- how many bytes of a string stand before its null bytes, and how many there are with those
abbrev pub text_len : List ℕ → ℕ
text_len bytes = position_or_len (λ b. b == 0) bytes

abbrev pub string_len : ℕ → ℕ
string_len n = n + (4 - n % 4)

-- how many null bytes stand at the start
abbrev pub null_len : List ℕ → ℕ
null_len bytes = position_or_len (λ b. not (b == 0)) bytes

-- the whole string is there
abbrev pub is_ended : List ℕ → Bool
is_ended bytes = nat_le (string_len (text_len bytes)) (length bytes)

-- so many bytes, and the padding after them, of which all is null
abbrev pub padded_at : ℕ → ℕ → ℕ → List ℕ → Result (List ℕ × List ℕ) PacketFault
padded_at end n whole bytes =
    let padding = drop n (take whole bytes) in
    if nat_lt (null_len padding) (length padding) then fault Padding (end - length bytes + (n + null_len padding)) else
    Ok (take n bytes, drop whole bytes)

-- a string, and the bytes after it
unfoldable pub string_at : ℕ → List ℕ → Result (List ℕ × List ℕ) PacketFault
string_at end bytes = if is_ended bytes then padded_at end (text_len bytes) (string_len (text_len bytes)) bytes else fault Unended (end - length bytes)

abbrev pub blob_len : ℕ → ℕ
blob_len n = n + (4 - n % 4) % 4

unfoldable pub blob_at : ℕ → List ℕ → Result (List ℕ × List ℕ) PacketFault
blob_at end bytes = if nat_le (blob_len (size_in bytes)) (length (drop 4 bytes)) then padded_at end (size_in bytes) (blob_len (size_in bytes)) (drop 4 bytes) else fault BlobSize (end - length bytes)

-- the argument of a tag
unfoldable pub argument_at : ℕ → ℕ → List ℕ → Result (Argument × List ℕ) PacketFault
argument_at end tag bytes =
    if nat_lt (length bytes) 4 then fault ShortArgs end else
    if tag == 105 then Ok (int (int_in bytes), drop 4 bytes) else
    if tag == 115 then (do
      s ← string_at end bytes
      Ok (string s.0, s.1)) else (do
        b ← blob_at end bytes
        Ok (blob b.0, b.1))

-- one argument for each tag
unfoldable pub arguments_at : ℕ → List ℕ → List ℕ → Result (List Argument × List ℕ) PacketFault
arguments_at end [] bytes = Ok ([], bytes)
arguments_at end (tag ∷ tags) bytes = do
  first ← argument_at end tag bytes
  others ← arguments_at end tags first.1
  Ok (first.0 ∷ others.0, others.1)

-- the tags after a comma
unfoldable pub tags_at : ℕ → List ℕ → Result (List ℕ × List ℕ) PacketFault
tags_at end bytes = if is_ended bytes && not (begins_with 44 bytes) then fault NoTags (end - length bytes) else (do
  tagged ← string_at end bytes
  Ok (drop 1 tagged.0, tagged.1))

-- all of the bytes
unfoldable pub arguments_in : ℕ → List ℕ → List ℕ → Result (List Argument) PacketFault
arguments_in end tags bytes = do
  xs ← arguments_at end tags bytes
  if length xs.1 == 0 then Ok xs.0 else fault LongArgs (end - length xs.1)

unfoldable pub body_in : ℕ → List ℕ → Result BodyShape PacketFault
body_in end bytes = if length bytes == 0 then Ok bare else (do
  tags ← tags_at end bytes
  if list_all is_argument_tag tags.0 then (do
    xs ← arguments_in end tags.0 tags.1
    Ok (arguments xs)) else Ok (foreign tags.0 tags.1))

unfoldable pub message_in : ℕ → List ℕ → Result MessageShape PacketFault
message_in end bytes = do
  address ← string_at end bytes
  body ← body_in end address.1
  Ok (record { address = address.0; body = body })

-- ---- packets

-- the first element's packet, and the bytes after it
unfoldable pub element_at : ℕ → List ℕ → Result (List ℕ × List ℕ) PacketFault
element_at end bytes =
    let size = size_in bytes in
    let rest = drop 4 bytes in
    if nat_lt (length bytes) 4 || nat_lt size 4 || not (size % 4 == 0) || nat_lt (length rest) size then fault ElementSize (end - length bytes) else
    Ok (take size rest, drop size rest)

-- all of the bytes, in at most so many elements, each read from its bytes and the place after them
unfoldable pub elements_in : (ℕ → List ℕ → Result Shape PacketFault) → ℕ → ℕ → List ℕ → Result (List Shape) PacketFault
elements_in read end n [] = Ok []
elements_in read end zero (b ∷ bytes) = Ok []
elements_in read end (suc n) (b ∷ bytes) = do
  parts ← element_at end (b ∷ bytes)
  first ← read (end - length parts.1) parts.0
  others ← elements_in read end n parts.1
  Ok (first ∷ others)

-- the time tag after the head
abbrev pub tag_in : List ℕ → ℕ
tag_in bytes = from_be_bytes w64 (take 8 (drop 8 bytes))

-- the tag and the elements of a bundle in one that counts as around
unfoldable pub bundle_in : (ℕ → List ℕ → Result Shape PacketFault) → ℕ → ℕ → List ℕ → Result Shape PacketFault
bundle_in read around end bytes =
    let tag = tag_in bytes in
    let rest = drop 16 bytes in
    if is_early around tag then fault NestedEarly (end - length bytes + 8) else (do
      elements ← elements_in read end (length rest) rest
      Ok (bundle tag (shapes_from elements)))

-- 16 bytes and more, that begin with `#bundle` and a null byte
abbrev pub is_headed : List ℕ → Bool
is_headed bytes = nat_le 16 (length bytes) && starts_with (λ a b. a == b) bytes bundle_head

-- a message, or what is read if the head of a bundle stands there
unfoldable pub packet_or : Result Shape PacketFault → ℕ → List ℕ → Result Shape PacketFault
packet_or enclosing end bytes =
    if begins_with 47 bytes then (do
      m ← message_in end bytes
      Ok (message m)) else
    if not (begins_with 35 bytes) then fault Start (end - length bytes) else
    if not (is_headed bytes) then fault Head (end - length bytes) else enclosing

-- a packet in a bundle that counts as around, in which bundles may nest so deep
unfoldable pub packet_in : ℕ → ℕ → ℕ → List ℕ → Result Shape PacketFault
packet_in zero around end bytes = packet_or (fault TooDeep (end - length bytes)) end bytes
packet_in (suc deep) around end bytes = packet_or (bundle_in (packet_in deep (counts_as around (tag_in bytes))) around end bytes) end bytes

-- at least one byte, no more than a packet has, and a multiple of 4
abbrev pub is_packet_size : ℕ → Bool
is_packet_size n = nat_lt 0 n && nat_le n most_packet && n % 4 == 0

-- all of the bytes
unfoldable pub read : List ℕ → Result Shape PacketFault
read bytes = if is_packet_size (length bytes) then packet_in most_bundles 1 (length bytes) bytes else fault Size 0

abbrev pub BadHas : Undecoded → (PacketFault → Type 0) → Type 0
BadHas undecoded.NoMemory P = Unit {0}
BadHas (undecoded.Bad f) P = P f

-- if the bytes are refused, P holds of the fault
abbrev pub IfBad : {X : Type 0} → Result X Undecoded → (PacketFault → Type 0) → Type 0
IfBad (Ok x) P = Unit {0}
IfBad (Err e) P = BadHas e P
