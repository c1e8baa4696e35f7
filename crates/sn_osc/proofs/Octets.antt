-- The bytes of a packet whose texts hold octets are octets.
use Rattle.std.proofs.Common.{◌≡◌, ℕ, zero, suc, ◌+◌, ◌-◌, ◌/◌, ◌%◌, ◌^◌, ◌<◌, ◌≤◌, true, ltb, List, [], ◌∷◌, ◌++◌, length, get_or, drop, map, replicate, refl, sym, ap, ◌∙◌, append_assoc, arith}
use Rattle.std.specs.Int.{w32, w64, to_be_bytes, byte_at, bytes_high_first}
use Rattle.std.proofs.lemmas.Bool.{lt-ltb}
use Rattle.std.proofs.lemmas.List.{drop_more, at_drop_all, length-append}
use Rattle.std.proofs.lemmas.List.Folds.{list_all-append}
use Rattle.sn_osc.specs.declared.packet.Arg.{Arg}
use Rattle.sn_osc.specs.declared.packet.Packet.{Packet}
use Rattle.sn_osc.specs.Shape.{Argument, int, string, blob, Shape, Shapes, bundle, more, argument_of, shape, shapes}
use Rattle.sn_osc.specs.Bytes.{are_octets, string_bytes, blob_bytes, argument_bytes, arguments_bytes, tag_of, bundle_head, packet_bytes, elements_bytes}

below : (x : ℕ) → x % 256 < 256
below x = omega arith

octet_at : (i n : ℕ) → ltb (byte_at i n) 256 ≡ true
octet_at zero n = lt-ltb _ _ (below n)
octet_at (suc i) n = lt-ltb _ _ (below (n / 256 ^ suc i))

pub octets_of_number : (k n : ℕ) → are_octets (bytes_high_first k n) ≡ true
octets_of_number zero n = refl
octets_of_number (suc k) n = rw (octet_at k n, octets_of_number k n) refl

pub octets_from : (bytes : List ℕ) → ((i : ℕ) → get_or bytes i 0 < 256) → are_octets bytes ≡ true
octets_from [] h = refl
octets_from (b ∷ bytes) h = rw (lt-ltb b 256 (h 0), octets_from bytes (λ i. h (suc i))) refl

pub octets_joined : (a b : List ℕ) → are_octets a ≡ true → are_octets b ≡ true → are_octets (a ++ b) ≡ true
octets_joined a b h k = list_all-append (λ x. ltb x 256) a b ∙ rw (h, k) refl

zeros : (n : ℕ) → are_octets (replicate n 0) ≡ true
zeros zero = refl
zeros (suc n) = zeros n

pub string_octets : (s : List ℕ) → are_octets s ≡ true → are_octets (string_bytes s) ≡ true
string_octets s h = octets_joined s (replicate (4 - length s % 4) 0) h (zeros (4 - length s % 4))

pub blob_octets : (b : List ℕ) → are_octets b ≡ true → are_octets (blob_bytes b) ≡ true
blob_octets b h =
    let size = to_be_bytes w32 (length b) in
    octets_joined (size ++ b) (replicate ((4 - length b % 4) % 4) 0) (octets_joined size b (octets_of_number 4 (length b)) h) (zeros ((4 - length b % 4) % 4))

tags : (xs : List Argument) → are_octets (map tag_of xs) ≡ true
tags [] = refl
tags (int n ∷ xs) = tags xs
tags (string s ∷ xs) = tags xs
tags (blob b ∷ xs) = tags xs

pub tags_octets : (xs : List Argument) → are_octets (string_bytes (44 ∷ map tag_of xs)) ≡ true
tags_octets xs = string_octets (44 ∷ map tag_of xs) (tags xs)

pub bundle_octets : (tag : ℕ) (inner : Shapes) → are_octets (elements_bytes inner) ≡ true → are_octets (packet_bytes (bundle tag inner)) ≡ true
bundle_octets tag inner h = octets_joined (bundle_head ++ to_be_bytes w64 tag) (elements_bytes inner) (octets_joined bundle_head (to_be_bytes w64 tag) refl (octets_of_number 8 tag)) h

pub element_octets : (x : Shape) (xs : Shapes) → are_octets (packet_bytes x) ≡ true → are_octets (elements_bytes xs) ≡ true → are_octets (elements_bytes (more x xs)) ≡ true
element_octets x xs h k =
    let size = to_be_bytes w32 (length (packet_bytes x)) in
    octets_joined (size ++ packet_bytes x) (elements_bytes xs) (octets_joined size (packet_bytes x) (octets_of_number 4 (length (packet_bytes x))) h) k

-- ---- loops

pub arguments_next : (xs : List Arg) (x : Arg) (i : ℕ) (P : Type 0) → i < length xs → x ≡ get_or xs i x → are_octets (argument_bytes (argument_of x)) ≡ true
    → (are_octets (arguments_bytes (map argument_of (drop i xs))) ≡ true → P) → are_octets (arguments_bytes (map argument_of (drop (i + 1) xs))) ≡ true → P
arguments_next xs x i P lt is first all rest =
    let at : drop i xs ≡ x ∷ drop (i + 1) xs = drop_more xs i x lt ∙ ap (λ (y : Arg). y ∷ drop (i + 1) xs) (sym is) in
    all (ap (λ (ys : List Arg). are_octets (arguments_bytes (map argument_of ys))) at ∙ octets_joined (argument_bytes (argument_of x)) (arguments_bytes (map argument_of (drop (i + 1) xs))) first rest)

pub arguments_end : (xs : List Arg) (i : ℕ) (P : Type 0) → length xs ≤ i → (are_octets (arguments_bytes (map argument_of (drop i xs))) ≡ true → P) → P
arguments_end xs i P le all = all (at_drop_all (λ (ys : List Arg). are_octets (arguments_bytes (map argument_of ys))) xs i le)

pub arguments_fewer : (xs : List Arg) (x : Arg) (i : ℕ) → i < length xs → x ≡ get_or xs i x
    → length (arguments_bytes (map argument_of (drop i xs))) ≡ length (argument_bytes (argument_of x)) + length (arguments_bytes (map argument_of (drop (i + 1) xs)))
arguments_fewer xs x i lt is =
    ap (λ (ys : List Arg). length (arguments_bytes (map argument_of ys))) (drop_more xs i x lt ∙ ap (λ (y : Arg). y ∷ drop (i + 1) xs) (sym is))
    ∙ length-append (argument_bytes (argument_of x)) (arguments_bytes (map argument_of (drop (i + 1) xs)))

pub arguments_put : (xs : List Arg) (x : Arg) (i : ℕ) (before now whole : List ℕ) → i < length xs → x ≡ get_or xs i x → now ≡ before ++ argument_bytes (argument_of x)
    → before ++ arguments_bytes (map argument_of (drop i xs)) ≡ whole → now ++ arguments_bytes (map argument_of (drop (i + 1) xs)) ≡ whole
arguments_put xs x i before now whole lt is put so_far =
    let rest = arguments_bytes (map argument_of (drop (i + 1) xs)) in
    let at : drop i xs ≡ x ∷ drop (i + 1) xs = drop_more xs i x lt ∙ ap (λ (y : Arg). y ∷ drop (i + 1) xs) (sym is) in
    ap (λ (l : List ℕ). l ++ rest) put ∙ append_assoc before (argument_bytes (argument_of x)) rest ∙ sym (ap (λ (ys : List Arg). before ++ arguments_bytes (map argument_of ys)) at) ∙ so_far

-- the elements are those of a list that is the same
behind_first : (xs ys : List Packet) (x : Packet) (i : ℕ) → ys ≡ xs → i < length ys → x ≡ get_or ys i x → drop i xs ≡ x ∷ drop (i + 1) xs
behind_first xs ys x i same lt is =
    ap (λ (zs : List Packet). drop i zs) (sym same) ∙ drop_more ys i x lt ∙ ap (λ (y : Packet). y ∷ drop (i + 1) ys) (sym is) ∙ ap (λ (zs : List Packet). x ∷ drop (i + 1) zs) same

pub elements_next : (xs ys : List Packet) (x : Packet) (i : ℕ) (P : Type 0) → ys ≡ xs → i < length ys → x ≡ get_or ys i x → are_octets (packet_bytes (shape x)) ≡ true
    → (are_octets (elements_bytes (shapes (drop i xs))) ≡ true → P) → are_octets (elements_bytes (shapes (drop (i + 1) xs))) ≡ true → P
elements_next xs ys x i P same lt is first all rest =
    all (ap (λ (zs : List Packet). are_octets (elements_bytes (shapes zs))) (behind_first xs ys x i same lt is) ∙ element_octets (shape x) (shapes (drop (i + 1) xs)) first rest)

pub elements_end : (xs : List Packet) (i : ℕ) (P : Type 0) → length xs ≤ i → (are_octets (elements_bytes (shapes (drop i xs))) ≡ true → P) → P
elements_end xs i P le all = all (at_drop_all (λ (zs : List Packet). are_octets (elements_bytes (shapes zs))) xs i le)

pub elements_fewer : (xs ys : List Packet) (x : Packet) (i : ℕ) → ys ≡ xs → i < length ys → x ≡ get_or ys i x
    → length (elements_bytes (shapes (drop i xs))) ≡ 4 + length (packet_bytes (shape x)) + length (elements_bytes (shapes (drop (i + 1) xs)))
elements_fewer xs ys x i same lt is =
    let size = to_be_bytes w32 (length (packet_bytes (shape x))) in
    ap (λ (zs : List Packet). length (elements_bytes (shapes zs))) (behind_first xs ys x i same lt is)
    ∙ omega (arith, length-append (size ++ packet_bytes (shape x)) (elements_bytes (shapes (drop (i + 1) xs))), length-append size (packet_bytes (shape x)))
