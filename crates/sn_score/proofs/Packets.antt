-- Packets that fit, and rows of packets.
use Rattle.std.proofs.Common.{◌≡◌, ℕ, ◌+◌, ◌≤◌, true, ltb, List, [], ◌∷◌, ◌++◌, length, flat_map, refl, sym, ap, ◌∙◌, append_assoc, append-nil, arith}
use Rattle.std.specs.Int.{w32, w64, to_be_bytes}
use Rattle.std.specs.List.{AllByRecursion}
use Rattle.std.proofs.lemmas.List.{length-append}
use Rattle.std.proofs.lemmas.List.Folds.{list_all-append}
use Rattle.sn_osc.specs.Shape.{Shape, Shapes, bundle, none, more, shapes_from}
use Rattle.sn_osc.specs.Bytes.{are_octets, bundle_head, packet_bytes, elements_bytes, is_packet, are_packets}
use Rattle.sn_osc.proofs.Fields.{and_yes}
use Rattle.sn_osc.proofs.Octets.{element_octets}
use Rattle.sn_osc.proofs.Encoded.{packet_is, packet_spelled}
use Rattle.sn_score.specs.Lines.{packet_text, elements_text}
use Rattle.sn_score.specs.Score.{Fits}

-- ---- all of a list, with one more

pub all_push : {X : Type 0} (P : X → Type 0) (xs : List X) (x : X) → AllByRecursion P xs → P x → AllByRecursion P (xs ++ x ∷ [])
all_push P [] x all p = (p, tt)
all_push P (y ∷ ys) x all p = (all.0, all_push P ys x all.1 p)

-- ---- bytes

pub octets_apart : (a b : List ℕ) → are_octets (a ++ b) ≡ true → (are_octets a ≡ true) × (are_octets b ≡ true)
octets_apart a b h = and_yes (are_octets a) (are_octets b) (sym (list_all-append (λ x. ltb x 256) a b) ∙ h)

-- ---- packets that fit

pub fits_from : (x : Shape) → is_packet 8 1 x ≡ true → are_octets (packet_bytes x) ≡ true → length (packet_bytes x) ≤ 65536 → Fits x
fits_from x h octets few = record { bytes = packet_bytes x; spelled = packet_spelled x 8 1 h (omega (arith, few)); octets = octets; few = few }

pub record Tests (x : Shape) : Type 0 where
  pub allowed : is_packet 8 1 x ≡ true
  pub octets : are_octets (packet_bytes x) ≡ true
  pub few : length (packet_bytes x) ≤ 65536

pub fits_tests : (x : Shape) → Fits x → Tests x
fits_tests x f =
    let p = packet_is x 8 1 f.bytes f.spelled in
    record { allowed = p.1; octets = sym (ap are_octets p.0) ∙ f.octets; few = omega (arith, f.few, ap length p.0) }

-- ---- elements of a row

-- a packet that may stand in a bundle that counts as around, in which bundles may nest so deep
abbrev pub IsElement : ℕ → ℕ → Shape → Type 0
IsElement deep around x = (is_packet deep around x ≡ true) × (are_octets (packet_bytes x) ≡ true)

abbrev pub Elements : ℕ → ℕ → List Shape → Type 0
Elements deep around xs = AllByRecursion (IsElement deep around) xs

pub are_elements : (deep around : ℕ) (xs : List Shape) → Elements deep around xs → (are_packets deep around (shapes_from xs) ≡ true) × (are_octets (elements_bytes (shapes_from xs)) ≡ true)
are_elements deep around [] h = (refl, refl)
are_elements deep around (x ∷ xs) h =
    let others = are_elements deep around xs h.1 in
    (rw (h.0.0, others.0) refl, element_octets x (shapes_from xs) h.0.1 others.1)

pub elements_apart : (deep around : ℕ) (x : Shape) (xs : Shapes) → are_packets deep around (more x xs) ≡ true → are_octets (elements_bytes (more x xs)) ≡ true → IsElement deep around x × (are_packets deep around xs ≡ true) × (are_octets (elements_bytes xs) ≡ true)
elements_apart deep around x xs h k =
    let tests = and_yes (is_packet deep around x) (are_packets deep around xs) h in
    let size = to_be_bytes w32 (length (packet_bytes x)) in
    let octets = octets_apart (size ++ packet_bytes x) (elements_bytes xs) k in
    ((tests.0, (octets_apart size (packet_bytes x) octets.0).1), tests.1, octets.1)

pub inner_octets : (tag : ℕ) (inner : Shapes) → are_octets (packet_bytes (bundle tag inner)) ≡ true → are_octets (elements_bytes inner) ≡ true
inner_octets tag inner h = (octets_apart (bundle_head ++ to_be_bytes w64 tag) (elements_bytes inner) h).1

pub bundle_len : (tag : ℕ) (inner : Shapes) → length (packet_bytes (bundle tag inner)) ≡ 16 + length (elements_bytes inner)
bundle_len tag inner = omega (arith, length-append (bundle_head ++ to_be_bytes w64 tag) (elements_bytes inner), length-append bundle_head (to_be_bytes w64 tag))

pub more_len : (x : Shape) (xs : Shapes) → length (elements_bytes (more x xs)) ≡ 4 + length (packet_bytes x) + length (elements_bytes xs)
more_len x xs =
    let size = to_be_bytes w32 (length (packet_bytes x)) in
    omega (arith, length-append (size ++ packet_bytes x) (elements_bytes xs), length-append size (packet_bytes x))

pub push_len : (xs : List Shape) (x : Shape) → length (elements_bytes (shapes_from (xs ++ x ∷ []))) ≡ length (elements_bytes (shapes_from xs)) + (4 + length (packet_bytes x))
push_len [] x = omega (arith, more_len x none)
push_len (y ∷ ys) x = omega (arith, more_len y (shapes_from ys), more_len y (shapes_from (ys ++ x ∷ [])), push_len ys x)

-- ---- texts

pub elements_as_text : (xs : List Shape) → elements_text (shapes_from xs) ≡ flat_map packet_text xs
elements_as_text [] = refl
elements_as_text (x ∷ xs) = ap (λ (t : List ℕ). packet_text x ++ t) (elements_as_text xs)

pub push_text : (xs : List Shape) (x : Shape) → flat_map packet_text (xs ++ x ∷ []) ≡ flat_map packet_text xs ++ packet_text x
push_text [] x = append-nil (packet_text x)
push_text (y ∷ ys) x = ap (λ (t : List ℕ). packet_text y ++ t) (push_text ys x) ∙ sym (append_assoc (packet_text y) (flat_map packet_text ys) (packet_text x))

-- the elements, as a list
abbrev pub list_of : Shapes → List Shape
list_of none = []
list_of (more x xs) = x ∷ list_of xs

pub shapes_of_list : (xs : Shapes) → shapes_from (list_of xs) ≡ xs
shapes_of_list none = refl
shapes_of_list (more x xs) = ap (more x) (shapes_of_list xs)
