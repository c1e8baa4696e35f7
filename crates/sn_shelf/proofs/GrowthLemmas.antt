-- Packets that take in samples stay valid, and are not much longer.
use Rattle.std.proofs.Common.{◌≡◌, ◌≤◌, ◌<◌, ◌+◌, ◌-◌, ◌*◌, ◌^◌, ◌%◌, ℕ, zero, suc, ℤ, pos, List, [], ◌∷◌, ◌++◌, length, map, Option, Some, None, Bool, true, false, ◌&&◌, not, refl, sym, ap, ◌∙◌, subst, arith, codes, replicate, le_refl}
use Rattle.std.specs.Prelude.{IfSome, option_map, option_to_list, if◌then◌else◌, bytes_eq, nat_lt}
use Rattle.std.specs.List.{flat_map, list_all}
use Rattle.std.specs.Int.{w32, w64, to_be_bytes}
use Rattle.std.proofs.lemmas.Nat.{mul-le}
use Rattle.std.proofs.lemmas.Bool.{lt-ltb, and_from}
use Rattle.std.proofs.lemmas.List.{length-append, length-map, length-replicate}
use Rattle.sn_osc.specs.Shape.{Argument, int, string, blob, BodyShape, bare, arguments, foreign, MessageShape, Shape, Shapes, message, bundle, none, more, shape, shapes}
use Rattle.sn_osc.specs.declared.packet.Packet.{Packet}
use Rattle.sn_osc.specs.Bytes.{int_bytes, string_bytes, blob_bytes, arguments_bytes, tag_of, tags_bytes, body_bytes, message_bytes, bundle_head, packet_bytes, elements_bytes, has_no_null, begins_with, fits_int, is_argument, is_body, is_message, is_packet, are_packets, is_early, counts_as}
use Rattle.sn_osc.specs.Grammar.{Spells}
use Rattle.sn_osc.proofs.Fields.{and_yes}
use Rattle.sn_osc.proofs.Encoded.{spellable_is, spellable_tests, is_spelled, packet_is}
use Rattle.sn_shelf.specs.declared.waves.Recording.{Recording}
use Rattle.sn_shelf.specs.Files.{File, bytes_named, within_limit}
use Rattle.sn_shelf.specs.Waves.{Wave}
use Rattle.sn_shelf.specs.WaveViews.{heard, IsWhole}
use Rattle.sn_shelf.specs.Expanded.{Request, part_in, expanded_message, optional_int, completion_in, with_path, requested_by, request_of, frames_of, with_samples, filled}
use Rattle.sn_shelf.specs.Growth.{MessageGrows, Grows, AllGrow, IsSpelledWithin}
use Rattle.sn_shelf.proofs.ExpandedLemmas.{then_one, shapes-last, told_filled}
use Rattle.sn_shelf.proofs.PartLemmas.{heard_count, heard_frames}

-- ---- what a request stands in

abbrev completing : Request → List Argument
completing r = option_to_list (option_map blob r.completion)

-- a number and a string, and among what follows the completion message
record IsAsked (r : Request) (body : BodyShape) : Type 0 where
  rest : List Argument
  body_is : body ≡ arguments (int r.number ∷ string r.path ∷ rest)
  longer : length (arguments_bytes (completing r)) ≤ length (arguments_bytes rest)

mapped : {A B : Type 0} (f : A → B) (o : Option A) (y : B) → option_map f o ≡ Some y → (x : A) × (o ≡ Some x) × (f x ≡ y)
mapped f None y e = absurd cc
mapped f (Some x) y e = (x, refl, cc)

completion_len : (xs : List Argument) (c : Option (List ℕ)) → completion_in xs ≡ Some c → length (arguments_bytes (option_to_list (option_map blob c))) ≤ length (arguments_bytes xs)
completion_len [] c e = let is : c ≡ None = cc in subst (λ (o : Option (List ℕ)). length (arguments_bytes (option_to_list (option_map blob o))) ≤ 0) (sym is) (omega arith)
completion_len (blob b ∷ []) c e = let is : c ≡ Some b = cc in subst (λ (o : Option (List ℕ)). length (arguments_bytes (option_to_list (option_map blob o))) ≤ length (arguments_bytes (blob b ∷ []))) (sym is) (omega arith)
completion_len (blob b ∷ x ∷ xs) c e = absurd cc
completion_len (int n ∷ xs) c e = absurd cc
completion_len (string s ∷ xs) c e = absurd cc

optional_len : (xs : List Argument) → length (arguments_bytes (optional_int xs).1) ≤ length (arguments_bytes xs)
optional_len [] = omega arith
optional_len (int n ∷ xs) = omega (arith, length-append (int_bytes n) (arguments_bytes xs))
optional_len (string s ∷ xs) = omega arith
optional_len (blob b ∷ xs) = omega arith

asked_of : (r : Request) (n : ℤ) (path : List ℕ) (rest : List Argument) → with_path n path rest ≡ Some r → IsAsked r (arguments (int n ∷ string path ∷ rest))
asked_of r n path rest e =
    let last = (optional_int (optional_int rest).1).1 in
    let m = mapped _ (completion_in last) r e in
    let c = m.0 in
    let less : length (arguments_bytes (option_to_list (option_map blob c))) ≤ length (arguments_bytes rest) = omega (arith, completion_len last c m.1, optional_len rest, optional_len (optional_int rest).1) in
    subst (λ (q : Request). IsAsked q (arguments (int n ∷ string path ∷ rest))) m.2 (record { rest = rest; body_is = refl; longer = less })

asked_by : (r : Request) (body : BodyShape) → requested_by body ≡ Some r → IsAsked r body
asked_by r bare e = absurd cc
asked_by r (foreign tags rest) e = absurd cc
asked_by r (arguments []) e = absurd cc
asked_by r (arguments (string s ∷ xs)) e = absurd cc
asked_by r (arguments (blob b ∷ xs)) e = absurd cc
asked_by r (arguments (int n ∷ [])) e = absurd cc
asked_by r (arguments (int n ∷ int k ∷ xs)) e = absurd cc
asked_by r (arguments (int n ∷ blob b ∷ xs)) e = absurd cc
asked_by r (arguments (int n ∷ string path ∷ rest)) e = asked_of r n path rest e

chosen : {A : Type 0} (b : Bool) (o : Option A) (y : A) → (if b then o else None) ≡ Some y → o ≡ Some y
chosen true o y e = e
chosen false o y e = absurd cc

asked_in : (m : MessageShape) (r : Request) → request_of m ≡ Some r → IsAsked r m.body
asked_in m r e = asked_by r m.body (chosen (bytes_eq m.address (codes "/b_allocRead")) (requested_by m.body) r e)

-- ---- lengths

samples_len : (xs : List ℤ) → length (flat_map int_bytes xs) ≡ 4 * length xs
samples_len [] = refl
samples_len (x ∷ xs) = omega (arith, length-append (int_bytes x) (flat_map int_bytes xs), samples_len xs)

string_len : (s : List ℕ) → length (string_bytes s) ≡ length s + (4 - length s % 4)
string_len s = omega (arith, length-append s (replicate (4 - length s % 4) 0), length-replicate {A = ℕ} (4 - length s % 4) 0)

blob_len : (b : List ℕ) (k : ℕ) → length b ≡ 4 * k → length (blob_bytes b) ≡ 4 + 4 * k
blob_len b k is =
    let pad : (4 - length b % 4) % 4 ≡ 0 = omega (arith, is) in
    omega (arith, is, pad, length-append (to_be_bytes w32 (length b) ++ b) (replicate ((4 - length b % 4) % 4) 0), length-append (to_be_bytes w32 (length b)) b, length-replicate {A = ℕ} ((4 - length b % 4) % 4) 0)

tags_few : (tags : List ℕ) → length tags < 7 → 3 ≤ length tags → length (tags_bytes tags) ≡ 8
tags_few tags few some = omega (arith, few, some, string_len (44 ∷ tags))

-- the number of completion messages
completing_few : (r : Request) → length (completing r) ≤ 1
completing_few r = of r.completion
  where
    of : (c : Option (List ℕ)) → length (option_to_list (option_map blob c)) ≤ 1
    of None = omega arith
    of (Some b) = omega arith

int_len : (n : ℤ) (xs : List Argument) → length (arguments_bytes (int n ∷ xs)) ≡ 4 + length (arguments_bytes xs)
int_len n xs = omega (arith, length-append (int_bytes n) (arguments_bytes xs))

with_samples_len : (r : Request) (part : Wave) → length (body_bytes (arguments (with_samples r part))) ≡ 24 + 4 * length part.samples + length (arguments_bytes (completing r))
with_samples_len r part =
    let samples = flat_map int_bytes part.samples in
    let last = blob samples ∷ completing r in
    let two = int (pos part.channels) ∷ last in
    let three = int (pos (frames_of part)) ∷ two in
    let tags = map tag_of (with_samples r part) in
    let count : length tags ≡ 4 + length (completing r) = omega (arith, length-map (completing r) tag_of) in
    let eight : length (tags_bytes tags) ≡ 8 = tags_few tags (omega (arith, count, completing_few r)) (omega (arith, count)) in
    let carried : length (arguments_bytes last) ≡ 4 + 4 * length part.samples + length (arguments_bytes (completing r)) =
    omega (arith, blob_len samples (length part.samples) (samples_len part.samples), length-append (blob_bytes samples) (arguments_bytes (completing r))) in
    omega (arith, eight, carried, int_len (pos part.channels) last, int_len (pos (frames_of part)) two, int_len r.number three, length-append (tags_bytes tags) (arguments_bytes (with_samples r part)))

asked_len : (r : Request) (body : BodyShape) → IsAsked r body → 12 + length (arguments_bytes (completing r)) ≤ length (body_bytes body)
asked_len r body a =
    let others = string r.path ∷ a.rest in
    let xs = int r.number ∷ others in
    let tags = map tag_of xs in
    let whole : length (body_bytes body) ≡ length (tags_bytes tags) + length (arguments_bytes xs) = ap (λ (b : BodyShape). length (body_bytes b)) a.body_is ∙ length-append (tags_bytes tags) (arguments_bytes xs) in
    let some : 4 ≤ length (tags_bytes tags) = omega (arith, string_len (44 ∷ tags)) in
    let path : 4 ≤ length (string_bytes r.path) = omega (arith, string_len r.path) in
    omega (arith, whole, some, path, a.longer, int_len r.number others, length-append (string_bytes r.path) (arguments_bytes a.rest))

-- ---- messages

few_int : (n : ℕ) → n < 2 ^ 31 → fits_int (pos n) ≡ true
few_int n few = lt-ltb n (2 ^ 31) few

number_fits : (r : Request) (body : BodyShape) → IsAsked r body → is_body body ≡ true → fits_int r.number ≡ true
number_fits r body a valid =
    let xs = string r.path ∷ a.rest in
    let is : is_body (arguments (int r.number ∷ xs)) ≡ true = ap is_body (sym a.body_is) ∙ valid in
    (and_yes (fits_int r.number) (list_all is_argument xs) is).0

completing_valid : (r : Request) → list_all is_argument (completing r) ≡ true
completing_valid r = of r.completion
  where
    of : (c : Option (List ℕ)) → list_all is_argument (option_to_list (option_map blob c)) ≡ true
    of None = refl
    of (Some b) = refl

pub filled_grows : (m new : MessageShape) (r : Request) (part : Wave) (room after : ℕ) → request_of m ≡ Some r → part.channels < 2 ^ 31 → frames_of part < 2 ^ 31 → length part.samples ≤ room
    → new ≡ (filled m room r part).0 → after ≡ room - length part.samples → MessageGrows m new room after
filled_grows m new r part room after asks channels frames fits is less =
    let a = asked_in m r asks in
    let body = arguments (with_samples r part) in
    let whole : length (message_bytes new) ≡ length (string_bytes m.address) + length (body_bytes body) = ap (λ (x : MessageShape). length (message_bytes x)) is ∙ length-append (string_bytes m.address) (body_bytes body) in
    record {
      valid = λ v.
          let parts = and_yes (begins_with 47 m.address && has_no_null m.address) (is_body m.body) v in
          let number = number_fits r m.body a parts.1 in
          let all : is_body body ≡ true = and_from _ _ number (and_from _ _ (few_int (frames_of part) frames) (and_from _ _ (few_int part.channels channels) (completing_valid r))) in
          ap is_message is ∙ and_from _ _ parts.0 all;
      bytes = omega (arith, whole, less, fits, with_samples_len r part, asked_len r m.body a, length-append (string_bytes m.address) (body_bytes m.body));
    }

pub stays : (m : MessageShape) (room : ℕ) → MessageGrows m m room room
stays m room = record { valid = λ v. v; bytes = omega arith }

-- ---- packets

pub message_grows : (m new : MessageShape) (room after : ℕ) → MessageGrows m new room after → Grows (message m) (message new) room after
message_grows m new room after g = record { valid = λ deep around v. g.valid v; bytes = g.bytes }

bundle_len : (tag : ℕ) (inner : Shapes) → length (packet_bytes (bundle tag inner)) ≡ 16 + length (elements_bytes inner)
bundle_len tag inner = omega (arith, length-append (bundle_head ++ to_be_bytes w64 tag) (elements_bytes inner), length-append bundle_head (to_be_bytes w64 tag))

inside_valid : (tag : ℕ) (inner new : Shapes) → ((deep around : ℕ) → are_packets deep around inner ≡ true → are_packets deep around new ≡ true) → (deep around : ℕ) → is_packet deep around (bundle tag inner) ≡ true → is_packet deep around (bundle tag new) ≡ true
inside_valid tag inner new f zero around v = absurd cc
inside_valid tag inner new f (suc deep) around v =
    let parts = and_yes (nat_lt tag (2 ^ 64) && not (is_early around tag)) (are_packets deep (counts_as around tag) inner) v in
    and_from _ _ parts.0 (f deep (counts_as around tag) parts.1)

bundle_grows : (tag : ℕ) (inner new : Shapes) (room after : ℕ) → AllGrow inner new room after → Grows (bundle tag inner) (bundle tag new) room after
bundle_grows tag inner new room after g = record {
  valid = inside_valid tag inner new g.valid;
  bytes = omega (arith, g.bytes, bundle_len tag inner, bundle_len tag new);
}

pub bundle_grows_as : (tag : ℕ) (inner new : Shapes) (x y : Shape) (room after : ℕ) → x ≡ bundle tag inner → y ≡ bundle tag new → AllGrow inner new room after → Grows x y room after
bundle_grows_as tag inner new x y room after is made g =
    subst (λ (s : Shape). Grows s y room after) (sym is) (subst (λ (s : Shape). Grows (bundle tag inner) s room after) (sym made) (bundle_grows tag inner new room after g))

element_len : (x : Shape) (xs : Shapes) → length (elements_bytes (more x xs)) ≡ 4 + length (packet_bytes x) + length (elements_bytes xs)
element_len x xs = omega (arith, length-append (to_be_bytes w32 (length (packet_bytes x)) ++ packet_bytes x) (elements_bytes xs), length-append (to_be_bytes w32 (length (packet_bytes x))) (packet_bytes x))

last_len : (xs : Shapes) (y : Shape) → length (elements_bytes (then_one xs y)) ≡ length (elements_bytes xs) + 4 + length (packet_bytes y)
last_len none y = omega (arith, element_len y none)
last_len (more x xs) y = omega (arith, element_len x (then_one xs y), element_len x xs, last_len xs y)

last_parts : (deep around : ℕ) (xs : Shapes) (y : Shape) → are_packets deep around (then_one xs y) ≡ true → (are_packets deep around xs ≡ true) × (is_packet deep around y ≡ true)
last_parts deep around none y v = (refl, (and_yes (is_packet deep around y) true v).0)
last_parts deep around (more x xs) y v =
    let first = and_yes (is_packet deep around x) (are_packets deep around (then_one xs y)) v in
    let others = last_parts deep around xs y first.1 in
    (and_from _ _ first.0 others.0, others.1)

last_whole : (deep around : ℕ) (xs : Shapes) (y : Shape) → are_packets deep around xs ≡ true → is_packet deep around y ≡ true → are_packets deep around (then_one xs y) ≡ true
last_whole deep around none y all one = and_from _ _ one refl
last_whole deep around (more x xs) y all one =
    let first = and_yes (is_packet deep around x) (are_packets deep around xs) all in
    and_from _ _ first.0 (last_whole deep around xs y first.1 one)

pub last_grows : (xs new : Shapes) (x y : Shape) (room before after : ℕ) → AllGrow xs new room before → Grows x y before after → AllGrow (then_one xs x) (then_one new y) room after
last_grows xs new x y room before after all one = record {
  valid = λ deep around v.
      let parts = last_parts deep around xs x v in
      last_whole deep around new y (all.valid deep around parts.0) (one.valid deep around parts.1);
  bytes = omega (arith, all.bytes, one.bytes, last_len xs x, last_len new y);
}

pub none_grow : (room : ℕ) → AllGrow none none room room
none_grow room = record { valid = λ deep around v. v; bytes = omega arith }

-- a packet that came in a stream is spelled again
pub spelled_again : (x y : Shape) (bytes : List ℕ) (room after : ℕ) → Spells x bytes → length bytes ≤ 65536 → room ≤ 16777216 → after ≤ room → Grows x y room after
    → IsSpelledWithin y (2 * length bytes + 4 * (room - after))
spelled_again x y bytes room after spelled few most less g =
    let tests = spellable_tests x (bytes, spelled, omega (arith, few)) in
    let same : length bytes ≡ length (packet_bytes x) = ap length (packet_is x 8 1 bytes spelled).0 in
    let len : length (packet_bytes y) ≤ 2 * length bytes + 4 * (room - after) = omega (arith, same, g.bytes, less) in
    (packet_bytes y, is_spelled y (spellable_is y (g.valid 8 1 tests.0) (omega (arith, len, few, most))), len)

-- the elements so far, and one more
pub more_grow : (yielded done : List Packet) (packet new : Packet) (room before after : ℕ) → AllGrow (shapes yielded) (shapes done) room before → Grows (shape packet) (shape new) before after
    → AllGrow (shapes (yielded ++ packet ∷ [])) (shapes (done ++ new ∷ [])) room after
more_grow yielded done packet new room before after all one =
    subst (λ (xs : Shapes). AllGrow xs (shapes (done ++ new ∷ [])) room after) (sym (shapes-last yielded packet))
    (subst (λ (ys : Shapes). AllGrow (then_one (shapes yielded) (shape packet)) ys room after) (sym (shapes-last done new))
    (last_grows (shapes yielded) (shapes done) (shape packet) (shape new) room before after all one))

-- ---- a part that was found

few_frames : (p : Recording) (room : ℕ) → IsWhole p → p.frames * p.channels ≤ room → room ≤ 16777216 → frames_of (heard p) < 2 ^ 31
few_frames p room whole fits most = omega (arith, heard_frames p whole, fits, most, mul-le p.frames 1 p.frames p.channels (le_refl p.frames) whole.some_channels)

pub part_grows : (m new : MessageShape) (r : Request) (p : Recording) (room after : ℕ) → request_of m ≡ Some r → IsWhole p → p.frames * p.channels ≤ room → room ≤ 16777216
    → new ≡ (filled m room r (heard p)).0 → after ≡ room - p.frames * p.channels → MessageGrows m new room after
part_grows m new r p room after asks whole fits most is less =
    filled_grows m new r (heard p) room after asks (omega (arith, whole.few_channels)) (few_frames p room whole fits most) (omega (arith, heard_count p, fits)) is (less ∙ ap (λ (n : ℕ). room - n) (sym (heard_count p)))

pub part_told : (told : Option (List File)) (room after : ℕ) (m new : MessageShape) (r : Request) (bytes : List ℕ) (p : Recording) → request_of m ≡ Some r
    → IfSome told (λ fs. Some bytes ≡ within_limit (bytes_named r.path fs)) → part_in room bytes r.start r.frames ≡ Some (heard p)
    → new ≡ (filled m room r (heard p)).0 → after ≡ room - p.frames * p.channels → IfSome told (λ fs. (new, after) ≡ expanded_message fs room m)
part_told told room after m new r bytes p some is given same less =
    told_filled told room after m new r bytes (heard p) some is given same (less ∙ ap (λ (n : ℕ). room - n) (sym (heard_count p)))
