-- If reading a message meets a fault, whole data that the grammar allows stand before it, and then a datum that is at
-- fault.
use Rattle.std.proofs.Common.{◌≡◌, ◌≢◌, ℕ, pos, negsuc, zero, suc, ◌+◌, ◌-◌, ◌%◌, ◌^◌, ◌<◌, ◌≤◌, ◌⊎◌, inl, inr, Bool, true, false, not, cond, ltb, leb, eqb, ◌&&◌, List, [], ◌∷◌, ◌++◌, length, take, drop, map, replicate, Result, Ok, Err, refl, sym, ap, subst, ◌∙◌, append_assoc, append-nil, arith, eq-eqb, take_all}
use Rattle.std.specs.Int.{w32, to_be_bytes, cast_signed}
use Rattle.std.specs.List.{list_all}
use Rattle.std.proofs.lemmas.Bool.{ltb-true, leb-true, leb-false, eqb-true}
use Rattle.std.proofs.lemmas.List.{take-append-drop, length-append, length-take, length-drop, drop_at, drop-take}
use mir.Val.{sel}
use Rattle.sn_osc.specs.declared.fault.PacketFault.{PacketFault}
use Rattle.sn_osc.specs.declared.fault.PacketKind.{PacketKind}
use Rattle.sn_osc.specs.declared.fault.PacketKind.TheVariants.{Unended, Padding, NoTags, ShortArgs, LongArgs, BlobSize}
use Rattle.sn_osc.specs.Shape.{Argument, int, string, blob, bare, arguments, foreign, MessageShape}
use Rattle.sn_osc.specs.Bytes.{tag_of, has_no_null, begins_with, is_argument_tag}
use Rattle.sn_osc.specs.Grammar.{SpellsArgument}
use Rattle.sn_osc.specs.Reading.{◌>>=◌, fault, int_in, size_in, text_len, string_len, null_len, is_ended, padded_at, string_at, blob_len, blob_at, argument_at, arguments_at, tags_at, arguments_in, body_in, message_in}
use Rattle.sn_osc.specs.Faults.{BadPadding, StringFault, IsOver, BlobFault, ArgumentFault, NextArgumentFault, ArgumentsFault, TagsFault, BehindTagsFault, BodyFault, MessageFault}
use Rattle.sn_osc.proofs.Fields.{IsBytes, and_yes, size_back, text_has_none, string_takes, string_len-is}
use Rattle.sn_osc.proofs.Messages.{argument_whole, argument_takes, arguments_take, TagsTaken, tags_take, read_string, read_blob, read_body}

-- ---- steps that failed

pub err_is : {A : Type 0} (g h : PacketFault) → (let r : Result A PacketFault = Err g in r) ≡ Err h → g ≡ h
err_is g h e = cc

pub ok_not_err : {A : Type 0} (x : A) (g : PacketFault) → (let r : Result A PacketFault = Ok x in r) ≡ Err g → ⊥
ok_not_err x g e = cc

pub bind_err : {A B : Type 0} (r : Result A PacketFault) (f : A → Result B PacketFault) (g : PacketFault) → (r >>= f) ≡ Err g → (r ≡ Err g) ⊎ ((x : A) × (r ≡ Ok x) × (f x ≡ Err g))
bind_err (Ok x) f g e = inr (x, refl, e)
bind_err (Err h) f g e = inl (ap (λ (k : PacketFault). Err k) (err_is h g e))

pub guard_err : {A : Type 0} (b : Bool) (g h : PacketFault) (x : Result A PacketFault) → cond b (Err g) x ≡ Err h → ((b ≡ true) × (g ≡ h)) ⊎ ((b ≡ false) × (x ≡ Err h))
guard_err true g h x e = inl (refl, err_is g h e)
guard_err false g h x e = inr (refl, e)

pub unless_err : {A : Type 0} (b : Bool) (g h : PacketFault) (x : Result A PacketFault) → cond b x (Err g) ≡ Err h → ((b ≡ false) × (g ≡ h)) ⊎ ((b ≡ true) × (x ≡ Err h))
unless_err true g h x e = inr (refl, e)
unless_err false g h x e = inl (refl, err_is g h e)

-- ---- padding

abbrev Splits : List ℕ → ℕ → Type 0
Splits xs n = (other : ℕ) × (rest : List ℕ) × (xs ≡ replicate n 0 ++ other ∷ rest) × (other ≢ 0)

pad_step : (x : ℕ) (xs : List ℕ) (b : Bool) → eqb x 0 ≡ b → (null_len xs < length xs → Splits xs (null_len xs)) → cond (not (not b)) (1 + null_len xs) 0 < suc (length xs) → Splits (x ∷ xs) (cond (not (not b)) (1 + null_len xs) 0)
pad_step x xs true e others lt =
    let (other, rest, parts, differs) = others (omega (arith, lt)) in
    let more : suc (null_len xs) ≡ 1 + null_len xs = omega arith in
    let whole : x ∷ xs ≡ replicate (suc (null_len xs)) 0 ++ other ∷ rest = ap (λ (k : ℕ). k ∷ xs) (eqb-true _ _ e) ∙ ap (λ (t : List ℕ). 0 ∷ t) parts in
    subst (Splits (x ∷ xs)) more (other, rest, whole, differs)
pad_step x xs false e others lt = (x, xs, refl, λ is. let t : true ≡ false = sym (eq-eqb x 0 is) ∙ e in cc)

pad_split : (xs : List ℕ) → null_len xs < length xs → Splits xs (null_len xs)
pad_split [] lt = absurd (omega (arith, lt))
pad_split (x ∷ xs) lt = pad_step x xs (eqb x 0) refl (pad_split xs) lt

bad_padding : (at room : ℕ) (bytes : List ℕ) (place : ℕ) → null_len (take room bytes) < length (take room bytes) → place ≡ at + null_len (take room bytes) → BadPadding at room bytes place
bad_padding at room bytes place lt is =
    let (other, rest, parts, differs) = pad_split (take room bytes) lt in
    record {
      nulls = null_len (take room bytes);
      other = other;
      rest = rest ++ drop room bytes;
      parts = sym (take-append-drop room bytes) ∙ ap (λ (t : List ℕ). t ++ drop room bytes) parts ∙ append_assoc (replicate (null_len (take room bytes)) 0) (other ∷ rest) (drop room bytes);
      not_null = differs;
      inside = omega (arith, lt, length-take room bytes);
      there = is;
    }

-- ---- strings

text_step : (x : ℕ) (xs : List ℕ) (b : Bool) → eqb x 0 ≡ b → (text_len xs < length xs → xs ≡ take (text_len xs) xs ++ 0 ∷ drop (suc (text_len xs)) xs) → cond (not b) (1 + text_len xs) 0 < suc (length xs)
    → x ∷ xs ≡ take (cond (not b) (1 + text_len xs) 0) (x ∷ xs) ++ 0 ∷ drop (suc (cond (not b) (1 + text_len xs) 0)) (x ∷ xs)
text_step x xs true e others lt = ap (λ (k : ℕ). k ∷ xs) (eqb-true _ _ e)
text_step x xs false e others lt =
    let more : 1 + text_len xs ≡ suc (text_len xs) = omega arith in
    rw more (ap (λ (t : List ℕ). x ∷ t) (others (omega (arith, lt))))

text_split : (xs : List ℕ) → text_len xs < length xs → xs ≡ take (text_len xs) xs ++ 0 ∷ drop (suc (text_len xs)) xs
text_split [] lt = absurd (omega (arith, lt))
text_split (x ∷ xs) lt = text_step x xs (eqb x 0) refl (text_split xs) lt

has_null : (text rest : List ℕ) → has_no_null (text ++ 0 ∷ rest) ≡ false
has_null [] rest = refl
has_null (x ∷ xs) rest = by_first (not (eqb x 0)) (has_no_null (xs ++ 0 ∷ rest)) (has_null xs rest)
  where
    by_first : (a b : Bool) → b ≡ false → (a && b) ≡ false
    by_first true b e = e
    by_first false b e = refl

ended_below : (bytes : List ℕ) → is_ended bytes ≡ true → text_len bytes < length bytes
ended_below bytes e = omega (arith, leb-true _ _ e)

pub ended_null : (bytes : List ℕ) → is_ended bytes ≡ true → has_no_null bytes ≡ false
ended_null bytes e = ap has_no_null (text_split bytes (ended_below bytes e)) ∙ has_null (take (text_len bytes) bytes) (drop (suc (text_len bytes)) bytes)

-- what is wrong with a string, by whether its end is there
abbrev StringErr : ℕ → List ℕ → PacketFault → Type 0
StringErr at bytes g =
    ((is_ended bytes ≡ false) × (record { kind = Unended; place = at } ≡ g) × StringFault at bytes Unended at)
    ⊎ ((place : ℕ) × (is_ended bytes ≡ true) × (record { kind = Padding; place = place } ≡ g) × StringFault at bytes Padding place)

unended : (at : ℕ) (bytes : List ℕ) → length bytes % 4 ≡ 0 → is_ended bytes ≡ false → StringFault at bytes Unended at
unended at bytes whole e =
    let le : length bytes ≤ text_len bytes = omega (arith, leb-false _ _ e, whole) in
    (ap has_no_null (sym (take_all (text_len bytes) bytes le)) ∙ text_has_none bytes, refl)

bad_string : (end at : ℕ) (bytes : List ℕ) → at + length bytes ≡ end → is_ended bytes ≡ true
    → (let padding = drop (text_len bytes) (take (string_len (text_len bytes)) bytes) in null_len padding < length padding → StringFault at bytes Padding (end - length bytes + (text_len bytes + null_len padding)))
bad_string end at bytes is ended lt =
    let n = text_len bytes in
    let text = take n bytes in
    let rest = drop (suc n) bytes in
    let below = ended_below bytes ended in
    let len : length text ≡ n = omega (arith, length-take n bytes, below) in
    let room = 3 - length text % 4 in
    let parts : bytes ≡ text ++ 0 ∷ rest = text_split bytes below in
    let behind : drop n bytes ≡ 0 ∷ rest = ap (drop n) parts ∙ drop_at text (0 ∷ rest) n len in
    let many : 4 - n % 4 ≡ suc room = omega (arith, len) in
    let padding : drop n (take (string_len n) bytes) ≡ 0 ∷ take room rest = drop-take n (4 - n % 4) bytes ∙ ap (take (4 - n % 4)) behind ∙ ap (λ (k : ℕ). take k (0 ∷ rest)) many in
    let nulls : null_len (drop n (take (string_len n) bytes)) ≡ 1 + null_len (take room rest) = ap null_len padding in
    (text, rest, text_has_none bytes, parts, bad_padding (at + length text + 1) room rest (end - length bytes + (n + null_len (drop n (take (string_len n) bytes)))) (omega (arith, lt, nulls, ap length padding)) (omega (arith, is, nulls, len)))

pub string_errs : (end at : ℕ) (bytes : List ℕ) (g : PacketFault) → at + length bytes ≡ end → length bytes % 4 ≡ 0 → string_at end bytes ≡ Err g → StringErr at bytes g
unfolding string_at
string_errs end at bytes g is whole e =
    let n = text_len bytes in
    let padding = drop n (take (string_len n) bytes) in
    elim (unless_err (is_ended bytes) (record { kind = Unended; place = end - length bytes }) g (padded_at end n (string_len n) bytes) e) [
      | inl a ↦
          let here : at ≡ end - length bytes = omega (arith, is) in
          inl (a.0, ap (λ (p : ℕ). record { kind = Unended; place = p }) here ∙ a.1, unended at bytes whole a.0)
      | inr a ↦
          elim (guard_err (ltb (null_len padding) (length padding)) (record { kind = Padding; place = end - length bytes + (n + null_len padding) }) g (Ok (take n bytes, drop (string_len n) bytes)) a.1) [
            | inl b ↦ inr (end - length bytes + (n + null_len padding), a.0, b.1, bad_string end at bytes is a.0 (ltb-true _ _ b.0))
            | inr b ↦ absurd (ok_not_err (take n bytes, drop (string_len n) bytes) g b.1)
          ]
    ]

string_fault : (at : ℕ) (bytes : List ℕ) (g : PacketFault) → StringErr at bytes g → StringFault at bytes g.kind g.place
string_fault at bytes g h =
    elim h [
      | inl a ↦ subst (λ (f : PacketFault). StringFault at bytes f.kind f.place) a.1 a.2
      | inr a ↦ subst (λ (f : PacketFault). StringFault at bytes f.kind f.place) a.2 a.3
    ]

-- ---- blobs

over_is : (n left : ℕ) → left < n → IsOver (cast_signed w32 n) left
over_is n left lt = by_sign (ltb n (2 ^ 31))
  where
    by_sign : (b : Bool) → IsOver (sel b (pos n) (negsuc (2 ^ 32 - suc n))) left
    by_sign true = lt
    by_sign false = tt

bad_blob : (at : ℕ) (bytes : List ℕ) (place : ℕ) → IsBytes bytes → 4 ≤ length bytes → blob_len (size_in bytes) ≤ length (drop 4 bytes)
    → (let padding = drop (size_in bytes) (take (blob_len (size_in bytes)) (drop 4 bytes)) in null_len padding < length padding → place ≡ at + 4 + (size_in bytes + null_len padding) → BlobFault at bytes Padding place)
bad_blob at bytes place fits long there lt is =
    let n = size_in bytes in
    let after = drop 4 bytes in
    let inner = take n after in
    let rest = drop n after in
    let len : length inner ≡ n = omega (arith, length-take n after, there) in
    let room = (4 - length inner % 4) % 4 in
    let many : (4 - n % 4) % 4 ≡ room = ap (λ (k : ℕ). (4 - k % 4) % 4) (sym len) in
    let size : take 4 bytes ≡ to_be_bytes w32 (length inner) = sym (size_back bytes fits long) ∙ ap (to_be_bytes w32) (sym len) in
    let parts : bytes ≡ to_be_bytes w32 (length inner) ++ inner ++ rest =
    sym (take-append-drop 4 bytes) ∙ ap (λ (t : List ℕ). t ++ after) size ∙ ap (λ (t : List ℕ). to_be_bytes w32 (length inner) ++ t) (sym (take-append-drop n after)) ∙ sym (append_assoc (to_be_bytes w32 (length inner)) inner rest) in
    let padding : drop n (take (blob_len n) after) ≡ take room rest = drop-take n ((4 - n % 4) % 4) after ∙ ap (λ (k : ℕ). take k rest) many in
    let nulls : null_len (drop n (take (blob_len n) after)) ≡ null_len (take room rest) = ap null_len padding in
    (inner, rest, parts, bad_padding (at + 4 + length inner) room rest place (omega (arith, lt, nulls, ap length padding)) (omega (arith, is, nulls, len)))

blob_faults : (end at : ℕ) (bytes : List ℕ) (g : PacketFault) → at + length bytes ≡ end → length bytes % 4 ≡ 0 → 4 ≤ length bytes → IsBytes bytes → blob_at end bytes ≡ Err g → BlobFault at bytes g.kind g.place
unfolding blob_at
blob_faults end at bytes g is whole long fits e =
    let n = size_in bytes in
    let after = drop 4 bytes in
    let padding = drop n (take (blob_len n) after) in
    let len = length-drop 4 bytes in
    elim (unless_err (leb (blob_len n) (length after)) (record { kind = BlobSize; place = end - length bytes }) g (padded_at end n (blob_len n) after) e) [
      | inl a ↦
          let over : length after < n = omega (arith, leb-false _ _ a.0, whole, len) in
          subst (λ (f : PacketFault). BlobFault at bytes f.kind f.place) a.1 (long, over_is (size_in bytes) (length after) over, omega (arith, is))
      | inr a ↦
          elim (guard_err (ltb (null_len padding) (length padding)) (record { kind = Padding; place = end - length after + (n + null_len padding) }) g (Ok (take n after, drop (blob_len n) after)) a.1) [
            | inl b ↦
                subst (λ (f : PacketFault). BlobFault at bytes f.kind f.place) b.1
                (bad_blob at bytes (end - length after + (n + null_len padding)) fits long (leb-true _ _ a.0) (ltb-true _ _ b.0) (omega (arith, is, len, long)))
            | inr b ↦ absurd (ok_not_err (take n after, drop (blob_len n) after) g b.1)
          ]
    ]

-- ---- arguments

argument_by_tag : (end at tag b : ℕ) (bytes : List ℕ) (g : PacketFault) (i s : Bool) → eqb tag 105 ≡ i → eqb tag 115 ≡ s → cond i true (cond s true (eqb tag 98)) ≡ true → at + length (b ∷ bytes) ≡ end → length (b ∷ bytes) % 4 ≡ 0 → IsBytes (b ∷ bytes)
    → cond i (Ok (int (int_in (b ∷ bytes)), drop 4 (b ∷ bytes))) (cond s (read_string end (b ∷ bytes)) (read_blob end (b ∷ bytes))) ≡ Err g → ArgumentFault at tag (b ∷ bytes) g.kind g.place
argument_by_tag end at tag b bytes g true s is-i is-s known is whole fits e = absurd (ok_not_err (int (int_in (b ∷ bytes)), drop 4 (b ∷ bytes)) g e)
argument_by_tag end at tag b bytes g false true is-i is-s known is whole fits e =
    elim (bind_err (string_at end (b ∷ bytes)) (λ s. Ok (string s.0, s.1)) g e) [
      | inl a ↦ inl (eqb-true _ _ is-s, string_fault at (b ∷ bytes) g (string_errs end at (b ∷ bytes) g is whole a))
      | inr a ↦ absurd (ok_not_err (string a.0.0, a.0.1) g a.2)
    ]
argument_by_tag end at tag b bytes g false false is-i is-s known is whole fits e =
    elim (bind_err (blob_at end (b ∷ bytes)) (λ s. Ok (blob s.0, s.1)) g e) [
      | inl a ↦ inr (eqb-true _ _ known, blob_faults end at (b ∷ bytes) g is whole (omega (arith, whole)) fits a)
      | inr a ↦ absurd (ok_not_err (blob a.0.0, a.0.1) g a.2)
    ]

argument_faults : (end at tag : ℕ) (bytes : List ℕ) (g : PacketFault) → is_argument_tag tag ≡ true → at + length bytes ≡ end → length bytes % 4 ≡ 0 → IsBytes bytes → argument_at end tag bytes ≡ Err g → ArgumentFault at tag bytes g.kind g.place
unfolding argument_at
argument_faults end at tag [] g known is whole fits e =
    let same = err_is (record { kind = ShortArgs; place = end }) g e in
    subst (λ (f : PacketFault). ArgumentFault at tag [] f.kind f.place) same (refl, omega (arith, is))
argument_faults end at tag (b ∷ bytes) g known is whole fits e =
    elim (guard_err (ltb (length (b ∷ bytes)) 4) (record { kind = ShortArgs; place = end }) g (cond (eqb tag 105) (Ok (int (int_in (b ∷ bytes)), drop 4 (b ∷ bytes))) (cond (eqb tag 115) (read_string end (b ∷ bytes)) (read_blob end (b ∷ bytes)))) e) [
      | inl a ↦ absurd (omega (arith, ltb-true _ _ a.0, whole))
      | inr a ↦ argument_by_tag end at tag b bytes g (eqb tag 105) (eqb tag 115) refl refl known is whole fits a.1
    ]

one_before : (at tag : ℕ) (tags bytes front rest : List ℕ) (x : Argument) (kind : PacketKind) (place : ℕ) → SpellsArgument x front → tag_of x ≡ tag → bytes ≡ front ++ rest → ArgumentsFault (at + length front) tags rest kind place → ArgumentsFault at (tag ∷ tags) bytes kind place
one_before at tag tags bytes front rest x kind place spelled is parts h =
    let further : at + length front + length h.front ≡ at + length (front ++ h.front) = omega (arith, length-append front h.front) in
    record {
      before = x ∷ h.before;
      front = front ++ h.front;
      rest = h.rest;
      left = h.left;
      spelled = (front, h.front, spelled, h.spelled, refl);
      parts = parts ∙ ap (λ (t : List ℕ). front ++ t) h.parts ∙ sym (append_assoc front h.front h.rest);
      tagged = ap (λ (t : ℕ). t ∷ tags) (sym is) ∙ ap (λ (ts : List ℕ). tag_of x ∷ ts) h.tagged;
      why = subst (λ (p : ℕ). NextArgumentFault p h.left h.rest kind place) further h.why;
    }

none_before : (at : ℕ) (tags bytes : List ℕ) (kind : PacketKind) (place : ℕ) → NextArgumentFault at tags bytes kind place → ArgumentsFault at tags bytes kind place
none_before at tags bytes kind place h =
    let here : at ≡ at + length {A = ℕ} [] = omega arith in
    record {
      before = [];
      front = [];
      rest = bytes;
      left = tags;
      spelled = refl;
      parts = refl;
      tagged = refl;
      why = subst (λ (p : ℕ). NextArgumentFault p tags bytes kind place) here h;
    }

arguments_faults : (end at : ℕ) (tags bytes : List ℕ) (g : PacketFault) → list_all is_argument_tag tags ≡ true → at + length bytes ≡ end → length bytes % 4 ≡ 0 → length bytes < 2 ^ 31 → IsBytes bytes → arguments_at end tags bytes ≡ Err g → ArgumentsFault at tags bytes g.kind g.place
unfolding arguments_at
arguments_faults end at [] bytes g known is whole small fits e = absurd (ok_not_err ([], bytes) g e)
arguments_faults end at (tag ∷ tags) bytes g known is whole small fits e =
    let tests = and_yes (is_argument_tag tag) (list_all is_argument_tag tags) known in
    elim (bind_err (argument_at end tag bytes) (λ first. arguments_at end tags first.1 >>= λ others. Ok (first.0 ∷ others.0, others.1)) g e) [
      | inl a ↦ none_before at (tag ∷ tags) bytes g.kind g.place (argument_faults end at tag bytes g tests.0 is whole fits a)
      | inr a ↦
          let (front, spelled, tagged, taken) = argument_takes end tag bytes a.0 fits tests.0 small a.1 in
          let len : length bytes ≡ length front + length a.0.1 = ap length taken.parts ∙ length-append front a.0.1 in
          let rest_whole : length a.0.1 % 4 ≡ 0 = omega (arith, len, whole, argument_whole a.0.0 front spelled) in
          elim (bind_err (arguments_at end tags a.0.1) (λ others. Ok (a.0.0 ∷ others.0, others.1)) g a.2) [
            | inl b ↦
                one_before at tag tags bytes front a.0.1 a.0.0 g.kind g.place spelled tagged taken.parts
                (arguments_faults end (at + length front) tags a.0.1 g tests.1 (omega (arith, is, len)) rest_whole (omega (arith, small, len)) taken.rest_fits b)
            | inr b ↦ absurd (ok_not_err (a.0.0 ∷ b.0.0, b.0.1) g b.2)
          ]
    ]

some_left : (n : ℕ) → eqb n 0 ≡ false → 0 < n
some_left zero e = absurd (let t : true ≡ false = e in cc)
some_left (suc n) e = omega arith

all_faults : (end at : ℕ) (tags bytes : List ℕ) (g : PacketFault) → list_all is_argument_tag tags ≡ true → at + length bytes ≡ end → length bytes % 4 ≡ 0 → length bytes < 2 ^ 31 → IsBytes bytes → arguments_in end tags bytes ≡ Err g → ArgumentsFault at tags bytes g.kind g.place
unfolding arguments_in
all_faults end at tags bytes g known is whole small fits e =
    elim (bind_err (arguments_at end tags bytes) (λ xs. cond (eqb (length xs.1) 0) (Ok xs.0) (fault LongArgs (end - length xs.1))) g e) [
      | inl a ↦ arguments_faults end at tags bytes g known is whole small fits a
      | inr a ↦
          let (front, spelled, tagged, taken) = arguments_take end tags bytes a.0 fits known small a.1 in
          let len : length bytes ≡ length front + length a.0.1 = ap length taken.parts ∙ length-append front a.0.1 in
          elim (unless_err (eqb (length a.0.1) 0) (record { kind = LongArgs; place = end - length a.0.1 }) g (Ok a.0.0) a.2) [
            | inl b ↦ subst (λ (f : PacketFault). ArgumentsFault at tags bytes f.kind f.place) b.1 (record {
              before = a.0.0;
              front = front;
              rest = a.0.1;
              left = [];
              spelled = spelled;
              parts = taken.parts;
              tagged = sym tagged ∙ sym (append-nil (map tag_of a.0.0));
              why = (some_left (length a.0.1) b.0, refl, omega (arith, is, len));
            })
            | inr b ↦ absurd (ok_not_err a.0.0 g b.1)
          ]
    ]

-- ---- the body

tags_faults : (end at : ℕ) (bytes : List ℕ) (g : PacketFault) → at + length bytes ≡ end → length bytes % 4 ≡ 0 → tags_at end bytes ≡ Err g → TagsFault at bytes g.kind g.place
unfolding tags_at
tags_faults end at bytes g is whole e =
    elim (guard_err (is_ended bytes && not (begins_with 44 bytes)) (record { kind = NoTags; place = end - length bytes }) g (string_at end bytes >>= λ tagged. Ok (drop 1 tagged.0, tagged.1)) e) [
      | inl a ↦
          let both = and_yes (is_ended bytes) (not (begins_with 44 bytes)) a.0 in
          subst (λ (f : PacketFault). TagsFault at bytes f.kind f.place) a.1 (ap not (ended_null bytes both.0), both.1, omega (arith, is))
      | inr a ↦
          elim (bind_err (string_at end bytes) (λ tagged. Ok (drop 1 tagged.0, tagged.1)) g a.1) [
            | inl b ↦
                elim (string_errs end at bytes g is whole b) [
                  | inl c ↦ subst (λ (f : PacketFault). TagsFault at bytes f.kind f.place) c.1 c.2
                  | inr c ↦ subst (λ (f : PacketFault). TagsFault at bytes f.kind f.place) c.2 (comma (is_ended bytes) (begins_with 44 bytes) c.1 a.0, c.3)
                ]
            | inr b ↦ absurd (ok_not_err (drop 1 b.0.0, b.0.1) g b.2)
          ]
    ]
  where
    comma : (a b : Bool) → a ≡ true → (a && not b) ≡ false → b ≡ true
    comma true true is e = refl
    comma true false is e = absurd cc
    comma false b is e = absurd cc

body_by_tags : (end at : ℕ) (bytes : List ℕ) (g : PacketFault) (tags : List ℕ × List ℕ) (known : Bool) → list_all is_argument_tag tags.0 ≡ known → at + length bytes ≡ end → length bytes % 4 ≡ 0 → length bytes < 2 ^ 31 → TagsTaken bytes tags
    → read_body end known tags ≡ Err g → BehindTagsFault at bytes g.kind g.place
body_by_tags end at bytes g tags true known is whole small t e =
    let len : length bytes ≡ length t.0 + length tags.1 = ap length t.2.parts ∙ length-append t.0 tags.1 in
    let rest : length tags.1 % 4 ≡ 0 = omega (arith, len, string_len-is (44 ∷ tags.0) t.0 t.1, whole) in
    elim (bind_err (arguments_in end tags.0 tags.1) (λ xs. Ok (arguments xs)) g e) [
      | inl a ↦ record {
        tags = tags.0;
        front = t.0;
        rest = tags.1;
        spelled = t.1;
        known = known;
        parts = t.2.parts;
        why = all_faults end (at + length t.0) tags.0 tags.1 g known (omega (arith, is, len)) rest (omega (arith, small, len)) t.2.rest_fits a;
      }
      | inr a ↦ absurd (ok_not_err (arguments a.0) g a.2)
    ]
body_by_tags end at bytes g tags false known is whole small t e = absurd (ok_not_err (foreign tags.0 tags.1) g e)

body_by_length : (end at : ℕ) (bytes : List ℕ) (g : PacketFault) (none : Bool) → eqb (length bytes) 0 ≡ none → at + length bytes ≡ end → length bytes % 4 ≡ 0 → length bytes < 2 ^ 31 → IsBytes bytes
    → cond none (Ok bare) (tags_at end bytes >>= λ tags. read_body end (list_all is_argument_tag tags.0) tags) ≡ Err g → BodyFault at bytes g.kind g.place
body_by_length end at bytes g true none is whole small fits e = absurd (ok_not_err bare g e)
body_by_length end at bytes g false none is whole small fits e =
    elim (bind_err (tags_at end bytes) (λ tags. read_body end (list_all is_argument_tag tags.0) tags) g e) [
      | inl a ↦ (some_left (length bytes) none, inl (tags_faults end at bytes g is whole a))
      | inr a ↦ (some_left (length bytes) none, inr (body_by_tags end at bytes g a.0 (list_all is_argument_tag a.0.0) refl is whole small (tags_take end bytes a.0 fits a.1) a.2))
    ]

body_faults : (end at : ℕ) (bytes : List ℕ) (g : PacketFault) → at + length bytes ≡ end → length bytes % 4 ≡ 0 → length bytes < 2 ^ 31 → IsBytes bytes → body_in end bytes ≡ Err g → BodyFault at bytes g.kind g.place
unfolding body_in
body_faults end at bytes g is whole small fits e = body_by_length end at bytes g (eqb (length bytes) 0) refl is whole small fits e

-- ---- the message

pub message_faults : (end at : ℕ) (bytes : List ℕ) (g : PacketFault) → at + length bytes ≡ end → length bytes % 4 ≡ 0 → length bytes < 2 ^ 31 → IsBytes bytes → message_in end bytes ≡ Err g → MessageFault at bytes g.kind g.place
unfolding message_in
message_faults end at bytes g is whole small fits e =
    elim (bind_err (string_at end bytes) (λ address. body_in end address.1 >>= λ body. Ok (record { address = address.0; body = body })) g e) [
      | inl a ↦ inl (string_fault at bytes g (string_errs end at bytes g is whole a))
      | inr a ↦
          let (front, spelled, taken) = string_takes end bytes a.0 fits a.1 in
          let len : length bytes ≡ length front + length a.0.1 = ap length taken.parts ∙ length-append front a.0.1 in
          let rest : length a.0.1 % 4 ≡ 0 = omega (arith, len, string_len-is a.0.0 front spelled, whole) in
          elim (bind_err (body_in end a.0.1) (λ body. Ok (record { address = a.0.0; body = body })) g a.2) [
            | inl b ↦ inr (record {
              address = a.0.0;
              front = front;
              rest = a.0.1;
              spelled = spelled;
              parts = taken.parts;
              why = body_faults end (at + length front) a.0.1 g (omega (arith, is, len)) rest (omega (arith, small, len)) taken.rest_fits b;
            })
            | inr b ↦ absurd (ok_not_err {A = MessageShape} (record { address = a.0.0; body = b.0 }) g b.2)
          ]
    ]
