-- The names of the elements of arrays.
use Rattle.std.proofs.Common.{◌≡◌, ℕ, ℤ, suc, ◌+◌, ◌<◌, ◌≤◌, ◌==◌, ◌&&◌, ◌||◌, Bool, true, false, cond, nat_le, List, [], ◌∷◌, ◌++◌, length, map, slice_index, None, refl, sym, ap, subst, ◌∙◌, arith, append_assoc, append-nil, length-append, le-leb, ne_eqb}
use Rattle.std.specs.List.{list_all, list_any}
use Rattle.std.specs.Str.{bytes_eq}
use Rattle.std.specs.Str.Parse.{AllDigits}
use Rattle.std.specs.Char.{digit_value}
use Rattle.std.specs.Fmt.{decimal}
use Rattle.std.proofs.lemmas.Bool.{and_parts, and_from, or_parts, or_from, both_ways, false_from_ne_true}
use Rattle.std.proofs.lemmas.Bool.Decides.{nat_tests}
use Rattle.std.proofs.lemmas.Fmt.{decimal_is_IsNumeral, decimal_injective, length-decimal-le}
use Rattle.std.proofs.lemmas.Str.Parse.{digit_from_value}
use Rattle.std.proofs.lemmas.List.Folds.{list_all-append, list_any-append}
use Rattle.std.proofs.lemmas.Slice.Eq.{bytes_eq-Decides}
use Rattle.sn_def.specs.declared.version.Version.{Version}
use Rattle.sn_def.specs.Definition.{Parameter, place_of, element_name, elements}
use Rattle.sn_def.specs.Drafts.{has_point}
use Rattle.sn_def.specs.Reading.{is_name, is_name_byte, begins_name}
use Rattle.sn_def.specs.Grammar.{is_given_byte, is_given_name, AreDistinct}
use Rattle.sn_def.proofs.Plain.{name_parts}
use Rattle.sn_def.proofs.Distinct.{absent_parts, absent-append, absent-cons, absent-from, absent-none, distinct-push}

-- the name of an element that is not the first
abbrev pub behind : List ℕ → ℕ → List ℕ
behind n k = n ++ 46 ∷ decimal k

-- ---- its bytes

digit_given : (b : ℕ) → digit_value b < 10 → is_given_byte b ≡ true
digit_given b h = let r = digit_from_value b h in grind (arith, nat_tests)

digits_given : (ds : List ℕ) → AllDigits 10 ds → list_all is_given_byte ds ≡ true
digits_given [] h = refl
digits_given (d ∷ ds) h = and_from (is_given_byte d) (list_all is_given_byte ds) (digit_given d h.0) (digits_given ds h.1)

letters_given : (n : List ℕ) → list_all is_name_byte n ≡ true → list_all is_given_byte n ≡ true
letters_given [] h = refl
letters_given (b ∷ bs) h =
    let p = and_parts (is_name_byte b) (list_all is_name_byte bs) h in
    and_from (is_given_byte b) (list_all is_given_byte bs) (or_left (is_name_byte b) (b == 46) p.0) (letters_given bs p.1)
  where
    or_left : (a b : Bool) → a ≡ true → (a || b) ≡ true
    or_left true b h = refl
    or_left false b h = cc

behind_given : (n : List ℕ) (k : ℕ) → k < 64 → list_all is_name_byte n ≡ true → list_all is_given_byte (behind n k) ≡ true
behind_given n k few h =
    list_all-append is_given_byte n (46 ∷ decimal k)
    ∙ and_from (list_all is_given_byte n) (list_all is_given_byte (46 ∷ decimal k)) (letters_given n h) (digits_given (decimal k) (decimal_is_IsNumeral k (omega arith)).0.1)

first_same : (n ys : List ℕ) → begins_name (slice_index n 0) ≡ true → begins_name (slice_index (n ++ ys) 0) ≡ true
first_same [] ys h = cc
first_same (b ∷ bs) ys h = h

given_from : (n : List ℕ) → begins_name (slice_index n 0) ≡ true → length n ≤ 35 → list_all is_given_byte n ≡ true → is_given_name n ≡ true
unfolding is_given_name
given_from n b l h =
    and_from (begins_name (slice_index n 0) && nat_le (length n) 35) (list_all is_given_byte n) (and_from (begins_name (slice_index n 0)) (nat_le (length n) 35) b (le-leb (length n) 35 l)) h

pub name_given : (v : Version) (n : List ℕ) → is_name v n ≡ true → is_given_name n ≡ true
name_given v n h = let p = name_parts v n h in given_from n p.begins (omega (arith, p.few)) (letters_given n p.bytes)

pub behind_is_given : (v : Version) (n : List ℕ) (k : ℕ) → k < 64 → is_name v n ≡ true → is_given_name (behind n k) ≡ true
behind_is_given v n k few h =
    let p = name_parts v n h in
    let long : length (behind n k) ≤ 35 = omega (arith, p.few, length-append n (46 ∷ decimal k), length-decimal-le 2 k (omega arith) (omega arith) (omega arith)) in
    given_from (behind n k) (first_same n (46 ∷ decimal k) p.begins) long (behind_given n k few p.bytes)

pub names_given : (v : Version) (ns : List (List ℕ)) → list_all (is_name v) ns ≡ true → list_all is_given_name ns ≡ true
names_given v [] h = refl
names_given v (n ∷ ns) h =
    let p = and_parts (is_name v n) (list_all (is_name v) ns) h in
    and_from (is_given_name n) (list_all is_given_name ns) (name_given v n p.0) (names_given v ns p.1)

abbrev pub names_in : List Parameter → List (List ℕ)
names_in ps = map (λ p. p.name) ps

pub later-element : (n : List ℕ) (k : ℕ) → 0 < k → element_name n k ≡ behind n k
later-element n k some = ap (λ (b : Bool). cond b n (behind n k)) (ne_eqb k 0 (λ z. omega arith))

element_given : (v : Version) (n : List ℕ) (k : ℕ) → k < 64 → is_name v n ≡ true → is_given_name (element_name n k) ≡ true
element_given v n k few h = either (k == 0)
  where
    either : (b : Bool) → is_given_name (cond b n (behind n k)) ≡ true
    either true = name_given v n h
    either false = behind_is_given v n k few h

pub elements_given : (v : Version) (n : List ℕ) (k : ℕ) (vs : List ℤ) → is_name v n ≡ true → k + length vs ≤ 64 → list_all is_given_name (names_in (elements n k vs)) ≡ true
elements_given v n k [] h few = refl
elements_given v n k (x ∷ vs) h few =
    and_from (is_given_name (element_name n k)) (list_all is_given_name (names_in (elements n (k + 1) vs))) (element_given v n k (omega arith) h) (elements_given v n (k + 1) vs h (omega arith))

pub length-elements : (n : List ℕ) (k : ℕ) (vs : List ℤ) → length (elements n k vs) ≡ length vs
length-elements n k [] = refl
length-elements n k (x ∷ vs) = ap suc (length-elements n (k + 1) vs)

-- ---- points

no_point : (n : List ℕ) → list_all is_name_byte n ≡ true → has_point n ≡ false
no_point [] h = refl
no_point (b ∷ bs) h =
    let p = and_parts (is_name_byte b) (list_all is_name_byte bs) h in
    or_from (b == 46) (list_any (λ b. b == 46) bs) (letter b p.0) (no_point bs p.1)
  where
    letter : (b : ℕ) → is_name_byte b ≡ true → (b == 46) ≡ false
    letter b h = grind (arith, nat_tests)

pub name_plain : (v : Version) (n : List ℕ) → is_name v n ≡ true → has_point n ≡ false
name_plain v n h = no_point n (name_parts v n h).bytes

pub behind_pointed : (n : List ℕ) (k : ℕ) → has_point (behind n k) ≡ true
behind_pointed n k = list_any-append (λ b. b == 46) n (46 ∷ decimal k) ∙ always (list_any (λ b. b == 46) n)
  where
    always : (b : Bool) → (b || true) ≡ true
    always true = refl
    always false = refl

-- what has a point and what has none are two names
pub other_pointed : (p n : List ℕ) → has_point p ≡ true → has_point n ≡ false → (bytes_eq p n ≡ false) × (bytes_eq n p ≡ false)
other_pointed p n h i = (
  false_from_ne_true (bytes_eq p n) (λ t. both_ways (has_point p) (ap has_point ((bytes_eq-Decides p n).0 t) ∙ i) h),
  false_from_ne_true (bytes_eq n p) (λ t. both_ways (has_point p) (ap has_point (sym ((bytes_eq-Decides n p).0 t)) ∙ i) h),
)

-- the parts before and after the point
cut_head : (x y : ℕ) (xs ys : List ℕ) → x ∷ xs ≡ y ∷ ys → (x ≡ y) × (xs ≡ ys)
cut_head x y xs ys h = (cc, cc)

pub same_parts : (m n a b : List ℕ) → has_point m ≡ false → has_point n ≡ false → m ++ 46 ∷ a ≡ n ++ 46 ∷ b → (m ≡ n) × (a ≡ b)
same_parts [] [] a b h i e = (refl, (cut_head 46 46 a b e).1)
same_parts [] (y ∷ ys) a b h i e =
    let at : 46 ≡ y = (cut_head 46 y a (ys ++ 46 ∷ b) e).0 in
    absurd (both_ways (has_point (y ∷ ys)) i (subst (λ (z : ℕ). has_point (z ∷ ys) ≡ true) at refl))
same_parts (x ∷ xs) [] a b h i e =
    let at : 46 ≡ x = sym (cut_head x 46 (xs ++ 46 ∷ a) b e).0 in
    absurd (both_ways (has_point (x ∷ xs)) h (subst (λ (z : ℕ). has_point (z ∷ xs) ≡ true) at refl))
same_parts (x ∷ xs) (y ∷ ys) a b h i e =
    let p = cut_head x y (xs ++ 46 ∷ a) (ys ++ 46 ∷ b) e in
    let more = same_parts xs ys a b (or_parts (x == 46) (has_point xs) h).1 (or_parts (y == 46) (has_point ys) i).1 p.1 in
    (ap (λ (z : ℕ). z ∷ xs) p.0 ∙ ap (λ (zs : List ℕ). y ∷ zs) more.0, more.1)

-- ---- elements stand after their array

-- if a name without a point is not given, none of its elements is
abbrev pub IsRooted : List (List ℕ) → Type 0
IsRooted ns = (m : List ℕ) (k : ℕ) → has_point m ≡ false → place_of m ns ≡ None → place_of (behind m k) ns ≡ None

pub nothing_rooted : IsRooted []
unfolding place_of
nothing_rooted m k plain none = refl

pub rooted-plain : (ns : List (List ℕ)) (n : List ℕ) → has_point n ≡ false → IsRooted ns → IsRooted (ns ++ n ∷ [])
rooted-plain ns n plain h m k is none =
    absent-append (behind m k) ns (n ∷ []) (h m k is (absent_parts m ns (n ∷ []) none).0) (absent-from (behind m k) n [] (other_pointed (behind m k) n (behind_pointed m k) plain).1 (absent-none (behind m k)))

-- elements after the array of a name that is given already
rooted-element : (ns : List (List ℕ)) (n : List ℕ) (j : ℕ) → has_point n ≡ false → (place_of n ns ≡ None → ⊥) → IsRooted ns → IsRooted (ns ++ behind n j ∷ [])
rooted-element ns n j plain there h m k is none =
    let absent : place_of m ns ≡ None = (absent_parts m ns (behind n j ∷ []) none).0 in
    let other : bytes_eq (behind n j) (behind m k) ≡ false =
    false_from_ne_true (bytes_eq (behind n j) (behind m k)) (λ t.
    let same : n ≡ m = (same_parts n m (decimal j) (decimal k) plain is ((bytes_eq-Decides (behind n j) (behind m k)).0 t)).0 in
    there (ap (λ (x : List ℕ). place_of x ns) same ∙ absent)) in
    absent-append (behind m k) ns (behind n j ∷ []) (h m k is absent) (absent-from (behind m k) (behind n j) [] other (absent-none (behind m k)))

-- names that a text may give, each given once
pub record AreNames (ns : List (List ℕ)) : Type 0 where
  pub names : list_all is_given_name ns ≡ true
  pub distinct : AreDistinct ns

pub one_more_name : (ns : List (List ℕ)) (n : List ℕ) → AreNames ns → is_given_name n ≡ true → place_of n ns ≡ None → AreNames (ns ++ n ∷ [])
one_more_name ns n ok is fresh = record {
  names = list_all-append is_given_name ns (n ∷ []) ∙ and_from (list_all is_given_name ns) (is_given_name n && true) ok.names (and_from (is_given_name n) true is refl);
  distinct = distinct-push ns n ok.distinct fresh;
}

-- names of which some may be elements
pub record AreRooted (ns : List (List ℕ)) : Type 0 where
  pub names : AreNames ns
  pub rooted : IsRooted ns

pub one_more_plain : (v : Version) (ns : List (List ℕ)) (n : List ℕ) → AreRooted ns → is_name v n ≡ true → place_of n ns ≡ None → AreRooted (ns ++ n ∷ [])
one_more_plain v ns n ok is fresh = record {
  names = one_more_name ns n ok.names (name_given v n is) fresh;
  rooted = rooted-plain ns n (name_plain v n is) ok.rooted;
}

still_there : (n : List ℕ) (ns ms : List (List ℕ)) → (place_of n ns ≡ None → ⊥) → place_of n (ns ++ ms) ≡ None → ⊥
still_there n ns ms there none = there (absent_parts n ns ms none).0

-- the elements of n from k on are not given yet
abbrev AreNew : List ℕ → ℕ → List (List ℕ) → Type 0
AreNew n k ns = (j : ℕ) → k ≤ j → j < 64 → place_of (behind n j) ns ≡ None

still_new : (v : Version) (n : List ℕ) (k : ℕ) (ns : List (List ℕ)) → is_name v n ≡ true → k < 64 → AreNew n k ns → AreNew n (k + 1) (ns ++ behind n k ∷ [])
still_new v n k ns is few new j le lt =
    let plain = name_plain v n is in
    let other : bytes_eq (behind n k) (behind n j) ≡ false =
    false_from_ne_true (bytes_eq (behind n k) (behind n j)) (λ t.
    let same : k ≡ j = decimal_injective k j (omega arith) (omega arith) (same_parts n n (decimal k) (decimal j) plain plain ((bytes_eq-Decides (behind n k) (behind n j)).0 t)).1 in
    absurd (omega arith)) in
    absent-append (behind n j) ns (behind n k ∷ []) (new j (omega arith) lt) (absent-from (behind n j) (behind n k) [] other (absent-none (behind n j)))

later_elements : (v : Version) (ns : List (List ℕ)) (n : List ℕ) (k : ℕ) (vs : List ℤ) → is_name v n ≡ true → 0 < k → k + length vs ≤ 64 → (place_of n ns ≡ None → ⊥) → AreNew n k ns → AreRooted ns → AreRooted (ns ++ names_in (elements n k vs))
later_elements v ns n k [] is some few there new ok = subst AreRooted (sym (append-nil ns)) ok
later_elements v ns n k (x ∷ vs) is some few there new ok =
    let one : AreRooted (ns ++ behind n k ∷ []) = record {
      names = one_more_name ns (behind n k) ok.names (behind_is_given v n k (omega arith) is) (new k (omega arith) (omega arith));
      rooted = rooted-element ns n k (name_plain v n is) there ok.rooted;
    } in
    let more : AreRooted ((ns ++ behind n k ∷ []) ++ names_in (elements n (k + 1) vs)) =
    later_elements v (ns ++ behind n k ∷ []) n (k + 1) vs is (omega arith) (omega arith) (still_there n ns (behind n k ∷ []) there) (still_new v n k ns is (omega arith) new) one in
    subst AreRooted (append_assoc ns (behind n k ∷ []) (names_in (elements n (k + 1) vs)) ∙ ap (λ (m : List ℕ). ns ++ m ∷ names_in (elements n (k + 1) vs)) (sym (later-element n k some))) more

there_at_end : (n : List ℕ) (ns : List (List ℕ)) → place_of n (ns ++ n ∷ []) ≡ None → ⊥
there_at_end n ns none =
    both_ways (bytes_eq n n) (absent-cons n n [] (absent_parts n ns (n ∷ []) none).1).0 ((bytes_eq-Decides n n).1 refl)

-- an array more, under a name that is not given yet
pub array_rooted : (v : Version) (ns : List (List ℕ)) (n : List ℕ) (vs : List ℤ) → is_name v n ≡ true → length vs ≤ 64 → place_of n ns ≡ None → AreRooted ns → AreRooted (ns ++ names_in (elements n 0 vs))
array_rooted v ns n [] is few fresh ok = subst AreRooted (sym (append-nil ns)) ok
array_rooted v ns n (x ∷ vs) is few fresh ok =
    let plain = name_plain v n is in
    let one : AreRooted (ns ++ n ∷ []) = one_more_plain v ns n ok is fresh in
    let new : AreNew n 1 (ns ++ n ∷ []) = λ j le lt.
    absent-append (behind n j) ns (n ∷ []) (ok.rooted n j plain fresh) (absent-from (behind n j) n [] (other_pointed (behind n j) n (behind_pointed n j) plain).1 (absent-none (behind n j))) in
    subst AreRooted (append_assoc ns (n ∷ []) (names_in (elements n 1 vs))) (later_elements v (ns ++ n ∷ []) n 1 vs is (omega arith) (omega arith) (there_at_end n ns) new one)
