-- Names that are given once.
use Rattle.std.proofs.Common.{◌≡◌, ℕ, zero, suc, ◌<◌, Bool, true, false, cond, List, [], ◌∷◌, ◌++◌, length, slice_get, Option, Some, None, IfSome, refl, sym, ap, subst, ◌∙◌, arith, add-one}
use Rattle.std.specs.Str.{bytes_eq}
use Rattle.std.proofs.lemmas.Slice.Eq.{bytes_eq-Decides}
use Rattle.std.proofs.lemmas.Bool.{false_from_ne_true, both_ways}
use Rattle.sn_def.specs.Definition.{place_of, one_more}
use Rattle.sn_def.specs.Grammar.{AreDistinct}

-- what is not named first and not named later is not named
neither : (b : Bool) (o : Option ℕ) → cond b (Some 0) (one_more o) ≡ None → (b ≡ false) × (o ≡ None)
neither true o h = cc
neither false None h = (refl, refl)
neither false (Some k) h = cc

pub absent-cons : (q m : List ℕ) (ms : List (List ℕ)) → place_of q (m ∷ ms) ≡ None → (bytes_eq m q ≡ false) × (place_of q ms ≡ None)
unfolding place_of
absent-cons q m ms h = neither (bytes_eq m q) (place_of q ms) h

pub absent-from : (q m : List ℕ) (ms : List (List ℕ)) → bytes_eq m q ≡ false → place_of q ms ≡ None → place_of q (m ∷ ms) ≡ None
unfolding place_of
absent-from q m ms h i = rw (h, i) refl

pub absent-append : (q : List ℕ) (xs ys : List (List ℕ)) → place_of q xs ≡ None → place_of q ys ≡ None → place_of q (xs ++ ys) ≡ None
absent-append q [] ys h i = i
absent-append q (x ∷ xs) ys h i = let p = absent-cons q x xs h in absent-from q x (xs ++ ys) p.0 (absent-append q xs ys p.1 i)

pub absent_parts : (q : List ℕ) (xs ys : List (List ℕ)) → place_of q (xs ++ ys) ≡ None → (place_of q xs ≡ None) × (place_of q ys ≡ None)
unfolding place_of
absent_parts q [] ys h = (refl, h)
absent_parts q (x ∷ xs) ys h = let p = absent-cons q x (xs ++ ys) h in let r = absent_parts q xs ys p.1 in (absent-from q x xs p.0 r.0, r.1)

pub other_way : (m n : List ℕ) → bytes_eq m n ≡ false → bytes_eq n m ≡ false
other_way m n h = false_from_ne_true (bytes_eq n m) (λ t. both_ways (bytes_eq m n) h ((bytes_eq-Decides m n).1 (sym ((bytes_eq-Decides n m).0 t))))

pub same_name : (n : List ℕ) → bytes_eq n n ≡ true
same_name n = (bytes_eq-Decides n n).1 refl

pub absent_there : (n m : List ℕ) (xs : List (List ℕ)) (k : ℕ) → place_of n xs ≡ None → slice_get xs k ≡ Some m → bytes_eq m n ≡ false
absent_there n m [] k h i = cc
absent_there n m (x ∷ xs) zero h i = let same : x ≡ m = cc in subst (λ (y : List ℕ). bytes_eq y n ≡ false) same (absent-cons n x xs h).0
absent_there n m (x ∷ xs) (suc k) h i = absent_there n m xs k (absent-cons n x xs h).1 i

pub absent-none : (n : List ℕ) → place_of n [] ≡ None
unfolding place_of
absent-none n = refl

pub distinct-push : (ns : List (List ℕ)) (n : List ℕ) → AreDistinct ns → place_of n ns ≡ None → AreDistinct (ns ++ n ∷ [])
distinct-push [] n h i = (absent-none n, tt)
distinct-push (m ∷ ms) n h i =
    let p = absent-cons n m ms i in
    (absent-append m ms (n ∷ []) h.0 (absent-from m n [] (other_way m n p.0) (absent-none m)), distinct-push ms n h.1 p.1)

pub distinct-left : (xs ys : List (List ℕ)) → AreDistinct (xs ++ ys) → AreDistinct xs
distinct-left [] ys h = tt
distinct-left (x ∷ xs) ys h = ((absent_parts x xs ys h.0).0, distinct-left xs ys h.1)

pub distinct-right : (xs ys : List (List ℕ)) → AreDistinct (xs ++ ys) → AreDistinct ys
distinct-right [] ys h = h
distinct-right (x ∷ xs) ys h = distinct-right xs ys h.1

-- a name that stands in the second list doesn't stand in the first
pub distinct_before : (xs ys : List (List ℕ)) (n : List ℕ) (k : ℕ) → AreDistinct (xs ++ ys) → slice_get ys k ≡ Some n → place_of n xs ≡ None
distinct_before [] ys n k h i = absent-none n
distinct_before (x ∷ xs) ys n k h i = absent-from n x xs (other_way n x (absent_there x n ys k (absent_parts x xs ys h.0).1 i)) (distinct_before xs ys n k h.1 i)

get_more : (xs : List (List ℕ)) (x n : List ℕ) (o : Option ℕ) → IfSome o (λ k. slice_get xs k ≡ Some n) → IfSome (one_more o) (λ k. slice_get (x ∷ xs) k ≡ Some n)
get_more xs x n None h = tt
get_more xs x n (Some k) h = rw add-one h

get_first : (b : Bool) (xs : List (List ℕ)) (x n : List ℕ) (o : Option ℕ) → (b ≡ true → x ≡ n) → IfSome o (λ k. slice_get (x ∷ xs) k ≡ Some n) → IfSome (cond b (Some 0) o) (λ k. slice_get (x ∷ xs) k ≡ Some n)
get_first true xs x n o is h = ap (λ (y : List ℕ). Some y) (is refl)
get_first false xs x n o is h = h

-- the place of a name has this name
pub place_get : (n : List ℕ) (xs : List (List ℕ)) → IfSome (place_of n xs) (λ k. slice_get xs k ≡ Some n)
unfolding place_of
place_get n [] = tt
place_get n (x ∷ xs) = get_first (bytes_eq x n) xs x n (one_more (place_of n xs)) ((bytes_eq-Decides x n).0) (get_more xs x n (place_of n xs) (place_get n xs))

-- a name that is given once stands where it is
pub get_place : (n : List ℕ) (xs : List (List ℕ)) (k : ℕ) → AreDistinct xs → slice_get xs k ≡ Some n → place_of n xs ≡ Some k
unfolding place_of
get_place n [] k h i = cc
get_place n (x ∷ xs) zero h i = let same : x ≡ n = cc in rw (ap (λ (y : List ℕ). bytes_eq y n) same ∙ same_name n) refl
get_place n (x ∷ xs) (suc k) h i =
    let other : bytes_eq x n ≡ false = other_way n x (absent_there x n xs k h.0 i) in
    let more : place_of n xs ≡ Some k = get_place n xs k h.1 i in
    rw (other, more) (ap (λ (j : ℕ). Some j) (add-one k))

pub get_front : (xs ys : List (List ℕ)) (k : ℕ) (n : List ℕ) → slice_get xs k ≡ Some n → slice_get (xs ++ ys) k ≡ Some n
get_front [] ys k n h = cc
get_front (x ∷ xs) ys zero n h = h
get_front (x ∷ xs) ys (suc k) n h = get_front xs ys k n h

pub get_below : (xs ys : List (List ℕ)) (k : ℕ) (n : List ℕ) → k < length xs → slice_get (xs ++ ys) k ≡ Some n → slice_get xs k ≡ Some n
get_below [] ys k n l h = absurd (omega arith)
get_below (x ∷ xs) ys zero n l h = h
get_below (x ∷ xs) ys (suc k) n l h = get_below xs ys k n (omega arith) h
