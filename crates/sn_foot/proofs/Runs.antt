-- Runs of words that do not touch.
use Rattle.std.proofs.Common.{◌≡◌, ◌≤◌, ◌<◌, ◌+◌, ℕ, suc, Bool, true, false, ◌||◌, List, [], ◌∷◌, ◌++◌, sym, refl, ap, ◌∙◌, subst, ⊎_elim, true≢false, arith, leb, ltb, length, drop}
use Rattle.std.specs.Prelude.{slice_index_or}
use Rattle.std.specs.List.{All, list_any}
use Rattle.std.specs.List.Sorted.{IsNonDecreasingBy, IsPermutation}
use Rattle.std.proofs.lemmas.Bool.{or_from, cases_lt, leb-true, leb-false, ltb-true, ltb-false, lt-ltb, le-ltb, le-leb, lt-leb, cond-true, cond-false, cond_both}
use Rattle.std.proofs.Math.Bool.{or_assoc, or-false}
use Rattle.std.proofs.lemmas.List.{drop_more}
use Rattle.std.proofs.lemmas.List.Elements.{All-head, All-tail}
use Rattle.std.proofs.lemmas.List.Sorted.{list_any-IsPermutation}
use Rattle.sn_mem.specs.declared.extents.Extent.{Extent}
use Rattle.sn_mem.specs.Words.{covers, has}
use Rattle.sn_mem.proofs.Meetings.{covered, before, after}
use Rattle.sn_foot.specs.Canonical.{AreApart, AreRising, IsCanonical, Ends, with_extent, in_order, where_some, both, merged, nothing, canonical}

-- ---- one list for a set of words

extent_is : (a b : Extent) → a.at ≡ b.at → a.len ≡ b.len → a ≡ b
extent_is a b p q = λ i. record { at = p i; len = q i }

from_lower : (low from : ℕ) (es : List Extent) → low ≤ from → AreApart from es → AreApart low es
from_lower low from [] h a = tt
from_lower low from (e ∷ es) h a = (omega (arith, a.0), a.1, a.2)

unused : (from : ℕ) (es : List Extent) → AreApart from es → (x : ℕ) → x < from → has es x ≡ false
unused from [] a x lt = refl
unused from (e ∷ es) a x lt = or_from (covers e x) (has es x) (before e x (omega (arith, a.0))) (unused (e.at + e.len + 1) es a.2 x (omega (arith, a.0)))

used : (from : ℕ) (e : Extent) (es : List Extent) → AreApart from (e ∷ es) → has (e ∷ es) e.at ≡ true
used from e es a = ap (λ b. b || has es e.at) (covered e e.at (omega arith) (omega (arith, a.1)))

free : (from : ℕ) (e : Extent) (es : List Extent) → AreApart from (e ∷ es) → has (e ∷ es) (e.at + e.len) ≡ false
free from e es a = or_from (covers e (e.at + e.len)) (has es (e.at + e.len)) (after e (e.at + e.len) (omega arith)) (unused (e.at + e.len + 1) es a.2 (e.at + e.len) (omega arith))

-- the first word of the second is none before that of the first
no_sooner : (from : ℕ) (e f : Extent) (es fs : List Extent) → AreApart from (e ∷ es) → AreApart from (f ∷ fs) → ((x : ℕ) → has (e ∷ es) x ≡ has (f ∷ fs) x) → e.at ≤ f.at
no_sooner from e f es fs a b same =
    ⊎_elim
    (λ (lt : f.at < e.at). absurd (true≢false (sym (used from f fs b) ∙ sym (same f.at) ∙ unused e.at (e ∷ es) (omega arith, a.1, a.2) f.at lt)))
    (λ (ge : e.at ≤ f.at). ge)
    (cases_lt f.at e.at)

-- nor does it end after the first
no_longer : (from : ℕ) (e f : Extent) (es fs : List Extent) → f.at ≤ e.at → AreApart from (e ∷ es) → ((x : ℕ) → has (e ∷ es) x ≡ has (f ∷ fs) x) → f.at + f.len ≤ e.at + e.len
no_longer from e f es fs le a same =
    ⊎_elim
    (λ (lt : e.at + e.len < f.at + f.len).
    let over : covers f (e.at + e.len) ≡ true = covered f (e.at + e.len) (omega arith) lt in
    absurd (true≢false (sym (ap (λ b. b || has fs (e.at + e.len)) over) ∙ sym (same (e.at + e.len)) ∙ free from e es a)))
    (λ (ge : f.at + f.len ≤ e.at + e.len). ge)
    (cases_lt (e.at + e.len) (f.at + f.len))

rest_same : (e f : Extent) (es fs : List Extent) → e ≡ f → AreApart (e.at + e.len + 1) es → AreApart (f.at + f.len + 1) fs → ((x : ℕ) → has (e ∷ es) x ≡ has (f ∷ fs) x) → (x : ℕ) → has es x ≡ has fs x
rest_same e f es fs is a b same x =
    let end : f.at + f.len ≡ e.at + e.len = ap (λ (g : Extent). g.at + g.len) (sym is) in
    ⊎_elim
    (λ (lt : x < e.at + e.len + 1). unused (e.at + e.len + 1) es a x lt ∙ sym (unused (f.at + f.len + 1) fs b x (omega arith)))
    (λ (ge : e.at + e.len + 1 ≤ x).
    sym (ap (λ c. c || has es x) (after e x (omega arith))) ∙ same x ∙ ap (λ c. c || has fs x) (after f x (omega arith)))
    (cases_lt x (e.at + e.len + 1))

pub unique : (from : ℕ) (es fs : List Extent) → AreApart from es → AreApart from fs → ((x : ℕ) → has es x ≡ has fs x) → es ≡ fs
unique from [] [] a b same = refl
unique from [] (f ∷ fs) a b same = absurd (true≢false (sym (used from f fs b) ∙ sym (same f.at)))
unique from (e ∷ es) [] a b same = absurd (true≢false (sym (used from e es a) ∙ same e.at))
unique from (e ∷ es) (f ∷ fs) a b same =
    let low : e.at ≤ f.at = no_sooner from e f es fs a b same in
    let high : f.at ≤ e.at = no_sooner from f e fs es b a (λ x. sym (same x)) in
    let long : f.at + f.len ≤ e.at + e.len = no_longer from e f es fs high a same in
    let short : e.at + e.len ≤ f.at + f.len = no_longer from f e fs es low b (λ x. sym (same x)) in
    let is : e ≡ f = extent_is e f (omega arith) (omega arith) in
    let rest : es ≡ fs = unique (e.at + e.len + 1) es fs a.2 (from_lower (e.at + e.len + 1) (f.at + f.len + 1) fs (omega arith) b.2) (rest_same e f es fs is a.2 b.2 same) in
    λ i. is i ∷ rest i

-- ---- in the order of their places

pub rising_lower : (low from : ℕ) (es : List Extent) → low ≤ from → AreRising from es → AreRising low es
rising_lower low from [] h r = tt
rising_lower low from (e ∷ es) h r = (omega (arith, r.0), r.1)

rising_with : (from : ℕ) (e : Extent) (xs : List Extent) → from ≤ e.at → AreRising from xs → AreRising from (with_extent e xs)
rising_with from e [] h r = (h, tt)
rising_with from e (x ∷ xs) h r =
    cond_both (leb e.at x.at) (e ∷ x ∷ xs) (x ∷ with_extent e xs) (λ ys. AreRising from ys)
    (λ b. (h, (leb-true e.at x.at b, r.1)))
    (λ b. let lt = leb-false e.at x.at b in (r.0, rising_with x.at e xs (omega arith) r.1))

rising_in_order : (es : List Extent) → AreRising 0 (in_order es)
rising_in_order [] = tt
rising_in_order (e ∷ es) = rising_with 0 e (in_order es) (omega arith) (rising_in_order es)

swapped : (a b c : Bool) → (a || (b || c)) ≡ (b || (a || c))
swapped true true c = refl
swapped true false c = refl
swapped false b c = refl

has_with : (e : Extent) (xs : List Extent) (x : ℕ) → has (with_extent e xs) x ≡ (covers e x || has xs x)
has_with e [] x = refl
has_with e (y ∷ ys) x =
    cond_both (leb e.at y.at) (e ∷ y ∷ ys) (y ∷ with_extent e ys) (λ zs. has zs x ≡ (covers e x || (covers y x || has ys x)))
    (λ b. refl)
    (λ b. ap (λ c. covers y x || c) (has_with e ys x) ∙ swapped (covers y x) (covers e x) (has ys x))

has_in_order : (es : List Extent) (x : ℕ) → has (in_order es) x ≡ has es x
has_in_order [] x = refl
has_in_order (e ∷ es) x = has_with e (in_order es) x ∙ ap (λ c. covers e x || c) (has_in_order es x)

-- ---- merged

empty : (e : Extent) (x : ℕ) → e.len ≤ 0 → covers e x ≡ false
empty e x h = ⊎_elim (λ (lt : x < e.at). before e x lt) (λ (ge : e.at ≤ x). after e x (omega arith)) (cases_lt x e.at)

has_some : (e : Extent) (x : ℕ) → has (where_some e) x ≡ covers e x
has_some e x = cond_both (ltb 0 e.len) (e ∷ []) [] (λ ys. has ys x ≡ covers e x) (λ b. or-false (covers e x)) (λ b. sym (empty e x (ltb-false 0 e.len b)))

covers_both : (a b : Extent) (x : ℕ) → a.at ≤ b.at → b.at ≤ a.at + a.len → covers (both a b) x ≡ (covers a x || covers b x)
covers_both a b x low high =
    ⊎_elim
    (λ (lt : x < a.at). before (both a b) x lt ∙ sym (or_from (covers a x) (covers b x) (before a x lt) (before b x (omega arith))))
    (λ (ge : a.at ≤ x). ⊎_elim
    (λ (lt : x < a.at + a.len). covered (both a b) x ge (omega arith) ∙ sym (ap (λ c. c || covers b x) (covered a x ge lt)))
    (λ (past : a.at + a.len ≤ x). ⊎_elim
    (λ (lt : x < b.at + b.len). covered (both a b) x ge (omega arith) ∙ sym (ap (λ c. c || covers b x) (after a x past) ∙ covered b x (omega arith) lt))
    (λ (over : b.at + b.len ≤ x). after (both a b) x (omega arith) ∙ sym (or_from (covers a x) (covers b x) (after a x past) (after b x over)))
    (cases_lt x (b.at + b.len)))
    (cases_lt x (a.at + a.len)))
    (cases_lt x a.at)

pub has_append : (es fs : List Extent) (x : ℕ) → has (es ++ fs) x ≡ (has es x || has fs x)
has_append [] fs x = refl
has_append (e ∷ es) fs x = ap (λ c. covers e x || c) (has_append es fs x) ∙ sym (or_assoc (covers e x) (has es x) (has fs x))

pub has_merged : (a : Extent) (es : List Extent) (x : ℕ) → AreRising a.at es → has (merged a es) x ≡ (covers a x || has es x)
unfolding merged
has_merged a [] x r = has_some a x ∙ sym (or-false (covers a x))
has_merged a (e ∷ es) x r =
    cond_both (leb e.at (a.at + a.len)) (merged (both a e) es) (where_some a ++ merged e es) (λ ys. has ys x ≡ (covers a x || (covers e x || has es x)))
    (λ b. has_merged (both a e) es x (rising_lower a.at e.at es r.0 r.1)
    ∙ ap (λ c. c || has es x) (covers_both a e x r.0 (leb-true e.at (a.at + a.len) b)) ∙ or_assoc (covers a x) (covers e x) (has es x))
    (λ b. has_append (where_some a) (merged e es) x ∙ ap (λ c. c || has (merged e es) x) (has_some a x) ∙ ap (λ c. covers a x || c) (has_merged e es x r.1))

apart_some : (a : Extent) (es : List Extent) → AreApart (a.at + a.len + 1) es → AreApart a.at (where_some a ++ es)
apart_some a es h = cond_both (ltb 0 a.len) (a ∷ []) [] (λ ys. AreApart a.at (ys ++ es)) (λ b. (omega arith, ltb-true 0 a.len b, h)) (λ b. from_lower a.at (a.at + a.len + 1) es (omega arith) h)

some_apart : (a : Extent) → AreApart a.at (where_some a)
some_apart a = cond_both (ltb 0 a.len) (a ∷ []) [] (λ ys. AreApart a.at ys) (λ b. (omega arith, ltb-true 0 a.len b, tt)) (λ b. tt)

pub apart_merged : (a : Extent) (es : List Extent) → AreRising a.at es → AreApart a.at (merged a es)
unfolding merged
apart_merged a [] r = some_apart a
apart_merged a (e ∷ es) r =
    cond_both (leb e.at (a.at + a.len)) (merged (both a e) es) (where_some a ++ merged e es) (λ ys. AreApart a.at ys)
    (λ b. apart_merged (both a e) es (rising_lower a.at e.at es r.0 r.1))
    (λ b. let lt = leb-false e.at (a.at + a.len) b in apart_some a (merged e es) (from_lower (a.at + a.len + 1) e.at (merged e es) (omega arith) (apart_merged e es r.1)))

pub has_canonical : (es : List Extent) (x : ℕ) → has (canonical es) x ≡ has es x
has_canonical es x = has_merged nothing (in_order es) x (rising_in_order es) ∙ ap (λ c. c || has (in_order es) x) (empty nothing x (omega arith)) ∙ has_in_order es x

pub is_canonical : (es : List Extent) → IsCanonical (canonical es)
is_canonical es = apart_merged nothing (in_order es) (rising_in_order es)

-- ---- in another order

has_any : (es : List Extent) (x : ℕ) → has es x ≡ list_any (λ e. covers e x) es
has_any [] x = refl
has_any (e ∷ es) x = ap (λ c. covers e x || c) (has_any es x)

has_moved : (es fs : List Extent) (x : ℕ) → IsPermutation es fs → has es x ≡ has fs x
has_moved es fs x p = has_any es x ∙ list_any-IsPermutation (λ e. covers e x) es fs p ∙ sym (has_any fs x)

-- the same list comes of them in any order that rises
pub merged_moved : (es fs : List Extent) → IsPermutation es fs → AreRising 0 fs → merged nothing fs ≡ canonical es
merged_moved es fs p r =
    unique 0 (merged nothing fs) (canonical es) (apart_merged nothing fs r) (is_canonical es)
    (λ x. has_merged nothing fs x r ∙ ap (λ c. c || has fs x) (empty nothing x (omega arith)) ∙ sym (has_moved es fs x p) ∙ sym (has_canonical es x))

rising_after : (e : Extent) (es : List Extent) → IsNonDecreasingBy (λ (f : Extent). f.at) (e ∷ es) → AreRising e.at es
rising_after e [] h = tt
rising_after e (f ∷ es) h = (h 0 1 e (omega arith) (omega arith), rising_after f es (λ i j d le lt. h (suc i) (suc j) d (omega arith) (omega arith)))

pub rising : (es : List Extent) → IsNonDecreasingBy (λ (f : Extent). f.at) es → AreRising 0 es
rising [] h = tt
rising (e ∷ es) h = (omega arith, rising_after e es h)

-- ---- a loop's steps

pub merged_touching : (a e : Extent) (es : List Extent) → e.at ≤ a.at + a.len → merged a (e ∷ es) ≡ merged (both a e) es
unfolding merged
merged_touching a e es h = cond-true (leb e.at (a.at + a.len)) (merged (both a e) es) (where_some a ++ merged e es) (le-leb e.at (a.at + a.len) h)

pub merged_past : (a e : Extent) (es : List Extent) → a.at + a.len < e.at → merged a (e ∷ es) ≡ where_some a ++ merged e es
unfolding merged
merged_past a e es h = cond-false (leb e.at (a.at + a.len)) (merged (both a e) es) (where_some a ++ merged e es) (lt-leb e.at (a.at + a.len) h)

pub merged_none : (a : Extent) → merged a [] ≡ where_some a
unfolding merged
merged_none a = refl

-- what is left of extents, at the next one
pub record IsNext (from : ℕ) (es : List Extent) (i : ℕ) (e : Extent) : Type 0 where
  pub is : drop i es ≡ e ∷ drop (i + 1) es
  pub low : from ≤ e.at
  pub ends : Ends e
  pub order : AreRising e.at (drop (i + 1) es)
  pub all : All Ends (drop (i + 1) es)

pub next_one : (from : ℕ) (es : List Extent) (i : ℕ) (d : Extent) → i < length es → AreRising from (drop i es) → All Ends (drop i es) → IsNext from es i (slice_index_or es i d)
next_one from es i d lt rising all =
    let is : drop i es ≡ slice_index_or es i d ∷ drop (i + 1) es = drop_more es i d lt in
    let up = subst (AreRising from) is rising in
    let ends = subst (All Ends) is all in
    record { is = is; low = up.0; ends = All-head Ends (slice_index_or es i d) (drop (i + 1) es) ends; order = up.1; all = All-tail Ends (slice_index_or es i d) (drop (i + 1) es) ends }
