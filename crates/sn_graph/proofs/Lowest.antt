-- If one synth stands before another, they are parted exactly if the lowest group that holds both is split.
use Rattle.std.proofs.Common.{◌≡◌, ◌⊎◌, ℤ, Bool, true, false, ◌&&◌, List, [], ◌∷◌, ◌++◌, sym, refl, ◌∙◌, ⊎_elim, inl, inr, true≢false}
use Rattle.std.specs.Prelude.{is_some}
use Rattle.std.proofs.lemmas.Bool.{or_cases, or_parts, and_parts, and_from, or_left, or_right, false_from_ne_true}
use Rattle.std.specs.Ordering.{int_eq}
use Rattle.std.proofs.Math.Bool.{and-false, and-true, or-false}
use Rattle.sn_graph.specs.declared.nodes.Voice.{Voice}
use Rattle.sn_graph.specs.Voices.{HeardNodes, none, synth, group, voices, has, Once}
use Rattle.sn_graph.specs.Plans.{lowest_is_split}
use Rattle.sn_graph.proofs.Shapes.{is_parted, comes}
use Rattle.sn_graph.proofs.Numbers.{once-left, once-right, once-both}
use Rattle.sn_graph.proofs.Parting.{has-append}
use Rattle.sn_graph.proofs.Freeing.{parted_has}

pub comes_has : (xs : List Voice) (a b : ℤ) → comes xs a b ≡ true → (has xs a ≡ true) × (has xs b ≡ true)
comes_has [] a b h = absurd (true≢false (sym h))
comes_has (s ∷ ss) a b h =
    ⊎_elim
    (λ (k : (int_eq s.id a && has ss b) ≡ true). let d = and_parts (int_eq s.id a) (has ss b) k in (or_left (int_eq s.id a) (has ss a) d.0, or_right (int_eq s.id b) (has ss b) d.1))
    (λ (k : comes ss a b ≡ true). let d = comes_has ss a b k in (or_right (int_eq s.id a) (has ss a) d.0, or_right (int_eq s.id b) (has ss b) d.1))
    (or_cases (int_eq s.id a && has ss b) (comes ss a b) h)

-- both left, one on each side, or both right
pub comes_cases : (xs ys : List Voice) (a b : ℤ) → comes (xs ++ ys) a b ≡ true → (comes xs a b ≡ true) ⊎ (((has xs a ≡ true) × (has ys b ≡ true)) ⊎ (comes ys a b ≡ true))
comes_cases [] ys a b h = inr (inr h)
comes_cases (s ∷ ss) ys a b h =
    ⊎_elim
    (λ (k : (int_eq s.id a && has (ss ++ ys) b) ≡ true). let d = and_parts (int_eq s.id a) (has (ss ++ ys) b) k in ⊎_elim
    (λ (l : has ss b ≡ true). inl (or_left (int_eq s.id a && has ss b) (comes ss a b) (and_from (int_eq s.id a) (has ss b) d.0 l)))
    (λ (l : has ys b ≡ true). inr (inl (or_left (int_eq s.id a) (has ss a) d.0, l)))
    (or_cases (has ss b) (has ys b) (sym (has-append ss ys b) ∙ d.1)))
    (λ (k : comes (ss ++ ys) a b ≡ true). ⊎_elim
    (λ (l : comes ss a b ≡ true). inl (or_right (int_eq s.id a && has ss b) (comes ss a b) l))
    (λ (l : ((has ss a ≡ true) × (has ys b ≡ true)) ⊎ (comes ys a b ≡ true)). ⊎_elim
    (λ (m : (has ss a ≡ true) × (has ys b ≡ true)). inr (inl (or_right (int_eq s.id a) (has ss a) m.0, m.1)))
    (λ (m : comes ys a b ≡ true). inr (inr m))
    l)
    (comes_cases ss ys a b k))
    (or_cases (int_eq s.id a && has (ss ++ ys) b) (comes (ss ++ ys) a b) h)

pub apart_left : (xs ys : List Voice) (a : ℤ) → Once (xs ++ ys) → has xs a ≡ true → has ys a ≡ false
apart_left xs ys a o h = false_from_ne_true (has ys a) (λ k. once-both xs ys a o h k)

pub apart_right : (xs ys : List Voice) (a : ℤ) → Once (xs ++ ys) → has ys a ≡ true → has xs a ≡ false
apart_right xs ys a o h = false_from_ne_true (has xs a) (λ k. once-both xs ys a o k h)

pub not_parted_a : (g : Bool) (nodes : HeardNodes) (a b : ℤ) → has (voices nodes) a ≡ false → is_parted g nodes a b ≡ false
not_parted_a g nodes a b h = false_from_ne_true (is_parted g nodes a b) (λ k. true≢false (sym (parted_has g nodes a b k).0 ∙ h))

pub not_parted_b : (g : Bool) (nodes : HeardNodes) (a b : ℤ) → has (voices nodes) b ≡ false → is_parted g nodes a b ≡ false
not_parted_b g nodes a b h = false_from_ne_true (is_parted g nodes a b) (λ k. true≢false (sym (parted_has g nodes a b k).1 ∙ h))

pub lowest_here : (g : Bool) (nodes : HeardNodes) (a b : ℤ) → has (voices nodes) a ≡ false → lowest_is_split g nodes a b ≡ g
lowest_here g none a b h = refl
lowest_here g (synth s rest) a b h = lowest_here g rest a b (or_parts (int_eq s.id a) (has (voices rest) a) h).1
lowest_here g (group f inner rest) a b h =
    let d = or_parts (has (voices inner) a) (has (voices rest) a) (sym (has-append (voices inner) (voices rest) a) ∙ h) in
    rw d.0 (lowest_here g rest a b d.1)

pub parted_is_lowest : (g : Bool) (nodes : HeardNodes) (a b : ℤ) → Once (voices nodes) → comes (voices nodes) a b ≡ true → is_parted g nodes a b ≡ lowest_is_split g nodes a b
parted_is_lowest g none a b o h = absurd (true≢false (sym h))
parted_is_lowest g (synth s rest) a b o h =
    ⊎_elim
    (λ (k : (int_eq s.id a && has (voices rest) b) ≡ true).
    let d = and_parts (int_eq s.id a) (has (voices rest) b) k in
    let n : has (voices rest) a ≡ false = apart_left (s ∷ []) (voices rest) a o (or_left (int_eq s.id a) false d.0) in
    rw (d.0, d.1, not_parted_a g rest a b n, lowest_here g rest a b n, and-true g, and-true g) (or-false g))
    (λ (k : comes (voices rest) a b ≡ true).
    let d = comes_has (voices rest) a b k in
    let n : int_eq s.id a ≡ false = false_from_ne_true (int_eq s.id a) (λ e. once-both (s ∷ []) (voices rest) a o (or_left (int_eq s.id a) false e) d.0) in
    rw (n, and-false g) (parted_is_lowest g rest a b (once-right (s ∷ []) (voices rest) o) k))
    (or_cases (int_eq s.id a && has (voices rest) b) (comes (voices rest) a b) h)
parted_is_lowest g (group f inner rest) a b o h =
    let xs : List Voice = voices inner in
    let ys : List Voice = voices rest in
    ⊎_elim
    (λ (k : comes xs a b ≡ true).
    let d = comes_has xs a b k in
    let n : has ys b ≡ false = apart_left xs ys b o d.1 in
    rw (d.0, d.1, n, and-true g, and-false g, not_parted_b g rest a b n, or-false (is_parted (is_some f) inner a b)) (parted_is_lowest (is_some f) inner a b (once-left xs ys o) k))
    (λ (k : ((has xs a ≡ true) × (has ys b ≡ true)) ⊎ (comes ys a b ≡ true)). ⊎_elim
    (λ (d : (has xs a ≡ true) × (has ys b ≡ true)).
    let n : has ys a ≡ false = apart_left xs ys a o d.0 in
    let m : has xs b ≡ false = apart_right xs ys b o d.1 in
    rw (d.0, d.1, m, and-true g, and-true g, not_parted_b (is_some f) inner a b m, not_parted_a g rest a b n, lowest_here g rest a b n) (or-false g))
    (λ (c : comes ys a b ≡ true).
    let d = comes_has ys a b c in
    let n : has xs a ≡ false = apart_right xs ys a o d.0 in
    rw (n, and-false g, not_parted_a (is_some f) inner a b n) (parted_is_lowest g rest a b (once-right xs ys o) c))
    k)
    (comes_cases xs ys a b h)
