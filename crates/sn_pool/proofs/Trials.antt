-- Trying every place of a region finds the least place.
use Rattle.std.proofs.Common.{◌≡◌, ℕ, ◌+◌, ◌-◌, ◌<◌, ◌≤◌, ⊎_elim, true, false, not, List, Option, Some, None, sym, refl, ap, ◌∙◌, subst, arith, zero, suc}
use Rattle.std.proofs.lemmas.Bool.{and_from, and_parts, not-true, not_from_false, cond_both, true≢false, cases_eq}
use Rattle.sn_mem.specs.declared.extents.Extent.{Extent}
use Rattle.sn_mem.specs.Words.{has}
use Rattle.sn_pool.specs.Regions.{LeastPlace, are_free, first_free, least_place}

abbrev AreUnused : List Extent → ℕ → ℕ → Type 0
AreUnused live p n = (x : ℕ) → p ≤ x → x < p + n → has live x ≡ false

unused_from : (live : List Extent) (p n : ℕ) → are_free live p n ≡ true → AreUnused live p n
unfolding are_free
unused_from live p zero test x low high = absurd (omega arith)
unused_from live p (suc n) test x low high =
    let parts = and_parts (not (has live p)) (are_free live (p + 1) n) test in
    ⊎_elim
    (λ (here : x ≡ p). ap (has live) here ∙ not-true (has live p) parts.0)
    (λ (other : x ≡ p → ⊥). unused_from live (p + 1) n parts.1 x (omega arith) (omega arith))
    (cases_eq x p)

are_free_from : (live : List Extent) (p n : ℕ) → AreUnused live p n → are_free live p n ≡ true
unfolding are_free
are_free_from live p zero each = refl
are_free_from live p (suc n) each =
    and_from (not (has live p)) (are_free live (p + 1) n)
    (not_from_false (has live p) (each p (omega arith) (omega arith)))
    (are_free_from live (p + 1) n (λ x low high. each x (omega arith) (omega arith)))

-- What the trial of the places from p on answers.
abbrev IsFirst : List Extent → ℕ → ℕ → ℕ → Option ℕ → Type 0
IsFirst live n p places None = (q : ℕ) → p ≤ q → q < p + places → AreUnused live q n → ⊥
IsFirst live n p places (Some r) = (p ≤ r) × (r < p + places) × AreUnused live r n × ((q : ℕ) → p ≤ q → q < p + places → AreUnused live q n → r ≤ q)

first_later : (live : List Extent) (n p places : ℕ) (answer : Option ℕ) → are_free live p n ≡ false → IsFirst live n (p + 1) places answer → IsFirst live n p (suc places) answer
first_later live n p places None used first = λ q low high unused.
    ⊎_elim
    (λ (here : q ≡ p). true≢false (sym (are_free_from live p n (subst (λ x. AreUnused live x n) here unused)) ∙ used))
    (λ (other : q ≡ p → ⊥). first q (omega arith) (omega arith) unused)
    (cases_eq q p)
first_later live n p places (Some r) used first = (
  omega (arith, first.0),
  omega (arith, first.1),
  first.2,
  λ q low high unused.
      ⊎_elim
      (λ (here : q ≡ p). absurd (true≢false (sym (are_free_from live p n (subst (λ x. AreUnused live x n) here unused)) ∙ used)))
      (λ (other : q ≡ p → ⊥). first.3 q (omega arith) (omega arith) unused)
      (cases_eq q p),
)

first_free_is : (live : List Extent) (n p places : ℕ) → IsFirst live n p places (first_free live n p places)
unfolding first_free
first_free_is live n p zero = λ q low high unused. omega arith
first_free_is live n p (suc places) =
    cond_both (are_free live p n) (Some p) (first_free live n (p + 1) places) (IsFirst live n p (suc places))
    (λ test. (omega arith, omega arith, unused_from live p n test, λ q low high unused. low))
    (λ test. first_later live n p places (first_free live n (p + 1) places) test (first_free_is live n (p + 1) places))

least_from_first : (region : Extent) (live : List Extent) (n : ℕ) (answer : Option ℕ) → 1 ≤ n → IsFirst live n region.at (region.len + 1 - n) answer → LeastPlace region live n answer
least_from_first region live n None one first = λ p free. first p free.from (omega (arith, free.from, free.to)) free.unused
least_from_first region live n (Some r) one first = record {
  free = record { from = first.0; to = omega (arith, first.0, first.1); unused = first.2 };
  least = λ q free. first.3 q free.from (omega (arith, free.from, free.to)) free.unused;
}

pub least_place_is : (region : Extent) (live : List Extent) (n : ℕ) → 1 ≤ n → LeastPlace region live n (least_place region live n)
least_place_is region live n one = least_from_first region live n (least_place region live n) one (first_free_is live n region.at (region.len + 1 - n))

-- There is one answer.
pub least_place_alone : (region : Extent) (live : List Extent) (n : ℕ) (one other : Option ℕ) → LeastPlace region live n one → LeastPlace region live n other → one ≡ other
least_place_alone region live n None None a b = refl
least_place_alone region live n None (Some q) a b = absurd (a q b.free)
least_place_alone region live n (Some p) None a b = absurd (b p a.free)
least_place_alone region live n (Some p) (Some q) a b = ap Some (let same : p ≡ q = omega (arith, a.least q b.free, b.least p a.free) in same)
