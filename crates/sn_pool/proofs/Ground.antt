-- A region's live extents and its runs of free words.
use Rattle.std.proofs.Common.{◌≡◌, ◌≢◌, ℕ, ◌+◌, ◌-◌, ◌<◌, ◌≤◌, ◌||◌, ◌&&◌, ⊎_elim, not, Bool, true, false, if◌then◌else◌, List, length, sym, refl, ap, ◌∙◌, subst, arith, Option, Some, None}
use Rattle.std.proofs.lemmas.Bool.{cases_Bool, cases_lt, and_from, and_parts, and_right, or_left, not-true, not_from_true, not_from_false, false_from_ne_true}
use Rattle.sn_mem.specs.declared.extents.Extent.{Extent}
use Rattle.sn_mem.specs.Words.{covers, has}
use Rattle.sn_mem.proofs.Meetings.{covered}
use Rattle.sn_pool.specs.declared.sorted.Order.TheVariants.{Place}
use Rattle.sn_pool.specs.Pools.{times, same_extent, AreLaidOut, LiesIn, with_extent, without_extent}
use Rattle.sn_pool.specs.Sorting.{AreInOrder, IsOneMore}
use Rattle.sn_pool.specs.Holes.{AreIn, AreRuns, IsLeastIn, IsLongestIn}
use Rattle.sn_pool.specs.Regions.{IsFree, IsLongestRun, LeastPlace}
use Rattle.sn_pool.proofs.LaidOut.{laid_out_without}
use Rattle.sn_pool.proofs.FreeRuns.{laid_out_with}
use Rattle.sn_pool.proofs.Counts.{same_itself, times_with, times_without, times_once, times_inside, times_disjoint}
use Rattle.sn_pool.proofs.SameExtents.{covering, covered_by}
use Rattle.sn_pool.proofs.Orders.{sorted_same, laid_out_sorted}
use Rattle.sn_pool.proofs.Runs.{has_more, within}
use Rattle.sn_pool.proofs.Numbers.{spread_from, runs_number}

-- A word is in a run exactly if it is in the region and in no live extent.
abbrev pub AreParts : Extent → List Extent → List Extent → Type 0
AreParts words live runs = (x : ℕ) → has runs x ≡ (covers words x && not (has live x))

module _ (words : Extent) (live runs : List Extent) (parts : AreParts words live runs) where
  pub free_in : (n p : ℕ) → IsFree words live n p → AreIn runs p n
  free_in n p free x low high =
      parts x ∙ and_from (covers words x) (not (has live x)) (covered words x (omega (arith, free.from)) (omega (arith, free.to))) (not_from_false (has live x) (free.unused x low high))

  pub in_free : (n p : ℕ) → 1 ≤ n → AreIn runs p n → IsFree words live n p
  in_free n p one each =
      let at : (x : ℕ) → p ≤ x → x < p + n → (covers words x ≡ true) × (not (has live x) ≡ true) = λ x low high. and_parts (covers words x) (not (has live x)) (sym (parts x) ∙ each x low high) in
      let first = within words p (at p (omega arith) (omega arith)).0 in
      let last = within words (p + n - 1) (at (p + n - 1) (omega arith) (omega arith)).0 in
      record {
        from = first.low;
        to = omega (arith, last.high);
        unused = λ x low high. not-true (has live x) (at x low high).1;
      }

  pub least_is : (n : ℕ) (answer : Option ℕ) → 1 ≤ n → IsLeastIn runs n answer → LeastPlace words live n answer
  least_is n None one none = λ p free. none p (free_in n p free)
  least_is n (Some p) one least = record { free = in_free n p one least.0; least = λ q free. least.1 q (free_in n q free) }

  pub longest_is : (n : ℕ) → IsLongestIn runs n → IsLongestRun words live n
  longest_is n long = record {
    place = ⊎_elim
        (λ (none : n ≡ 0). (words.at, record { from = omega arith; to = omega (arith, none); unused = λ x low high. absurd (omega (arith, none)) }))
        (λ (run : (p : ℕ) × AreIn runs p n). ⊎_elim
        (λ (none : n < 1). (words.at, record { from = omega arith; to = omega (arith, none); unused = λ x low high. absurd (omega (arith, none)) }))
        (λ (one : 1 ≤ n). (run.0, in_free n run.0 one run.1))
        (cases_lt n 1))
        long.place;
    longest = λ m p free. ⊎_elim
        (λ (none : m < 1). let t : m ≤ n = omega arith in t)
        (λ (one : 1 ≤ m). long.longest m p one (free_in m p free))
        (cases_lt m 1);
  }

  -- no live word is in a run
  pub live_unused : (e : Extent) → 0 < times e live → (x : ℕ) → covers e x ≡ true → has runs x ≡ false
  live_unused e some x here = parts x ∙ and_right (covers words x) (not (has live x)) (not_from_true (has live x) (covered_by e live x some here))

  pub number_of_runs : AreLaidOut words.at (words.at + words.len) live → AreRuns runs → AreInOrder Place runs → length runs ≤ length live + 1
  number_of_runs laid h sorted =
      let in_words : (e : Extent) → 0 < times e runs → (x : ℕ) → e.at ≤ x → x < e.at + e.len → covers words x ≡ true = λ e some x low high.
      (and_parts (covers words x) (not (has live x)) (sym (parts x) ∙ covered_by e runs x some (covered e x low high))).0 in
      runs_number words.at (words.at + words.len) live runs laid
      (spread_from words.at (words.at + words.len) runs h sorted (λ e some.
      let one = (h.each e some).0 in
      let first = within words e.at (in_words e some e.at (omega arith) (omega (arith, one))) in
      let last = within words (e.at + e.len - 1) (in_words e some (e.at + e.len - 1) (omega (arith, one)) (omega (arith, one))) in
      (first.low, omega (arith, one, last.high))))
      (λ x low high. parts x ∙ ap (λ b. b && not (has live x)) (covered words x low high))

cut : (r l c : Bool) → ((r && not l) && not c) ≡ (r && not (c || l))
cut false l c = refl
cut true true true = refl
cut true true false = refl
cut true false true = refl
cut true false false = refl

pub filled_parts : (words e : Extent) (live more_live runs fewer : List Extent) → AreParts words live runs → IsOneMore e live more_live → ((x : ℕ) → has fewer x ≡ (has runs x && not (covers e x))) → AreParts words more_live fewer
filled_parts words e live more_live runs fewer parts more left = λ x.
    left x ∙ ap (λ b. b && not (covers e x)) (parts x) ∙ cut (covers words x) (has live x) (covers e x) ∙ sym (ap (λ b. covers words x && not b) (has_more e live more_live more x))

module _ (words e : Extent) (live fewer_live : List Extent) (laid : AreLaidOut words.at (words.at + words.len) live) (some : 0 < times e live) (more : IsOneMore e fewer_live live) where
  -- none of its words is in another live extent
  pub others_apart : (x : ℕ) → covers e x ≡ true → has fewer_live x ≡ false
  others_apart x here = false_from_ne_true (has fewer_live x) (λ yes.
      let (y, still, c) = covering fewer_live x yes in
      let differ : e ≢ y = λ is.
      let one : (if same_extent y e then 1 else 0) ≡ 1 = ap {B = ℕ} (λ b. if b then 1 else 0) (subst (λ z. same_extent y z ≡ true) (sym is) (same_itself y)) in
      omega (arith, one, more y, times_once words.at (words.at + words.len) live y laid) in
      times_disjoint words.at (words.at + words.len) live e y laid some (omega (arith, more y, still)) differ x here c)

  pub released_parts : (runs new : List Extent) → AreParts words live runs → ((x : ℕ) → has new x ≡ (covers e x || has runs x)) → AreParts words fewer_live new
  released_parts runs new parts free x = ⊎_elim
      (λ (here : covers e x ≡ true).
      let at = within e x here in
      let lies : LiesIn words e = (times_inside words live e laid some).0 in
      free x ∙ or_left (covers e x) (has runs x) here
      ∙ sym (and_from (covers words x) (not (has fewer_live x)) (covered words x (omega (arith, lies.0, at.low)) (omega (arith, lies.1, at.high))) (not_from_false (has fewer_live x) (others_apart x here))))
      (λ (there : covers e x ≡ false).
      free x ∙ ap (λ b. b || has runs x) there ∙ parts x
      ∙ ap (λ b. covers words x && not b) (has_more e fewer_live live more x ∙ ap (λ b. b || has fewer_live x) there))
      (cases_Bool (covers e x))

pub laid_out_filled : (words : Extent) (live : List Extent) (e : Extent) → AreLaidOut words.at (words.at + words.len) live → 1 ≤ e.len → IsFree words live e.len e.at → AreLaidOut words.at (words.at + words.len) (with_extent e live)
laid_out_filled words live e laid one free = laid_out_with words.at (words.at + words.len) live e laid one (record { begins = free.from; ends = free.to; unused = free.unused })

pub filled_live : (words : Extent) (live new : List Extent) (e : Extent) → AreLaidOut words.at (words.at + words.len) live → 1 ≤ e.len → IsFree words live e.len e.at → AreInOrder Place new → IsOneMore e live new → new ≡ with_extent e live
filled_live words live new e laid one free sorted more =
    sorted_same Place new (with_extent e live) sorted (laid_out_sorted words.at (words.at + words.len) (with_extent e live) (laid_out_filled words live e laid one free)) (λ x. more x ∙ sym (times_with x e live))

pub released_live : (words : Extent) (live new : List Extent) (e : Extent) → AreLaidOut words.at (words.at + words.len) live → 0 < times e live → AreInOrder Place new → IsOneMore e new live → new ≡ without_extent e live
released_live words live new e laid some sorted more =
    sorted_same Place new (without_extent e live) sorted (laid_out_sorted words.at (words.at + words.len) (without_extent e live) (laid_out_without words.at (words.at + words.len) live e laid))
    (λ x. omega (arith, more x, times_without x e live some))
