-- A run from which words in it are taken.
use Rattle.std.proofs.Common.{◌≡◌, ℕ, ◌+◌, ◌-◌, ◌<◌, ◌≤◌, ◌||◌, ◌&&◌, ⊎_elim, not, Bool, true, false, List, sym, refl, ap, ◌∙◌, arith}
use Rattle.std.specs.Prelude.{nat_le, nat_lt}
use Rattle.std.proofs.lemmas.Bool.{cases_Bool, and_right, or_from, not_from_true, false_from_ne_true}
use Rattle.std.proofs.lemmas.Bool.Decides.{nat_tests}
use Rattle.sn_mem.specs.declared.extents.Extent.{Extent}
use Rattle.sn_mem.specs.Words.{covers, has}
use Rattle.sn_mem.proofs.Meetings.{before, after}
use Rattle.sn_pool.specs.Sorting.{IsOneMore}
use Rattle.sn_pool.specs.Holes.{AreRuns}
use Rattle.sn_pool.proofs.SameExtents.{covering}
use Rattle.sn_pool.proofs.Runs.{has_more, still_parted, within}

covers_cut : (a n p m x : ℕ) → a ≤ p → p + m ≤ a + n → (nat_le p x && nat_lt x (p + m)) ≡ false → (nat_le a x && nat_lt x (a + n)) ≡ ((nat_le (p + m) x && nat_lt x (p + m + (a + n - (p + m)))) || (nat_le a x && nat_lt x (a + (p - a))))
covers_cut a n p m x low high out = grind (arith, nat_tests)

and_true : (b : Bool) → (b && true) ≡ b
and_true true = refl
and_true false = refl

or_cut : (a b h : Bool) → (a || (b || h)) ≡ ((a || b) || h)
or_cut true b h = refl
or_cut false b h = refl

module _ (old less : List Extent) (run extent : Extent) (h : AreRuns old) (more : IsOneMore run less old) (low : run.at ≤ extent.at) (high : extent.at + extent.len ≤ run.at + run.len) where
  -- no other run has a word of the one that is cut
  others_miss : (x : ℕ) → covers extent x ≡ true → has less x ≡ false
  others_miss x here = false_from_ne_true (has less x) (λ yes.
      let (y, some, c) = covering less x yes in
      let there = within y x c in
      let at = within extent x here in
      ⊎_elim
      (λ (l : y.at + y.len < run.at). omega (arith, l, low, there.high, at.low))
      (λ (m : run.at + run.len < y.at). omega (arith, m, high, there.low, at.high))
      (still_parted run old less h more y some))

  -- what is left of the run and the others have the words that are not taken
  pub cut_words : (x : ℕ) → (covers (record { at = extent.at + extent.len; len = run.at + run.len - (extent.at + extent.len) }) x || (covers (record { at = run.at; len = extent.at - run.at }) x || has less x)) ≡ (has old x && not (covers extent x))
  cut_words x =
      let first : Extent = record { at = run.at; len = extent.at - run.at } in
      let second : Extent = record { at = extent.at + extent.len; len = run.at + run.len - (extent.at + extent.len) } in
      ⊎_elim
      (λ (here : covers extent x ≡ true).
      let at = within extent x here in
      or_from (covers second x) (covers first x || has less x) (before second x at.high)
      (or_from (covers first x) (has less x) (after first x (omega (arith, at.low, low))) (others_miss x here))
      ∙ sym (and_right (has old x) (not (covers extent x)) (not_from_true (covers extent x) here)))
      (λ (there : covers extent x ≡ false).
      or_cut (covers second x) (covers first x) (has less x)
      ∙ ap (λ b. b || has less x) (sym (covers_cut run.at run.len extent.at extent.len x low high there))
      ∙ sym (has_more run less old more x)
      ∙ sym (and_true (has old x))
      ∙ ap (λ b. has old x && not b) (sym there))
      (cases_Bool (covers extent x))
