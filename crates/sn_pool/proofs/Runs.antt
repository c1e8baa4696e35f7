-- Runs of free words, and the words in them.
use Rattle.std.proofs.Common.{◌≡◌, ◌≢◌, ℕ, ◌+◌, ◌<◌, ◌≤◌, ◌||◌, ◌&&◌, ◌⊎◌, inl, inr, ⊎_elim, Bool, true, false, if◌then◌else◌, List, [], ◌∷◌, sym, refl, ap, ◌∙◌, subst, arith, true≢false, Some, None}
use Rattle.std.specs.Prelude.{nat_le, nat_lt}
use Rattle.std.proofs.lemmas.Bool.{cases_Bool, cases_lt, and_parts, leb-true, ltb-true}
use Rattle.std.proofs.lemmas.Bool.Decides.{nat_tests}
use Rattle.sn_mem.specs.declared.extents.Extent.{Extent}
use Rattle.sn_mem.specs.Words.{covers, has}
use Rattle.sn_mem.proofs.Meetings.{covered}
use Rattle.sn_pool.specs.Pools.{times, same_extent}
use Rattle.sn_pool.specs.Sorting.{IsOneMore}
use Rattle.sn_pool.specs.Holes.{AreIn, AreParted, AreRuns, IsBeside, IsLastTo}
use Rattle.sn_pool.proofs.Counts.{same_itself, same_is}
use Rattle.sn_pool.proofs.SameExtents.{covering, covered_by, same_words}

pub record IsWithin (e : Extent) (x : ℕ) : Type 0 where
  pub low : e.at ≤ x
  pub high : x < e.at + e.len

pub within : (e : Extent) (x : ℕ) → covers e x ≡ true → IsWithin e x
within e x h =
    let parts = and_parts (nat_le e.at x) (nat_lt x (e.at + e.len)) h in
    record { low = leb-true e.at x parts.0; high = ltb-true x (e.at + e.len) parts.1 }

pub same_cases : (a b : Extent) → (a ≡ b) ⊎ (a ≢ b)
same_cases a b = ⊎_elim
    (λ (same : same_extent a b ≡ true). inl (same_is a b same))
    (λ (other : same_extent a b ≡ false). inr (λ is. true≢false (sym (subst (λ z. same_extent a z ≡ true) is (same_itself a)) ∙ other)))
    (cases_Bool (same_extent a b))

-- A word is in the new ones if it is in e or in the old ones.
pub has_more : (e : Extent) (old new : List Extent) → IsOneMore e old new → (x : ℕ) → has new x ≡ (covers e x || has old x)
unfolding times
has_more e old new more x = same_words new (e ∷ old) (λ y. more y) x

module _ (e : Extent) (old new : List Extent) (runs : AreRuns old) (more : IsOneMore e new old) where
  pub still : (y : Extent) → 0 < times y new → 0 < times y old
  still y some = omega (arith, more y, some)

  pub another : (y : Extent) → 0 < times y new → y ≢ e
  another y some is =
      let one : (if same_extent y e then 1 else 0) ≡ 1 = ap {B = ℕ} (λ b. if b then 1 else 0) (subst (λ z. same_extent y z ≡ true) is (same_itself y)) in
      omega (arith, one, more y, runs.once y)

  pub was_run : 0 < times e old
  was_run =
      let one : (if same_extent e e then 1 else 0) ≡ 1 = ap {B = ℕ} (λ b. if b then 1 else 0) (same_itself e) in
      omega (arith, one, more e)

  pub still_parted : (y : Extent) → 0 < times y new → AreParted y e
  still_parted y some = runs.parted y e (still y some) was_run (another y some)

  pub runs_less : AreRuns new
  runs_less = record {
    each = λ y some. runs.each y (still y some);
    once = λ y. omega (arith, more y, runs.once y);
    parted = λ a b x y differ. runs.parted a b (still a x) (still b y) differ;
  }

-- The words of one of the runs are in the runs.
pub run_is_in : (runs : List Extent) (e : Extent) (n : ℕ) → 0 < times e runs → n ≤ e.len → AreIn runs e.at n
run_is_in runs e n some le = λ x low high. covered_by e runs x some (covered e x low (omega arith))

-- A run that has the first of words that stand after one another in the runs has each of them.
goes_on : (runs : List Extent) (p n : ℕ) (e : Extent) → AreRuns runs → AreIn runs p n → 0 < times e runs → e.at ≤ p → p < e.at + e.len → p + n ≤ e.at + e.len
goes_on runs p n e h each some low high = ⊎_elim
    (λ (less : e.at + e.len < p + n).
    let (f, next, covers_it) = covering runs (e.at + e.len) (each (e.at + e.len) (omega arith) less) in
    let there = within f (e.at + e.len) covers_it in
    absurd (⊎_elim
    (λ (is : e ≡ f). omega (arith, there.high, ap (λ (z : Extent). z.at) is, ap (λ (z : Extent). z.len) is))
    (λ (differ : e ≢ f). ⊎_elim
    (λ (l : e.at + e.len < f.at). omega (arith, l, there.low))
    (λ (m : f.at + f.len < e.at). omega (arith, m, there.high))
    (h.parted e f some next differ))
    (same_cases e f)))
    (λ (more : p + n ≤ e.at + e.len). more)
    (cases_lt (e.at + e.len) (p + n))

-- Words that stand after one another in the runs are in one run.
pub in_one : (runs : List Extent) (p n : ℕ) → AreRuns runs → 1 ≤ n → AreIn runs p n → (e : Extent) × (0 < times e runs) × (e.at ≤ p) × (p + n ≤ e.at + e.len)
in_one runs p n h one each =
    let (e, some, covers_it) = covering runs p (each p (omega arith) (omega arith)) in
    let here = within e p covers_it in
    (e, some, here.low, goes_on runs p n e h each some here.low here.high)

-- The last run that begins at p or before it has the words from p.
pub last_has : (runs : List Extent) (p n : ℕ) (run : Extent) → AreRuns runs → 1 ≤ n → AreIn runs p n → IsLastTo p runs (Some run) → (run.at ≤ p) × (p + n ≤ run.at + run.len)
last_has runs p n run h one each last =
    let (e, some, low, high) = in_one runs p n h one each in (
      last.1,
      ⊎_elim
          (λ (is : run ≡ e). omega (arith, high, ap (λ (z : Extent). z.at) is, ap (λ (z : Extent). z.len) is))
          (λ (differ : run ≢ e). absurd (⊎_elim
          (λ (l : run.at + run.len < e.at). omega (arith, l, last.2 e some low))
          (λ (m : e.at + e.len < run.at). omega (arith, m, last.1, high))
          (h.parted run e last.0 some differ)))
          (same_cases run e),
    )

pub none_has : (runs : List Extent) (p n : ℕ) → AreRuns runs → 1 ≤ n → AreIn runs p n → IsLastTo p runs None → ⊥
none_has runs p n h one each none =
    let (e, some, low, high) = in_one runs p n h one each in
    omega (arith, none e some, low)

-- Two extents, one after the other, have the words of both as one.
covers_joined : (a n m x : ℕ) → (nat_le a x && nat_lt x (a + (n + m))) ≡ ((nat_le a x && nat_lt x (a + n)) || (nat_le (a + n) x && nat_lt x (a + n + m)))
covers_joined a n m x = grind (arith, nat_tests)

or_joined : (a b h : Bool) → ((a || b) || h) ≡ (b || (a || h))
or_joined true true h = refl
or_joined true false h = refl
or_joined false true h = refl
or_joined false false h = refl

or_grouped : (a b h : Bool) → ((a || b) || h) ≡ (a || (b || h))
or_grouped true b h = refl
or_grouped false b h = refl

module _ (old new : List Extent) (run other : Extent) (h : AreRuns old) (more : IsOneMore other new old) where
  pub joined_before_words : other.at + other.len ≡ run.at → (x : ℕ) → (covers (record { at = other.at; len = other.len + run.len }) x || has new x) ≡ (covers run x || has old x)
  joined_before_words ends x =
      let both = covers_joined other.at other.len run.len x ∙ ap (λ k. covers other x || (nat_le k x && nat_lt x (k + run.len))) ends in
      ap (λ b. b || has new x) both ∙ or_joined (covers other x) (covers run x) (has new x) ∙ sym (ap (λ b. covers run x || b) (has_more other new old more x))

  pub joined_after_words : other.at ≡ run.at + run.len → (x : ℕ) → (covers (record { at = run.at; len = run.len + other.len }) x || has new x) ≡ (covers run x || has old x)
  joined_after_words begins x =
      let both = covers_joined run.at run.len other.len x ∙ ap (λ k. covers run x || (nat_le k x && nat_lt x (k + other.len))) (sym begins) in
      ap (λ b. b || has new x) both ∙ or_grouped (covers run x) (covers other x) (has new x) ∙ sym (ap (λ b. covers run x || b) (has_more other new old more x))

-- An extent without a word in the runs stands beside each.
pub beside_unused : (runs : List Extent) (e : Extent) → AreRuns runs → 1 ≤ e.len → ((x : ℕ) → covers e x ≡ true → has runs x ≡ false) → IsBeside runs e
beside_unused runs e h one unused y some =
    let size = (h.each y some).0 in
    let clash : (x : ℕ) → y.at ≤ x → x < y.at + y.len → e.at ≤ x → x < e.at + e.len → ⊥ = λ x a b c d. true≢false (sym (covered_by y runs x some (covered y x a b)) ∙ unused x (covered e x c d)) in
    ⊎_elim
    (λ (l : y.at < e.at). ⊎_elim
    (λ (over : e.at < y.at + y.len). absurd (clash e.at (omega arith) over (omega arith) (omega arith)))
    (λ (fits : y.at + y.len ≤ e.at). inl fits)
    (cases_lt e.at (y.at + y.len)))
    (λ (m : e.at ≤ y.at). ⊎_elim
    (λ (over : y.at < e.at + e.len). absurd (clash y.at (omega arith) (omega (arith, size)) m over))
    (λ (fits : e.at + e.len ≤ y.at). inr fits)
    (cases_lt y.at (e.at + e.len)))
    (cases_lt y.at e.at)

pub none_times : (e : Extent) (es : List Extent) → es ≡ [] → times e es ≡ 0
unfolding times
none_times e es none = ap (times e) none

pub no_runs : (es : List Extent) → es ≡ [] → AreRuns es
no_runs es none = record {
  each = λ e some. absurd (omega (arith, some, none_times e es none));
  once = λ e. omega (arith, none_times e es none);
  parted = λ a b some others differ. absurd (omega (arith, some, none_times a es none));
}
