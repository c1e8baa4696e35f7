-- The last number that passes a test, and the lists of a script at one place.
use Rattle.std.proofs.Common.{◌≡◌, ℕ, zero, suc, ◌+◌, ◌<◌, ◌≤◌, Bool, true, false, cond, List, length, sym, refl, ap, ◌∙◌, ⊎_elim, arith, true≢false}
use Rattle.std.proofs.lemmas.Bool.{cases_Bool, cases_lt, cases_eq, cond-true, cond-false, cond_both}
use Rattle.sn_mem.specs.Words.{writes}
use Rattle.sn_round.specs.declared.jobs.Job.{Job}
use Rattle.sn_round.specs.Jobs.{foot_at}
use Rattle.sn_round.specs.Scripts.{IsScript, word_at}
use Rattle.sn_machine.specs.Rule.{level}

pub level_le : (p : ℕ → Bool) (n : ℕ) → level p n ≤ n
level_le p zero = omega arith
level_le p (suc n) = cond_both (p n) (suc n) (level p n) (λ x. x ≤ suc n) (λ _. omega arith) (λ _. omega (arith, level_le p n))

-- no number from the level on passes
pub level_top : (p : ℕ → Bool) (n j : ℕ) → level p n ≤ j → j < n → p j ≡ false
level_top p zero j h l = absurd (omega arith)
level_top p (suc n) j h l =
    ⊎_elim
    (λ (yes : p n ≡ true). let e : level p (suc n) ≡ suc n = cond-true (p n) (suc n) (level p n) yes in absurd (omega arith))
    (λ (no : p n ≡ false).
    let e : level p (suc n) ≡ level p n = cond-false (p n) (suc n) (level p n) no in
    ⊎_elim (λ (s : j ≡ n). ap p s ∙ no) (λ (d : j ≡ n → ⊥). level_top p n j (omega arith) (omega arith)) (cases_eq j n))
    (cases_Bool (p n))

-- a number from which on none passes bounds the level
pub level_bound : (p : ℕ → Bool) (n j : ℕ) → ((i : ℕ) → j ≤ i → i < n → p i ≡ false) → level p n ≤ j
level_bound p zero j h = omega arith
level_bound p (suc n) j h =
    cond_both (p n) (suc n) (level p n) (λ x. x ≤ j)
    (λ yes. ⊎_elim (λ (l : n < j). let k : suc n ≤ j = omega arith in k) (λ (g : j ≤ n). absurd (true≢false (sym yes ∙ h n g (omega arith)))) (cases_lt n j))
    (λ _. level_bound p n j (λ i a b. h i a (omega arith)))

pub level_is : (p : ℕ → Bool) (n j : ℕ) → j < n → p j ≡ true → ((i : ℕ) → j < i → i < n → p i ≡ false) → level p n ≡ suc j
level_is p zero j l y h = absurd (omega arith)
level_is p (suc n) j l y h =
    ⊎_elim
    (λ (s : j ≡ n). cond-true (p n) (suc n) (level p n) (ap p (sym s) ∙ y) ∙ ap suc (sym s))
    (λ (d : j ≡ n → ⊥). cond-false (p n) (suc n) (level p n) (h n (omega arith) (omega arith)) ∙ level_is p n j (omega arith) y (λ i a b. h i a (omega arith)))
    (cases_eq j n)

pub level_same : (p q : ℕ → Bool) (n : ℕ) → ((i : ℕ) → i < n → p i ≡ q i) → level p n ≡ level q n
level_same p q zero h = refl
level_same p q (suc n) h = λ k. cond (h n (omega arith) k) (suc n) (level_same p q n (λ i l. h i (omega arith)) k)

-- a place that no job from a to b writes is the same in both lists
pub script_still : (jobs : List Job) (size : ℕ) (script : List (List ℕ)) (x : ℕ) → IsScript jobs size script → (a b : ℕ) → a ≤ b → b ≤ length jobs
    → ((i : ℕ) → a ≤ i → i < b → writes (foot_at jobs i) x ≡ false) → word_at script b x ≡ word_at script a x
script_still jobs size script x is a zero h m w = let e : 0 ≡ a = omega arith in ap (λ k. word_at script k x) e
script_still jobs size script x is a (suc b) h m w =
    ⊎_elim
    (λ (e : a ≡ suc b). ap (λ k. word_at script k x) (sym e))
    (λ (d : a ≡ suc b → ⊥).
    let one : word_at script (b + 1) x ≡ word_at script b x = is.still b x (omega arith) (w b (omega arith) (omega arith)) in
    let s : suc b ≡ b + 1 = omega arith in
    ap (λ k. word_at script k x) s ∙ one ∙ script_still jobs size script x is a b (omega arith) (omega arith) (λ i l g. w i l (omega arith)))
    (cases_eq a (suc b))
