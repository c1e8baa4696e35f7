-- What the jobs make of the words, one after the other, is a script.
use Rattle.std.proofs.Common.{◌≡◌, ℕ, zero, suc, ◌+◌, ◌<◌, ◌≤◌, false, List, length, get_or, refl, ap, ◌∙◌, arith}
use Rattle.sn_mem.specs.Words.{writes}
use Rattle.sn_round.specs.declared.jobs.Job.{Job}
use Rattle.sn_round.specs.Jobs.{foot_at}
use Rattle.sn_round.specs.Scripts.{IsScript, list_at, sequential_from, sequential}

module _ (f : ℕ → List ℕ → List ℕ) where
  lists : (k n : ℕ) (ws : List ℕ) → length (sequential_from f k n ws) ≡ suc n
  lists k zero ws = refl
  lists k (suc n) ws = ap suc (lists (suc k) n (f k ws))

  next : (k n i : ℕ) (ws : List ℕ) → i < n → list_at (sequential_from f k n ws) (suc i) ≡ f (k + i) (list_at (sequential_from f k n ws) i)
  next k zero i ws l = absurd (omega arith)
  next k (suc zero) zero ws l = let e : k ≡ k + 0 = omega arith in ap (λ m. f m ws) e
  next k (suc (suc n)) zero ws l = let e : k ≡ k + 0 = omega arith in ap (λ m. f m ws) e
  next k (suc n) (suc i) ws l =
      let e : suc k + i ≡ k + suc i = omega arith in
      next (suc k) n i (f k ws) (omega arith) ∙ ap (λ m. f m (list_at (sequential_from f (suc k) n (f k ws)) i)) e

  -- the next list is what the next job makes of the one before
  pub sequential_step : (n i : ℕ) (ws : List ℕ) → i < n → list_at (sequential f n ws) (i + 1) ≡ f i (list_at (sequential f n ws) i)
  sequential_step n i ws l =
      let s : i + 1 ≡ suc i = omega arith in
      let z : 0 + i ≡ i = omega arith in
      ap (list_at (sequential f n ws)) s ∙ (next 0 n i ws l ∙ ap (λ m. f m (list_at (sequential f n ws) i)) z)

  pub sequential_first : (n : ℕ) (ws : List ℕ) → list_at (sequential f n ws) 0 ≡ ws
  sequential_first zero ws = refl
  sequential_first (suc n) ws = refl

  wide : (n size i : ℕ) (ws : List ℕ) → ((j : ℕ) (us : List ℕ) → j < n → length (f j us) ≡ length us) → length ws ≡ size → i ≤ n → length (list_at (sequential f n ws) i) ≡ size
  wide zero size zero ws h e l = e
  wide (suc n) size zero ws h e l = e
  wide n size (suc i) ws h e l =
      let s : suc i ≡ i + 1 = omega arith in
      ap (λ k. length (list_at (sequential f n ws) k)) s ∙ (ap length (sequential_step n i ws (omega arith)) ∙ (h i (list_at (sequential f n ws) i) (omega arith) ∙ wide n size i ws h e (omega arith)))

  pub is_script : (jobs : List Job) (ws : List ℕ) → ((j : ℕ) (us : List ℕ) → j < length jobs → length (f j us) ≡ length us)
      → ((j x : ℕ) (us : List ℕ) → j < length jobs → writes (foot_at jobs j) x ≡ false → get_or (f j us) x 0 ≡ get_or us x 0) → IsScript jobs (length ws) (sequential f (length jobs) ws)
  is_script jobs ws as_long only = record {
    whole = lists 0 (length jobs) ws ∙ omega arith;
    wide = λ i l. wide (length jobs) (length ws) i ws as_long refl l;
    still = λ i x l no. ap (λ (us : List ℕ). get_or us x 0) (sequential_step (length jobs) i ws l) ∙ only i x (list_at (sequential f (length jobs) ws) i) l no;
  }
