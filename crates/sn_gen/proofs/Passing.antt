-- Blocks in which Line neither begins nor comes to its end.
use Rattle.std.proofs.Common.{◌≡◌, ◌≢◌, ◌≤◌, ◌<◌, ℕ, zero, suc, ◌+◌, max, List, ◌∷◌, [], ◌++◌, ℤ, cond, replicate, refl, ap, sym, subst, ⊎_elim, ◌∙◌, arith}
use Rattle.std.proofs.lemmas.Bool.{cases_eq, ne_eqb}
use Rattle.std.proofs.lemmas.List.{replicate_more}
use Rattle.sn_fixed.specs.Fixed.{frames_of}
use Rattle.sn_fixed.specs.Lines.{line_at}
use Rattle.sn_mem.specs.Blocks.{sample, scan, table}
use Rattle.sn_mem.specs.Done.{ended}
use Rattle.sn_gen.specs.declared.line.Sweep.{Sweep}
use Rattle.sn_gen.specs.Line.{begun, swept, line}
use Rattle.sn_gen.proofs.Sweeping.{follows, sweep, swept_on, swept_off}

-- after its first frame it reads no input
goes_on : (rate : ℕ) (ins : List (List ℤ)) (k d f n : ℕ) (a e : ℤ) → 0 < f → ◌≡◌ {A = Sweep × ℤ} (line rate (sweep d f a e n) ins k) (swept (sweep d f a e n))
goes_on rate ins k d f n a e some =
    let anew : Sweep = sweep d 0 (sample ins 0 k) (sample ins 1 k) (frames_of (sample ins 2 k) rate) in
    let here : begun rate (sweep d f a e n) ins k ≡ sweep d f a e n = ap (λ c. cond c anew (sweep d f a e n)) (ne_eqb f 0 (omega (arith, some))) in
    ap swept here

pub within : (rate : ℕ) (ins : List (List ℤ)) (d f n : ℕ) (a e : ℤ) → 0 < f → f + 64 ≤ n
    → ◌≡◌ {A = Sweep × List ℤ} (scan (line rate) (sweep d f a e n) ins 64) (sweep d (f + 64) a e n, table (λ k. line_at a e (f + k) n) 64)
within rate ins d f n a e some fits =
    let here : f ≡ f + 0 = omega arith in
    ap (λ (m : ℕ). scan (line rate) (sweep d m a e n) ins 64) here
    ∙ follows (line rate) (λ k. sweep d (f + k) a e n) (λ k. line_at a e (f + k) n) ins 64 step
  where
    step : (k : ℕ) → k < 64 → ◌≡◌ {A = Sweep × ℤ} (line rate (sweep d (f + k) a e n) ins k) (sweep d (f + suc k) a e n, line_at a e (f + k) n)
    step k lt =
        let next : f + k + 1 ≡ f + suc k = omega arith in
        goes_on rate ins k d (f + k) n a e (omega (arith, some))
        ∙ (swept_on d (f + k) n a e (omega (arith, fits, lt)) ∙ ap (λ (m : ℕ). let r : Sweep × ℤ = (sweep d m a e n, line_at a e (f + k) n) in r) next)

ended_before : (d : ℕ) → d ≢ 0 → ended d ≡ d
ended_before d ne = ap (λ b. cond b 1 d) (ne_eqb d 0 ne)

pub ended_twice : (d : ℕ) → ended (ended d) ≡ ended d
ended_twice d = ⊎_elim
    (λ (e : d ≡ 0). subst (λ n. ended (ended n) ≡ ended n) (sym e) refl)
    (λ (ne : d ≢ 0). ap ended (ended_before d ne))
    (cases_eq d 0)

pub equal_samples : (y : ℤ) (k : ℕ) → table (λ _. y) k ≡ replicate k y
unfolding table
equal_samples y zero = refl
equal_samples y (suc k) =
    let next : k + 1 ≡ suc k = omega arith in
    ap (λ (ys : List ℤ). ys ++ y ∷ []) (equal_samples y k) ∙ (replicate_more k y ∙ ap (λ m. replicate m y) next)

-- the line before frame k of a block after its end
abbrev rested : ℕ → ℕ → ℤ → ℤ → ℕ → ℕ → Sweep
rested d f a e n zero = sweep d f a e n
rested d f a e n (suc k) = sweep (ended d) f a e n

pub behind : (rate : ℕ) (ins : List (List ℤ)) (d f n : ℕ) (a e : ℤ) → 0 < f → n ≤ f
    → ◌≡◌ {A = Sweep × List ℤ} (scan (line rate) (sweep d f a e n) ins 64) (sweep (ended d) f a e n, replicate 64 e)
behind rate ins d f n a e some le =
    follows (line rate) (rested d f a e n) (λ _. e) ins 64 step ∙ ap (λ (ys : List ℤ). let r : Sweep × List ℤ = (sweep (ended d) f a e n, ys) in r) (equal_samples e 64)
  where
    off : (d k : ℕ) → ◌≡◌ {A = Sweep × ℤ} (line rate (sweep d f a e n) ins k) (sweep (ended d) f a e n, e)
    off d k =
        let same : max f 1 ≡ f = omega (arith, some) in
        goes_on rate ins k d f n a e some ∙ (swept_off d f n a e le ∙ ap (λ (m : ℕ). let r : Sweep × ℤ = (sweep (ended d) m a e n, e) in r) same)

    step : (k : ℕ) → k < 64 → ◌≡◌ {A = Sweep × ℤ} (line rate (rested d f a e n k) ins k) (rested d f a e n (suc k), e)
    step zero lt = off d 0
    step (suc k) lt = off (ended d) (suc k) ∙ ap (λ (d : ℕ). let r : Sweep × ℤ = (sweep d f a e n, e) in r) (ended_twice d)

pub same_line : (d d' f n : ℕ) (a a' e e' : ℤ) → d ≡ d' → a ≡ a' → e ≡ e' → sweep d f a e n ≡ sweep d' f a' e' n
same_line d d' f n a a' e e' p q r = cc
