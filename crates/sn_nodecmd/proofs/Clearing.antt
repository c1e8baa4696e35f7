-- Words that are set to 0, and extents that are taken.
use Rattle.std.proofs.Common.{◌≡◌, ◌≢◌, ◌≤◌, ◌<◌, ◌+◌, ◌⊎◌, inl, inr, ⊎_elim, ℕ, zero, suc, Bool, true, false, List, [], ◌∷◌, length, get_or, set, replicate, refl, ap, sym, ◌∙◌, arith, length-set, get_or-set_same, get_or-set_other}
use Rattle.std.specs.Prelude.{if◌then◌else◌, nat_eq}
use Rattle.std.proofs.lemmas.Bool.{cases_eq, cond_both, eqb-true}
use Rattle.std.proofs.lemmas.List.{ext_get_or, get_or-replicate, length-replicate}
use Rattle.sn_mem.specs.declared.extents.Extent.{Extent}
use Rattle.sn_mem.specs.Blocks.{window}
use Rattle.sn_mem.proofs.Steps.{length-window}
use Rattle.sn_mem.proofs.Windows.{window_at}
use Rattle.sn_pool.specs.Pools.{PoolState, with_extent, same_extent, times}
use Rattle.sn_pool.proofs.Counts.{same_is, times_with}
use Rattle.sn_nodecmd.specs.Placing.{taken, cleared}

-- ---- words that are set to 0

pub cleared_none : (ws : List ℕ) (at : ℕ) → cleared ws at 0 ≡ ws
unfolding cleared
cleared_none ws at = refl

pub cleared_more : (ws : List ℕ) (at n : ℕ) → set (cleared ws at n) (at + n) 0 ≡ cleared ws at (n + 1)
unfolding cleared
cleared_more ws at n = ap (cleared ws at) (let e : suc n ≡ n + 1 = omega arith in e)

pub length-cleared : (ws : List ℕ) (at n : ℕ) → length (cleared ws at n) ≡ length ws
unfolding cleared
length-cleared ws at zero = refl
length-cleared ws at (suc n) = length-set (cleared ws at n) (at + n) 0 ∙ length-cleared ws at n

pub cleared_other : (ws : List ℕ) (at n x : ℕ) → (x < at) ⊎ (at + n ≤ x) → get_or (cleared ws at n) x 0 ≡ get_or ws x 0
unfolding cleared
cleared_other ws at zero x apart = refl
cleared_other ws at (suc n) x apart =
    ⊎_elim
    (λ (low : x < at). get_or-set_other (cleared ws at n) (at + n) x 0 0 (omega (arith, low)) ∙ cleared_other ws at n x (inl low))
    (λ (high : at + suc n ≤ x). get_or-set_other (cleared ws at n) (at + n) x 0 0 (omega (arith, high)) ∙ cleared_other ws at n x (inr (omega (arith, high))))
    apart

cleared_in : (ws : List ℕ) (at n k : ℕ) → k < n → at + n ≤ length ws → get_or (cleared ws at n) (at + k) 0 ≡ 0
unfolding cleared
cleared_in ws at zero k lt inside = absurd (omega arith)
cleared_in ws at (suc n) k lt inside =
    ⊎_elim
    (λ (e : k ≡ n). ap (λ m. get_or (set (cleared ws at n) (at + n) 0) (at + m) 0) e ∙ get_or-set_same (cleared ws at n) (at + n) 0 0 (omega (arith, length-cleared ws at n)))
    (λ (ne : k ≢ n). get_or-set_other (cleared ws at n) (at + n) (at + k) 0 0 (omega (arith, ne)) ∙ cleared_in ws at n k (omega (arith, ne)) (omega arith))
    (cases_eq k n)

pub window-cleared : (ws : List ℕ) (at n : ℕ) → at + n ≤ length ws → window (cleared ws at n) at n ≡ replicate n 0
window-cleared ws at n inside =
    ext_get_or 0 (window (cleared ws at n) at n) (replicate n 0) (length-window (cleared ws at n) at n ∙ sym (length-replicate n 0))
    (λ k lt. let low : k < n = omega (arith, lt, length-window (cleared ws at n) at n) in
    window_at (cleared ws at n) at n k low ∙ cleared_in ws at n k low inside ∙ sym (get_or-replicate n k 0 0 low))

-- ---- a pool after words were taken

nothing_of : (e x : Extent) → e.len ≡ 0 → 1 ≤ x.len → same_extent x e ≡ false
nothing_of e x empty some = at (same_extent x e) refl
  where
    at : (b : Bool) → same_extent x e ≡ b → b ≡ false
    at true is = absurd (omega (arith, empty, some, ap (λ (y : Extent). y.len) (same_is x e is)))
    at false is = refl

pub times-taken : (e : Extent) (pool : PoolState) (x : Extent) → 1 ≤ x.len → times x (taken e pool).live ≡ times x (e ∷ []) + times x pool.live
unfolding times
times-taken e pool x some =
    cond_both (nat_eq e.len 0) pool (record pool { live = with_extent e pool.live }) (λ (p : PoolState). times x p.live ≡ times x (e ∷ []) + times x pool.live)
    (λ is. omega (arith, not_counted (same_extent x e) (nothing_of e x (eqb-true e.len 0 is) some)))
    (λ _. omega (arith, times_with x e pool.live))
  where
    not_counted : (b : Bool) → b ≡ false → ◌≡◌ {A = ℕ} (if b then 1 else 0) 0
    not_counted b e = ap (λ (c : Bool). let n : ℕ = if c then 1 else 0 in n) e

pub region-taken : (e : Extent) (pool : PoolState) → (taken e pool).region ≡ pool.region
region-taken e pool = cond_both (nat_eq e.len 0) pool (record pool { live = with_extent e pool.live }) (λ (p : PoolState). p.region ≡ pool.region) (λ _. refl) (λ _. refl)

pub journal-taken : (e : Extent) (pool : PoolState) → (taken e pool).journal ≡ pool.journal
journal-taken e pool = cond_both (nat_eq e.len 0) pool (record pool { live = with_extent e pool.live }) (λ (p : PoolState). p.journal ≡ pool.journal) (λ _. refl) (λ _. refl)
