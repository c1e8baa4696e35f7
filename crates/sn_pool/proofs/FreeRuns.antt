-- Runs of free words among extents laid out one after the other.
use Rattle.std.proofs.Common.{◌≡◌, ℕ, ◌+◌, ◌<◌, ◌≤◌, ◌⊎◌, inl, inr, ⊎_elim, false, List, [], ◌∷◌, sym, refl, ◌∙◌, arith, ltb}
use Rattle.std.proofs.lemmas.Bool.{or_from, or_parts, cases_lt, ltb-true, ltb-false, true≢false, cond_both}
use Rattle.sn_mem.specs.declared.extents.Extent.{Extent}
use Rattle.sn_mem.specs.Words.{covers, has}
use Rattle.sn_pool.specs.Pools.{AreLaidOut, with_extent}
use Rattle.sn_mem.proofs.Meetings.{covered, before}

-- The n words from p lie between the two places, and in none of the extents.
pub record IsClear (from to : ℕ) (live : List Extent) (n p : ℕ) : Type 0 where
  pub begins : from ≤ p
  pub ends : p + n ≤ to
  pub unused : (x : ℕ) → p ≤ x → x < p + n → has live x ≡ false

pub unused_below : (from to : ℕ) (es : List Extent) → AreLaidOut from to es → (x : ℕ) → x < from → has es x ≡ false
unused_below from to [] h x lt = refl
unused_below from to (e ∷ es) h x lt =
    or_from (covers e x) (has es x) (before e x (omega (arith, h.0))) (unused_below (e.at + e.len) to es h.2 x (omega (arith, h.0)))

-- A clear run of at least one word ends before the first extent, or begins after it.
pub clear_cases : (from to : ℕ) (e : Extent) (es : List Extent) (n p : ℕ) → 1 ≤ e.len → 1 ≤ n → IsClear from to (e ∷ es) n p → (p + n ≤ e.at) ⊎ IsClear (e.at + e.len) to es n p
clear_cases from to e es n p some one clear =
    ⊎_elim
    (λ (over : e.at < p + n). inr (record {
      begins = ⊎_elim
          (λ (inside : p < e.at + e.len). ⊎_elim
          (λ (low : p < e.at). let t = (or_parts (covers e e.at) (has es e.at) (clear.unused e.at (omega arith) over)).0 in absurd (true≢false (sym (covered e e.at (omega arith) (omega arith)) ∙ t)))
          (λ (high : e.at ≤ p). let t = (or_parts (covers e p) (has es p) (clear.unused p (omega arith) (omega arith))).0 in absurd (true≢false (sym (covered e p high inside) ∙ t)))
          (cases_lt p e.at))
          (λ (past : e.at + e.len ≤ p). past)
          (cases_lt p (e.at + e.len));
      ends = clear.ends;
      unused = λ x low high. (or_parts (covers e x) (has es x) (clear.unused x low high)).1;
    }))
    (λ (fits : p + n ≤ e.at). inl fits)
    (cases_lt e.at (p + n))

-- An extent over a clear run lies among the others.
pub laid_out_with : (from to : ℕ) (es : List Extent) (new : Extent) → AreLaidOut from to es → 1 ≤ new.len → IsClear from to es new.len new.at → AreLaidOut from to (with_extent new es)
laid_out_with from to [] new h one clear = (clear.begins, one, clear.ends)
laid_out_with from to (e ∷ es) new h one clear =
    cond_both (ltb new.at e.at) (new ∷ e ∷ es) (e ∷ with_extent new es) (λ xs. AreLaidOut from to xs)
    (λ b. let lt = ltb-true new.at e.at b in
    let fits : new.at + new.len ≤ e.at = ⊎_elim
    (λ (fits : new.at + new.len ≤ e.at). fits)
    (λ (past : IsClear (e.at + e.len) to es new.len new.at). absurd (omega (arith, past.begins)))
    (clear_cases from to e es new.len new.at h.1 one clear) in
    (clear.begins, one, (fits, h.1, h.2)))
    (λ b. let ge = ltb-false new.at e.at b in
    let past : IsClear (e.at + e.len) to es new.len new.at = ⊎_elim
    (λ (fits : new.at + new.len ≤ e.at). absurd (omega arith))
    (λ (past : IsClear (e.at + e.len) to es new.len new.at). past)
    (clear_cases from to e es new.len new.at h.1 one clear) in
    (h.0, h.1, laid_out_with (e.at + e.len) to es new h.2 one past))
