-- Runs of words that a copy has.
use Rattle.std.proofs.Common.{◌≡◌, ◌≤◌, ◌<◌, ℕ, zero, suc, true, ◌+◌, List, [], ◌∷◌, ◌++◌, length, get_or, set, refl, ap, sym, subst, ◌∙◌, arith, length-set}
use Rattle.sn_mem.specs.declared.extents.Foot.{Foot}
use Rattle.sn_mem.specs.Words.{touches}
use Rattle.sn_mem.specs.Blocks.{put, window}
use Rattle.sn_mem.specs.Copies.{localized}
use Rattle.sn_mem.proofs.Locals.{seen_in_copy, set_in_copy}

-- a run that the copy has is the copy's
pub run_in_copy : (f : Foot) (ws copy : List ℕ) (at n : ℕ) → ((i : ℕ) → i < n → at + i < length ws) → at + n ≤ length copy → ((i : ℕ) → i < n → touches f (at + i) ≡ true) → window (localized f ws copy) at n ≡ window copy at n
unfolding window
run_in_copy f ws copy at zero le room may = refl
run_in_copy f ws copy at (suc n) le room may =
    ap (λ (us : List ℕ). us ++ get_or (localized f ws copy) (at + n) 0 ∷ []) (run_in_copy f ws copy at n (λ i lt. le i (omega arith)) (omega arith) (λ i lt. may i (omega arith)))
    ∙ ap (λ w. window copy at n ++ w ∷ []) (sym (seen_in_copy f ws copy (at + n) (le n (omega arith)) (may n (omega arith)) (omega arith)))

next : (at i : ℕ) → at + (i + 1) ≡ at + 1 + i
next at i = omega arith

-- a run that is put in the copy is put in what is seen
pub put_in_copy : (f : Foot) (ws copy : List ℕ) (at : ℕ) (xs : List ℕ) → ((i : ℕ) → i < length xs → at + i < length ws) → at + length xs ≤ length copy → ((i : ℕ) → i < length xs → touches f (at + i) ≡ true) → localized f ws (put copy at xs) ≡ put (localized f ws copy) at xs
unfolding put
put_in_copy f ws copy at [] le room may = refl
put_in_copy f ws copy at (x ∷ xs) le room may =
    let long : length (set copy at x) ≡ length copy = length-set copy at x in
    let first : at + 0 ≡ at = omega arith in
    let here : touches f at ≡ true = subst (λ n. touches f n ≡ true) first (may 0 (omega arith)) in
    let low : at < length ws = subst (λ n. n < length ws) first (le 0 (omega arith)) in
    put_in_copy f ws (set copy at x) (at + 1) xs
    (λ i lt. subst (λ n. n < length ws) (next at i) (le (i + 1) (omega arith)))
    (omega (arith, long, room))
    (λ i lt. subst (λ n. touches f n ≡ true) (next at i) (may (i + 1) (omega arith)))
    ∙ ap (λ (us : List ℕ). put us (at + 1) xs) (set_in_copy f ws copy at x low here (omega arith))
