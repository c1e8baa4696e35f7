-- Trees as data: the list of their nodes, each with the number of nodes below it.
use Rattle.std.specs.Prelude.{◌≡◌, ℕ, zero, suc, ◌≤◌, List, [], ◌∷◌, ◌++◌, length, take, drop, refl}
use Rattle.std.specs.Coded.{Coded, code_by, coded×, coded_ℕ, coded_list}
use Rattle.std.proofs.Common.{sym, ap, ◌∙◌, arith, length-append}
use Rattle.std.proofs.Math.Seq.{drop-append_seam}
use Rattle.sn_forest.specs.Trees.{Trees, none, tree, count}

abbrev pub rows : {T : Type 0} → Trees T → List ((ℕ × T) × ℕ)
rows none = []
rows (tree key value below after) = ((key, value), count below) ∷ (rows below ++ rows after)

abbrev pub from_rows : {T : Type 0} → ℕ → List ((ℕ × T) × ℕ) → Trees T
from_rows zero rs = none
from_rows (suc k) [] = none
from_rows (suc k) (r ∷ rs) = tree r.0.0 r.0.1 (from_rows k (take r.1 rs)) (from_rows k (drop r.1 rs))

abbrev pub trees_in : {T : Type 0} → List ((ℕ × T) × ℕ) → Trees T
trees_in rs = from_rows (length rs) rs

length-rows : {T : Type 0} (t : Trees T) → length (rows t) ≡ count t
length-rows none = refl
length-rows (tree key value below after) = omega (arith, length-append (rows below) (rows after), length-rows below, length-rows after)

take_seam : {A : Type 0} (xs ys : List A) → take (length xs) (xs ++ ys) ≡ xs
take_seam [] ys = refl
take_seam (x ∷ xs) ys = ap (λ l. x ∷ l) (take_seam xs ys)

take_at : {A : Type 0} (n : ℕ) (xs ys : List A) → n ≡ length xs → take n (xs ++ ys) ≡ xs
take_at n xs ys h = ap (λ k. take k (xs ++ ys)) h ∙ take_seam xs ys

drop_at : {A : Type 0} (n : ℕ) (xs ys : List A) → n ≡ length xs → drop n (xs ++ ys) ≡ ys
drop_at n xs ys h = ap (λ k. drop k (xs ++ ys)) h ∙ drop-append_seam xs ys

from_rows-rows : {T : Type 0} (k : ℕ) (t : Trees T) → length (rows t) ≤ k → from_rows k (rows t) ≡ t
from_rows-rows zero none h = refl
from_rows-rows (suc k) none h = refl
from_rows-rows zero (tree key value below after) h = absurd (omega arith)
from_rows-rows (suc k) (tree key value below after) h =
    let a : from_rows k (rows below) ≡ below = from_rows-rows k below (omega (arith, length-append (rows below) (rows after))) in
    let b : from_rows k (rows after) ≡ after = from_rows-rows k after (omega (arith, length-append (rows below) (rows after))) in
    rw (take_at (count below) (rows below) (rows after) (sym (length-rows below)), drop_at (count below) (rows below) (rows after) (sym (length-rows below)), a, b) refl

pub trees_in-rows : {T : Type 0} (t : Trees T) → trees_in (rows t) ≡ t
trees_in-rows t = from_rows-rows (length (rows t)) t (omega arith)

abbrev pub trees_code : {T : Type 0} → Coded T → Coded (Trees T)
trees_code {T} code = code_by (List ((ℕ × T) × ℕ)) (coded_list (coded× (coded× coded_ℕ code) coded_ℕ)) rows trees_in trees_in-rows
