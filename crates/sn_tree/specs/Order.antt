-- The key of a payload, and parts of lists.
use Rattle.std.specs.Prelude.{◌≡◌, ℕ, List, [], ◌∷◌, ◌++◌, length, take, drop, Option, refl}
use Rattle.std.proofs.Common.{ap, ◌∙◌}
use Rattle.std.proofs.Math.Seq.{drop-append_seam}

-- a payload is named by its key
abbrev pub Key : Type 0
Key = Option ℕ

pub take_seam : {A : Type 0} (xs ys : List A) → take (length xs) (xs ++ ys) ≡ xs
take_seam [] ys = refl
take_seam (x ∷ xs) ys = ap (λ l. x ∷ l) (take_seam xs ys)

pub take_at : {A : Type 0} (n : ℕ) (xs ys : List A) → n ≡ length xs → take n (xs ++ ys) ≡ xs
take_at n xs ys h = ap (λ k. take k (xs ++ ys)) h ∙ take_seam xs ys

pub drop_at : {A : Type 0} (n : ℕ) (xs ys : List A) → n ≡ length xs → drop n (xs ++ ys) ≡ ys
drop_at n xs ys h = ap (λ k. drop k (xs ++ ys)) h ∙ drop-append_seam xs ys
