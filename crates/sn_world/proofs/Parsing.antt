-- Repetitions read one after the other.
use Rattle.std.proofs.Common.{◌≡◌, ◌≤◌, ◌+◌, ℕ, List, [], ◌∷◌, ◌++◌, length, map, Option, Some, None, refl, ap, arith, append_assoc}
use Rattle.std.proofs.lemmas.List.{length-map}
use Rattle.sn_osc.specs.declared.packet.Arg.{Arg}
use Rattle.sn_osc.specs.Shape.{Argument, argument_of}
use Rattle.std.specs.Prelude.{IfSome}
use Rattle.sn_world.specs.Rows.{another, singles, pairs, triples, some_of}

-- what was read, before what is left
abbrev pub after : {R : Type 0} → List R → Option (List R) → Option (List R)
after found None = None
after found (Some rs) = Some (found ++ rs)

pub after-another : {R : Type 0} (found : List R) (r : R) (o : Option (List R)) → after (found ++ r ∷ []) o ≡ after found (another (Some r) o)
after-another found r None = refl
after-another found r (Some rs) = ap Some (append_assoc found (r ∷ []) rs)

-- one argument left over
pub pairs-one : {R : Type 0} (p : Argument → Argument → Option R) (args : List Arg) → 1 ≤ length args → length args ≤ 1 → pairs p (map argument_of args) ≡ None
pairs-one p [] some few = absurd (omega arith)
pairs-one p (a ∷ []) some few = refl
pairs-one p (a ∷ b ∷ rest) some few = absurd (omega arith)

pub triples-few : {R : Type 0} (p : Argument → Argument → Argument → Option R) (args : List Arg) → 1 ≤ length args → length args ≤ 2 → triples p (map argument_of args) ≡ None
triples-few p [] some few = absurd (omega arith)
triples-few p (a ∷ []) some few = refl
triples-few p (a ∷ b ∷ []) some few = refl
triples-few p (a ∷ b ∷ c ∷ rest) some few = absurd (omega arith)

-- no more repetitions than arguments

another-few : {R : Type 0} (r : Option R) (o : Option (List R)) (n m : ℕ) → IfSome o (λ rs. length rs ≤ n) → n + 1 ≤ m → IfSome (another r o) (λ rs. length rs ≤ m)
another-few None o n m few more = tt
another-few (Some r) None n m few more = tt
another-few (Some r) (Some rs) n m few more = omega (arith, few)

triples-length : {R : Type 0} (p : Argument → Argument → Argument → Option R) (xs : List Argument) → IfSome (triples p xs) (λ rs. length rs ≤ length xs)
triples-length p [] = omega arith
triples-length p (x ∷ []) = tt
triples-length p (x ∷ y ∷ []) = tt
triples-length p (x ∷ y ∷ z ∷ rest) = another-few (p x y z) (triples p rest) (length rest) (length (x ∷ y ∷ z ∷ rest)) (triples-length p rest) (omega arith)

pub some_of-few : {R : Type 0} (o : Option (List R)) (rs : List R) (n : ℕ) → IfSome o (λ all. length all ≤ n) → Some rs ≡ some_of o → length rs ≤ n
some_of-few None rs n few h = absurd cc
some_of-few (Some []) rs n few h = absurd cc
some_of-few (Some (r ∷ all)) rs n few h = let same : rs ≡ r ∷ all = cc in omega (arith, few, ap length same)

pub triples-few_of : {R : Type 0} (p : Argument → Argument → Argument → Option R) (args : List Arg) (rs : List R) → Some rs ≡ some_of (triples p (map argument_of args)) → length rs ≤ length args
triples-few_of p args rs h = omega (arith, some_of-few (triples p (map argument_of args)) rs (length (map argument_of args)) (triples-length p (map argument_of args)) h, length-map args argument_of)

pub pairs-length : {R : Type 0} (p : Argument → Argument → Option R) (xs : List Argument) → IfSome (pairs p xs) (λ rs. length rs ≤ length xs)
pairs-length p [] = omega arith
pairs-length p (x ∷ []) = tt
pairs-length p (x ∷ y ∷ rest) = another-few (p x y) (pairs p rest) (length rest) (length (x ∷ y ∷ rest)) (pairs-length p rest) (omega arith)

pub pairs-few_of : {R : Type 0} (p : Argument → Argument → Option R) (args : List Arg) (rs : List R) → Some rs ≡ some_of (pairs p (map argument_of args)) → length rs ≤ length args
pairs-few_of p args rs h = omega (arith, some_of-few (pairs p (map argument_of args)) rs (length (map argument_of args)) (pairs-length p (map argument_of args)) h, length-map args argument_of)

pub singles-length : {R : Type 0} (p : Argument → Option R) (xs : List Argument) → IfSome (singles p xs) (λ rs. length rs ≤ length xs)
singles-length p [] = omega arith
singles-length p (x ∷ rest) = another-few (p x) (singles p rest) (length rest) (length (x ∷ rest)) (singles-length p rest) (omega arith)

pub singles-few_of : {R : Type 0} (p : Argument → Option R) (args : List Arg) (rs : List R) → Some rs ≡ some_of (singles p (map argument_of args)) → length rs ≤ length args
singles-few_of p args rs h = omega (arith, some_of-few (singles p (map argument_of args)) rs (length (map argument_of args)) (singles-length p (map argument_of args)) h, length-map args argument_of)
