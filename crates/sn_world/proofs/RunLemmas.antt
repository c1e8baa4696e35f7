-- Runs of values, read one after the other.
use Rattle.std.proofs.Common.{◌≡◌, ◌≤◌, ◌<◌, ◌-◌, ℕ, zero, suc, ℤ, List, [], ◌∷◌, length, map, take, drop, get_or, Option, Some, None, refl, ap, sym, ◌∙◌, arith}
use Rattle.std.proofs.lemmas.List.{take_all, length-map, take-map, drop-map}
use Rattle.std.specs.Option.{option_map}
use Rattle.sn_osc.specs.declared.packet.Arg.{Arg}
use Rattle.sn_osc.specs.Shape.{Argument, argument_of}
use Rattle.sn_world.specs.declared.repetition.Run.{Run}
use Rattle.sn_world.specs.Rows.{another, singles}
use Rattle.sn_world.specs.Runs.{ValuesAt, Tail, number, count_of, place_run, with_value, with_run, tail_of, runs_of, value_runs}

-- values before a tail that has none
abbrev pub behind : Option (List ℤ) → Option Tail → Option Tail
behind None t = None
behind (Some vs) None = None
behind (Some vs) (Some t) = Some (record { values = vs; runs = t.runs })

behind-run : (r : Option Run) (t : Option Tail) → with_run r t ≡ behind (Some []) (with_run r t)
behind-run None t = refl
behind-run (Some r) None = refl
behind-run (Some r) (Some t) = refl

behind-none : (xs : List Argument) → tail_of 0 xs ≡ behind (Some []) (tail_of 0 xs)
behind-none [] = refl
behind-none (x ∷ []) = refl
behind-none (x ∷ y ∷ rest) = behind-run (place_run x y) (tail_of (count_of (place_run x y)) rest)

behind-another : (v : Option ℤ) (vs : Option (List ℤ)) (t : Option Tail) → with_value v (behind vs t) ≡ behind (another v vs) t
behind-another None vs t = refl
behind-another (Some v) None t = refl
behind-another (Some v) (Some vs) None = refl
behind-another (Some v) (Some vs) (Some t) = refl

-- so many values, and then the tail after them
tail-split : (n : ℕ) (xs : List Argument) → n ≤ length xs → tail_of n xs ≡ behind (singles number (take n xs)) (tail_of 0 (drop n xs))
tail-split zero xs few = behind-none xs
tail-split (suc n) [] few = absurd (omega arith)
tail-split (suc n) (x ∷ rest) few =
    ap (with_value (number x)) (tail-split n rest (omega arith)) ∙ behind-another (number x) (singles number (take n rest)) (tail_of 0 (drop n rest))

tail-short : (n : ℕ) (xs : List Argument) → length xs < n → tail_of n xs ≡ None
tail-short zero xs less = absurd (omega arith)
tail-short (suc n) [] less = refl
tail-short (suc n) (x ∷ rest) less = ap (with_value (number x)) (tail-short n rest (omega arith)) ∙ none (number x)
  where
    none : (v : Option ℤ) → with_value v None ≡ None
    none None = refl
    none (Some v) = refl

joined : (r : Run) (vs : Option (List ℤ)) (t : Option Tail) → option_map runs_of (with_run (Some r) (behind vs t)) ≡ another (option_map (λ vs. let v : ValuesAt = record { first = r.first; values = vs } in v) vs) (option_map runs_of t)
joined r None t = refl
joined r (Some vs) None = refl
joined r (Some vs) (Some t) = refl

-- the first two arguments, and those after them
abbrev pub behind_two : List Arg → List Arg
behind_two args = take (length args - 2) (drop 2 args)

-- what a run's head says of the arguments, and what follows it
pub head-step : (args : List Arg) (x y : Arg) (o : Option Run) → 2 ≤ length args → x ≡ get_or args 0 x → y ≡ get_or args 1 y → place_run (argument_of x) (argument_of y) ≡ o
    → value_runs (map argument_of args) ≡ option_map runs_of (with_run o (tail_of (count_of o) (map argument_of (behind_two args))))
head-step [] x y o two is-x is-y read = absurd (omega arith)
head-step (a ∷ []) x y o two is-x is-y read = absurd (omega arith)
head-step (a ∷ b ∷ rest) x y o two is-x is-y read =
    let whole : take (length (a ∷ b ∷ rest) - 2) rest ≡ rest = take_all _ rest (omega arith) in
    rw (whole, ← is-x, ← is-y, read) refl

-- a run that says more values than there are
pub run-short : (r : Run) (args : List Arg) → length args < r.count → option_map runs_of (with_run (Some r) (tail_of r.count (map argument_of args))) ≡ None
run-short r args less =
    ap (λ t. option_map runs_of (with_run (Some r) t)) (tail-short r.count (map argument_of args) (omega (arith, length-map args argument_of)))

-- a run whose values are there
pub run-step : (r : Run) (args : List Arg) → r.count ≤ length args
    → option_map runs_of (with_run (Some r) (tail_of r.count (map argument_of args)))
    ≡ another (option_map (λ vs. let v : ValuesAt = record { first = r.first; values = vs } in v) (singles number (map argument_of (take r.count args)))) (value_runs (map argument_of (drop r.count args)))
run-step r args few =
    ap (λ t. option_map runs_of (with_run (Some r) t)) (tail-split r.count (map argument_of args) (omega (arith, length-map args argument_of)))
    ∙ joined r (singles number (take r.count (map argument_of args))) (tail_of 0 (drop r.count (map argument_of args)))
    ∙ (λ i. another (option_map (λ vs. let v : ValuesAt = record { first = r.first; values = vs } in v) (singles number (take-map argument_of r.count args i))) (value_runs (drop-map argument_of r.count args i)))

abbrev pub with_values : Run → List ℤ → ValuesAt
with_values r vs = record { first = r.first; values = vs }

-- a run that was read, and what follows it
pub run-read : (args here behind : List Arg) (x y : Arg) (r : Run) (vs : Option (List ℤ)) → 2 ≤ length args → x ≡ get_or args 0 x → y ≡ get_or args 1 y → place_run (argument_of x) (argument_of y) ≡ Some r
    → r.count ≤ length (behind_two args) → here ≡ take r.count (behind_two args) → behind ≡ drop r.count (behind_two args) → vs ≡ singles number (map argument_of here)
    → value_runs (map argument_of args) ≡ another (option_map (with_values r) vs) (value_runs (map argument_of behind))
run-read args here behind x y r vs two is-x is-y read few front back all =
    head-step args x y (Some r) two is-x is-y read
    ∙ run-step r (behind_two args) few
    ∙ sym (ap (λ o. another (option_map (with_values r) o) (value_runs (map argument_of behind))) (all ∙ ap (λ zs. singles number (map argument_of zs)) front)
    ∙ ap (λ zs. another (option_map (with_values r) (singles number (map argument_of (take r.count (behind_two args))))) (value_runs (map argument_of zs))) back)

-- one argument left over
pub runs-one : (args : List Arg) → 1 ≤ length args → length args ≤ 1 → value_runs (map argument_of args) ≡ None
runs-one [] some few = absurd (omega arith)
runs-one (a ∷ []) some few = refl
runs-one (a ∷ b ∷ rest) some few = absurd (omega arith)
