-- Runs are read from arguments exactly if the arguments are theirs.
use Rattle.std.proofs.Common.{◌≡◌, ℕ, zero, suc, ℤ, pos, negsuc, List, [], ◌∷◌, ◌++◌, map, length, Option, Some, None, refl, ap, sym, subst, ◌∙◌, arith}
use Rattle.std.specs.Prelude.{◌↔◌}
use Rattle.std.specs.Option.{option_map}
use Rattle.sn_osc.specs.Shape.{Argument, int, string, blob}
use Rattle.sn_world.specs.declared.repetition.Run.{Run}
use Rattle.sn_world.specs.Runs.{ValuesAt, Tail, number, count_of, place_run, with_value, with_run, tail_of, runs_of, value_runs, run_arguments}

-- ---- what is said is read

said_values : (vs : List ℤ) (xs : List Argument) (rs : List ValuesAt) → tail_of 0 xs ≡ Some (record { values = []; runs = rs }) → tail_of (length vs) (map int vs ++ xs) ≡ Some (record { values = vs; runs = rs })
said_values [] xs rs is = is
said_values (v ∷ vs) xs rs is = ap (with_value (Some v)) (said_values vs xs rs is)

said_tail : (rs : List ValuesAt) → tail_of 0 (run_arguments rs) ≡ Some (record { values = []; runs = rs })
said_tail [] = refl
said_tail (r ∷ rs) =
    let run : Run = record { first = r.first; count = length r.values } in
    ap (with_run (Some run)) (said_values r.values (run_arguments rs) rs (said_tail rs))

-- ---- what is read was said

abbrev first_in : Option Run → ℤ
first_in None = pos 0
first_in (Some r) = r.first

abbrev number_in : Option ℤ → ℤ
number_in None = pos 0
number_in (Some v) = v

abbrev tail_in : Tail → Option Tail → Tail
tail_in t None = t
tail_in t (Some s) = s

abbrev runs_in : Option (List ValuesAt) → List ValuesAt
runs_in None = []
runs_in (Some rs) = rs

place_is : (x y : Argument) (r : Run) → place_run x y ≡ Some r → (x ≡ int r.first) × (y ≡ int (pos r.count))
place_is (int first) (int (pos count)) r h = (ap (λ (o : Option Run). int (first_in o)) h, ap (λ (o : Option Run). int (pos (count_of o))) h)
place_is (int first) (int (negsuc n)) r h = absurd cc
place_is (int first) (string s) r h = absurd cc
place_is (int first) (blob b) r h = absurd cc
place_is (string s) y r h = absurd cc
place_is (blob b) y r h = absurd cc

number_is : (x : Argument) (v : ℤ) → number x ≡ Some v → x ≡ int v
number_is (int n) v h = ap (λ (o : Option ℤ). int (number_in o)) h
number_is (string s) v h = absurd cc
number_is (blob b) v h = absurd cc

-- so many values, and then the arguments of runs
pub record Said (n : ℕ) (xs : List Argument) (t : Tail) : Type 0 where
  pub is : xs ≡ map int t.values ++ run_arguments t.runs
  pub size : length t.values ≡ n

said_run : (o : Option Run) (u : Option Tail) (x y : Argument) (rest : List Argument) (t : Tail) → place_run x y ≡ o → ((s : Tail) → u ≡ Some s → Said (count_of o) rest s) → with_run o u ≡ Some t → Said 0 (x ∷ y ∷ rest) t
said_run None u x y rest t place behind h = absurd cc
said_run (Some r) None x y rest t place behind h = absurd cc
said_run (Some r) (Some s) x y rest t place behind h =
    let e : Said r.count rest s = behind s refl in
    let p = place_is x y r place in
    let count : y ≡ int (pos (length s.values)) = p.1 ∙ ap (λ (n : ℕ). int (pos n)) (sym e.size) in
    subst (Said 0 (x ∷ y ∷ rest)) (ap (tail_in t) h) (record { is = λ i. p.0 i ∷ count i ∷ e.is i; size = refl })

said_value : (o : Option ℤ) (u : Option Tail) (x : Argument) (rest : List Argument) (n : ℕ) (t : Tail) → number x ≡ o → ((s : Tail) → u ≡ Some s → Said n rest s) → with_value o u ≡ Some t → Said (suc n) (x ∷ rest) t
said_value None u x rest n t is behind h = absurd cc
said_value (Some v) None x rest n t is behind h = absurd cc
said_value (Some v) (Some s) x rest n t is behind h =
    let e : Said n rest s = behind s refl in
    subst (Said (suc n) (x ∷ rest)) (ap (tail_in t) h) (record { is = λ i. number_is x v is i ∷ e.is i; size = ap suc e.size })

said : (n : ℕ) (xs : List Argument) (t : Tail) → tail_of n xs ≡ Some t → Said n xs t
said zero [] t h = subst (Said 0 []) (ap (tail_in t) h) (record { is = refl; size = refl })
said zero (x ∷ []) t h = absurd cc
said zero (x ∷ y ∷ rest) t h = said_run (place_run x y) (tail_of (count_of (place_run x y)) rest) x y rest t refl (λ s is. said (count_of (place_run x y)) rest s is) h
said (suc n) [] t h = absurd cc
said (suc n) (x ∷ rest) t h = said_value (number x) (tail_of n rest) x rest n t refl (λ s is. said n rest s is) h

none_left : (vs : List ℤ) → length vs ≡ 0 → vs ≡ []
none_left [] h = refl
none_left (v ∷ vs) h = absurd (omega (arith, h))

runs_said : (xs : List Argument) (rs : List ValuesAt) → value_runs xs ≡ Some rs → xs ≡ run_arguments rs
runs_said xs rs h = at (tail_of 0 xs) refl h
  where
    at : (o : Option Tail) → tail_of 0 xs ≡ o → option_map runs_of o ≡ Some rs → xs ≡ run_arguments rs
    at None is h = absurd cc
    at (Some t) is h =
        let e : Said 0 xs t = said 0 xs t is in
        e.is ∙ ap (λ (vs : List ℤ). map int vs ++ run_arguments t.runs) (none_left t.values e.size) ∙ ap (λ (o : Option (List ValuesAt)). run_arguments (runs_in o)) h

pub runs_are_read : (xs : List Argument) (rs : List ValuesAt) → (value_runs xs ≡ Some rs) ↔ (xs ≡ run_arguments rs)
runs_are_read xs rs = (runs_said xs rs, λ is. ap value_runs is ∙ ap (option_map runs_of) (said_tail rs))
