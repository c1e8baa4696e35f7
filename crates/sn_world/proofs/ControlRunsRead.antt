-- Runs of controls are read from arguments exactly if the arguments are theirs.
use Rattle.std.proofs.Common.{◌≡◌, ◌≤◌, ℕ, zero, suc, ℤ, pos, negsuc, Bool, true, false, List, [], ◌∷◌, ◌++◌, map, take, drop, length, Option, Some, None, refl, ap, sym, subst, ◌∙◌, arith}
use Rattle.std.specs.Prelude.{◌↔◌, if◌then◌else◌, nat_le}
use Rattle.std.proofs.lemmas.Bool.{leb-true, le-leb}
use Rattle.std.proofs.lemmas.List.{take-append-drop, length-append, length-map, length-take-le}
use Rattle.sn_osc.specs.Shape.{Argument, int, string, blob}
use Rattle.sn_world.specs.Rows.{another}
use Rattle.sn_world.specs.NewSynth.{ControlName, numbered, named, control_name, name_argument}
use Rattle.sn_world.specs.ControlRuns.{ControlRun, count_of, ints, first_values, left_after, run_with, values_run, and_more, repeated, control_run_arguments}

-- ---- what is said is read

names_itself : (c : ControlName) → control_name (name_argument c) ≡ Some c
names_itself (numbered k) = refl
names_itself (named n) = refl

said_ints : (vs : List ℤ) → ints (map int vs) ≡ Some vs
said_ints [] = refl
said_ints (v ∷ vs) = ap (another (Some v)) (said_ints vs)

first_taken : (vs : List ℤ) (xs : List Argument) → take (length vs) (map int vs ++ xs) ≡ map int vs
first_taken [] xs = refl
first_taken (v ∷ vs) xs = ap (λ (ys : List Argument). int v ∷ ys) (first_taken vs xs)

rest_left : (vs : List ℤ) (xs : List Argument) → drop (length vs) (map int vs ++ xs) ≡ xs
rest_left [] xs = refl
rest_left (v ∷ vs) xs = rest_left vs xs

said_values : (vs : List ℤ) (xs : List Argument) → first_values (Some (length vs)) (map int vs ++ xs) ≡ Some vs
said_values vs xs =
    ap (λ (b : Bool). if b then ints (take (length vs) (map int vs ++ xs)) else None) (le-leb (length vs) (length (map int vs ++ xs)) (omega (arith, length-append (map int vs) xs, length-map vs int)))
    ∙ ap ints (first_taken vs xs) ∙ said_ints vs

said_run : (r : ControlRun) (xs : List Argument) → values_run (name_argument r.control ∷ int (pos (length r.values)) ∷ (map int r.values ++ xs)) ≡ Some (r, xs)
said_run r xs =
    ap (λ (o : Option ControlName). run_with o (first_values (Some (length r.values)) (map int r.values ++ xs)) (left_after (Some (length r.values)) (map int r.values ++ xs))) (names_itself r.control)
    ∙ ap (λ (o : Option (List ℤ)). run_with (Some r.control) o (left_after (Some (length r.values)) (map int r.values ++ xs))) (said_values r.values xs)
    ∙ ap (λ (ys : List Argument). run_with (Some r.control) (Some r.values) ys) (rest_left r.values xs)

said_all : (n : ℕ) (rs : List ControlRun) → length (control_run_arguments rs) ≤ n → repeated values_run n (control_run_arguments rs) ≡ Some rs
said_all zero [] few = refl
said_all (suc n) [] few = refl
said_all zero (r ∷ rs) few = absurd (omega (arith, few))
said_all (suc n) (r ∷ rs) few =
    ap (λ (o : Option (ControlRun × List Argument)). and_more o (λ rest. repeated values_run n rest)) (said_run r (control_run_arguments rs))
    ∙ ap (another (Some r)) (said_all n rs (omega (arith, few, length-append (map int r.values) (control_run_arguments rs))))

-- ---- what is read was said

abbrev name_in : Option ControlName → ControlName
name_in None = numbered (pos 0)
name_in (Some c) = c

name_is : (x : Argument) (c : ControlName) → control_name x ≡ Some c → x ≡ name_argument c
name_is (int k) c h = ap (λ (o : Option ControlName). name_argument (name_in o)) h
name_is (string n) c h = ap (λ (o : Option ControlName). name_argument (name_in o)) h
name_is (blob b) c h = absurd cc

abbrev count_in : Option ℕ → ℕ
count_in None = 0
count_in (Some n) = n

count_is : (x : Argument) (n : ℕ) → count_of x ≡ Some n → x ≡ int (pos n)
count_is (int (pos m)) n h = ap (λ (o : Option ℕ). int (pos (count_in o))) h
count_is (int (negsuc m)) n h = absurd cc
count_is (string s) n h = absurd cc
count_is (blob b) n h = absurd cc

abbrev values_in : Option (List ℤ) → List ℤ
values_in None = []
values_in (Some vs) = vs

ints_are : (xs : List Argument) (vs : List ℤ) → ints xs ≡ Some vs → xs ≡ map int vs
ints_are [] vs h = ap (λ (o : Option (List ℤ)). map int (values_in o)) h
ints_are (string s ∷ xs) vs h = absurd cc
ints_are (blob b ∷ xs) vs h = absurd cc
ints_are (int v ∷ xs) vs h = at (ints xs) (λ us is. ints_are xs us is) h
  where
    at : (o : Option (List ℤ)) → ((us : List ℤ) → o ≡ Some us → xs ≡ map int us) → another (Some v) o ≡ Some vs → int v ∷ xs ≡ map int vs
    at None behind h = absurd cc
    at (Some us) behind h = ap (λ (ys : List Argument). int v ∷ ys) (behind us refl) ∙ ap (λ (o : Option (List ℤ)). map int (values_in o)) h

-- the values of a run, and what follows them
pub record Said (n : ℕ) (xs : List Argument) (vs : List ℤ) : Type 0 where
  pub is : xs ≡ map int vs ++ drop n xs
  pub size : length vs ≡ n

values_are : (n : ℕ) (xs : List Argument) (vs : List ℤ) → first_values (Some n) xs ≡ Some vs → Said n xs vs
values_are n xs vs h = at (nat_le n (length xs)) refl h
  where
    at : (b : Bool) → nat_le n (length xs) ≡ b → (if b then ints (take n xs) else None) ≡ Some vs → Said n xs vs
    at false is h = absurd cc
    at true is h =
        let front : take n xs ≡ map int vs = ints_are (take n xs) vs h in
        record {
          is = sym (take-append-drop n xs) ∙ ap (λ (ys : List Argument). ys ++ drop n xs) front;
          size = sym (length-map vs int) ∙ sym (ap (λ (ys : List Argument). length ys) front) ∙ length-take-le n xs (leb-true n (length xs) is);
        }

abbrev run_in : ControlRun × List Argument → Option (ControlRun × List Argument) → ControlRun × List Argument
run_in p None = p
run_in p (Some q) = q

-- a run was said, and the arguments that are left stand after it
abbrev IsSaid : List Argument → ControlRun × List Argument → Type 0
IsSaid xs p = xs ≡ name_argument p.0.control ∷ int (pos (length p.0.values)) ∷ (map int p.0.values ++ p.1)

run_is : (xs : List Argument) (p : ControlRun × List Argument) → values_run xs ≡ Some p → IsSaid xs p
run_is [] p h = absurd cc
run_is (x ∷ []) p h = absurd cc
run_is (x ∷ y ∷ rest) p h = named_so (control_name x) (count_of y) refl refl h
  where
    valued : (c : ControlName) (n : ℕ) (o : Option (List ℤ)) → control_name x ≡ Some c → count_of y ≡ Some n → first_values (Some n) rest ≡ o → run_with (Some c) o (drop n rest) ≡ Some p → IsSaid (x ∷ y ∷ rest) p
    valued c n None name count values h = absurd cc
    valued c n (Some vs) name count values h =
        let s : Said n rest vs = values_are n rest vs values in
        let read : y ≡ int (pos (length vs)) = count_is y n count ∙ ap (λ (m : ℕ). int (pos m)) (sym s.size) in
        subst (IsSaid (x ∷ y ∷ rest)) (ap (run_in p) h) (λ i. name_is x c name i ∷ read i ∷ s.is i)

    counted : (c : ControlName) (o : Option ℕ) → control_name x ≡ Some c → count_of y ≡ o → run_with (Some c) (first_values o rest) (left_after o rest) ≡ Some p → IsSaid (x ∷ y ∷ rest) p
    counted c None name count h = absurd cc
    counted c (Some n) name count h = valued c n (first_values (Some n) rest) name count refl h

    named_so : (a : Option ControlName) (o : Option ℕ) → control_name x ≡ a → count_of y ≡ o → run_with a (first_values o rest) (left_after o rest) ≡ Some p → IsSaid (x ∷ y ∷ rest) p
    named_so None o name count h = absurd cc
    named_so (Some c) o name count h = counted c o name count h

abbrev runs_in : Option (List ControlRun) → List ControlRun
runs_in None = []
runs_in (Some rs) = rs

read_all : (n : ℕ) (xs : List Argument) (rs : List ControlRun) → repeated values_run n xs ≡ Some rs → xs ≡ control_run_arguments rs
read_all zero [] rs h = ap (λ (o : Option (List ControlRun)). control_run_arguments (runs_in o)) h
read_all (suc n) [] rs h = ap (λ (o : Option (List ControlRun)). control_run_arguments (runs_in o)) h
read_all zero (x ∷ xs) rs h = absurd cc
read_all (suc n) (x ∷ xs) rs h = first (values_run (x ∷ xs)) refl (λ ys qs is. read_all n ys qs is) h
  where
    others : (p : ControlRun × List Argument) (o : Option (List ControlRun)) → IsSaid (x ∷ xs) p → ((qs : List ControlRun) → o ≡ Some qs → p.1 ≡ control_run_arguments qs) → another (Some p.0) o ≡ Some rs → x ∷ xs ≡ control_run_arguments rs
    others p None said behind h = absurd cc
    others p (Some qs) said behind h =
        said ∙ ap (λ (ys : List Argument). name_argument p.0.control ∷ int (pos (length p.0.values)) ∷ (map int p.0.values ++ ys)) (behind qs refl)
        ∙ ap (λ (o : Option (List ControlRun)). control_run_arguments (runs_in o)) h

    first : (o : Option (ControlRun × List Argument)) → values_run (x ∷ xs) ≡ o → ((ys : List Argument) (qs : List ControlRun) → repeated values_run n ys ≡ Some qs → ys ≡ control_run_arguments qs)
        → and_more o (λ rest. repeated values_run n rest) ≡ Some rs → x ∷ xs ≡ control_run_arguments rs
    first None is behind h = absurd cc
    first (Some p) is behind h = others p (repeated values_run n p.1) (run_is (x ∷ xs) p is) (λ qs e. behind p.1 qs e) h

pub control_runs_are_read : (xs : List Argument) (rs : List ControlRun) → (repeated values_run (length xs) xs ≡ Some rs) ↔ (xs ≡ control_run_arguments rs)
control_runs_are_read xs rs = (
  read_all (length xs) xs rs,
  λ is. ap (λ (ys : List Argument). repeated values_run (length ys) ys) is ∙ said_all (length (control_run_arguments rs)) rs (omega arith),
)
