-- Counting debts: successors against predecessors.
use Rattle.std.proofs.Common.{◌≡◌, ◌≢◌, ℕ, zero, suc, ◌+◌, ◌<◌, ◌≤◌, Bool, true, false, not, ◌&&◌, cond, eqb, List, [], ◌∷◌, ◌++◌, length, get_or, sym, refl, ap, ◌∙◌, subst, ⊎_elim, arith}
use Rattle.std.specs.Prelude.{Contains}
use Rattle.std.proofs.lemmas.Bool.{cases_Bool, cases_eq, ne_eqb, eq-eqb}
use Rattle.std.proofs.lemmas.List.Elements.{Contains-append_left, Contains-append_right, Contains-append_cases}
use Rattle.sn_round.specs.declared.jobs.Job.{Job}
use Rattle.sn_machine.specs.declared.views.View.{View}
use Rattle.sn_round.specs.Jobs.{predecessors, successors}
use Rattle.sn_machine.specs.States.{At}
use Rattle.sn_round.proofs.Following.{inverse, once}
use Rattle.sn_machine.specs.Steps.{debts_of}
use Rattle.sn_machine.specs.Rule.{tally, total, waiting}
use Rattle.sn_machine.proofs.Forms.{occurs, times_occurs}

pub one_or : (b : Bool) → b ≡ false → ◌≡◌ {A = ℕ} (cond b 1 0) 0
one_or b e = ap (λ (x : Bool). cond x 1 0) e

module _ {A : Type 0} (P : A → Bool) where
  tally_at : (xs : List A) (k : ℕ) (x : A) → k < length xs → get_or xs k x ≡ x → P x ≡ true → 0 < tally P xs
  tally_at [] k x l e p = absurd (omega arith)
  tally_at (y ∷ ys) zero x l e p = let h : ◌≡◌ {A = ℕ} (cond (P y) 1 0) 1 = ap (λ (b : Bool). cond b 1 0) (ap P e ∙ p) in omega arith
  tally_at (y ∷ ys) (suc k) x l e p = omega (arith, tally_at ys k x (omega arith) e p)

  pub contains_tally : (xs : List A) (x : A) → Contains xs x → P x ≡ true → 0 < tally P xs
  contains_tally xs x c p = tally_at xs c.0 x c.1 c.2 p

  pub tally_zero : (xs : List A) → ((x : A) → Contains xs x → P x ≡ false) → tally P xs ≡ 0
  tally_zero [] h = refl
  tally_zero (y ∷ ys) h = let a = one_or (P y) (h y (0, omega arith, refl)) in let b = tally_zero ys (λ x c. h x (suc c.0, omega (arith, c.1), c.2)) in omega arith

pub times_contains : (xs : List ℕ) (x : ℕ) → 0 < occurs x xs → Contains xs x
times_contains [] x h = absurd (omega arith)
times_contains (y ∷ ys) x h = ⊎_elim
    (λ (e : y ≡ x). (0, omega arith, e))
    (λ (d : y ≡ x → ⊥). let z = one_or (eqb y x) (ne_eqb y x d) in let c = times_contains ys x (omega arith) in (suc c.0, omega (arith, c.1), c.2))
    (cases_eq y x)

pub times_zero : (xs : List ℕ) (x : ℕ) → (Contains xs x → ⊥) → occurs x xs ≡ 0
times_zero xs x h = tally_zero (λ y. eqb y x) xs (λ y c. ne_eqb y x (λ e. h (subst (λ z. Contains xs z) e c)))

-- if j is among ps, one of them ends
pub waiting_end : (was now : ℕ → Bool) (j : ℕ) (ps : List ℕ) → was j ≡ false → now j ≡ true → ((k : ℕ) → k ≢ j → now k ≡ was k) → waiting was ps ≡ waiting now ps + occurs j ps
waiting_end was now j [] a b h = refl
waiting_end was now j (p ∷ ps) a b h = ⊎_elim
    (λ (e : p ≡ j).
    let x : ◌≡◌ {A = ℕ} (cond (not (was p)) 1 0) 1 = ap (λ (c : Bool). cond (not c) 1 0) (ap was e ∙ a) in
    let y : ◌≡◌ {A = ℕ} (cond (not (now p)) 1 0) 0 = ap (λ (c : Bool). cond (not c) 1 0) (ap now e ∙ b) in
    let z : ◌≡◌ {A = ℕ} (cond (eqb p j) 1 0) 1 = ap (λ (c : Bool). cond c 1 0) (eq-eqb p j e) in
    omega (arith, waiting_end was now j ps a b h))
    (λ (d : p ≡ j → ⊥).
    let x : ◌≡◌ {A = ℕ} (cond (not (now p)) 1 0) (cond (not (was p)) 1 0) = ap (λ (c : Bool). cond (not c) 1 0) (h p d) in
    let z = one_or (eqb p j) (ne_eqb p j d) in
    omega (arith, waiting_end was now j ps a b h))
    (cases_eq p j)

pub total_zero : (f : View → ℕ) (views : List View) → ((i : ℕ) (v : View) → At views i v → f v ≡ 0) → total f views ≡ 0
total_zero f [] h = refl
total_zero f (v ∷ vs) h = let a = h 0 v refl in let b = total_zero f vs (λ i u e. h (suc i) u e) in omega arith

-- no job is named twice among the successors of j
pub successors_once : (jobs : List Job) (j q : ℕ) → occurs q (successors jobs j) ≤ 1
successors_once jobs j q = subst (λ n. n ≤ 1) (times_occurs q (successors jobs j)) (once jobs j q)

-- q is as often a successor of j as j is a predecessor of q
pub times_successors : (jobs : List Job) (j q : ℕ) → q < length jobs → occurs j (predecessors jobs q) ≤ 1 → occurs q (successors jobs j) ≡ occurs j (predecessors jobs q)
times_successors jobs j q l one = ⊎_elim
    (λ (z : occurs j (predecessors jobs q) ≡ 0).
    let none : Contains (successors jobs j) q → ⊥ = λ c. let some = contains_tally (λ y. eqb y j) (predecessors jobs q) j ((inverse jobs j q).0 c).1 (eq-eqb j j refl) in omega (arith, some, z) in
    times_zero (successors jobs j) q none ∙ sym z)
    (λ (d : occurs j (predecessors jobs q) ≡ 0 → ⊥).
    let c = times_contains (predecessors jobs q) j (omega (arith, d)) in
    let some = contains_tally (λ y. eqb y q) (successors jobs j) q ((inverse jobs j q).1 (l, c)) (eq-eqb q q refl) in
    omega (arith, some, successors_once jobs j q, one, d))
    (cases_eq (occurs j (predecessors jobs q)) 0)

pub successors_below : (jobs : List Job) (j q : ℕ) → Contains (successors jobs j) q → q < length jobs
successors_below jobs j q c = ((inverse jobs j q).0 c).0

-- debts of one ended job
pub owing_all : (j q : ℕ) (xs : List ℕ) → tally (λ (d : ℕ × ℕ). eqb d.1 q) (debts_of j xs) ≡ occurs q xs
owing_all j q [] = refl
owing_all j q (x ∷ xs) = ap (λ n. cond (eqb x q) 1 0 + n) (owing_all j q xs)

pub owing_one : (j p q : ℕ) (xs : List ℕ) → tally (λ (d : ℕ × ℕ). eqb d.0 p && eqb d.1 q) (debts_of j xs) ≤ occurs q xs
owing_one j p q [] = omega arith
owing_one j p q (x ∷ xs) = let h = owing_one j p q xs in ⊎_elim
    (λ (e : eqb j p ≡ true). let a : ◌≡◌ {A = ℕ} (cond (eqb j p && eqb x q) 1 0) (cond (eqb x q) 1 0) = ap (λ (b : Bool). cond (b && eqb x q) 1 0) e in omega arith)
    (λ (e : eqb j p ≡ false). let a : ◌≡◌ {A = ℕ} (cond (eqb j p && eqb x q) 1 0) 0 = ap (λ (b : Bool). cond (b && eqb x q) 1 0) e in omega arith)
    (cases_Bool (eqb j p))

pub owing_none : (j p q : ℕ) (xs : List ℕ) → j ≢ p → tally (λ (d : ℕ × ℕ). eqb d.0 p && eqb d.1 q) (debts_of j xs) ≡ 0
owing_none j p q [] n = refl
owing_none j p q (x ∷ xs) n = let a : ◌≡◌ {A = ℕ} (cond (eqb j p && eqb x q) 1 0) 0 = ap (λ (b : Bool). cond (b && eqb x q) 1 0) (ne_eqb j p n) in let h = owing_none j p q xs n in omega arith

contains_pair_at : (j : ℕ) (xs : List ℕ) (k : ℕ) (d : ℕ × ℕ) → k < length (debts_of j xs) → get_or (debts_of j xs) k d ≡ d → (j ≡ d.0) × Contains xs d.1
contains_pair_at j [] k d l e = absurd (omega arith)
contains_pair_at j (x ∷ xs) zero d l e = (ap (λ (z : ℕ × ℕ). z.0) e, (0, omega arith, ap (λ (z : ℕ × ℕ). z.1) e))
contains_pair_at j (x ∷ xs) (suc k) d l e = let h = contains_pair_at j xs k d (omega arith) e in (h.0, (suc h.1.0, omega (arith, h.1.1), h.1.2))

pub contains_pair : (j : ℕ) (xs : List ℕ) (d : ℕ × ℕ) → Contains (debts_of j xs) d → (j ≡ d.0) × Contains xs d.1
contains_pair j xs d c = contains_pair_at j xs c.0 d c.1 c.2

-- one that stands between others
module _ {A : Type 0} where
  pub tally_middle : (P : A → Bool) (front : List A) (x : A) (back : List A) → tally P (front ++ x ∷ back) ≡ cond (P x) 1 0 + tally P (front ++ back)
  tally_middle P [] x back = refl
  tally_middle P (y ∷ ys) x back = omega (arith, tally_middle P ys x back)

  pub contains_middle : (front : List A) (x : A) (back : List A) → Contains (front ++ x ∷ back) x
  contains_middle front x back = Contains-append_right front (x ∷ back) x (0, omega arith, refl)

  pub contains_else : (front : List A) (x : A) (back : List A) (y : A) → Contains (front ++ back) y → Contains (front ++ x ∷ back) y
  contains_else front x back y c = ⊎_elim
      (λ (l : Contains front y). Contains-append_left front (x ∷ back) y l)
      (λ (r : Contains back y). Contains-append_right front (x ∷ back) y (suc r.0, omega (arith, r.1), r.2))
      (Contains-append_cases front back y c)

  pub middle_none : (front : List A) (x : A) (back : List A) → front ++ x ∷ back ≡ [] → ⊥
  middle_none [] x back e = cc
  middle_none (y ∷ ys) x back e = cc
