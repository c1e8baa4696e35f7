-- What is found among pairs, and what an edit of the list does to it.
use Rattle.std.proofs.Common.{◌≡◌, ◌≢◌, ◌⊎◌, inl, inr, ℕ, zero, suc, ◌<◌, ◌≤◌, ℤ, Bool, true, false, [], ◌∷◌, length, get_or, Some, None, sym, refl, ap, ◌∙◌, ⊎_elim, arith}
use Rattle.std.specs.Prelude.{if◌then◌else◌, pos}
use Rattle.std.specs.Ordering.{int_eq}
use Rattle.std.specs.List.{insert, remove}
use Rattle.std.proofs.lemmas.Bool.{cases_Bool, false_from_ne_true}
use Rattle.std.proofs.lemmas.Bool.Decides.{Decides-int_eq}
use Rattle.sn_ids.specs.Pairs.{Pairs, key_for, id_at, IsAt}

pub int_same : (a b : ℤ) → a ≡ b → int_eq a b ≡ true
int_same a b e = (Decides-int_eq a b).1 e

pub int_other : (a b : ℤ) → a ≢ b → int_eq a b ≡ false
int_other a b n = false_from_ne_true (int_eq a b) (λ h. n ((Decides-int_eq a b).0 h))

pub int_cases : (a b : ℤ) → (a ≡ b) ⊎ (a ≢ b)
int_cases a b = ⊎_elim (λ (h : int_eq a b ≡ true). inl ((Decides-int_eq a b).0 h)) (λ (h : int_eq a b ≡ false). inr (λ e. false_true (sym (int_same a b e) ∙ h))) (cases_Bool (int_eq a b))
  where
    false_true : true ≡ false → ⊥
    false_true e = cc

-- no pair before place i has the id
abbrev pub NoneBefore : Pairs → ℤ → ℕ → Type 0
NoneBefore l id i = (j : ℕ) → j < i → id_at l j ≢ id

-- no pair after place i has the id
abbrev pub NoneBehind : Pairs → ℤ → ℕ → Type 0
NoneBehind l id i = (j : ℕ) → i < j → j < length l → id_at l j ≢ id

before_tail : (x : ℤ × ℕ) (l : Pairs) (id : ℤ) (i : ℕ) → NoneBefore (x ∷ l) id (suc i) → NoneBefore l id i
before_tail x l id i h j lt = h (suc j) (omega arith)

behind_tail : (x : ℤ × ℕ) (l : Pairs) (id : ℤ) (i : ℕ) → NoneBehind (x ∷ l) id (suc i) → NoneBehind l id i
behind_tail x l id i h j lt within = h (suc j) (omega arith) (omega arith)

at_tail : (x : ℤ × ℕ) (l : Pairs) (id : ℤ) (i : ℕ) → IsAt (x ∷ l) id (suc i) → IsAt l id i
at_tail x l id i h = record { in_range = omega (arith, h.in_range); has_id = h.has_id }

passed : (x : ℤ × ℕ) (l : Pairs) (id : ℤ) → x.0 ≢ id → key_for id (x ∷ l) ≡ key_for id l
passed x l id n = ap (λ b. if b then Some x.1 else key_for id l) (int_other x.0 id n)

here : (x : ℤ × ℕ) (l : Pairs) (id : ℤ) → x.0 ≡ id → key_for id (x ∷ l) ≡ Some x.1
here x l id e = ap (λ b. if b then Some x.1 else key_for id l) (int_same x.0 id e)

pub absent : (l : Pairs) (id : ℤ) → NoneBefore l id (length l) → key_for id l ≡ None
absent [] id h = refl
absent (x ∷ l) id h = passed x l id (h 0 (omega arith)) ∙ absent l id (before_tail x l id (length l) h)

pub present : (l : Pairs) (id : ℤ) (i : ℕ) → IsAt l id i → NoneBefore l id i → key_for id l ≡ Some (get_or l i (pos 0, 0)).1
present [] id i h n = absurd (omega (arith, h.in_range))
present (x ∷ l) id zero h n = here x l id h.has_id
present (x ∷ l) id (suc i) h n = passed x l id (n 0 (omega arith)) ∙ present l id i (at_tail x l id i h) (before_tail x l id i n)

-- the test of an id comes first or later
swapped : {A : Type 0} (a b : Bool) (x y z : A) → (a ≡ true → b ≡ false) → (if a then x else (if b then y else z)) ≡ (if b then y else (if a then x else z))
swapped true true x y z h = absurd (let e : true ≡ false = h refl in cc)
swapped true false x y z h = refl
swapped false b x y z h = refl

module _ (id : ℤ) (key : ℕ) where
  pub found-insert : (l : Pairs) (i : ℕ) → NoneBefore l id i → i ≤ length l → (q : ℤ) → key_for q (insert l i (id, key)) ≡ (if int_eq id q then Some key else key_for q l)
  found-insert l zero n r q = refl
  found-insert [] (suc i) n r q = absurd (omega arith)
  found-insert (x ∷ l) (suc i) n r q =
      ap (λ o. if int_eq x.0 q then Some x.1 else o) (found-insert l i (before_tail x l id i n) (omega arith) q)
      ∙ swapped (int_eq x.0 q) (int_eq id q) (Some x.1) (Some key) (key_for q l)
      (λ h. int_other id q (λ e. n 0 (omega arith) ((Decides-int_eq x.0 q).0 h ∙ sym e)))

pub found-remove : (id : ℤ) (l : Pairs) (i : ℕ) → IsAt l id i → NoneBefore l id i → NoneBehind l id i → (q : ℤ) → key_for q (remove l i) ≡ (if int_eq id q then None else key_for q l)
found-remove id [] i h n b q = absurd (omega (arith, h.in_range))
found-remove id (x ∷ l) zero h n b q =
    ⊎_elim
    (λ (e : id ≡ q).
    absent l q (λ j lt s. b (suc j) (omega arith) (omega arith) (s ∙ sym e))
    ∙ sym (ap (λ t. if t then None else key_for q (x ∷ l)) (int_same id q e)))
    (λ (d : id ≢ q).
    sym (passed x l q (λ e. d (sym h.has_id ∙ e)))
    ∙ sym (ap (λ t. if t then None else key_for q (x ∷ l)) (int_other id q d)))
    (int_cases id q)
found-remove id (x ∷ l) (suc i) h n b q =
    ap (λ o. if int_eq x.0 q then Some x.1 else o) (found-remove id l i (at_tail x l id i h) (before_tail x l id i n) (behind_tail x l id i b) q)
    ∙ swapped (int_eq x.0 q) (int_eq id q) (Some x.1) None (key_for q l)
    (λ t. int_other id q (λ e. n 0 (omega arith) ((Decides-int_eq x.0 q).0 t ∙ sym e)))
