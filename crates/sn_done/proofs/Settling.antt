-- What a block makes of a done word that was settled, and of one that was not.
use Rattle.std.proofs.Common.{◌≡◌, ◌≢◌, ⊎_elim, ℕ, zero, suc, ◌==◌, Bool, true, false, cond, List, [], ◌∷◌, ◌++◌, ℤ, refl, sym, ap, subst, ◌∙◌}
use Rattle.std.proofs.lemmas.Bool.{cases_eq, ne_eqb}
use Rattle.sn_mem.specs.Blocks.{scan, recurrence}
use Rattle.sn_mem.specs.Done.{ended}
use Rattle.sn_done.specs.Done.{settled_word, settled_first, IsUnseen}

-- any other word than 1 stays
stays : (d : ℕ) → d ≢ 1 → settled_word d ≡ d
stays d ne = ap (λ b. cond b 2 d) (ne_eqb d 1 ne)

pub twice : (d : ℕ) → settled_word (settled_word d) ≡ settled_word d
twice d = ⊎_elim
    (λ (e : d ≡ 1). subst (λ n. settled_word (settled_word n) ≡ settled_word n) (sym e) refl)
    (λ (ne : d ≢ 1). ap settled_word (stays d ne))
    (cases_eq d 1)

zero_alike : (d : ℕ) → (settled_word d == 0) ≡ (d == 0)
zero_alike d = ⊎_elim
    (λ (e : d ≡ 1). subst (λ n. (settled_word n == 0) ≡ (n == 0)) (sym e) refl)
    (λ (ne : d ≢ 1). ap (λ n. n == 0) (stays d ne))
    (cases_eq d 1)

pub ended_alike : (d : ℕ) → settled_word (ended (settled_word d)) ≡ settled_word (ended d)
ended_alike d = ⊎_elim
    (λ (e : d ≡ 1). subst (λ n. settled_word (ended (settled_word n)) ≡ settled_word (ended n)) (sym e) refl)
    (λ (ne : d ≢ 1). ap (λ n. settled_word (ended n)) (stays d ne))
    (cases_eq d 1)

-- a unit that ends if a test says so, and what it is if the test does not
pub ended_if : (b : Bool) (d : ℕ) → settled_word (cond b (ended (settled_word d)) (settled_word d)) ≡ settled_word (cond b (ended d) d)
ended_if true d = ended_alike d
ended_if false d = twice d

pub ended_unless : (b : Bool) (d : ℕ) → settled_word (cond b (settled_word d) (ended (settled_word d))) ≡ settled_word (cond b d (ended d))
ended_unless true d = twice d
ended_unless false d = ended_alike d

-- of words that are settled alike both are 0 or neither is
pub both_zero : (c d : ℕ) → settled_word c ≡ settled_word d → (c == 0) ≡ (d == 0)
both_zero c d e = sym (zero_alike c) ∙ (ap (λ n. n == 0) e ∙ zero_alike d)

-- what is made of what a block gives
pub unseen_then : {A B : Type 0} (run : List ℕ → List ℕ × A) (f : A → B) → IsUnseen run → IsUnseen (λ ws. ((run ws).0, f (run ws).1))
unseen_then run f h = record { words = h.words; given = λ ws. ap f (h.given ws) }

-- a step does not see a settling of the state
pub record StepsAlike {S A : Type 0} (settle : S → S) (step : S → List (List ℤ) → ℕ → S × A) : Type 0 where
  pub states : (s : S) (inputs : List (List ℤ)) (k : ℕ) → settle (step (settle s) inputs k).0 ≡ settle (step s inputs k).0
  pub given : (s : S) (inputs : List (List ℤ)) (k : ℕ) → (step (settle s) inputs k).1 ≡ (step s inputs k).1

-- the first word holds the done word of the state
pub record HoldsDone {S : Type 0} (settle : S → S) (loaded : List ℕ → S) (stored : S → List ℕ) : Type 0 where
  pub loads : (ws : List ℕ) → settle (loaded (settled_first ws)) ≡ settle (loaded ws)
  pub stores : (s : S) → settled_first (stored s) ≡ stored (settle s)

scan_alike : {S : Type 0} (settle : S → S) (step : S → List (List ℤ) → ℕ → S × ℤ) → StepsAlike settle step → (s t : S) (inputs : List (List ℤ)) (n : ℕ) → settle s ≡ settle t
    → (settle (scan step s inputs n).0 ≡ settle (scan step t inputs n).0) × ((scan step s inputs n).1 ≡ (scan step t inputs n).1)
unfolding scan
scan_alike settle step h s t inputs zero e = (e, refl)
scan_alike {S} settle step h s t inputs (suc k) e =
    let r = scan_alike settle step h s t inputs k e in
    let a : S = (scan step s inputs k).0 in
    let b : S = (scan step t inputs k).0 in (
      sym (h.states a inputs k) ∙ (ap (λ (c : S). settle (step c inputs k).0) r.0 ∙ h.states b inputs k),
      ap (λ (xs : List ℤ). xs ++ (step a inputs k).1 ∷ []) r.1
          ∙ ap (λ (y : ℤ). (scan step t inputs k).1 ++ y ∷ []) (sym (h.given a inputs k) ∙ (ap (λ (c : S). (step c inputs k).1) r.0 ∙ h.given b inputs k)),
    )

-- nor does a recurrence
pub recurrence_unseen : {S : Type 0} (settle : S → S) (loaded : List ℕ → S) (stored : S → List ℕ) (step : S → List (List ℤ) → ℕ → S × ℤ) (inputs : List (List ℤ)) → StepsAlike settle step → HoldsDone settle loaded stored
    → IsUnseen (λ ws. recurrence loaded stored step ws inputs)
recurrence_unseen {S} settle loaded stored step inputs h holds = record {
  words = λ ws.
      let a : S = (scan step (loaded (settled_first ws)) inputs 64).0 in
      let b : S = (scan step (loaded ws) inputs 64).0 in
      holds.stores a ∙ (ap stored (scan_alike settle step h (loaded (settled_first ws)) (loaded ws) inputs 64 (holds.loads ws)).0 ∙ sym (holds.stores b));
  given = λ ws. (scan_alike settle step h (loaded (settled_first ws)) (loaded ws) inputs 64 (holds.loads ws)).1;
}
