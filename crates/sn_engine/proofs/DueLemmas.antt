-- The first entry that is due, and the entries after it.
use Rattle.std.proofs.Common.{◌≡◌, ◌<◌, suc, List, [], ◌∷◌, length, filter, Bool, true, false, cond, Some, None, refl, sym, ap, subst, ◌∙◌, arith}
use Rattle.std.specs.List.{AllByRecursion}
use Rattle.std.specs.Prelude.{not}
use Rattle.sn_queue.specs.Steps.{first, without_first}

some_is : {A : Type 0} (x y : A) → Some x ≡ Some y → x ≡ y
some_is x y e = cc

-- it stands before the others that pass
pub first_of_filtered : {X : Type 0} (test : X → Bool) (xs : List X) (x : X) → first test xs ≡ Some x → filter test xs ≡ x ∷ filter test (without_first test xs)
first_of_filtered test [] x e = absurd cc
first_of_filtered test (y ∷ ys) x e = at (test y) refl (λ e. first_of_filtered test ys x e) e
  where
    at : (b : Bool) → test y ≡ b → (first test ys ≡ Some x → filter test ys ≡ x ∷ filter test (without_first test ys)) → cond b (Some y) (first test ys) ≡ Some x
        → cond b (y ∷ filter test ys) (filter test ys) ≡ x ∷ filter test (cond b ys (y ∷ without_first test ys))
    at true is ih e = ap (λ z. z ∷ filter test ys) (some_is y x e)
    at false is ih e = ih e ∙ ap (λ zs. x ∷ zs) (sym (ap (λ b. cond b (y ∷ filter test (without_first test ys)) (filter test (without_first test ys))) is))

-- if there is none, none passes
pub none_filtered : {X : Type 0} (test : X → Bool) (xs : List X) → first test xs ≡ None → filter test xs ≡ []
none_filtered test [] e = refl
none_filtered test (y ∷ ys) e = at (test y) (λ e. none_filtered test ys e) e
  where
    at : (b : Bool) → (first test ys ≡ None → filter test ys ≡ []) → cond b (Some y) (first test ys) ≡ None → cond b (y ∷ filter test ys) (filter test ys) ≡ []
    at true ih e = absurd cc
    at false ih e = ih e

-- those that don't pass stay
abbrev others : {X : Type 0} → (X → Bool) → List X → List X
others test xs = filter (λ x. not (test x)) xs

pub others_stay : {X : Type 0} (test : X → Bool) (xs : List X) → filter (λ x. not (test x)) (without_first test xs) ≡ filter (λ x. not (test x)) xs
others_stay test [] = refl
others_stay test (y ∷ ys) = at (test y) refl (others_stay test ys)
  where
    at : (b : Bool) → test y ≡ b → others test (without_first test ys) ≡ others test ys → others test (cond b ys (y ∷ without_first test ys)) ≡ cond (not b) (y ∷ others test ys) (others test ys)
    at true is ih = refl
    at false is ih = ap (λ b. cond (not b) (y ∷ others test (without_first test ys)) (others test (without_first test ys))) is ∙ ap (λ zs. y ∷ zs) ih

-- if none passes, all the others are all
pub all_others : {X : Type 0} (test : X → Bool) (xs : List X) → first test xs ≡ None → filter (λ x. not (test x)) xs ≡ xs
all_others test [] e = refl
all_others test (y ∷ ys) e = at (test y) (λ e. all_others test ys e) e
  where
    at : (b : Bool) → (first test ys ≡ None → others test ys ≡ ys) → cond b (Some y) (first test ys) ≡ None → cond (not b) (y ∷ others test ys) (others test ys) ≡ y ∷ ys
    at true ih e = absurd cc
    at false ih e = ap (λ zs. y ∷ zs) (ih e)

-- what holds of all holds of the first, and of those after it
pub first_has : {X : Type 0} (P : X → Type 0) (test : X → Bool) (xs : List X) (x : X) → first test xs ≡ Some x → AllByRecursion P xs → P x
first_has P test [] x e all = absurd cc
first_has P test (y ∷ ys) x e all = at (test y) (λ e. first_has P test ys x e all.1) e
  where
    at : (b : Bool) → (first test ys ≡ Some x → P x) → cond b (Some y) (first test ys) ≡ Some x → P x
    at true ih e = subst P (some_is y x e) all.0
    at false ih e = ih e

pub others_have : {X : Type 0} (P : X → Type 0) (test : X → Bool) (xs : List X) → AllByRecursion P xs → AllByRecursion P (without_first test xs)
others_have P test [] all = tt
others_have P test (y ∷ ys) all = at (test y) (others_have P test ys all.1)
  where
    at : (b : Bool) → AllByRecursion P (without_first test ys) → AllByRecursion P (cond b ys (y ∷ without_first test ys))
    at true ih = all.1
    at false ih = (all.0, ih)

pub first_among : {X : Type 0} (test : X → Bool) (xs : List X) (x : X) → first test xs ≡ Some x → length (without_first test xs) < length xs
first_among test [] x e = absurd cc
first_among test (y ∷ ys) x e = at (test y) (λ e. first_among test ys x e) e
  where
    at : (b : Bool) → (first test ys ≡ Some x → length (without_first test ys) < length ys) → cond b (Some y) (first test ys) ≡ Some x → length (cond b ys (y ∷ without_first test ys)) < suc (length ys)
    at true ih e = omega arith
    at false ih e = let h : length (without_first test ys) < length ys = ih e in omega arith

-- if there is none, nothing is taken
pub unchanged : {X : Type 0} (test : X → Bool) (xs : List X) → first test xs ≡ None → without_first test xs ≡ xs
unchanged test [] e = refl
unchanged test (y ∷ ys) e = at (test y) (λ e. unchanged test ys e) e
  where
    at : (b : Bool) → (first test ys ≡ None → without_first test ys ≡ ys) → cond b (Some y) (first test ys) ≡ None → cond b ys (y ∷ without_first test ys) ≡ y ∷ ys
    at true ih e = absurd cc
    at false ih e = ap (λ zs. y ∷ zs) (ih e)
