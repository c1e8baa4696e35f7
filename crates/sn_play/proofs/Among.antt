-- One among others.
use Rattle.std.proofs.Common.{◌≡◌, ◌⊎◌, inl, inr, ⊎_elim, Bool, List, [], ◌∷◌, ◌++◌, map, refl, ap}
use Rattle.std.specs.List.{filter}
use Rattle.std.proofs.lemmas.Bool.{cond_both}

abbrev pub Among : {A : Type 0} → List A → A → Type 0
Among [] x = ⊥
Among (y ∷ ys) x = (y ≡ x) ⊎ Among ys x

pub among_left : {A : Type 0} (xs ys : List A) (x : A) → Among xs x → Among (xs ++ ys) x
among_left [] ys x m = absurd m
among_left (y ∷ xs) ys x m = ⊎_elim (λ (e : y ≡ x). inl e) (λ (n : Among xs x). inr (among_left xs ys x n)) m

pub among_right : {A : Type 0} (xs ys : List A) (x : A) → Among ys x → Among (xs ++ ys) x
among_right [] ys x m = m
among_right (y ∷ xs) ys x m = inr (among_right xs ys x m)

pub among_parts : {A : Type 0} (xs ys : List A) (x : A) → Among (xs ++ ys) x → Among xs x ⊎ Among ys x
among_parts [] ys x m = inr m
among_parts (y ∷ xs) ys x m = ⊎_elim (λ (e : y ≡ x). inl (inl e)) (λ (n : Among (xs ++ ys) x). ⊎_elim (λ (l : Among xs x). inl (inr l)) (λ (r : Among ys x). inr r) (among_parts xs ys x n)) m

pub among_filter : {A : Type 0} (p : A → Bool) (xs : List A) (x : A) → Among (filter p xs) x → Among xs x
among_filter p [] x m = absurd m
among_filter p (y ∷ ys) x m =
    cond_both (p y) (y ∷ filter p ys) (filter p ys) (λ zs. Among zs x → Among (y ∷ ys) x)
    (λ is n. ⊎_elim (λ (e : y ≡ x). inl e) (λ (r : Among (filter p ys) x). inr (among_filter p ys x r)) n)
    (λ no n. inr (among_filter p ys x n))
    m

pub among_map : {A B : Type 0} (f : A → B) (xs : List A) (x : A) → Among xs x → Among (map f xs) (f x)
among_map f [] x m = absurd m
among_map f (y ∷ ys) x m = ⊎_elim (λ (e : y ≡ x). inl (ap f e)) (λ (n : Among ys x). inr (among_map f ys x n)) m

pub among_from : {A B : Type 0} (f : A → B) (xs : List A) (y : B) → Among (map f xs) y → (x : A) × (Among xs x × (f x ≡ y))
among_from f [] y m = absurd m
among_from f (x ∷ xs) y m = ⊎_elim
    (λ (e : f x ≡ y). (x, (inl refl, e)))
    (λ (n : Among (map f xs) y). let r = among_from f xs y n in (r.0, (inr r.1.0, r.1.1)))
    m
