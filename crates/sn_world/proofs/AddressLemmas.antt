-- What is found in a list, and what is found in the list of what its items say.
use Rattle.std.proofs.Common.{◌≡◌, List, [], ◌∷◌, Bool, true, false, cond, map, find, Some, refl}
use Rattle.std.specs.Option.{option_map}

first : {X Y Z : Type 0} (see : X → Y) (say : Y → Z) (test : Y → Bool) (x : X) (xs : List X)
    → option_map (λ (x : X). say (see x)) (find (λ (x : X). test (see x)) xs) ≡ option_map say (find test (map see xs))
    → (b : Bool) → option_map (λ (x : X). say (see x)) (cond b (Some x) (find (λ (x : X). test (see x)) xs)) ≡ option_map say (cond b (Some (see x)) (find test (map see xs)))
first see say test x xs rest true = refl
first see say test x xs rest false = rest

pub find-seen : {X Y Z : Type 0} (see : X → Y) (say : Y → Z) (test : Y → Bool) (xs : List X)
    → option_map (λ (x : X). say (see x)) (find (λ (x : X). test (see x)) xs) ≡ option_map say (find test (map see xs))
find-seen see say test [] = refl
find-seen see say test (x ∷ xs) = first see say test x xs (find-seen see say test xs) (test (see x))
