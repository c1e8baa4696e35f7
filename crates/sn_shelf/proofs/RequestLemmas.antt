-- What a message asks for, from its arguments in order.
use Rattle.std.proofs.Common.{◌≡◌, ℕ, ℤ, List, Option, Some, None, sym, ap, ◌∙◌}
use Rattle.std.specs.Prelude.{option_map}
use Rattle.sn_osc.specs.Shape.{Argument}
use Rattle.sn_shelf.specs.Expanded.{Request, optional_int, completion_in, with_range, with_path}

with_path_is : (number : ℤ) (path : List ℕ) (rest : List Argument) (s f : ℤ × List Argument) → s ≡ optional_int rest → f ≡ optional_int s.1 → with_path number path rest ≡ with_range number path s f
with_path_is number path rest s f start frames =
    let last : f ≡ optional_int (optional_int rest).1 = frames ∙ ap (λ (p : ℤ × List Argument). optional_int p.1) start in
    λ i. with_range number path (sym start i) (sym last i)

pub path_none : (number : ℤ) (path : List ℕ) (rest : List Argument) (s f : ℤ × List Argument) → s ≡ optional_int rest → f ≡ optional_int s.1 → completion_in f.1 ≡ None → with_path number path rest ≡ None
path_none number path rest s f start frames none =
    with_path_is number path rest s f start frames
    ∙ ap (option_map (λ c. let r : Request = record { number = number; path = path; start = s.0; frames = f.0; completion = c } in r)) none

pub path_some : (number : ℤ) (path : List ℕ) (rest : List Argument) (s f : ℤ × List Argument) (c : Option (List ℕ)) → s ≡ optional_int rest → f ≡ optional_int s.1 → completion_in f.1 ≡ Some c
    → with_path number path rest ≡ Some (record { number = number; path = path; start = s.0; frames = f.0; completion = c })
path_some number path rest s f c start frames some =
    with_path_is number path rest s f start frames
    ∙ ap (option_map (λ o. let r : Request = record { number = number; path = path; start = s.0; frames = f.0; completion = o } in r)) some
