-- Requests that do nothing but what a later one does too.
use Rattle.std.specs.Prelude.{◌≡◌, ◌≤◌, ◌⊎◌, List, [], ◌∷◌, map, length, true, if◌then◌else◌}
use Rattle.sn_world.specs.ControlRuns.{ControlRun}
use Rattle.sn_nodecmd.specs.declared.latest.Judged.{Judged}

-- Each control that r sets is set by s.
pub record Covers (r s : ControlRun) : Type 0 where
  pub control : s.control ≡ r.control
  pub few : length r.values ≤ length s.values

module _ {A : Type 0} (covered : A → A → Type 0) where
  -- One of these requests does what r does.
  abbrev pub IsCovered : A → List A → Type 0
  IsCovered r [] = ⊥
  IsCovered r (s ∷ ss) = covered r s ⊎ IsCovered r ss

  -- These are left of requests, in their order: each that isn't is covered by later ones.
  abbrev pub AreLeft : List A → List A → Type 0
  AreLeft [] left = left ≡ []
  AreLeft (r ∷ rs) left = ((others : List A) × ((left ≡ r ∷ others) × AreLeft rs others)) ⊎ (IsCovered r rs × AreLeft rs left)

-- the requests among what was judged
abbrev pub items_in : {A : Type 0} → List (Judged A) → List A
items_in js = map (λ j. j.item) js

-- Those that are said to be covered are covered by later ones.
abbrev pub AreJudged : {A : Type 0} → (A → A → Type 0) → List (Judged A) → Type 0
AreJudged covered [] = Unit {0}
AreJudged covered (j ∷ js) = (j.is_covered ≡ true → IsCovered covered j.item (items_in js)) × AreJudged covered js

-- the requests that are not said to be covered
abbrev pub uncovered : {A : Type 0} → List (Judged A) → List A
uncovered [] = []
uncovered (j ∷ js) = if j.is_covered then uncovered js else j.item ∷ uncovered js
