-- What an open journal has.
use Rattle.std.specs.Prelude.{◌≡◌, ℕ, zero, suc, ◌-◌, ◌<◌, Bool, false, List, ◌∷◌, Option, Some, None, refl}
use Rattle.std.specs.Coded.{Coded, code_by, coded×, coded_ℕ, coded_bool, coded_list}
use Rattle.sn_forest.specs.declared.place.Place.{Place}
use Rattle.sn_forest.specs.declared.place.Place.TheVariants.{First, Last, Before, After}
use Rattle.sn_tree.specs.declared.undo.Undo.{Undo}
use Rattle.sn_tree.specs.declared.undo.Undo.TheVariants.{Inserted, Moved, Ran}

-- how each step since is undone, for how many more there is room, and the keys of the payloads that were put in since;
-- what came last stands first
pub record Steps : Type 0 where
  pub steps : List Undo
  pub room : ℕ
  pub made : List ℕ

abbrev place_parts : Place → ℕ × ℕ
place_parts (First key) = (0, key)
place_parts (Last key) = (1, key)
place_parts (Before key) = (2, key)
place_parts (After key) = (3, key)

abbrev place_by_number : ℕ → ℕ → Place
place_by_number zero key = First key
place_by_number (suc zero) key = Last key
place_by_number (suc (suc zero)) key = Before key
place_by_number (suc (suc (suc n))) key = After key

pub place_back : (place : Place) → place_by_number (place_parts place).0 (place_parts place).1 ≡ place
place_back (First key) = refl
place_back (Last key) = refl
place_back (Before key) = refl
place_back (After key) = refl

abbrev place_code : Coded Place
place_code = code_by (ℕ × ℕ) (coded× coded_ℕ coded_ℕ) place_parts (λ p. place_by_number p.0 p.1) place_back

abbrev undo_parts : Undo → ℕ × (ℕ × (Place × Bool))
undo_parts (Inserted key) = (0, (key, (First key, false)))
undo_parts (Moved key place) = (1, (key, (place, false)))
undo_parts (Ran key on) = (2, (key, (First key, on)))

abbrev undo_by_number : ℕ → ℕ → Place → Bool → Undo
undo_by_number zero key place on = Inserted key
undo_by_number (suc zero) key place on = Moved key place
undo_by_number (suc (suc n)) key place on = Ran key on

pub undo_back : (step : Undo) → undo_by_number (undo_parts step).0 (undo_parts step).1.0 (undo_parts step).1.1.0 (undo_parts step).1.1.1 ≡ step
undo_back (Inserted key) = refl
undo_back (Moved key place) = refl
undo_back (Ran key on) = refl

abbrev undo_code : Coded Undo
undo_code = code_by (ℕ × (ℕ × (Place × Bool))) (coded× coded_ℕ (coded× coded_ℕ (coded× place_code coded_bool)))
    undo_parts (λ p. undo_by_number p.0 p.1.0 p.1.1.0 p.1.1.1) undo_back

abbrev pub steps_code : Coded Steps
steps_code = code_by (List Undo × (ℕ × List ℕ)) (coded× (coded_list undo_code) (coded× coded_ℕ (coded_list coded_ℕ)))
    (λ s. (s.steps, (s.room, s.made))) (λ p. record { steps = p.0; room = p.1.0; made = p.1.1 }) (λ _. refl)

-- an open journal has room for a step
abbrev pub HasSpare : Option Steps → Type 0
HasSpare None = Unit {0}
HasSpare (Some journal) = 0 < journal.room

-- an open journal has one more step, for which it had room
abbrev pub followed : Undo → Option Steps → Option Steps
followed step None = None
followed step (Some journal) = Some (record journal { steps = step ∷ journal.steps; room = journal.room - 1 })

-- an open journal has one more step, which puts a payload in under a key
abbrev pub noted_new : Undo → ℕ → Option Steps → Option Steps
noted_new step key None = None
noted_new step key (Some journal) = Some (record journal { steps = step ∷ journal.steps; made = key ∷ journal.made })
