-- The rule of the stop word: it is 1 exactly if the outlet has set it, and an inlet has found it 1 only if it is 1.
use Rattle.std.specs.Prelude.{◌≡◌, ℕ, ◌==◌, Bool, true, false, ◌||◌, if◌then◌else◌, List, [], ◌∷◌}
use mathlib.Core.Option.{some}
use lib.ListN.{get_elem?}
use Rattle.atomic_table.specs.Table.{Me, State, Step}
use Rattle.sn_clients.specs.declared.ends.Sight.{Sight}
use Rattle.sn_clients.specs.declared.ends.Sight.TheVariants.{Setter, Finder, Shut}

-- the outlet has set the word
abbrev pub set_in : Sight → Bool
set_in (Setter set heard) = set
set_in (Finder found) = false
set_in Shut = false

-- an inlet that the outlet gathered had found the word set
abbrev pub heard_in : Sight → Bool
heard_in (Setter set heard) = heard
heard_in (Finder found) = false
heard_in Shut = false

-- an inlet last found the word set
abbrev pub found_in : Sight → Bool
found_in (Setter set heard) = false
found_in (Finder found) = found
found_in Shut = false

abbrev pub new_setter : Sight
new_setter = Setter false false

abbrev pub next_finder : Sight
next_finder = Finder false

-- the outlet sets the word
abbrev pub as_set : Sight → Sight
as_set v = Setter true (heard_in v)

-- the outlet gathers an inlet
abbrev pub with_found : Sight → Sight → Sight
with_found v w = Setter (set_in v) (heard_in v || found_in w)

-- an inlet, which last found this
abbrev pub IsFinder : Sight → Type 0
IsFinder v = v ≡ Finder (found_in v)

abbrev pub shut : Sight
shut = Shut

abbrev pub IsSet : List ℕ → Type 0
IsSet words = words ≡ 1 ∷ []

pub record Stops (s : State ℕ Sight) : Type 0 where
  pub was_set : Bool
  pub was_heard : Bool
  pub setter : get_elem? s.views 0 ≡ some (Setter was_set was_heard)
  pub word : s.words ≡ (if was_set then 1 else 0) ∷ []
  pub heard : was_heard ≡ true → IsSet s.words
  pub found : (place : ℕ) → get_elem? s.views place ≡ some (Finder true) → IsSet s.words

-- ---- what each step tells

abbrev pub Seated : Type 0
Seated = Me ℕ Sight

abbrev pub Set : Step ℕ → Seated → ℕ → Seated → Type 0
Set st m word n = n ≡ (as_set m.0, m.1)

-- an inlet that had found the word set finds it so again
abbrev pub Looked : Step ℕ → Seated → ℕ → Seated → Type 0
Looked st m word n = (n ≡ (Finder (word == 1), m.1)) × (found_in m.0 ≡ true → word ≡ 1)

-- if an inlet that was gathered had found the word set, the outlet had set it
abbrev pub Heard : Step ℕ → Seated → ℕ → Seated → Type 0
Heard st m word n = (n ≡ m) × (heard_in m.0 ≡ true → set_in m.0 ≡ true)
