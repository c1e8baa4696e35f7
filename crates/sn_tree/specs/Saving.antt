-- What an open journal keeps: the nodes as they were, by their keys.
use Rattle.std.specs.Prelude.{ℕ, ◌-◌, ◌<◌, List, ◌∷◌, Option, Some, None, refl}
use Rattle.std.specs.Coded.{Coded, code_by, coded×, coded_ℕ, coded_list}
use Rattle.sn_tree.specs.Arranged.{Arranged, arranged_code}

-- the saved nodes, for how many steps there is room, and the keys that were made since, the last one first
pub record SavedNodes : Type 0 where
  pub nodes : Arranged
  pub room : ℕ
  pub made : List ℕ

abbrev pub saved_code : Coded SavedNodes
saved_code = code_by (Arranged × (ℕ × List ℕ)) (coded× arranged_code (coded× coded_ℕ (coded_list coded_ℕ)))
    (λ s. (s.nodes, (s.room, s.made))) (λ p. record { nodes = p.0; room = p.1.0; made = p.1.1 }) (λ _. refl)

abbrev pub HasSpare : Option SavedNodes → Type 0
HasSpare None = Unit {0}
HasSpare (Some saved) = 0 < saved.room

abbrev pub spent : ℕ → Option SavedNodes → Option SavedNodes
spent cost None = None
spent cost (Some saved) = Some (record saved { room = saved.room - cost })

abbrev pub noted : ℕ → Option SavedNodes → Option SavedNodes
noted key None = None
noted key (Some saved) = Some (record saved { made = key ∷ saved.made })
