-- The attached nodes and the detached ones, by the keys of their payloads.
use Rattle.std.specs.Prelude.{refl}
use Rattle.std.specs.Coded.{Coded, code_by, coded×, coded_ℕ, coded_option}
use Rattle.sn_tree.specs.Trees.{Nodes, Sides}
use Rattle.sn_tree.specs.Order.{Key}
use Rattle.sn_tree.specs.Model.{nodes_code}

-- each detached subtree is one of the first level
abbrev pub Arranged : Type 0
Arranged = Sides Key

abbrev pub arranged_code : Coded Arranged
arranged_code = code_by (Nodes Key × Nodes Key) (coded× (nodes_code (coded_option coded_ℕ)) (nodes_code (coded_option coded_ℕ)))
    (λ a. (a.attached, a.detached)) (λ p. record { attached = p.0; detached = p.1 }) (λ _. refl)
