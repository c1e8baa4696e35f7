-- The ids that the server chooses.
use Rattle.std.specs.Prelude.{◌≡◌, ◌<ℤ◌, ℤ, negsuc, true, false, IfSome}
use Rattle.sn_tree.specs.Trees.{Nodes, holds}
use Rattle.sn_world.specs.World.{World}

-- an id that is below -1, and below the id of each node
abbrev pub IsBelow : {P : Type 0} → Nodes P → ℤ → Type 0
IsBelow nodes id = (id <ℤ negsuc 0) × ((other : ℤ) → holds other nodes ≡ true → id <ℤ other)

-- The id that is chosen next, if one is left, is such an id; and -1, which asks for one, is the id of no node.
abbrev pub AreChosen : World → Type 0
AreChosen w = IfSome w.next_id (λ id. IsBelow w.nodes id) × (holds (negsuc 0) w.nodes ≡ false)
