-- Flags of nodes that arguments give.
use Rattle.std.proofs.Common.{◌≡◌, ◌≤◌, true, arith, map, length, List, [], ◌∷◌, refl}
use Rattle.sn_osc.specs.declared.packet.Arg.{Arg}
use Rattle.sn_osc.specs.Shape.{argument_of}
use Rattle.sn_tree.specs.Trees.{Nodes}
use Rattle.sn_world.specs.declared.stage.Held.{Held}
use Rattle.sn_world.specs.Rows.{pairs}
use Rattle.sn_world.specs.RunFlags.{run_flag}
use Rattle.sn_layout.specs.Leaving.{flags_stay}

-- fewer than two arguments
pub few_stay : (all : Nodes Held) (xs : List Arg) → length xs ≤ 1 → flags_stay all (pairs run_flag (map argument_of xs)) ≡ true
few_stay all [] few = refl
few_stay all (x ∷ []) few = refl
few_stay all (x ∷ y ∷ xs) few = absurd (omega (arith, few))
