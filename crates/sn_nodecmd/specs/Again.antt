-- Groups that stand several times in one `/g_deepFree`: no synth is left below them.
use Rattle.std.specs.Prelude.{ℤ, Bool, List, [], ◌∷◌, ◌++◌, Option, if◌then◌else◌}
use Rattle.std.specs.List.{list_any}
use Rattle.std.specs.Ordering.{int_eq}
use Rattle.sn_reply.specs.declared.reason.Reason.{Reason}
use Rattle.sn_tree.specs.Trees.{children}
use Rattle.sn_tree.specs.Below.{synth_ids}
use Rattle.sn_world.specs.declared.emptying.DeepFree.{DeepFree}
use Rattle.sn_world.specs.Emptying.{freed_each, group_refusal}
use Rattle.sn_world.specs.World.{World, Turn}
use Rattle.sn_nodecmd.specs.declared.emptying.RepeatedGroup.{RepeatedGroup}

-- whether a group is one of these
abbrev pub stands_in : List DeepFree → ℤ → Bool
stands_in earlier group = list_any (λ (r : DeepFree). int_eq r.group group) earlier

-- a group after earlier ones, with whether it is one of them
abbrev pub repeated_group : List DeepFree → DeepFree → RepeatedGroup
repeated_group earlier r = record { group = r.group; again = stands_in earlier r.group }

abbrev pub repeated : List DeepFree → List DeepFree → List RepeatedGroup
repeated earlier [] = []
repeated earlier (r ∷ rs) = repeated_group earlier r ∷ repeated (earlier ++ r ∷ []) rs

abbrev pub judge_repeated : World → RepeatedGroup → Option Reason
judge_repeated w r = group_refusal r.group w.nodes

-- nothing is done for a group that stood before
abbrev pub act_repeated : RepeatedGroup → Turn → Turn
act_repeated r t = if r.again then t else freed_each (synth_ids (children r.group t.world.nodes)) t
