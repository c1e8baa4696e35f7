-- Commands that free what lies below groups.
use Rattle.std.specs.Prelude.{ℕ, ℤ, List, [], ◌∷◌, Option, Some, None, Result}
use Rattle.sn_osc.specs.Shape.{Argument, int, string, blob}
use Rattle.sn_reply.specs.declared.reason.Reason.{Reason}
use Rattle.sn_reply.specs.declared.reason.Reason.TheVariants as Reasons
use Rattle.sn_tree.specs.Trees.{Nodes, children, label_of}
use Rattle.sn_tree.specs.Below.{top_ids, synth_ids}
use Rattle.sn_tree.specs.Faults.{is_missing, labels_synth}
use Rattle.sn_world.specs.declared.emptying.FreeAll.{FreeAll}
use Rattle.sn_world.specs.declared.emptying.DeepFree.{DeepFree}
use Rattle.sn_world.specs.Freeing.{freed}
use Rattle.sn_world.specs.World.{World, Turn}
use Rattle.sn_world.specs.Rows.{first_of, row, singles, some_of}

-- Nodes are freed one after the other. Each is told at the place where it stands after the earlier ones are gone.
abbrev pub freed_each : List ℤ → Turn → Turn
freed_each [] t = t
freed_each (id ∷ ids) t = freed_each ids (freed id t)

-- against freeing what lies below a group
abbrev pub group_refusal : {P : Type 0} → ℤ → Nodes P → Option Reason
group_refusal id nodes = first_of (
    (is_missing id nodes, Reasons.NoSuchNode)
    ∷ (labels_synth (label_of id nodes), Reasons.NotGroup)
    ∷ [])

-- ---- `/g_freeAll` group..

abbrev pub free_all : Argument → Option FreeAll
free_all (int group) = Some (record { group = group })
free_all (string s) = None
free_all (blob b) = None

abbrev pub judge_free_all : World → FreeAll → Option Reason
judge_free_all w r = group_refusal r.group w.nodes

-- all children are freed, each with all below it
abbrev pub act_free_all : FreeAll → Turn → Turn
act_free_all r t = freed_each (top_ids (children r.group t.world.nodes)) t

abbrev pub free_all_row : ℕ → List Argument → Turn → Result Turn Reason
free_all_row from xs = row judge_free_all act_free_all (some_of (singles free_all xs))

-- ---- `/g_deepFree` group..

abbrev pub deep_free : Argument → Option DeepFree
deep_free (int group) = Some (record { group = group })
deep_free (string s) = None
deep_free (blob b) = None

abbrev pub judge_deep_free : World → DeepFree → Option Reason
judge_deep_free w r = group_refusal r.group w.nodes

-- all synths below the group are freed, at any depth; the groups stay
abbrev pub act_deep_free : DeepFree → Turn → Turn
act_deep_free r t = freed_each (synth_ids (children r.group t.world.nodes)) t

abbrev pub deep_free_row : ℕ → List Argument → Turn → Result Turn Reason
deep_free_row from xs = row judge_deep_free act_deep_free (some_of (singles deep_free xs))
