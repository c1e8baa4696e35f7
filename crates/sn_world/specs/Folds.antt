-- Commands that judge all repetitions and then act, as folds: each repetition is judged in what the earlier ones left,
-- and acts.
use Rattle.std.specs.Prelude.{ℕ, ℤ, List, [], ◌∷◌, Option, Some, None, Result, Err}
use Rattle.sn_reply.specs.declared.reason.Reason.{Reason}
use Rattle.sn_reply.specs.declared.reason.Reason.TheVariants as Reasons
use Rattle.sn_tree.specs.Trees.{subtree}
use Rattle.sn_world.specs.World.{World, Turn}
use Rattle.sn_world.specs.Rows.{or_else, steps}
use Rattle.sn_world.specs.BufferNumbers.{at_number, buffer_refusal, with_samples}
use Rattle.sn_world.specs.BufferSamples.{size_of}
use Rattle.sn_world.specs.ControlRuns.{ForNode, judge_node}
use Rattle.sn_world.specs.Mappings.{Mapping, judge_mapping, map_buses}

-- ---- samples of a buffer: the first reason against a repetition, what it does, and all of them in turn

abbrev pub judge_change : {R : Type 0} → (ℕ → R → Option Reason) → ℤ → World → R → Option Reason
judge_change refusal n w r = or_else (buffer_refusal n w) (refusal (size_of (at_number w.buffers n)) r)

abbrev pub act_change : {R : Type 0} → (R → List ℤ → List ℤ) → ℤ → R → Turn → Turn
act_change change n r t = record t { world = with_samples n (change r) t.world }

abbrev pub changing_each : {R : Type 0} → (ℕ → R → Option Reason) → (R → List ℤ → List ℤ) → ℤ → List R → Turn → Result Turn Reason
changing_each refusal change n = steps (judge_change refusal n) (act_change change n)

-- ---- mappings for a node: the same

abbrev pub judge_map_of : ℤ → World → Mapping → Option Reason
judge_map_of id w m = or_else (judge_node w id) (judge_mapping (subtree id w.nodes) m)

abbrev pub act_map_of : ℤ → Mapping → Turn → Turn
act_map_of id m t = record t { world = map_buses (record { id = id; all = m ∷ [] }) t.world }

abbrev pub mapping_each : Option (ForNode Mapping) → Turn → Result Turn Reason
mapping_each None t = Err Reasons.Arguments
mapping_each (Some r) t = steps (judge_map_of r.id) (act_map_of r.id) r.all t
