-- The id that is chosen next stays below those of all nodes.
use Rattle.std.proofs.Common.{inl, inr, ◌-◌, ℕ, zero, suc, List, [], ◌∷◌, sym, subst}
use Rattle.std.specs.List.{AllByRecursion}
use Rattle.sn_osc.specs.Shape.{MessageShape}
use Rattle.sn_queue.specs.Waiting.{Waiting}
use Rattle.sn_world.specs.Choosing.{AreChosen}
use Rattle.sn_world.specs.Commands.{deepest}
use Rattle.sn_world.specs.Ending.{Next, nothing, quitting, clearing, completing}
use Rattle.sn_world.specs.World.{Turn}
use Rattle.sn_world.proofs.ChoosingLaws.{command_chosen, walk_chosen, settled_chosen}
use Rattle.sn_engine.specs.Boundary.{Acted, acted, completed, all_completed, act_message, act_messages, act_entries, due_at, unsaid}
use Rattle.sn_engine.specs.Running.{Running, at_boundary, with_block, with_settled}
use Rattle.sn_engine.specs.Histories.{Follows, AreSteps}

completed_chosen : (from : ℕ) (n : Next) (t : Turn) → AreChosen t.world → AreChosen (completed from n t).turn.world
completed_chosen from nothing t h = h
completed_chosen from quitting t h = h
completed_chosen from clearing t h = h
completed_chosen from (completing m) t h = command_chosen from m t h

all_chosen : (n from : ℕ) (a : Acted) → AreChosen a.turn.world → AreChosen (all_completed n from a).turn.world
unfolding all_completed
all_chosen zero from a h = h
all_chosen (suc n) from a h = all_chosen n from (completed from a.next a.turn) (completed_chosen from a.next a.turn h)

messages_chosen : (from : ℕ) (ms : List MessageShape) (t : Turn) → AreChosen t.world → AreChosen (act_messages from ms t).world
messages_chosen from [] t h = h
messages_chosen from (m ∷ ms) t h = messages_chosen from ms (act_message from m t).turn (all_chosen deepest from (acted from m t) (command_chosen from m t h))

entries_chosen : (ws : List Waiting) (t : Turn) → AreChosen t.world → AreChosen (act_entries ws t).world
entries_chosen [] t h = h
entries_chosen (w ∷ ws) t h = entries_chosen ws (act_messages w.from w.messages t) (messages_chosen w.from w.messages t h)

pub boundary_chosen : (r : Running) → AreChosen r.world → AreChosen (at_boundary r).world
boundary_chosen r h = entries_chosen (due_at r.block r.waiting) (unsaid r.world) h

pub block_chosen : (r : Running) → AreChosen r.world → AreChosen (with_block r).world
block_chosen r h = walk_chosen r.block r.world h

pub settling_chosen : (r : Running) → AreChosen r.world → AreChosen (with_settled r).world
settling_chosen r h = settled_chosen (r.block - 1) (unsaid r.world) h

next_chosen : (r s : Running) → Follows r s → AreChosen r.world → AreChosen s.world
next_chosen r s (inl e) h = subst (λ (q : Running). AreChosen q.world) (sym e) (boundary_chosen r h)
next_chosen r s (inr (inl e)) h = subst (λ (q : Running). AreChosen q.world) (sym e) (block_chosen r h)
next_chosen r s (inr (inr (inl e))) h = subst (λ (q : Running). AreChosen q.world) (sym e) (settling_chosen r h)
next_chosen r s (inr (inr (inr e))) h = subst AreChosen (sym e) h

pub steps_chosen : (rs : List Running) (r : Running) → AreSteps r rs → AreChosen r.world → AllByRecursion (λ (q : Running). AreChosen q.world) rs
steps_chosen [] r steps h = tt
steps_chosen (s ∷ rs) r steps h =
    let next : AreChosen s.world = next_chosen r s steps.0 h in
    (next, steps_chosen rs s steps.1 next)
