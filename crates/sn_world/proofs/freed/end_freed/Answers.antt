use Rattle.std.proofs.Common.{◌∙◌, ap, arith}
use Rattle.sn_tree.specs.Trees.{count}
use Rattle.sn_tree.specs.Model.{NodeTree}
use Rattle.sn_world.specs.declared.stage.Held.{Held}
use Rattle.sn_world.specs.Pictures.{held_extents, live_held, amount}
use Rattle.sn_pool.specs.Pools.{times}
use Rattle.sn_world.proofs.FreedLemmas.{first_amount, first_times, first_count, none_times, room_for_part, room_left}
use Rattle.sn_world.proofs.freed.end_freed.Goals as goal

pub end_node-requires-clause-live : goal.end_node-requires-clause-live
end_node-requires-clause-live c = λ e some.
    omega (arith, first_times e c.loop-held.tree.detached c.in-Some.held c.in-Some.ensures.value, c.loop-held.invariant.live e some, c.requires.live e some)

pub end_node-requires-clause-room : goal.end_node-requires-clause-room
end_node-requires-clause-room c =
    room_for_part (amount (λ e. 1) (held_extents c.in-Some.held)) (amount (λ e. 1) (live_held c.loop-held.tree.detached)) c.loop-held.pool.journal
    (omega (arith, first_amount (λ e. 1) c.loop-held.tree.detached c.in-Some.held c.in-Some.ensures.value)) c.loop-held.invariant.room

pub loop-held-smaller : goal.loop-held-smaller
loop-held-smaller c = omega (arith, first_count c.loop-held.tree.detached c.in-Some.held c.in-Some.ensures.value, ap (λ (t : NodeTree Held). count t.detached) c.in-Some.ensures.rest)

pub loop-held-preserved : goal.loop-held-preserved
loop-held-preserved c = record {
  attached = ap (λ (t : NodeTree Held). t.attached) c.in-Some.ensures.rest ∙ c.loop-held.invariant.attached;
  journal = ap (λ (t : NodeTree Held). t.journal) c.in-Some.ensures.rest ∙ c.loop-held.invariant.journal;
  live = λ e some. omega (arith, c.loop-held.invariant.live e some, first_times e c.loop-held.tree.detached c.in-Some.held c.in-Some.ensures.value, ap (λ (t : NodeTree Held). times e (live_held t.detached)) c.in-Some.ensures.rest, c.end_node.ensures.live e some);
  room = room_left (amount (λ e. 1) (held_extents c.in-Some.held)) (amount (λ e. 1) (live_held c.free.new.self.detached)) (amount (λ e. 1) (live_held c.loop-held.tree.detached)) c.loop-held.pool.journal c.end_node.new.pool.journal
      (omega (arith, first_amount (λ e. 1) c.loop-held.tree.detached c.in-Some.held c.in-Some.ensures.value, ap (λ (t : NodeTree Held). amount (λ e. 1) (live_held t.detached)) c.in-Some.ensures.rest))
      c.end_node.ensures.mark c.end_node.ensures.room c.loop-held.invariant.room;
  mark = c.end_node.ensures.mark ∙ c.loop-held.invariant.mark;
  saved = c.end_node.ensures.saved ∙ c.loop-held.invariant.saved;
  region = c.end_node.ensures.region ∙ c.loop-held.invariant.region;
}

pub returns-clause-live : goal.returns-clause-live
returns-clause-live c = λ e some. omega (arith, c.loop-held.invariant.live e some, none_times e c.loop-held.tree.detached c.in_default.ensures.value)
