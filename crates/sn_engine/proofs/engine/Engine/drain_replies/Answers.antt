use Rattle.std.proofs.Common.{◌≤◌, [], List, ℕ, slice_set, get_or, arith, ap, ◌∙◌}
use Rattle.std.specs.Prelude.{vec_capacity}
use Rattle.sn_tree.specs.Trees.{running_labels}
use Rattle.sn_world.specs.SettleWords.{walk_room}
use Rattle.sn_engine.specs.Running.{Running}
use Rattle.sn_engine.proofs.DrainLemmas.{still_room, bytes_set, as_long}
use Rattle.sn_engine.proofs.Pasts.{running_is}
use Rattle.sn_engine.proofs.engine.Engine.drain_replies.Goals as goal

pub invariant_of-self : goal.invariant_of-self
invariant_of-self g c =
    let i = c.self.invariant in
    let e = c.self.inside in
    let d = c.index_mut.result.now in
    let more : (get_or e.replies.items c.args.client d).spare ≤ c.drain.new.text.spare = omega (arith, ap (λ t. t.spare) c.index_mut.ensures.value, c.drain.ensures.room) in (
      i.0,
      i.1,
      still_room e.standing e.sound.spare (vec_capacity e.samples) (walk_room (running_labels e.stage.tree.attached)) e.endings.spare e.replies.items c.args.client d c.drain.new.text more i.2,
      i.3,
      i.4,
      omega (arith, i.5, as_long e.replies.items c.args.client c.drain.new.text),
      i.6,
      i.7,
      i.8,
      i.9,
      i.10,
      i.11,
      i.12,
      i.13,
    )

abbrev with_replies : Running → List (List ℕ) → Running
with_replies r replies = record r { replies = replies }

pub returns-clause-kept : goal.returns-clause-kept
returns-clause-kept g c =
    let drained = bytes_set c.self.inside.replies.items c.args.client c.drain.new.text c.drain.ensures.bytes ∙ ap (λ r. slice_set r.replies c.args.client []) (running_is c.self.view_is) in
    λ i. with_replies (running_is c.self.view_is i) (drained i)
