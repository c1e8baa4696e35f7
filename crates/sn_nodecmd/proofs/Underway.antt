-- A stage whose journals are open.
use Rattle.std.proofs.Common.{◌≡◌, ◌≤◌, ◌+◌, ℕ, List, Option, None, ap, sym, subst, ◌∙◌, arith}
use Rattle.std.specs.Prelude.{if◌then◌else◌}
use Rattle.sn_mem.specs.declared.extents.Extent.{Extent}
use Rattle.sn_mem.specs.Words.{covers}
use Rattle.sn_pool.specs.Pools.{PoolState, same_extent, times, room_of}
use Rattle.sn_pool.specs.declared.pool.Mark.{Mark}
use Rattle.sn_mem.specs.declared.buffers.BufferPlace.{BufferPlace}
use Rattle.sn_tree.specs.Trees.{Nodes, none}
use Rattle.sn_tree.specs.Model.{NodeTree}
use Rattle.sn_world.specs.declared.stage.Held.{Held}
use Rattle.sn_world.specs.declared.stage.Stage.{Stage}
use Rattle.sn_mem.specs.Buffers.{live_places, overlaps}
use Rattle.sn_world.specs.Buffers.{AreBuffers}
use Rattle.sn_world.specs.Pictures.{live_held, amount, AreHeld, Pictures}
use Rattle.sn_world.proofs.Counting.{times-amount, overlaps-amount, few_extents, amount-none}
use Rattle.sn_nodecmd.specs.Folding.{IsAtRest, Keeps, IsUnderway}

module _ (left : ℕ) (mark : Mark) (old now : Stage) (is : IsUnderway left mark old now) where
  total_times : (e : Extent) → times e (live_held now.tree.attached) + times e (live_held now.tree.detached) ≡ times e (live_held old.tree.attached) + times e (live_held old.tree.detached)
  total_times e = omega (arith, is.extents (λ y. if same_extent e y then 1 else 0), times-amount e (live_held now.tree.attached), times-amount e (live_held now.tree.detached), times-amount e (live_held old.tree.attached), times-amount e (live_held old.tree.detached))

  total_overlaps : (x : ℕ) → overlaps x (live_held now.tree.attached) + overlaps x (live_held now.tree.detached) ≡ overlaps x (live_held old.tree.attached) + overlaps x (live_held old.tree.detached)
  total_overlaps x = omega (arith, is.extents (λ e. if covers e x then 1 else 0), overlaps-amount x (live_held now.tree.attached), overlaps-amount x (live_held now.tree.detached), overlaps-amount x (live_held old.tree.attached), overlaps-amount x (live_held old.tree.detached))

  nothing_overlaps : (rest : old.tree.detached ≡ none) (x : ℕ) → overlaps x (live_held old.tree.detached) ≡ 0
  nothing_overlaps rest x = ap (λ (t : Nodes Held). overlaps x (live_held t)) rest

  nothing_times : (rest : old.tree.detached ≡ none) (e : Extent) → times e (live_held old.tree.detached) ≡ 0
  unfolding times
  nothing_times rest e = ap (λ (t : Nodes Held). times e (live_held t)) rest

  pub underway_live : IsAtRest old → (e : Extent) → 1 ≤ e.len → times e (live_held now.tree.detached) ≤ times e now.pool.live
  underway_live rest e some = omega (arith, total_times e, rest.live e some, nothing_times rest.detached e, ap (λ (p : PoolState). times e p.live) is.pool)

  pub underway_room : IsAtRest old → amount (λ e. 1) (live_held now.tree.detached) ≤ room_of now.pool.journal
  underway_room rest = omega (arith, is.extents (λ e. 1), few_extents old.tree.attached, ap (λ (t : Nodes Held). amount (λ e. 1) (live_held t)) rest.detached, amount-none (λ e. 1), ap (λ (p : PoolState). room_of p.journal) is.pool)

  -- what is left is a picture again
  pub underway_pictures : (new : Stage) (words : List ℕ) → Pictures old words → new.tree ≡ record { attached = now.tree.attached; detached = none; journal = None }
      → ((e : Extent) → 1 ≤ e.len → times e now.pool.live ≡ times e (live_held now.tree.detached) + times e new.pool.live) → new.pool.region ≡ now.pool.region → new.pool.journal ≡ None → new.rate ≡ now.rate → new.buffers ≡ now.buffers → Pictures new words
  underway_pictures new words p tree live region closed rate buffers =
      let same_region : new.pool.region ≡ old.pool.region = region ∙ ap (λ (q : PoolState). q.region) is.pool in
      let same_buffers : new.buffers ≡ old.buffers = buffers ∙ is.buffers in
      let attached : new.tree.attached ≡ now.tree.attached = ap (λ (t : NodeTree Held). t.attached) tree in
      record {
        rate = omega (arith, rate, is.rate, p.rate);
        rate_fits = omega (arith, rate, is.rate, p.rate_fits);
        base = ap (λ (e : Extent). e.at) same_region ∙ p.base;
        bounded = omega (arith, ap (λ (e : Extent). e.len) same_region, p.bounded);
        fits = omega (arith, ap (λ (e : Extent). e.len) same_region, p.fits);
        synths = subst (λ (r : ℕ). AreHeld r new.pool.region new.tree.attached) (sym (rate ∙ is.rate)) (subst (λ (g : Extent). AreHeld old.rate g new.tree.attached) (sym same_region)
            (subst (λ (t : Nodes Held). AreHeld old.rate old.pool.region t) (sym attached) (is.held old.rate old.pool.region p.synths)));
        buffers = subst (λ (g : Extent). AreBuffers g new.buffers) (sym same_region) (subst (AreBuffers old.pool.region) (sym same_buffers) p.buffers);
        live = λ e some. omega (arith, ap (λ (ps : List (Option BufferPlace)). times e (live_places ps)) same_buffers, live e some, total_times e, p.live e some, nothing_times p.attached e, ap (λ (q : PoolState). times e q.live) is.pool, ap (λ (t : Nodes Held). times e (live_held t)) attached);
        apart = λ x. omega (arith, ap (λ (ps : List (Option BufferPlace)). overlaps x (live_places ps)) same_buffers, total_overlaps x, p.apart x, nothing_overlaps p.attached x, ap (λ (t : Nodes Held). overlaps x (live_held t)) attached);
        attached = ap (λ (t : NodeTree Held). t.detached) tree;
        settled = ap (λ (t : NodeTree Held). t.journal) tree;
        closed = closed;
      }

-- one more repetition
pub underway_more : (left : ℕ) (mark : Mark) (old now new : Stage) → IsUnderway (1 + left) mark old now → Keeps now new → IsUnderway left mark old new
underway_more left mark old now new is keeps = record {
  pool = keeps.pool ∙ is.pool;
  saved = keeps.tree.saved ∙ is.saved;
  room = omega (arith, is.room, keeps.tree.room);
  extents = λ weight. keeps.tree.extents weight ∙ is.extents weight;
  held = λ rate region h. keeps.tree.held rate region (is.held rate region h);
  buffers = keeps.buffers ∙ is.buffers;
  defs = keeps.defs ∙ is.defs;
  notify = keeps.notify ∙ is.notify;
  rate = keeps.rate ∙ is.rate;
}

-- ---- a stage whose journals stay closed

kept_times : (old new : Stage) → Keeps old new → (e : Extent) → times e (live_held new.tree.attached) + times e (live_held new.tree.detached) ≡ times e (live_held old.tree.attached) + times e (live_held old.tree.detached)
kept_times old new keeps e = omega (arith, keeps.tree.extents (λ y. if same_extent e y then 1 else 0), times-amount e (live_held new.tree.attached), times-amount e (live_held new.tree.detached), times-amount e (live_held old.tree.attached), times-amount e (live_held old.tree.detached))

kept_overlaps : (old new : Stage) → Keeps old new → (x : ℕ) → overlaps x (live_held new.tree.attached) + overlaps x (live_held new.tree.detached) ≡ overlaps x (live_held old.tree.attached) + overlaps x (live_held old.tree.detached)
kept_overlaps old new keeps x = omega (arith, keeps.tree.extents (λ e. if covers e x then 1 else 0), overlaps-amount x (live_held new.tree.attached), overlaps-amount x (live_held new.tree.detached), overlaps-amount x (live_held old.tree.attached), overlaps-amount x (live_held old.tree.detached))

none_times : (t : Nodes Held) → t ≡ none → (e : Extent) → times e (live_held t) ≡ 0
unfolding times
none_times t is e = ap (λ (n : Nodes Held). times e (live_held n)) is

none_overlap : (t : Nodes Held) → t ≡ none → (x : ℕ) → overlaps x (live_held t) ≡ 0
none_overlap t is x = ap (λ (n : Nodes Held). overlaps x (live_held n)) is

pub keeps_pictures : (old new : Stage) (words : List ℕ) → Keeps old new → new.tree.detached ≡ none → new.tree.journal ≡ None → Pictures old words → Pictures new words
keeps_pictures old new words keeps gone settled p = record {
  rate = omega (arith, keeps.rate, p.rate);
  rate_fits = omega (arith, keeps.rate, p.rate_fits);
  base = ap (λ (q : PoolState). q.region.at) keeps.pool ∙ p.base;
  bounded = omega (arith, ap (λ (q : PoolState). q.region.len) keeps.pool, p.bounded);
  fits = omega (arith, ap (λ (q : PoolState). q.region.len) keeps.pool, p.fits);
  synths = subst (λ (r : ℕ). AreHeld r new.pool.region new.tree.attached) (sym keeps.rate) (subst (λ (q : PoolState). AreHeld old.rate q.region new.tree.attached) (sym keeps.pool) (keeps.tree.held old.rate old.pool.region p.synths));
  buffers = subst (λ (q : PoolState). AreBuffers q.region new.buffers) (sym keeps.pool) (subst (AreBuffers old.pool.region) (sym keeps.buffers) p.buffers);
  live = λ e some. omega (arith, ap (λ (ps : List (Option BufferPlace)). times e (live_places ps)) keeps.buffers, ap (λ (q : PoolState). times e q.live) keeps.pool, kept_times old new keeps e, none_times new.tree.detached gone e, none_times old.tree.detached p.attached e, p.live e some);
  apart = λ x. omega (arith, ap (λ (ps : List (Option BufferPlace)). overlaps x (live_places ps)) keeps.buffers, kept_overlaps old new keeps x, none_overlap new.tree.detached gone x, none_overlap old.tree.detached p.attached x, p.apart x);
  attached = gone;
  settled = settled;
  closed = ap (λ (q : PoolState). q.journal) keeps.pool ∙ p.closed;
}
