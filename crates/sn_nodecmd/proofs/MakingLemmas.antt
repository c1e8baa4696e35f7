-- `/s_new`: what a stage and its words stand for after it.
use Rattle.std.proofs.Common.{◌≡◌, ◌≤◌, ◌<◌, ◌+◌, ℕ, zero, suc, ℤ, negsuc, nat_lt, true, false, List, [], ◌∷◌, ◌++◌, length, get_or, replicate, Option, Some, None, Result, Ok, Err, refl, ap, sym, subst, ◌∙◌, inr, arith}
use Rattle.std.proofs.lemmas.Bool.{lt-ltb}
use Rattle.std.specs.Prelude.{if◌then◌else◌, nat_eq}
use Rattle.sn_mem.specs.declared.extents.Extent.{Extent}
use Rattle.sn_mem.specs.Words.{has}
use Rattle.sn_mem.specs.Blocks.{window}
use Rattle.sn_def.specs.declared.control.Control.{Control}
use Rattle.sn_def.specs.Definition.{Definition}
use Rattle.sn_def.specs.StateWords.{state_words}
use Rattle.sn_synth.specs.Conditions.{AreControlsOf}
use Rattle.sn_pool.specs.Pools.{PoolState, times}
use Rattle.sn_pool.specs.Regions.{least_place}
use Rattle.sn_reply.specs.declared.reason.Reason.{Reason}
use Rattle.sn_reply.specs.declared.reason.Reason.TheVariants as Reasons
use Rattle.sn_reply.specs.Replies.{ReplyShape}
use Rattle.sn_tree.specs.declared.node.NodeKind.TheVariants as kinds
use Rattle.sn_tree.specs.declared.node.NodeView.{NodeView}
use Rattle.sn_tree.specs.Trees.{leaf, view_of}
use Rattle.sn_tree.specs.Views.{views_below}
use Rattle.sn_tree.proofs.PayloadLaws.{views-payloads}
use Rattle.sn_world.specs.declared.stage.Held.{Held}
use Rattle.sn_world.specs.declared.stage.Stage.{Stage}
use Rattle.sn_world.specs.Nodes.{Content, synth, content_of, live_in}
use Rattle.sn_mem.specs.Buffers.{overlaps, live_places}
use Rattle.sn_world.specs.Pictures.{Pictures, KeepsOutside, held_extents, live_held, has_synth, IsHeld, IsSynthOf}
use Rattle.sn_world.specs.World.{World, Turn, world_of, turn_of, live_of}
use Rattle.sn_world.proofs.BufferLaws.{live_buffers-of}
use Rattle.sn_world.specs.declared.notices.NodeEvent.TheVariants.{Went}
use Rattle.sn_world.specs.Notices.{told}
use Rattle.sn_world.specs.Rows.{unless}
use Rattle.sn_world.specs.NewNodes.{id_for, next_after, action_for, replaces, left_by, placed, told_if, told_replaced, node_refusal}
use Rattle.sn_world.specs.declared.repetition.NewNode.{NewNode}
use Rattle.sn_world.specs.NewSynth.{NewSynth, with_values, defaults, place_for, made_free, new_at, new_with, new_of, new_outcome}
use Rattle.std.specs.FinMap as finite
use Rattle.sn_world.proofs.Counting.{times-append, has-same}
use Rattle.sn_world.proofs.Inserting.{IsPut, left_live, put_pictures, put_world, live_in-payloads, least_place-same, has-overlaps}
use Rattle.sn_world.proofs.Replacing.{goes_before, left-payloads, times-left}
use Rattle.sn_nodecmd.specs.Placing.{place_in, taken, IsFreed, IsAdded, Adds, cleared}
use Rattle.sn_nodecmd.proofs.Judged.{IsPlaceable, placeable}
use Rattle.sn_nodecmd.proofs.Stepping.{node_refusal_in}
use Rattle.sn_nodecmd.specs.Telling.{Tells}
use Rattle.sn_nodecmd.proofs.ToldLemmas.{told_by}
use Rattle.sn_mem.proofs.BufferWords.{outside, covered_from, covered_to}
use Rattle.sn_nodecmd.proofs.Clearing.{length-cleared, cleared_other, window-cleared, times-taken, region-taken, journal-taken}

-- what a synth holds
pub record IsHeldSynth (h : Held) (d : Definition) (controls : List Control) (e : Extent) : Type 0 where
  pub own : held_extents h ≡ e ∷ []
  pub plays : has_synth h ≡ true
  pub content : (us : List ℕ) → content_of us h ≡ synth (record { definition = d; controls = controls; state = window us e.at e.len; extent = e })
  pub held : (rate : ℕ) (region : Extent) → IsSynthOf rate region d controls e → IsHeld rate region h

-- a synth that was put into a stage, and its words cleared
pub record IsMade (id : ℤ) (r : NewNode) (d : Definition) (controls : List Control) (held : Extent → Held) (old new : Stage) (ws us : List ℕ) (e : Extent) : Type 0 where
  pub what : IsHeldSynth (held e) d controls e
  pub each : AreControlsOf d controls
  pub allowed : None ≡ node_refusal (Some id) r.action r.target old.tree.attached
  pub added : IsAdded id r held (state_words old.rate d) old new e
  pub words : us ≡ cleared ws e.at e.len

-- the extents that are live after those of the replaced nodes are given back
pub freed_live : (r : NewNode) (old : Stage) (ws : List ℕ) (pool : PoolState) → IsFreed r old pool → Pictures old ws
    → (e : Extent) → 1 ≤ e.len → times e pool.live ≡ times e (left_live (replaces r.action) r.target old)
freed_live r old ws pool freed before e some = omega (
  arith,
  freed.live e some,
  before.live e some,
  times-left e (replaces r.action) r.target old.tree.attached,
  times-append e (live_held (left_by (replaces r.action) r.target old.tree.attached)) (live_places old.buffers),
)

module _ (id : ℤ) (r : NewNode) (d : Definition) (controls : List Control) (held : Extent → Held) (old new : Stage) (ws us : List ℕ) (e : Extent) (is : IsMade id r d controls held old new ws us e) (before : Pictures old ws) where
  in_region : is.added.pool.region ≡ old.pool.region
  in_region = is.added.freed.region

  from : old.pool.region.at ≤ e.at
  from = omega (arith, is.added.place.free.from, ap (λ (g : Extent). g.at) in_region)

  to : e.at + e.len ≤ old.pool.region.at + old.pool.region.len
  to = omega (arith, is.added.place.size, is.added.place.free.to, ap (λ (g : Extent). g.at) in_region, ap (λ (g : Extent). g.len) in_region)

  inside : e.at + e.len ≤ length ws
  inside = omega (arith, to, before.base, before.fits)

  in_own : (x : ℕ) → overlaps x (held_extents (held e)) ≡ overlaps x (e ∷ [])
  in_own x = ap (overlaps x) is.what.own

  other_words : (x : ℕ) → overlaps x (held_extents (held e)) ≡ 0 → get_or us x 0 ≡ get_or ws x 0
  other_words x free = ap (λ (vs : List ℕ). get_or vs x 0) is.words ∙ cleared_other ws e.at e.len x (outside e x (sym (in_own x) ∙ free))

  pool_is : new.pool ≡ taken e is.added.pool
  pool_is = ap (λ (s : Stage). s.pool) is.added.stage

  unused : (x : ℕ) → 0 < overlaps x (held_extents (held e)) → overlaps x (left_live (replaces r.action) r.target old) ≡ 0
  unused x some =
      let own : 0 < overlaps x (e ∷ []) = omega (arith, in_own x, some) in
      let free : has is.added.pool.live x ≡ false = is.added.place.free.unused x (covered_from e x own) (omega (arith, is.added.place.size, covered_to e x own)) in
      let left = left_live (replaces r.action) r.target old in
      at (overlaps x left) (sym (has-overlaps left x) ∙ sym (has-same is.added.pool.live left (freed_live r old ws is.added.pool is.added.freed before) x) ∙ free)
    where
      at : (n : ℕ) → nat_lt 0 n ≡ false → n ≡ 0
      at zero e = refl
      at (suc n) e = let more : nat_lt 0 (suc n) ≡ true = lt-ltb 0 (suc n) (omega arith) in absurd cc

  can : IsPlaceable id r old
  can = placeable id r old is.allowed

  put_is : IsPut (replaces r.action) id kinds.Synth (action_for r.action) r.target (held e) old ws new us
  put_is = record {
    before = goes_before r.action;
    there = can.there;
    other = can.other;
    group = can.group;
    agrees = (is.what.plays, refl);
    held = is.what.held old.rate old.pool.region (record { each = is.each; size = is.added.place.size; within = (from, to) });
    free = unused;
    buffers = ap (λ (s : Stage). s.buffers) is.added.stage;
    tree = ap (λ (s : Stage). s.tree) is.added.stage;
    live = λ x some. omega (arith, ap (λ (p : PoolState). times x p.live) pool_is, times-taken e is.added.pool x some, ap (λ (es : List Extent). times x es) is.what.own, is.added.freed.live x some);
    region = ap (λ (p : PoolState). p.region) pool_is ∙ region-taken e is.added.pool ∙ in_region;
    journal = ap (λ (p : PoolState). p.journal) pool_is ∙ journal-taken e is.added.pool ∙ is.added.freed.closed;
    rate = ap (λ (s : Stage). s.rate) is.added.stage;
    defs = ap (λ (s : Stage). s.defs) is.added.stage;
    notify = ap (λ (s : Stage). s.notify) is.added.stage;
    next = ap (λ (s : Stage). s.next_id) is.added.stage;
    length = ap length is.words ∙ length-cleared ws e.at e.len;
    others = other_words;
  }

  pub made_pictures : Pictures new us
  made_pictures = put_pictures (replaces r.action) id kinds.Synth (action_for r.action) r.target (held e) old ws new us put_is before

  pub made_length : length us ≡ length ws
  made_length = put_is.length

  pub made_outside : KeepsOutside old.pool.region ws us
  made_outside = λ k low high. ap (λ (vs : List ℕ). get_or vs k 0) is.words ∙ cleared_other ws e.at e.len k (inr (omega (arith, high, to)))

  -- with its words all 0
  content_is : content_of us (held e) ≡ synth (record { definition = d; controls = controls; state = replicate (state_words old.rate d) 0; extent = record { at = e.at; len = state_words old.rate d } })
  content_is =
      is.what.content us
      ∙ ap (λ (s : List ℕ). synth (record { definition = d; controls = controls; state = s; extent = e })) (ap (λ (vs : List ℕ). window vs e.at e.len) is.words ∙ window-cleared ws e.at e.len inside)
      ∙ ap (λ n. synth (record { definition = d; controls = controls; state = replicate n 0; extent = record { at = e.at; len = n } })) is.added.place.size

  pub made_world : world_of new us ≡ record (world_of old ws) { nodes = placed r (leaf id kinds.Synth (synth (record { definition = d; controls = controls; state = replicate (state_words old.rate d) 0; extent = record { at = e.at; len = state_words old.rate d } }))) (world_of old ws).nodes }
  made_world =
      put_world (replaces r.action) id kinds.Synth (action_for r.action) r.target (held e) old ws new us put_is before
      ∙ ap (λ (c : Content). let w : World = record (world_of old ws) { nodes = placed r (leaf id kinds.Synth c) (world_of old ws).nodes } in w) content_is

-- what the calls that make one told
pub made_is : (id : ℤ) (r : NewNode) (d : Definition) (controls : List Control) (held : Extent → Held) (old new : Stage) (ws us : List ℕ) (e : Extent) → IsHeldSynth (held e) d controls e → AreControlsOf d controls
    → None ≡ node_refusal (Some id) r.action r.target old.tree.attached → (o : Option Extent) → Adds id r held (state_words old.rate d) old new (Ok o) → o ≡ Some e → us ≡ cleared ws e.at e.len → IsMade id r d controls held old new ws us e
made_is id r d controls held old new ws us e what each allowed o adds is words = record {
  what = what;
  each = each;
  allowed = allowed;
  added = subst (λ (p : Option Extent). Adds id r held (state_words old.rate d) old new (Ok p)) is adds;
  words = words;
}

-- ---- the row

-- a world with one more synth
abbrev with_node : Stage → List ℕ → ℤ → Definition → ℕ → NewNode → List Control → World
with_node old ws id d at r controls = record (world_of old ws) { nodes = placed r (leaf id kinds.Synth (synth (record { definition = d; controls = controls; state = replicate (state_words old.rate d) 0; extent = record { at = at; len = state_words old.rate d } }))) (world_of old ws).nodes }

abbrev done_with : ℤ → List ReplyShape → Option ℤ → World → Result Turn Reason
done_with id replies next w = let t : Turn = record { world = record w { next_id = next }; replies = replies } in Ok (told Went id t)

-- another id is chosen next
pub next_pictures : (stage : Stage) (words : List ℕ) (next : Option ℤ) → Pictures stage words → Pictures (record stage { next_id = next }) words
next_pictures stage words next p = record {
  rate = p.rate;
  rate_fits = p.rate_fits;
  base = p.base;
  bounded = p.bounded;
  fits = p.fits;
  synths = p.synths;
  buffers = p.buffers;
  live = p.live;
  apart = p.apart;
  attached = p.attached;
  settled = p.settled;
  closed = p.closed;
}

-- no id is left
pub row_used : (t : Turn) (r : NewSynth) (d : Definition) → None ≡ id_for t.world.next_id r.node.id → new_of r (Some d) t ≡ Err Reasons.IdInUse
row_used t r d none = ap (λ (o : Option ℤ). new_with r d o t) (sym none)

module _ (old : Stage) (ws : List ℕ) (before : Pictures old ws) (r : NewSynth) (d : Definition) (id : ℤ) (gets : Some id ≡ id_for old.next_id r.node.id) where
  places : (pool : PoolState) → IsFreed r.node old pool → (n : ℕ) → place_for (made_free r.node (world_of old ws)) n ≡ place_in pool n
  places pool freed n =
      ap (λ (o : Option ℕ). if nat_eq n 0 then Some old.pool.region.at else o)
      (least_place-same old.pool.region (live_of (made_free r.node (world_of old ws))) pool.live n
      (λ x. ap (λ (es : List Extent). has es x) live ∙ sym (has-same pool.live (left_live (replaces r.node.action) r.node.target old) (freed_live r.node old ws pool freed before) x)))
      ∙ ap (λ (g : Extent). if nat_eq n 0 then Some g.at else least_place g pool.live n) (sym freed.region)
    where
      nodes : live_in (left_by (replaces r.node.action) r.node.target (world_of old ws).nodes) ≡ live_held (left_by (replaces r.node.action) r.node.target old.tree.attached)
      nodes = ap live_in (left-payloads (content_of ws) (replaces r.node.action) r.node.target old.tree.attached) ∙ live_in-payloads (left_by (replaces r.node.action) r.node.target old.tree.attached) ws

      live : live_of (made_free r.node (world_of old ws)) ≡ left_live (replaces r.node.action) r.node.target old
      live = λ i. nodes i ++ live_buffers-of old.buffers ws i

  row_reason : (replies : List ReplyShape) (o : Option Reason) → o ≡ node_refusal (Some id) r.node.action r.node.target old.tree.attached
      → new_of r (Some d) (turn_of old ws replies) ≡ unless o (new_at r d id (place_for (made_free r.node (world_of old ws)) (state_words old.rate d)) (turn_of old ws replies))
  row_reason replies o why =
      ap (λ (n : Option ℤ). new_with r d n (turn_of old ws replies)) (sym gets)
      ∙ ap (λ (q : Option Reason). unless q (new_at r d id (place_for (made_free r.node (world_of old ws)) (state_words old.rate d)) (turn_of old ws replies))) (node_refusal_in old ws (Some id) r.node.action r.node.target ∙ sym why)

  pub row_refused : (replies : List ReplyShape) (reason : Reason) → Some reason ≡ node_refusal (Some id) r.node.action r.node.target old.tree.attached → new_of r (Some d) (turn_of old ws replies) ≡ Err reason
  row_refused replies reason why = row_reason replies (Some reason) why

  row_judged : (replies : List ReplyShape) → None ≡ node_refusal (Some id) r.node.action r.node.target old.tree.attached → (pool : PoolState) → IsFreed r.node old pool → (o : Option ℕ) → place_in pool (state_words old.rate d) ≡ o
      → new_of r (Some d) (turn_of old ws replies) ≡ new_at r d id o (turn_of old ws replies)
  row_judged replies allowed pool freed o place = row_reason replies None allowed ∙ ap (λ (q : Option ℕ). new_at r d id q (turn_of old ws replies)) (places pool freed (state_words old.rate d) ∙ place)

  pub row_full : (replies : List ReplyShape) → None ≡ node_refusal (Some id) r.node.action r.node.target old.tree.attached → (pool : PoolState) → IsFreed r.node old pool → place_in pool (state_words old.rate d) ≡ None
      → new_of r (Some d) (turn_of old ws replies) ≡ Err Reasons.PoolFull
  row_full replies allowed pool freed place = row_judged replies allowed pool freed None place

  ends_told : (replies : List ReplyShape) → (told_replaced r.node (turn_of old ws replies)).replies ≡ (told_if (replaces r.node.action) (views_below r.node.target old.tree.attached) (turn_of old ws replies)).replies
  ends_told replies = ap (λ (vs : List (ℤ × NodeView)). (told_if (replaces r.node.action) vs (turn_of old ws replies)).replies) (views-payloads (content_of ws) (negsuc 0) (negsuc 0) r.node.target old.tree.attached)

  pub row_done : (replies : List ReplyShape) → None ≡ node_refusal (Some id) r.node.action r.node.target old.tree.attached
      → (new : Stage) (us : List ℕ) (controls : List Control) (held : Extent → Held) (e : Extent) (next : Option ℤ) (tells : List ReplyShape) → controls ≡ with_values d r.values (defaults d) → next ≡ next_after new.next_id r.node.id
      → IsMade id r.node d controls held old new ws us e → Tells (replaces r.node.action) (views_below r.node.target old.tree.attached) id (view_of id new.tree.attached) new.notify replies tells
      → new_of r (Some d) (turn_of old ws replies) ≡ Ok (turn_of (record new { next_id = next }) us tells)
  row_done replies allowed new us controls held e next tells set is_next is tells_it =
      let chosen : next ≡ next_after old.next_id r.node.id = is_next ∙ ap (λ (s : Stage). next_after s.next_id r.node.id) is.added.stage in
      let mid : List ReplyShape = (told_if (replaces r.node.action) (views_below r.node.target old.tree.attached) (turn_of old ws replies)).replies in
      row_judged replies allowed is.added.pool is.added.freed (Some e.at) is.added.place.least
      ∙ ap (λ (ms : List ReplyShape). done_with id ms (next_after old.next_id r.node.id) (with_node old ws id d e.at r.node (with_values d r.values (defaults d)))) (ends_told replies)
      ∙ sym (ap (done_with id mid next) (made_world id r.node d controls held old new ws us e is before) ∙ (λ i. done_with id mid (chosen i) (with_node old ws id d e.at r.node (set i))))
      ∙ ap {B = Result Turn Reason} (λ (t : Turn). Ok t) (told_by (record new { next_id = next }) us id mid tells (tells_it (world_of old ws) (sym (ap (λ (s : Stage). s.notify) is.added.stage))))

-- ---- what one message gives

pub of_definition : (r : NewSynth) (o : Option NewSynth) (found : Option Definition) (d : Definition) (t : Turn) → Some r ≡ o → found ≡ finite.get t.world.definitions r.name → found ≡ Some d → new_outcome o t ≡ new_of r (Some d) t
of_definition r o found d t asked named is = ap (λ (q : Option NewSynth). new_outcome q t) (sym asked) ∙ ap (λ (q : Option Definition). new_of r q t) (sym named ∙ is)
