-- Run flags that change, and other trees whose synths have the same words.
use Rattle.std.proofs.Common.{◌≡◌, ◌≤◌, ◌+◌, ◌||◌, ℕ, ℤ, negsuc, Bool, true, false, not, List, [], ◌∷◌, ◌++◌, Some, None, is_some, refl, ap, sym, subst, ◌∙◌, arith}
use Rattle.std.specs.Prelude.{if◌then◌else◌}
use Rattle.std.specs.Ordering.{int_eq}
use Rattle.std.proofs.lemmas.Bool.{cond_both}
use Rattle.sn_mem.specs.declared.extents.Extent.{Extent}
use Rattle.sn_mem.specs.Buffers.{live_places, overlaps}
use Rattle.sn_pool.specs.Pools.{times}
use Rattle.sn_reply.specs.Replies.{ReplyShape}
use Rattle.sn_tree.specs.declared.node.NodeView.{NodeView}
use Rattle.sn_tree.specs.declared.node.TreeFault.TheVariants as faults
use Rattle.sn_tree.specs.Trees.{Nodes, none, node, holds, count, changed, with_running, view_from, view_of, first_id, last_id}
use Rattle.sn_tree.specs.Faults.{first_fault, set_run_fault}
use Rattle.sn_tree.specs.Model.{NodeTree}
use Rattle.sn_world.specs.declared.stage.Held.{Held}
use Rattle.sn_world.specs.declared.stage.Stage.{Stage}
use Rattle.sn_world.specs.Nodes.{Content}
use Rattle.sn_world.specs.Pictures.{Pictures, held_extents, live_held, AreHeld}
use Rattle.sn_world.specs.World.{Turn, world_of}
use Rattle.sn_world.proofs.HeldKinds.{kind-below}

-- ---- a node is seen if it is there

seen_from : (parent previous id : ℤ) (t : Nodes Held) → is_some (view_from parent previous id t) ≡ holds id t
seen_from parent previous id none = refl
seen_from parent previous id (node l below after) = at (int_eq l.id id) (holds id below) (seen_from l.id (negsuc 0) id below) (seen_from parent l.id id after)
  where
    at : (here inner : Bool) → is_some (view_from l.id (negsuc 0) id below) ≡ inner → is_some (view_from parent l.id id after) ≡ holds id after
        → is_some (if here then Some (record { kind = l.kind; running = l.running; parent = parent; previous = previous; next = first_id after; head = first_id below; tail = last_id (negsuc 0) below }) else if inner then view_from l.id (negsuc 0) id below else view_from parent l.id id after) ≡ (here || (inner || holds id after))
    at true inner b a = refl
    at false true b a = b
    at false false b a = a

pub is_seen : (id : ℤ) (t : Nodes Held) → is_some (view_of id t) ≡ holds id t
is_seen id t = seen_from (negsuc 0) (negsuc 0) id t

pub is_there : (id : ℤ) (t : Nodes Held) (view : NodeView) → view_of id t ≡ Some view → holds id t ≡ true
is_there id t view seen = sym (is_seen id t) ∙ ap is_some seen

pub run_allowed : (id : ℤ) (t : Nodes Held) → holds id t ≡ true → set_run_fault id t ≡ None
run_allowed id t is = ap (λ (b : Bool). first_fault ((not b, faults.NoNode) ∷ [])) is

pub count-turned : (id : ℤ) (on : Bool) (t : Nodes Held) → count (changed id (with_running on) t) ≡ count t
count-turned id on none = refl
count-turned id on (node l below after) =
    cond_both (int_eq l.id id) (node (with_running on l) below after) (if holds id below then node l (changed id (with_running on) below) after else node l below (changed id (with_running on) after)) (λ (s : Nodes Held). count s ≡ count (node l below after))
    (λ _. omega arith)
    (λ _. cond_both (holds id below) (node l (changed id (with_running on) below) after) (node l below (changed id (with_running on) after)) (λ (s : Nodes Held). count s ≡ count (node l below after))
    (λ _. omega (arith, count-turned id on below))
    (λ _. omega (arith, count-turned id on after)))

-- ---- what nodes hold

pub held-turned : (rate : ℕ) (region : Extent) (id : ℤ) (on : Bool) (t : Nodes Held) → AreHeld rate region t → AreHeld rate region (changed id (with_running on) t)
held-turned rate region id on none h = h
held-turned rate region id on (node l below after) h =
    cond_both (int_eq l.id id) (node (with_running on l) below after) (if holds id below then node l (changed id (with_running on) below) after else node l below (changed id (with_running on) after)) (AreHeld rate region)
    (λ _. h)
    (λ _. cond_both (holds id below) (node l (changed id (with_running on) below) after) (node l below (changed id (with_running on) after)) (AreHeld rate region)
    (λ e. (h.0, (held-turned rate region id on below h.1.0, h.1.1), kind-below l.kind l.payload below (changed id (with_running on) below) id h.2 e))
    (λ _. (h.0, (h.1.0, held-turned rate region id on after h.1.1), h.2)))

pub live-turned : (id : ℤ) (on : Bool) (t : Nodes Held) → live_held (changed id (with_running on) t) ≡ live_held t
live-turned id on none = refl
live-turned id on (node l below after) =
    cond_both (int_eq l.id id) (node (with_running on l) below after) (if holds id below then node l (changed id (with_running on) below) after else node l below (changed id (with_running on) after)) (λ (t : Nodes Held). live_held t ≡ live_held (node l below after))
    (λ _. refl)
    (λ _. cond_both (holds id below) (node l (changed id (with_running on) below) after) (node l below (changed id (with_running on) after)) (λ (t : Nodes Held). live_held t ≡ live_held (node l below after))
    (λ _. ap (λ es. held_extents l.payload ++ (es ++ live_held after)) (live-turned id on below))
    (λ _. ap (λ es. held_extents l.payload ++ (live_held below ++ es)) (live-turned id on after)))

-- ---- another tree

abbrev pub with_tree : NodeTree Held → Stage → Stage
with_tree tree stage = record stage { tree = tree }

-- the turn of a stage with other nodes
abbrev pub with_nodes : Stage → List ℕ → List ReplyShape → Nodes Content → Turn
with_nodes stage words replies nodes = record { world = record (world_of stage words) { nodes = nodes }; replies = replies }

pub pictures-tree : (old : Stage) (tree : NodeTree Held) (words : List ℕ) → ((rate : ℕ) (region : Extent) → AreHeld rate region old.tree.attached → AreHeld rate region tree.attached)
    → live_held tree.attached ≡ live_held old.tree.attached → tree.detached ≡ old.tree.detached → tree.journal ≡ None → Pictures old words → Pictures (with_tree tree old) words
pictures-tree old tree words held live aside settled p = record {
  rate = p.rate;
  rate_fits = p.rate_fits;
  base = p.base;
  bounded = p.bounded;
  fits = p.fits;
  synths = held old.rate old.pool.region p.synths;
  buffers = p.buffers;
  live = λ e some. p.live e some ∙ ap (λ (es : List Extent). times e es + times e (live_places old.buffers)) (sym live);
  apart = λ x. subst (λ (es : List Extent). overlaps x es + overlaps x (live_places old.buffers) ≤ 1) (sym live) (p.apart x);
  attached = aside ∙ p.attached;
  settled = settled;
  closed = p.closed;
}
