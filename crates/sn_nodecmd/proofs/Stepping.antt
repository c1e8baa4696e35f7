-- What a repetition makes of the tree.
use Rattle.std.proofs.Common.{◌≡◌, ◌≤◌, ◌+◌, ◌-◌, ◌&&◌, ℕ, ℤ, pos, negsuc, Bool, true, false, not, nat_lt, List, [], ◌∷◌, Option, Some, None, is_some, refl, ap, sym, subst, ◌∙◌, arith}
use Rattle.std.specs.Prelude.{if◌then◌else◌}
use Rattle.std.specs.Ordering.{int_eq}
use Rattle.std.proofs.lemmas.Bool.{cond_both}
use Rattle.sn_mem.specs.declared.extents.Extent.{Extent}
use Rattle.sn_reply.specs.Replies.{ReplyShape}
use Rattle.sn_reply.specs.declared.reason.Reason.TheVariants as Reasons
use Rattle.sn_tree.specs.declared.node.NodeKind.{NodeKind}
use Rattle.sn_tree.specs.declared.node.NodeView.{NodeView}
use Rattle.sn_tree.specs.declared.node.TreeFault.TheVariants as faults
use Rattle.sn_tree.specs.declared.node.AddAction.{AddAction}
use Rattle.sn_tree.specs.declared.node.AddAction.TheVariants.{Head, Tail, Before, After}
use Rattle.sn_tree.specs.Trees.{Label, Nodes, Sides, none, node, holds, count, beside, put, leaf, label_of, subtree, without, with_payloads}
use Rattle.sn_tree.specs.Views.{views_below}
use Rattle.sn_tree.specs.Faults.{first_fault, detach_fault, is_inside, is_in_synth, is_beside_root, labels_synth}
use Rattle.sn_tree.specs.Model.{Journal, NodeTree}
use Rattle.sn_tree.specs.Steps.{followed, inserted, inserting, detached, detaching}
use Rattle.sn_tree.proofs.PayloadLaws.{holds-payloads, synth-payloads, put-payloads, without-payloads, views-payloads}
use Rattle.sn_world.specs.declared.notices.NodeEvent.TheVariants.{Went}
use Rattle.sn_world.specs.declared.repetition.NewNode.{NewNode}
use Rattle.sn_world.specs.declared.stage.Held.{Held}
use Rattle.sn_world.specs.declared.stage.Held.TheVariants as held
use Rattle.sn_world.specs.declared.stage.Stage.{Stage}
use Rattle.sn_world.specs.Nodes.{Content, group, content_of}
use Rattle.sn_world.specs.Notices.{told}
use Rattle.sn_world.specs.Freeing.{told_ends, freed, free_refusal}
use Rattle.sn_world.specs.NewNodes.{is_used, next_after, add_action, action_for, replaces, left_by, placed, told_if, told_replaced, node_refusal, with_group, act_with}
use Rattle.sn_world.specs.Pictures.{KindAgrees, live_held, amount}
use Rattle.sn_world.specs.Rows.{first_of}
use Rattle.sn_world.specs.World.{World, Turn, world_of, turn_of}
use Rattle.sn_world.proofs.Counting.{amount-put, amount-leaf, amount-joined, amount-without}
use Rattle.sn_world.proofs.FreedLemmas.{count-joined}
use Rattle.sn_world.proofs.Inserting.{held-put}
use Rattle.sn_world.proofs.Replacing.{goes_before, held-without, fewer, left-payloads, count-left}
use Rattle.sn_tree.proofs.Replacing.{still_held}
use Rattle.sn_nodecmd.proofs.Judged.{outside_synth}
use Rattle.sn_nodecmd.specs.Adding.{added}
use Rattle.sn_nodecmd.specs.Folding.{room_in, saved_in, KeepsTree, Keeps}

-- ---- how many nodes

count-beside : (action : AddAction) (new : Nodes Held) (l : Label Held) (below after : Nodes Held) → count (beside action new l below after) ≡ count new + count (node l below after)
count-beside Head new l below after = omega (arith, count-joined new below)
count-beside Tail new l below after = omega (arith, count-joined below new)
count-beside Before new l below after = count-joined new (node l below after)
count-beside After new l below after = omega (arith, count-joined new after)

pub count-put : (action : AddAction) (target : ℤ) (new t : Nodes Held) → count (put action target new t) ≤ count new + count t
count-put action target new none = omega arith
count-put action target new (node l below after) =
    cond_both (int_eq l.id target) (beside action new l below after) (if holds target below then node l (put action target new below) after else node l below (put action target new after))
    (λ (s : Nodes Held). count s ≤ count new + count (node l below after))
    (λ _. omega (arith, count-beside action new l below after))
    (λ _. cond_both (holds target below) (node l (put action target new below) after) (node l below (put action target new after))
    (λ (s : Nodes Held). count s ≤ count new + count (node l below after))
    (λ _. omega (arith, count-put action target new below))
    (λ _. omega (arith, count-put action target new after)))

pub count-without : (id : ℤ) (t : Nodes Held) → count (without id t) ≤ count t
count-without id none = omega arith
count-without id (node l below after) =
    cond_both (int_eq l.id id) after (if holds id below then node l (without id below) after else node l below (without id after))
    (λ (s : Nodes Held). count s ≤ count (node l below after))
    (λ _. omega arith)
    (λ _. cond_both (holds id below) (node l (without id below) after) (node l below (without id after))
    (λ (s : Nodes Held). count s ≤ count (node l below after))
    (λ _. omega (arith, count-without id below))
    (λ _. omega (arith, count-without id after)))

-- ---- journals

pub saved_followed : (cost : ℕ) (step : Sides (Option ℕ) → Sides (Option ℕ)) (j : Option (Journal Held)) → saved_in (followed cost step j) ≡ saved_in j
saved_followed cost step None = refl
saved_followed cost step (Some journal) = refl

pub room_followed : (cost : ℕ) (step : Sides (Option ℕ) → Sides (Option ℕ)) (j : Option (Journal Held)) → room_in (followed cost step j) ≡ room_in j - cost
room_followed cost step None = omega arith
room_followed cost step (Some journal) = refl

-- ---- steps

pub keeps_detached : (id : ℤ) (tree : NodeTree Held) → KeepsTree tree (detached id tree)
keeps_detached id tree = record {
  saved = saved_followed 1 (detaching id) tree.journal;
  room = omega (arith, room_followed 1 (detaching id) tree.journal, count-without id tree.attached);
  extents = λ weight. omega (arith, amount-joined weight tree.detached (subtree id tree.attached), amount-without weight id tree.attached);
  held = λ rate region h. held-without rate region id tree.attached h;
}

group_amount : (weight : Extent → ℕ) (id : ℤ) (kind : NodeKind) → amount weight (live_held (leaf id kind held.Group)) ≡ 0
unfolding amount
group_amount weight id kind = amount-leaf weight id kind held.Group

-- a target is there, and is no synth if a node goes inside it
pub record IsOpenTo (action : AddAction) (target : ℤ) (t : Nodes Held) : Type 0 where
  pub there : holds target t ≡ true
  pub group : is_inside action ≡ true → labels_synth (label_of target t) ≡ false

pub keeps_inserted : (id : ℤ) (kind : NodeKind) (action : AddAction) (target : ℤ) (tree : NodeTree Held) → KindAgrees kind held.Group none → IsOpenTo action target tree.attached → KeepsTree tree (inserted id kind action target held.Group tree)
keeps_inserted id kind action target tree agrees can = record {
  saved = saved_followed 0 (inserting id kind action target None) tree.journal;
  room = omega (arith, room_followed 0 (inserting id kind action target None) tree.journal, count-put action target (leaf id kind held.Group) tree.attached);
  extents = λ weight. omega (arith, amount-put weight action target (leaf id kind held.Group) tree.attached can.there, group_amount weight id kind);
  held = λ rate region h. held-put rate region action target (leaf id kind held.Group) tree.attached can.group (tt, (tt, tt), agrees) h;
}

-- ---- freeing

pub detach_allowed : (id : ℤ) (t : Nodes Held) → free_refusal id t ≡ None → detach_fault id t ≡ None
detach_allowed id t = at (holds id t) (int_eq id (pos 0))
  where
    at : (there root : Bool) → first_of ((not there, Reasons.NoSuchNode) ∷ (root, Reasons.Root) ∷ []) ≡ None → first_fault ((not there, faults.NoNode) ∷ (root, faults.IsRoot) ∷ []) ≡ None
    at true false h = refl
    at true true h = absurd cc
    at false root h = absurd cc

pub free_refusal_in : (stage : Stage) (words : List ℕ) (id : ℤ) → free_refusal id (world_of stage words).nodes ≡ free_refusal id stage.tree.attached
free_refusal_in stage words id = λ i. first_of ((not (holds-payloads (content_of words) id stage.tree.attached i), Reasons.NoSuchNode) ∷ (int_eq id (pos 0), Reasons.Root) ∷ [])

pub freed_is : (stage new : Stage) (id : ℤ) (old_replies new_replies : List ReplyShape) → new ≡ record stage { tree = detached id stage.tree }
    → ((w : World) → w.notify ≡ stage.notify → told_ends (views_below id stage.tree.attached) (let t : Turn = record { world = w; replies = old_replies } in t) ≡ record { world = w; replies = new_replies })
    → (words : List ℕ) → freed id (turn_of stage words old_replies) ≡ turn_of new words new_replies
freed_is stage new id old_replies new_replies is told words =
    let w = world_of stage words in
    let views : views_below id w.nodes ≡ views_below id stage.tree.attached = views-payloads (content_of words) (negsuc 0) (negsuc 0) id stage.tree.attached in
    let all : told_ends (views_below id w.nodes) (turn_of stage words old_replies) ≡ record { world = w; replies = new_replies } = ap (λ (vs : List (ℤ × NodeView)). told_ends vs (turn_of stage words old_replies)) views ∙ told w refl in
    ap (λ (t : Turn). let r : Turn = record { world = record w { nodes = without id w.nodes }; replies = t.replies } in r) all
    ∙ ap (λ (n : Nodes Content). let r : Turn = record { world = record w { nodes = n }; replies = new_replies } in r) (without-payloads (content_of words) id stage.tree.attached)
    ∙ sym (ap (λ (s : Stage). turn_of s words new_replies) is)

pub keeps_with : (old new : Stage) (tree : NodeTree Held) (next : Option ℤ) → KeepsTree old.tree tree → new ≡ record old { tree = tree; next_id = next } → Keeps old new
keeps_with old new tree next keeps is = record { tree = subst (KeepsTree old.tree) (sym (ap (λ (s : Stage). s.tree) is)) keeps; pool = ap (λ (s : Stage). s.pool) is; buffers = ap (λ (s : Stage). s.buffers) is; defs = ap (λ (s : Stage). s.defs) is; notify = ap (λ (s : Stage). s.notify) is; rate = ap (λ (s : Stage). s.rate) is }

-- ---- making

target_open : (id : Option ℤ) (action target : ℤ) (t : Nodes Held) → node_refusal id action target t ≡ None → IsOpenTo (action_for action) target t
target_open id action target t = at (is_used id t) (is_some (add_action action)) (holds target t) (is_in_synth (action_for action) target t) (is_beside_root (action_for action) target) (nat_lt 4096 (count (left_by (replaces action) target t) + 1)) refl refl
  where
    at : (used known there inside root many : Bool) → holds target t ≡ there → is_in_synth (action_for action) target t ≡ inside
        → first_of ((used, Reasons.IdInUse) ∷ (not known, Reasons.AddAction) ∷ (not there, Reasons.NoSuchNode) ∷ (inside, Reasons.NotGroup) ∷ (root, Reasons.Root) ∷ (many, Reasons.TooManyNodes) ∷ []) ≡ None → IsOpenTo (action_for action) target t
    at true known there inside root many a b h = absurd cc
    at false false there inside root many a b h = absurd cc
    at false true false inside root many a b h = absurd cc
    at false true true true root many a b h = absurd cc
    at false true true false root many a b h = record { there = a; group = λ is. outside_synth (is_inside (action_for action)) (labels_synth (label_of target t)) b is }

pub node_refusal_in : (stage : Stage) (words : List ℕ) (id : Option ℤ) (action target : ℤ) → node_refusal id action target (world_of stage words).nodes ≡ node_refusal id action target stage.tree.attached
node_refusal_in stage words id action target = λ i. first_of (
    (used id i, Reasons.IdInUse)
    ∷ (not (is_some (add_action action)), Reasons.AddAction)
    ∷ (not (holds-payloads f target t i), Reasons.NoSuchNode)
    ∷ (is_inside (action_for action) && synth-payloads f target t i, Reasons.NotGroup)
    ∷ (is_beside_root (action_for action) target, Reasons.Root)
    ∷ (nat_lt 4096 (count-left f (replaces action) target t i + 1), Reasons.TooManyNodes)
    ∷ [])
  where
    t : Nodes Held
    t = stage.tree.attached

    f : Held → Content
    f = content_of words

    used : (id : Option ℤ) → is_used id (with_payloads f t) ≡ is_used id t
    used None = refl
    used (Some x) = holds-payloads f x t

-- with the nodes that are replaced
pub added_attached : (b : Bool) (id : ℤ) (kind : NodeKind) (action : AddAction) (target : ℤ) (h : Held) (tree : NodeTree Held) → (added b id kind action target h tree).attached ≡ left_by b target (put action target (leaf id kind h) tree.attached)
added_attached true id kind action target h tree = refl
added_attached false id kind action target h tree = refl

keeps_added : (b : Bool) (id : ℤ) (kind : NodeKind) (action : AddAction) (target : ℤ) (tree : NodeTree Held) → (b ≡ true → action ≡ Before) → KindAgrees kind held.Group none → IsOpenTo action target tree.attached → KeepsTree tree (added b id kind action target held.Group tree)
keeps_added false id kind action target tree before agrees can = keeps_inserted id kind action target tree agrees can
keeps_added true id kind action target tree before agrees can =
    let one : KeepsTree tree (inserted id kind action target held.Group tree) = keeps_inserted id kind action target tree agrees can in
    let two = keeps_detached target (inserted id kind action target held.Group tree) in
    let stays : holds target (put action target (leaf id kind held.Group) tree.attached) ≡ true =
    subst (λ (a : AddAction). holds target (put a target (leaf id kind held.Group) tree.attached) ≡ true) (sym (before refl)) (still_held id target kind held.Group tree.attached can.there) in
    record {
      saved = two.saved ∙ one.saved;
      room = omega (arith, one.room, room_followed 1 (detaching target) (inserted id kind action target held.Group tree).journal, fewer target (put action target (leaf id kind held.Group) tree.attached) stays, count-put action target (leaf id kind held.Group) tree.attached, room_followed 0 (inserting id kind action target None) tree.journal);
      extents = λ weight. two.extents weight ∙ one.extents weight;
      held = λ rate region h. two.held rate region (one.held rate region h);
    }

pub keeps_group : (old new : Stage) (kind : NodeKind) (id action target : ℤ) (next : Option ℤ) → KindAgrees kind held.Group none → node_refusal (Some id) action target old.tree.attached ≡ None
    → new ≡ record old { tree = added (replaces action) id kind (action_for action) target held.Group old.tree; next_id = next } → Keeps old new
keeps_group old new kind id action target next agrees allowed is =
    keeps_with old new (added (replaces action) id kind (action_for action) target held.Group old.tree) next (keeps_added (replaces action) id kind (action_for action) target old.tree (goes_before action) agrees (target_open (Some id) action target old.tree.attached allowed)) is

pub group_made : (old new : Stage) (kind : NodeKind) (r : NewNode) (id : ℤ) (old_replies mid_replies new_replies : List ReplyShape)
    → ((w : World) → w.notify ≡ old.notify → told_if (replaces r.action) (views_below r.target old.tree.attached) (let t : Turn = record { world = w; replies = old_replies } in t) ≡ record { world = w; replies = mid_replies })
    → new ≡ record old { tree = added (replaces r.action) id kind (action_for r.action) r.target held.Group old.tree; next_id = next_after old.next_id r.id }
    → ((words : List ℕ) → turn_of new words new_replies ≡ told Went id (turn_of new words mid_replies))
    → (words : List ℕ) → act_with kind r (Some id) (turn_of old words old_replies) ≡ turn_of new words new_replies
group_made old new kind r id old_replies mid_replies new_replies tells is told_now words =
    let w = world_of old words in
    let f = content_of words in
    let views : views_below r.target w.nodes ≡ views_below r.target old.tree.attached = views-payloads f (negsuc 0) (negsuc 0) r.target old.tree.attached in
    let ends : told_replaced r (turn_of old words old_replies) ≡ turn_of old words mid_replies = ap (λ (vs : List (ℤ × NodeView)). told_if (replaces r.action) vs (turn_of old words old_replies)) views ∙ tells w refl in
    let nodes : placed r (leaf id kind group) w.nodes ≡ with_payloads f (added (replaces r.action) id kind (action_for r.action) r.target held.Group old.tree).attached =
    ap (left_by (replaces r.action) r.target) (put-payloads f (action_for r.action) r.target (leaf id kind held.Group) old.tree.attached)
    ∙ left-payloads f (replaces r.action) r.target (put (action_for r.action) r.target (leaf id kind held.Group) old.tree.attached)
    ∙ ap (with_payloads f) (sym (added_attached (replaces r.action) id kind (action_for r.action) r.target held.Group old.tree)) in
    ap (λ (t : Turn). told Went id (let u : Turn = record { world = with_group kind r id w; replies = t.replies } in u)) ends
    ∙ ap (λ (n : Nodes Content). told Went id (let t : Turn = record { world = record w { nodes = n; next_id = next_after old.next_id r.id }; replies = mid_replies } in t)) nodes
    ∙ ap (λ (s : Stage). told Went id (turn_of s words mid_replies)) (sym is)
    ∙ sym (told_now words)
