-- Commands that free what lies below groups.
use Rattle.std.proofs.Common.{◌≡◌, ◌<◌, ◌+◌, ◌||◌, ℕ, suc, ℤ, pos, negsuc, Bool, true, false, not, List, [], ◌∷◌, length, drop, get_or, drop-cons, Option, Some, None, is_some, refl, ap, sym, subst, ◌∙◌, arith}
use Rattle.std.specs.Prelude.{if◌then◌else◌, IfOk, Result, Ok, Err}
use Rattle.std.specs.List.{All}
use Rattle.std.specs.Option.{option_map}
use Rattle.std.specs.Ordering.{int_eq}
use Rattle.std.proofs.lemmas.Bool.{or_parts}
use Rattle.sn_ports.specs.declared.failed.NoMemory.{NoMemory}
use Rattle.sn_reply.specs.Replies.{ReplyShape}
use Rattle.sn_reply.specs.declared.reason.Reason.TheVariants as Reasons
use Rattle.sn_tree.specs.declared.node.NodeKind.{NodeKind}
use Rattle.sn_tree.specs.declared.node.NodeView.{NodeView}
use Rattle.sn_tree.specs.Trees.{Label, Nodes, none, node, holds, children, label_of, without, view_of}
use Rattle.sn_tree.specs.Below.{top_ids, synth_ids}
use Rattle.sn_tree.specs.Faults.{is_synth, labels_synth}
use Rattle.sn_tree.specs.Model.{NodeTree}
use Rattle.sn_tree.specs.Steps.{detached, detaching}
use Rattle.sn_tree.specs.Views.{seen}
use Rattle.sn_tree.proofs.PayloadLaws.{holds-payloads, synth-payloads, children-payloads}
use Rattle.sn_tree.proofs.Gathering.{top_ids-payloads, synth_ids-payloads}
use Rattle.sn_tree.proofs.Viewing.{no_views}
use Rattle.sn_world.specs.declared.stage.Held.{Held}
use Rattle.sn_world.specs.declared.stage.Stage.{Stage}
use Rattle.sn_world.specs.Nodes.{Content, content_of}
use Rattle.sn_world.specs.Freeing.{told_ends, freed, free_refusal}
use Rattle.sn_world.specs.Emptying.{freed_each, group_refusal}
use Rattle.sn_world.specs.Rows.{first_of}
use Rattle.sn_world.specs.World.{World, Turn, world_of, turn_of}
use Rattle.sn_nodecmd.specs.Folding.{Keeps}
use Rattle.sn_nodecmd.specs.Sparing.{SparesRoom}
use Rattle.sn_world.proofs.Replacing.{fewer}
use Rattle.sn_world.proofs.Turning.{is_seen}
use Rattle.sn_nodecmd.proofs.OrderLemmas.{kind_seen}
use Rattle.sn_nodecmd.proofs.Stepping.{room_followed}

-- ---- reasons

abbrev kind_in_view : Option NodeView → Option NodeKind
kind_in_view o = option_map (λ (v : NodeView). v.kind) o

abbrev kind_in_label : Option (Label Held) → Option NodeKind
kind_in_label o = option_map (λ (l : Label Held). l.kind) o

abbrev synth_kind : Option NodeKind → Bool
synth_kind None = false
synth_kind (Some kind) = is_synth kind

labelled : (o : Option (Label Held)) → labels_synth o ≡ synth_kind (kind_in_label o)
labelled None = refl
labelled (Some l) = refl

pub missing_group : (id : ℤ) (t : Nodes Held) → None ≡ view_of id t → Some Reasons.NoSuchNode ≡ group_refusal id t
missing_group id t h = at (holds id t) (labels_synth (label_of id t)) (sym (is_seen id t) ∙ sym (ap (λ (o : Option NodeView). is_some o) h))
  where
    at : (there synth : Bool) → there ≡ false → Some Reasons.NoSuchNode ≡ first_of ((not there, Reasons.NoSuchNode) ∷ (synth, Reasons.NotGroup) ∷ [])
    at true synth e = absurd cc
    at false synth e = refl

pub seen_group : (id : ℤ) (t : Nodes Held) (v : NodeView) (synth : Bool) → Some v ≡ view_of id t → synth ≡ is_synth v.kind → (if synth then Some Reasons.NotGroup else None) ≡ group_refusal id t
seen_group id t v synth h k =
    at (holds id t) synth (labels_synth (label_of id t)) (sym (is_seen id t) ∙ sym (ap (λ (o : Option NodeView). is_some o) h))
    (k ∙ ap (λ (o : Option NodeView). synth_kind (kind_in_view o)) h ∙ ap synth_kind (kind_seen id t) ∙ sym (labelled (label_of id t)))
  where
    at : (there seen labels : Bool) → there ≡ true → seen ≡ labels → (if seen then Some Reasons.NotGroup else None) ≡ first_of ((not there, Reasons.NoSuchNode) ∷ (labels, Reasons.NotGroup) ∷ [])
    at true true true e same = refl
    at true false false e same = refl
    at true true false e same = absurd cc
    at true false true e same = absurd cc
    at false seen labels e same = absurd cc

pub group_refusal_in : (stage : Stage) (words : List ℕ) (id : ℤ) → group_refusal id (world_of stage words).nodes ≡ group_refusal id stage.tree.attached
group_refusal_in stage words id = λ i. first_of (
    (not (holds-payloads (content_of words) id stage.tree.attached i), Reasons.NoSuchNode)
    ∷ (synth-payloads (content_of words) id stage.tree.attached i, Reasons.NotGroup)
    ∷ [])

-- ---- one node

nothing_taken : {P : Type 0} (id : ℤ) (t : Nodes P) → holds id t ≡ false → without id t ≡ t
nothing_taken id none h = refl
nothing_taken id (node label below after) h =
    let d = or_parts (int_eq label.id id) (holds id below || holds id after) h in
    let b = or_parts (holds id below) (holds id after) d.1 in
    rw (d.0, b.0) (ap (λ t. node label below t) (nothing_taken id after b.1))

pub nothing_freed : (stage : Stage) (id : ℤ) (replies : List ReplyShape) (words : List ℕ) → holds id stage.tree.attached ≡ false → freed id (turn_of stage words replies) ≡ turn_of stage words replies
nothing_freed stage id replies words h =
    let w : World = world_of stage words in
    let t : Turn = turn_of stage words replies in
    let gone : holds id w.nodes ≡ false = holds-payloads (content_of words) id stage.tree.attached ∙ h in
    ap (λ (vs : List (ℤ × NodeView)). let u : Turn = told_ends vs t in let r : Turn = record u { world = record w { nodes = without id w.nodes } } in r) (no_views (negsuc 0) (negsuc 0) id w.nodes gone)
    ∙ ap (λ (n : Nodes Content). let r : Turn = record t { world = record w { nodes = n } } in r) (nothing_taken id w.nodes gone)

-- ---- room

there : (id : ℤ) (t : Nodes Held) → free_refusal id t ≡ None → holds id t ≡ true
there id t = at (holds id t) (int_eq id (pos 0))
  where
    at : (held root : Bool) → first_of ((not held, Reasons.NoSuchNode) ∷ (root, Reasons.Root) ∷ []) ≡ None → held ≡ true
    at true root h = refl
    at false root h = absurd cc

pub spares_detached : (id : ℤ) (tree : NodeTree Held) → free_refusal id tree.attached ≡ None → SparesRoom tree (detached id tree)
spares_detached id tree allowed = omega (arith, room_followed 1 (detaching id) tree.journal, fewer id tree.attached (there id tree.attached allowed))

pub spares_tree : (old new tree : NodeTree Held) → new ≡ tree → SparesRoom old tree → SparesRoom old new
spares_tree old new tree is spares = subst (SparesRoom old) (sym is) spares

-- ---- one node after the other

pub keeps_more : (old now new : Stage) → Keeps old now → SparesRoom old.tree now.tree → Keeps now new → SparesRoom now.tree new.tree → Keeps old new
keeps_more old now new k s k2 s2 = record {
  tree = record {
    saved = k2.tree.saved ∙ k.tree.saved;
    room = omega (arith, s, s2);
    extents = λ weight. k2.tree.extents weight ∙ k.tree.extents weight;
    held = λ rate region h. k2.tree.held rate region (k.tree.held rate region h);
  };
  pool = k2.pool ∙ k.pool;
  buffers = k2.buffers ∙ k.buffers;
  defs = k2.defs ∙ k.defs;
  notify = k2.notify ∙ k.notify;
  rate = k2.rate ∙ k.rate;
}

pub spares_more : (old now new : NodeTree Held) → SparesRoom old now → SparesRoom now new → SparesRoom old new
spares_more old now new s s2 = omega (arith, s, s2)

pub freed_one : (ids : List ℤ) (i : ℕ) (d id : ℤ) (t after all : Turn) → i < length ids → id ≡ get_or ids i d → freed id t ≡ after → freed_each (drop i ids) t ≡ all → freed_each (drop (i + 1) ids) after ≡ all
freed_one ids i d id t after all lt is one so_far =
    sym (ap (freed_each (drop (i + 1) ids)) one)
    ∙ (ap (λ n. freed_each (drop (i + 1) ids) (freed n t)) is
    ∙ (sym (ap (λ (l : List ℤ). freed_each l t) (drop-cons ids i d lt ∙ ap (λ n. get_or ids i d ∷ drop n ids) (let one_more : suc i ≡ i + 1 = omega arith in one_more))) ∙ so_far))

-- ---- what is below a group

pub all_apart : {A : Type 0} (found : Result A NoMemory) (list : A → List ℤ) (ids : List ℤ) → All (λ (id : ℤ). int_eq id (pos 0) ≡ false) ids → IfOk found (λ v. list v ≡ ids) → IfOk found (λ v. All (λ (id : ℤ). int_eq id (pos 0) ≡ false) (list v))
all_apart (Ok v) list ids h is = subst (All (λ (id : ℤ). int_eq id (pos 0) ≡ false)) (sym is) h
all_apart (Err e) list ids h is = tt

pub freed_children : (stage new : Stage) (group : ℤ) (ids : List ℤ) (old_replies new_replies : List ReplyShape) (words : List ℕ) → ids ≡ top_ids (children group stage.tree.attached)
    → freed_each ids (turn_of stage words old_replies) ≡ turn_of new words new_replies
    → freed_each (top_ids (children group (world_of stage words).nodes)) (turn_of stage words old_replies) ≡ turn_of new words new_replies
freed_children stage new group ids old_replies new_replies words is done =
    ap (λ (l : List ℤ). freed_each l (turn_of stage words old_replies)) (ap top_ids (children-payloads (content_of words) group stage.tree.attached) ∙ (top_ids-payloads (content_of words) (children group stage.tree.attached) ∙ sym is)) ∙ done

pub freed_synths : (stage new : Stage) (group : ℤ) (ids : List ℤ) (old_replies new_replies : List ReplyShape) (words : List ℕ) → ids ≡ synth_ids (children group stage.tree.attached)
    → freed_each ids (turn_of stage words old_replies) ≡ turn_of new words new_replies
    → freed_each (synth_ids (children group (world_of stage words).nodes)) (turn_of stage words old_replies) ≡ turn_of new words new_replies
freed_synths stage new group ids old_replies new_replies words is done =
    ap (λ (l : List ℤ). freed_each l (turn_of stage words old_replies)) (ap synth_ids (children-payloads (content_of words) group stage.tree.attached) ∙ (synth_ids-payloads (content_of words) (children group stage.tree.attached) ∙ sym is)) ∙ done
