-- What a move makes of the tree.
use Rattle.std.proofs.Common.{◌≡◌, ◌+◌, ◌||◌, ◌&&◌, ℕ, ℤ, pos, Bool, true, false, not, List, [], ◌∷◌, Option, Some, None, Result, Ok, Err, refl, ap, sym, subst, ◌∙◌, arith}
use Rattle.std.specs.Prelude.{if◌then◌else◌}
use Rattle.std.specs.List.{list_any}
use Rattle.std.specs.Option.{option_map}
use Rattle.std.specs.Ordering.{int_eq}
use Rattle.std.proofs.lemmas.Bool.{cond_both}
use Rattle.sn_mem.specs.declared.extents.Extent.{Extent}
use Rattle.sn_reply.specs.Replies.{ReplyShape}
use Rattle.sn_reply.specs.declared.reason.Reason.{Reason}
use Rattle.sn_reply.specs.declared.reason.Reason.TheVariants as Reasons
use Rattle.sn_tree.specs.declared.node.TreeFault.TheVariants as faults
use Rattle.sn_tree.specs.Trees.{Nodes, none, node, holds, count, put, subtree, without, label_of}
use Rattle.sn_tree.specs.Faults.{first_fault, move_fault, is_missing, is_inside, is_in_synth, is_beside_root, labels_synth}
use Rattle.sn_tree.specs.Model.{Journal, NodeTree}
use Rattle.sn_tree.specs.Steps.{HasRoom, followed, moved, moving}
use Rattle.sn_tree.proofs.Moving.{kept_in}
use Rattle.sn_tree.proofs.PayloadLaws.{holds-payloads, synth-payloads, put-payloads, without-payloads, subtree-payloads}
use Rattle.sn_world.specs.declared.notices.NodeEvent.TheVariants.{Moved}
use Rattle.sn_world.specs.declared.node_repetition.NodeMove.{NodeMove}
use Rattle.sn_world.specs.declared.stage.Held.{Held}
use Rattle.sn_world.specs.declared.stage.Stage.{Stage}
use Rattle.sn_world.specs.Nodes.{Content, content_of}
use Rattle.sn_world.specs.Notices.{told}
use Rattle.sn_world.specs.Moving.{move_refusal, judge_move, act_move}
use Rattle.sn_world.specs.Pictures.{AreHeld, Pictures}
use Rattle.sn_world.specs.Rows.{first_of, steps, unless}
use Rattle.sn_world.specs.World.{Turn, world_of, turn_of}
use Rattle.sn_world.proofs.Counting.{amount-put, amount-without}
use Rattle.sn_world.proofs.Inserting.{held-put}
use Rattle.sn_nodecmd.specs.Folding.{IsAtRest, KeepsTree, Keeps}
use Rattle.sn_nodecmd.specs.Faults.{reason_of}
use Rattle.sn_world.proofs.Replacing.{held-without}
use Rattle.sn_nodecmd.proofs.Judged.{outside_synth}
use Rattle.sn_nodecmd.proofs.Stepping.{count-put, saved_followed, room_followed, keeps_with}
use Rattle.sn_nodecmd.proofs.ToldLemmas.{told_unheard}
use Rattle.sn_nodecmd.proofs.Underway.{keeps_pictures}

-- ---- a subtree that is taken out, and what is left

count-parted : (id : ℤ) (t : Nodes Held) → count (without id t) + count (subtree id t) ≡ count t
count-parted id none = omega arith
count-parted id (node l below after) = at (int_eq l.id id) (holds id below) (count-parted id below) (count-parted id after)
  where
    at : (here inner : Bool) → count (without id below) + count (subtree id below) ≡ count below → count (without id after) + count (subtree id after) ≡ count after
        → count (if here then after else if inner then node l (without id below) after else node l below (without id after)) + count (if here then node l below none else if inner then subtree id below else subtree id after) ≡ count (node l below after)
    at true inner b a = omega arith
    at false true b a = omega (arith, b)
    at false false b a = omega (arith, a)

here_law : (p b a : Bool) → (a || (p || (b || false))) ≡ (p || (b || a))
here_law true b true = refl
here_law true b false = refl
here_law false true true = refl
here_law false true false = refl
here_law false false true = refl
here_law false false false = refl

below_law : (p left out b a : Bool) → (left || out) ≡ b → ((p || (left || a)) || out) ≡ (p || (b || a))
below_law true left out b a e = refl
below_law false true out b a e = ap (λ (x : Bool). x || a) e
below_law false false out true true e = refl
below_law false false out false true e = refl
below_law false false out true false e = e
below_law false false out false false e = e

after_law : (p left out b a : Bool) → (left || out) ≡ a → ((p || (b || left)) || out) ≡ (p || (b || a))
after_law true left out b a e = refl
after_law false left out true a e = refl
after_law false left out false a e = e

holds-parted : (x id : ℤ) (t : Nodes Held) → (holds x (without id t) || holds x (subtree id t)) ≡ holds x t
holds-parted x id none = refl
holds-parted x id (node l below after) = at (int_eq l.id id) (holds id below) (holds-parted x id below) (holds-parted x id after)
  where
    at : (here inner : Bool) → (holds x (without id below) || holds x (subtree id below)) ≡ holds x below → (holds x (without id after) || holds x (subtree id after)) ≡ holds x after
        → (holds x (if here then after else if inner then node l (without id below) after else node l below (without id after)) || holds x (if here then node l below none else if inner then subtree id below else subtree id after)) ≡ holds x (node l below after)
    at true inner b a = here_law (int_eq l.id x) (holds x below) (holds x after)
    at false true b a = below_law (int_eq l.id x) (holds x (without id below)) (holds x (subtree id below)) (holds x below) (holds x after) b
    at false false b a = after_law (int_eq l.id x) (holds x (without id after)) (holds x (subtree id after)) (holds x below) (holds x after) a

-- what is there, and not in the subtree, is left
left_there : (x id : ℤ) (t : Nodes Held) → holds x t ≡ true → holds x (subtree id t) ≡ false → holds x (without id t) ≡ true
left_there x id t there out = at (holds x (without id t)) (holds x (subtree id t)) (holds-parted x id t ∙ there) out
  where
    at : (left out : Bool) → (left || out) ≡ true → out ≡ false → left ≡ true
    at true out h e = refl
    at false true h e = absurd cc
    at false false h e = absurd cc

held-subtree : (rate : ℕ) (region : Extent) (id : ℤ) (t : Nodes Held) → AreHeld rate region t → AreHeld rate region (subtree id t)
held-subtree rate region id none h = h
held-subtree rate region id (node l below after) h =
    cond_both (int_eq l.id id) (node l below none) (if holds id below then subtree id below else subtree id after) (AreHeld rate region)
    (λ _. (h.0, (h.1.0, tt), h.2))
    (λ _. cond_both (holds id below) (subtree id below) (subtree id after) (AreHeld rate region)
    (λ _. held-subtree rate region id below h.1.0)
    (λ _. held-subtree rate region id after h.1.1))

-- ---- reasons

by_tests : (missing lost root beside synth inside : Bool)
    → option_map reason_of (first_fault ((missing, faults.NoNode) ∷ (lost, faults.NoNode) ∷ (root, faults.IsRoot) ∷ (beside, faults.IsRoot) ∷ (synth, faults.NotGroup) ∷ (inside, faults.Inside) ∷ []))
    ≡ first_of ((missing, Reasons.NoSuchNode) ∷ (lost, Reasons.NoSuchNode) ∷ (root, Reasons.Root) ∷ (beside, Reasons.Root) ∷ (synth, Reasons.NotGroup) ∷ (inside, Reasons.InsideItself) ∷ [])
by_tests true lost root beside synth inside = refl
by_tests false true root beside synth inside = refl
by_tests false false true beside synth inside = refl
by_tests false false false true synth inside = refl
by_tests false false false false true inside = refl
by_tests false false false false false true = refl
by_tests false false false false false false = refl

pub judged_move : (m : NodeMove) (t : Nodes Held) → option_map reason_of (move_fault m.id m.action m.target t) ≡ move_refusal m t
judged_move m t = by_tests (is_missing m.id t) (is_missing m.target t) (int_eq m.id (pos 0)) (is_beside_root m.action m.target) (is_in_synth m.action m.target t) (holds m.target (subtree m.id t))

pub move_refusal_in : (stage : Stage) (words : List ℕ) (m : NodeMove) → move_refusal m (world_of stage words).nodes ≡ move_refusal m stage.tree.attached
move_refusal_in stage words m = λ i. first_of (
    (not (holds-payloads f m.id t i), Reasons.NoSuchNode)
    ∷ (not (holds-payloads f m.target t i), Reasons.NoSuchNode)
    ∷ (int_eq m.id (pos 0), Reasons.Root)
    ∷ (is_beside_root m.action m.target, Reasons.Root)
    ∷ (is_inside m.action && synth-payloads f m.target t i, Reasons.NotGroup)
    ∷ (inside i, Reasons.InsideItself)
    ∷ [])
  where
    t : Nodes Held
    t = stage.tree.attached

    f : Held → Content
    f = content_of words

    inside : holds m.target (subtree m.id (world_of stage words).nodes) ≡ holds m.target (subtree m.id t)
    inside = ap (holds m.target) (subtree-payloads f m.id t) ∙ holds-payloads f m.target (subtree m.id t)

-- ---- the move

-- the target is there, and neither in the subtree nor, if the node goes inside it, a synth
allowed_tests : (missing there root beside synth inside : Bool) → first_of ((missing, Reasons.NoSuchNode) ∷ (not there, Reasons.NoSuchNode) ∷ (root, Reasons.Root) ∷ (beside, Reasons.Root) ∷ (synth, Reasons.NotGroup) ∷ (inside, Reasons.InsideItself) ∷ []) ≡ None
    → (there ≡ true) × (inside ≡ false) × (synth ≡ false)
allowed_tests true there root beside synth inside h = absurd cc
allowed_tests false false root beside synth inside h = absurd cc
allowed_tests false true true beside synth inside h = absurd cc
allowed_tests false true false true synth inside h = absurd cc
allowed_tests false true false false true inside h = absurd cc
allowed_tests false true false false false true h = absurd cc
allowed_tests false true false false false false h = (refl, refl, refl)

move_allowed : (m : NodeMove) (t : Nodes Held) → move_refusal m t ≡ None → (holds m.target t ≡ true) × (holds m.target (subtree m.id t) ≡ false) × (is_in_synth m.action m.target t ≡ false)
move_allowed m t allowed = allowed_tests (is_missing m.id t) (holds m.target t) (int_eq m.id (pos 0)) (is_beside_root m.action m.target) (is_in_synth m.action m.target t) (holds m.target (subtree m.id t)) allowed

-- the target stays when the node is taken out
target_left : (m : NodeMove) (t : Nodes Held) → move_refusal m t ≡ None → holds m.target (without m.id t) ≡ true
target_left m t allowed = let tests = move_allowed m t allowed in left_there m.target m.id t tests.0 tests.1

-- and is no synth if the node goes inside it
group_left : (m : NodeMove) (t : Nodes Held) → move_refusal m t ≡ None → is_inside m.action ≡ true → labels_synth (label_of m.target (without m.id t)) ≡ false
group_left m t allowed inside =
    let tests = move_allowed m t allowed in
    ap labels_synth (kept_in m.id m.target t tests.1).labels ∙ outside_synth (is_inside m.action) (labels_synth (label_of m.target t)) tests.2 inside

keeps_moved : (m : NodeMove) (tree : NodeTree Held) → move_refusal m tree.attached ≡ None → KeepsTree tree (moved m.id m.action m.target tree)
keeps_moved m tree allowed = record {
  saved = saved_followed 1 (moving m.id m.action m.target) tree.journal;
  room = omega (arith, room_followed 1 (moving m.id m.action m.target) tree.journal, count-put m.action m.target (subtree m.id tree.attached) (without m.id tree.attached), count-parted m.id tree.attached);
  extents = λ weight. omega (arith, amount-put weight m.action m.target (subtree m.id tree.attached) (without m.id tree.attached) (target_left m tree.attached allowed), amount-without weight m.id tree.attached);
  held = λ rate region h. held-put rate region m.action m.target (subtree m.id tree.attached) (without m.id tree.attached) (group_left m tree.attached allowed) (held-subtree rate region m.id tree.attached h) (held-without rate region m.id tree.attached h);
}

pub keeps_move : (old new : Stage) (m : NodeMove) → move_refusal m old.tree.attached ≡ None → new ≡ record old { tree = moved m.id m.action m.target old.tree } → Keeps old new
keeps_move old new m allowed is = keeps_with old new (moved m.id m.action m.target old.tree) old.next_id (keeps_moved m old.tree allowed) is

moved_in : (words : List ℕ) (m : NodeMove) (stage : Stage) → put m.action m.target (subtree m.id (world_of stage words).nodes) (without m.id (world_of stage words).nodes) ≡ (world_of (record stage { tree = moved m.id m.action m.target stage.tree }) words).nodes
moved_in words m stage =
    (λ i. put m.action m.target (subtree-payloads (content_of words) m.id stage.tree.attached i) (without-payloads (content_of words) m.id stage.tree.attached i))
    ∙ put-payloads (content_of words) m.action m.target (subtree m.id stage.tree.attached) (without m.id stage.tree.attached)

pub node_moved : (old new : Stage) (m : NodeMove) (old_replies new_replies : List ReplyShape) → new ≡ record old { tree = moved m.id m.action m.target old.tree }
    → ((words : List ℕ) → turn_of new words new_replies ≡ told Moved m.id (turn_of new words old_replies))
    → (words : List ℕ) → act_move m (turn_of old words old_replies) ≡ turn_of new words new_replies
node_moved old new m old_replies new_replies is told_now words =
    ap (λ (n : Nodes Content). told Moved m.id (let t : Turn = record { world = record (world_of old words) { nodes = n }; replies = old_replies } in t)) (moved_in words m old)
    ∙ ap (λ (s : Stage). told Moved m.id (turn_of s words old_replies)) (sym is)
    ∙ sym (told_now words)

-- ---- a move by itself, of which no client is told

module _ (old new : Stage) (m : NodeMove) (rest : IsAtRest old) (allowed : None ≡ move_refusal m old.tree.attached) (is : new ≡ record old { tree = moved m.id m.action m.target old.tree }) where
  pub moved_unheard : list_any (λ (on : Bool). on) old.notify ≡ false → (words : List ℕ) (replies : List ReplyShape) → steps judge_move act_move (m ∷ []) (turn_of old words replies) ≡ Ok (turn_of new words replies)
  moved_unheard off words replies =
      ap (λ (o : Option Reason). unless o (Ok (act_move m (turn_of old words replies)))) (move_refusal_in old words m ∙ sym allowed)
      ∙ ap (λ (t : Turn). let r : Result Turn Reason = Ok t in r)
      (node_moved old new m replies replies is (told_unheard new Moved m.id replies (ap (λ (s : Stage). list_any (λ (on : Bool). on) s.notify) is ∙ off)) words)

  pub moved_pictures : (words : List ℕ) → Pictures old words → Pictures new words
  moved_pictures words p =
      keeps_pictures old new words (keeps_move old new m (sym allowed) is)
      (ap (λ (s : Stage). s.tree.detached) is ∙ rest.detached)
      (ap (λ (s : Stage). s.tree.journal) is ∙ ap (followed 1 (moving m.id m.action m.target)) rest.settled)
      p

pub move_refused : (stage : Stage) (m : NodeMove) (reason : Reason) → Some reason ≡ move_refusal m stage.tree.attached → (words : List ℕ) (replies : List ReplyShape) → steps judge_move act_move (m ∷ []) (turn_of stage words replies) ≡ Err reason
move_refused stage m reason against words replies =
    ap (λ (o : Option Reason). unless o (Ok (act_move m (turn_of stage words replies)))) (move_refusal_in stage words m ∙ sym against)

pub settled_room : (journal : Option (Journal Held)) → journal ≡ None → HasRoom journal
settled_room journal is = subst HasRoom (sym is) tt
