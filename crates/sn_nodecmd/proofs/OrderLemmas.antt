-- `/n_order`: its arguments, its place, and the moves.
use Rattle.std.proofs.Common.{◌≡◌, ◌≤◌, ◌<◌, ◌+◌, ◌||◌, ◌&&◌, ℕ, suc, ℤ, negsuc, Bool, true, false, not, is_some, List, [], ◌∷◌, ◌++◌, length, map, take, drop, get_or, drop-cons, Option, Some, None, Result, Err, refl, ap, sym, subst, ◌∙◌, arith, append_assoc, append-nil}
use Rattle.std.specs.Prelude.{if◌then◌else◌, IfSome}
use Rattle.std.specs.List.{filter, dedup}
use Rattle.std.specs.Option.{option_map}
use Rattle.std.specs.Ordering.{int_eq}
use Rattle.std.proofs.lemmas.List.{drop_all, length-map, length-take, length-drop}
use Rattle.sn_osc.specs.declared.packet.Arg.{Arg}
use Rattle.sn_osc.specs.Shape.{argument_of}
use Rattle.sn_ports.specs.declared.failed.NoMemory.{NoMemory}
use Rattle.sn_reply.specs.declared.reason.Reason.{Reason}
use Rattle.sn_reply.specs.declared.reason.Reason.TheVariants as Reasons
use Rattle.sn_reply.specs.Replies.{ReplyShape}
use Rattle.sn_tree.specs.declared.node.AddAction.{AddAction}
use Rattle.sn_tree.specs.declared.node.AddAction.TheVariants.{After}
use Rattle.sn_tree.specs.declared.node.NodeKind.{NodeKind}
use Rattle.sn_tree.specs.declared.node.Spot.{Spot}
use Rattle.sn_tree.specs.Trees.{Label, Nodes, none, node, holds, label_of, view_from, view_of, first_id, last_id}
use Rattle.sn_tree.specs.Faults.{is_inside, is_synth, labels_synth, is_in_synth, is_beside_root}
use Rattle.sn_tree.proofs.PayloadLaws.{holds-payloads, synth-payloads}
use Rattle.sn_world.specs.declared.node_repetition.NodeMove.{NodeMove}
use Rattle.sn_world.specs.declared.ordering.NodePlace.{NodePlace}
use Rattle.sn_world.specs.declared.repetition.NodeId.{NodeId}
use Rattle.sn_world.specs.declared.stage.Held.{Held}
use Rattle.sn_world.specs.declared.stage.Stage.{Stage}
use Rattle.sn_world.specs.Freeing.{node_id}
use Rattle.sn_world.specs.NewNodes.{action_for}
use Rattle.sn_world.specs.Nodes.{content_of}
use Rattle.sn_world.specs.NodeOrder.{NodeOrder, is_place, place_refusal, is_same, in_a_row, moves_of, order_outcome}
use Rattle.sn_world.specs.Rows.{first_of, singles, steps, unless}
use Rattle.sn_world.specs.World.{Turn, world_of, turn_of}
use Rattle.sn_world.specs.Moving.{judge_move, act_move}
use Rattle.sn_world.specs.Answers.{Follows}
use Rattle.sn_world.proofs.Parsing.{singles-length}

-- ---- arguments

-- no more nodes than arguments
pub order-short : (args : List Arg) (n : ℕ) (o : Option (List NodeId)) (ids : List NodeId) → o ≡ singles node_id (map argument_of (take n (drop 2 args))) → o ≡ Some ids → length ids ≤ length args
order-short args n o ids read is =
    let few : length ids ≤ length (map argument_of (take n (drop 2 args))) = subst (λ (q : Option (List NodeId)). IfSome q (λ rs. length rs ≤ length (map argument_of (take n (drop 2 args))))) (sym read ∙ is) (singles-length node_id (map argument_of (take n (drop 2 args)))) in
    omega (arith, few, length-map (take n (drop 2 args)) argument_of, length-take n (drop 2 args), length-drop 2 args)

-- ---- the kind of a node

kind_from : (parent previous id : ℤ) (t : Nodes Held) → option_map (λ v. v.kind) (view_from parent previous id t) ≡ option_map (λ l. l.kind) (label_of id t)
kind_from parent previous id none = refl
kind_from parent previous id (node l below after) = at (int_eq l.id id) (holds id below) (kind_from l.id (negsuc 0) id below) (kind_from parent l.id id after)
  where
    at : (here inner : Bool) → option_map (λ v. v.kind) (view_from l.id (negsuc 0) id below) ≡ option_map (λ l. l.kind) (label_of id below) → option_map (λ v. v.kind) (view_from parent l.id id after) ≡ option_map (λ l. l.kind) (label_of id after)
        → option_map (λ v. v.kind) (if here then Some (record { kind = l.kind; running = l.running; parent = parent; previous = previous; next = first_id after; head = first_id below; tail = last_id (negsuc 0) below }) else if inner then view_from l.id (negsuc 0) id below else view_from parent l.id id after)
        ≡ option_map (λ l. l.kind) (if here then Some l else if inner then label_of id below else label_of id after)
    at true inner b a = refl
    at false true b a = b
    at false false b a = a

pub kind_seen : (id : ℤ) (t : Nodes Held) → option_map (λ v. v.kind) (view_of id t) ≡ option_map (λ l. l.kind) (label_of id t)
kind_seen id t = kind_from (negsuc 0) (negsuc 0) id t

pub label_there : (id : ℤ) (t : Nodes Held) → is_some (label_of id t) ≡ holds id t
label_there id none = refl
label_there id (node l below after) = at (int_eq l.id id) (holds id below) (label_there id below) (label_there id after)
  where
    at : (here inner : Bool) → is_some (label_of id below) ≡ inner → is_some (label_of id after) ≡ holds id after
        → is_some (if here then Some l else if inner then label_of id below else label_of id after) ≡ (here || (inner || holds id after))
    at true inner b a = refl
    at false true b a = b
    at false false b a = a

-- ---- what is against a place

-- its target isn't there
pub no_target : (place : NodePlace) (t : Nodes Held) → is_place place.action ≡ true → None ≡ option_map (λ l. l.kind) (label_of place.target t) → Some Reasons.NoSuchNode ≡ place_refusal place t
no_target place t known unlabelled =
    at (is_place place.action) (holds place.target t) known (sym (label_there place.target t) ∙ gone (label_of place.target t) unlabelled) (is_in_synth (action_for place.action) place.target t) (is_beside_root (action_for place.action) place.target)
  where
    gone : (o : Option (Label Held)) → None ≡ option_map (λ l. l.kind) o → is_some o ≡ false
    gone None h = refl
    gone (Some l) h = absurd cc

    at : (known there : Bool) → known ≡ true → there ≡ false → (synth beside : Bool) → Some Reasons.NoSuchNode ≡ first_of ((not known, Reasons.AddAction) ∷ (not there, Reasons.NoSuchNode) ∷ (synth, Reasons.NotGroup) ∷ (beside, Reasons.Root) ∷ [])
    at true false h k synth beside = refl
    at true true h k synth beside = absurd cc
    at false there h k synth beside = absurd cc

-- its target is there, and of this kind
pub at_target : (place : NodePlace) (t : Nodes Held) (kind : NodeKind) → is_place place.action ≡ true → Some kind ≡ option_map (λ l. l.kind) (label_of place.target t)
    → first_of ((is_inside (action_for place.action) && is_synth kind, Reasons.NotGroup) ∷ (is_beside_root (action_for place.action) place.target, Reasons.Root) ∷ []) ≡ place_refusal place t
at_target place t kind known labelled =
    ap (λ b. first_of ((is_inside (action_for place.action) && b, Reasons.NotGroup) ∷ (is_beside_root (action_for place.action) place.target, Reasons.Root) ∷ [])) (sym (same (label_of place.target t) labelled))
    ∙ at (is_place place.action) (holds place.target t) known (sym (label_there place.target t) ∙ there (label_of place.target t) labelled) (is_in_synth (action_for place.action) place.target t) (is_beside_root (action_for place.action) place.target)
  where
    there : (o : Option (Label Held)) → Some kind ≡ option_map (λ l. l.kind) o → is_some o ≡ true
    there None h = absurd cc
    there (Some l) h = refl

    same : (o : Option (Label Held)) → Some kind ≡ option_map (λ l. l.kind) o → labels_synth o ≡ is_synth kind
    same None h = absurd cc
    same (Some l) h = let e : l.kind ≡ kind = cc in ap is_synth e

    at : (known there : Bool) → known ≡ true → there ≡ true → (synth beside : Bool)
        → first_of ((synth, Reasons.NotGroup) ∷ (beside, Reasons.Root) ∷ []) ≡ first_of ((not known, Reasons.AddAction) ∷ (not there, Reasons.NoSuchNode) ∷ (synth, Reasons.NotGroup) ∷ (beside, Reasons.Root) ∷ [])
    at true true h k synth beside = refl
    at true false h k synth beside = absurd cc
    at false there h k synth beside = absurd cc

-- ---- moves one after the other

pub row_next : (ms more : List NodeMove) (spot past : Spot) (ns : List NodeId) (i : ℕ) (d : NodeId) (m : NodeMove) → i < length ns
    → m ≡ record { action = spot.action; id = (get_or ns i d).id; target = spot.target } → more ≡ ms ++ m ∷ [] → past ≡ record { action = After; target = (get_or ns i d).id }
    → more ++ in_a_row past.action past.target (drop (i + 1) ns) ≡ ms ++ in_a_row spot.action spot.target (drop i ns)
row_next ms more spot past ns i d m lt is-m is-more is-past =
    (λ j. is-more j ++ in_a_row (is-past j).action (is-past j).target (drop (i + 1) ns))
    ∙ append_assoc ms (m ∷ []) (in_a_row After (get_or ns i d).id (drop (i + 1) ns))
    ∙ (λ j. ms ++ is-m j ∷ in_a_row After (get_or ns i d).id (drop (i + 1) ns))
    ∙ ap (λ (rest : List NodeId). ms ++ in_a_row spot.action spot.target rest) (sym (drop-cons ns i d lt ∙ ap (λ k. get_or ns i d ∷ drop k ns) one))
  where
    one : suc i ≡ i + 1
    one = omega arith

pub row_whole : (ms : List NodeMove) (action : AddAction) (target : ℤ) (ns : List NodeId) (i : ℕ) → length ns ≤ i → ms ++ in_a_row action target (drop i ns) ≡ ms
row_whole ms action target ns i past = ap (λ (rest : List NodeId). ms ++ in_a_row action target rest) (drop_all i ns past) ∙ append-nil ms

pub row_length : (action : AddAction) (target : ℤ) (ns : List NodeId) → length (in_a_row action target ns) ≡ length ns
row_length action target [] = refl
row_length action target (n ∷ ns) = ap suc (row_length After n.id ns)

-- ---- the world's nodes are the tree's

pub place_refusal_in : (stage : Stage) (words : List ℕ) (place : NodePlace) → place_refusal place (world_of stage words).nodes ≡ place_refusal place stage.tree.attached
place_refusal_in stage words place = λ i. first_of (
    (not (is_place place.action), Reasons.AddAction)
    ∷ (not (holds-payloads (content_of words) place.target stage.tree.attached i), Reasons.NoSuchNode)
    ∷ (is_inside (action_for place.action) && synth-payloads (content_of words) place.target stage.tree.attached i, Reasons.NotGroup)
    ∷ (is_beside_root (action_for place.action) place.target, Reasons.Root)
    ∷ [])

pub moves_in : (stage : Stage) (words : List ℕ) (order : NodeOrder) → moves_of order (world_of stage words).nodes ≡ moves_of order stage.tree.attached
moves_in stage words order = λ i. in_a_row (action_for order.place.action) order.place.target (dedup is_same (filter (λ n. holds-payloads (content_of words) n.id stage.tree.attached i) order.nodes))

-- ---- what is asked for is carried out

module _ (stage : Stage) (words : List ℕ) (replies : List ReplyShape) (o : Option NodeOrder) (order : NodeOrder) (asked : Some order ≡ o) where
  pub order_refused : (reason : Reason) → Some reason ≡ place_refusal order.place stage.tree.attached → order_outcome o (turn_of stage words replies) ≡ Err reason
  order_refused reason against =
      ap (λ q. order_outcome q (turn_of stage words replies)) (sym asked)
      ∙ ap (λ r. unless r (steps judge_move act_move (moves_of order (world_of stage words).nodes) (turn_of stage words replies))) (place_refusal_in stage words order.place ∙ sym against)

  pub order_followed : (ms : List NodeMove) (result : Result (Option Reason) NoMemory) (after : Turn) → None ≡ place_refusal order.place stage.tree.attached → ms ≡ moves_of order stage.tree.attached
      → Follows result (steps judge_move act_move ms (turn_of stage words replies)) after → Follows result (order_outcome o (turn_of stage words replies)) after
  order_followed ms result after against are follows =
      subst (λ (r : Result Turn Reason). Follows result r after)
      (ap (λ (xs : List NodeMove). steps judge_move act_move xs (turn_of stage words replies)) (are ∙ sym (moves_in stage words order))
      ∙ ap (λ r. unless r (steps judge_move act_move (moves_of order (world_of stage words).nodes) (turn_of stage words replies))) (against ∙ sym (place_refusal_in stage words order.place))
      ∙ ap (λ q. order_outcome q (turn_of stage words replies)) asked)
      follows
