-- What is told of a node.
use Rattle.std.proofs.Common.{◌≡◌, ◌++◌, ◌+◌, ℕ, ℤ, negsuc, Bool, true, false, List, [], ◌∷◌, Option, Some, None, refl, ap, sym, ◌∙◌}
use Rattle.std.specs.Prelude.{OnOk, Result, Ok, Err}
use Rattle.std.specs.List.{list_any}
use Rattle.std.proofs.lemmas.List.{append-nil}
use Rattle.sn_ports.specs.declared.failed.NoMemory.{NoMemory}
use Rattle.sn_osc.specs.Shape.{MessageShape}
use Rattle.sn_reply.specs.Replies.{ReplyShape}
use Rattle.sn_tree.specs.declared.node.NodeView.{NodeView}
use Rattle.sn_tree.specs.Trees.{view_of}
use Rattle.sn_tree.proofs.PayloadLaws.{view-payloads}
use Rattle.sn_world.specs.declared.notices.NodeEvent.{NodeEvent}
use Rattle.sn_world.specs.declared.stage.Stage.{Stage}
use Rattle.sn_world.specs.Nodes.{content_of}
use Rattle.sn_world.specs.Notices.{event_message, notices, notified, told, told_at}
use Rattle.sn_world.specs.Freeing.{told_ends}
use Rattle.sn_world.specs.declared.notices.NodeEvent.TheVariants.{Went, Ended}
use Rattle.sn_world.specs.World.{World, Turn, world_of, turn_of}
use Rattle.sn_nodecmd.specs.Telling.{told_replies}

view_is : (stage : Stage) (words : List ℕ) (id : ℤ) (o : Option NodeView) → o ≡ view_of id stage.tree.attached → view_of id (world_of stage words).nodes ≡ o
view_is stage words id o is = view-payloads (content_of words) (negsuc 0) (negsuc 0) id stage.tree.attached ∙ sym is

pub told_here : (stage : Stage) (event : NodeEvent) (id : ℤ) (view : NodeView) (old new : List ReplyShape) → Some view ≡ view_of id stage.tree.attached → new ≡ old ++ notices 0 stage.notify (event_message event id view)
    → (words : List ℕ) → turn_of stage words new ≡ told event id (turn_of stage words old)
told_here stage event id view old new is more words =
    ap (turn_of stage words) more ∙ sym (ap (λ o. told_at event id o (turn_of stage words old)) (view_is stage words id (Some view) is))

pub told_nowhere : (stage : Stage) (event : NodeEvent) (id : ℤ) (replies : List ReplyShape) → None ≡ view_of id stage.tree.attached → (words : List ℕ) → turn_of stage words replies ≡ told event id (turn_of stage words replies)
told_nowhere stage event id replies is words = sym (ap (λ o. told_at event id o (turn_of stage words replies)) (view_is stage words id None is))

pub on_ok : (o : Result (Unit {0}) NoMemory) (P Q : Type 0) → (P → Q) → OnOk o P → OnOk o Q
on_ok (Ok u) P Q f p = f p
on_ok (Err e) P Q f p = p

told_said : (event : NodeEvent) (id : ℤ) (o : Option NodeView) (t : Turn) → told_at event id o t ≡ record t { replies = told_replies event id o t.world.notify t.replies }
told_said event id None t = refl
told_said event id (Some view) t = refl

-- by what was said at its place in a stage
pub told_by : (stage : Stage) (words : List ℕ) (id : ℤ) (old new : List ReplyShape) → new ≡ told_replies Went id (view_of id stage.tree.attached) stage.notify old → told Went id (turn_of stage words old) ≡ turn_of stage words new
told_by stage words id old new is =
    told_said Went id (view_of id (world_of stage words).nodes) (turn_of stage words old)
    ∙ ap (turn_of stage words) (ap (λ (o : Option NodeView). told_replies Went id o stage.notify old) (view_is stage words id (view_of id stage.tree.attached) refl) ∙ sym is)

-- no client is told
unheard : (client : ℕ) (flags : List Bool) (message : MessageShape) → list_any (λ (on : Bool). on) flags ≡ false → notices client flags message ≡ []
unheard client [] message off = refl
unheard client (true ∷ flags) message off = absurd cc
unheard client (false ∷ flags) message off = unheard (client + 1) flags message off

pub unheard_replies : (event : NodeEvent) (id : ℤ) (o : Option NodeView) (flags : List Bool) (replies : List ReplyShape) → list_any (λ (on : Bool). on) flags ≡ false → told_replies event id o flags replies ≡ replies
unheard_replies event id None flags replies off = refl
unheard_replies event id (Some view) flags replies off = ap (λ (l : List ReplyShape). replies ++ l) (unheard 0 flags (event_message event id view) off) ∙ append-nil replies

unheard_notice : (w : World) (replies : List ReplyShape) (message : MessageShape) → list_any (λ (on : Bool). on) w.notify ≡ false
    → notified message (record { world = w; replies = replies }) ≡ record { world = w; replies = replies }
unheard_notice w replies message off = λ i. let t : Turn = record { world = w; replies = (ap (λ (l : List ReplyShape). replies ++ l) (unheard 0 w.notify message off) ∙ append-nil replies) i } in t

pub unheard_ends : (vs : List (ℤ × NodeView)) (w : World) (replies : List ReplyShape) → list_any (λ (on : Bool). on) w.notify ≡ false
    → told_ends vs (record { world = w; replies = replies }) ≡ record { world = w; replies = replies }
unheard_ends [] w replies off = refl
unheard_ends (v ∷ vs) w replies off = ap (told_ends vs) (unheard_notice w replies (event_message Ended v.0 v.1) off) ∙ unheard_ends vs w replies off

pub told_unheard : (stage : Stage) (event : NodeEvent) (id : ℤ) (replies : List ReplyShape) → list_any (λ (on : Bool). on) stage.notify ≡ false → (words : List ℕ)
    → turn_of stage words replies ≡ told event id (turn_of stage words replies)
told_unheard stage event id replies off words = sym (at (view_of id (world_of stage words).nodes))
  where
    at : (o : Option NodeView) → told_at event id o (turn_of stage words replies) ≡ turn_of stage words replies
    at None = refl
    at (Some view) = unheard_notice (world_of stage words) replies (event_message event id view) off
