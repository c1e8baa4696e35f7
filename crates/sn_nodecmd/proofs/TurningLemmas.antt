-- `/n_run`: run flags that change, and what they leave as it was.
use Rattle.std.proofs.Common.{◌≡◌, ◌≤◌, ℕ, ℤ, negsuc, Bool, true, false, not, List, length, take, Option, Some, None, is_some, refl, ap, sym, ◌∙◌, arith, ◌+◌}
use Rattle.std.specs.Prelude.{if◌then◌else◌}
use Rattle.std.proofs.lemmas.List.{length-take, take-take}
use Rattle.sn_mem.specs.declared.extents.Extent.{Extent}
use Rattle.sn_reply.specs.declared.reason.Reason.{Reason}
use Rattle.sn_reply.specs.declared.reason.Reason.TheVariants as Reasons
use Rattle.sn_reply.specs.Replies.{ReplyShape}
use Rattle.sn_tree.specs.declared.node.NodeView.{NodeView}
use Rattle.sn_tree.specs.Trees.{Nodes, holds, with_running, view_of}
use Rattle.sn_tree.specs.Model.{NodeTree}
use Rattle.sn_tree.specs.Steps.{running, setting}
use Rattle.sn_tree.proofs.PayloadLaws.{holds-payloads, changed-payloads, view-payloads}
use Rattle.sn_world.specs.declared.node_repetition.RunFlag.{RunFlag}
use Rattle.sn_world.specs.declared.stage.Held.{Held}
use Rattle.sn_world.specs.declared.stage.Stage.{Stage}
use Rattle.sn_world.specs.Nodes.{Content, content_of}
use Rattle.sn_world.specs.Pictures.{live_held, amount}
use Rattle.sn_world.specs.World.{Turn, world_of, turn_of}
use Rattle.sn_world.specs.Notices.{told}
use Rattle.sn_world.specs.ControlRuns.{judge_node}
use Rattle.sn_world.specs.RunFlags.{is_flagged, turning, judge_run, act_run, with_flag}
use Rattle.sn_world.proofs.Turning.{is_seen, count-turned, held-turned, live-turned, with_tree, with_nodes}
use Rattle.sn_nodecmd.specs.Folding.{KeepsTree, Keeps}
use Rattle.sn_nodecmd.proofs.Stepping.{saved_followed, room_followed, keeps_with}

-- ---- the row of one repetition

module _ (stage : Stage) (words : List ℕ) (r : RunFlag) where
  reason_if : Bool → Option Reason
  reason_if b = if not b then Some Reasons.NoSuchNode else None

  judge-is : judge_run (world_of stage words) r ≡ reason_if (holds r.id stage.tree.attached)
  unfolding reason_if
  judge-is = ap (λ b. if not b then Some Reasons.NoSuchNode else None) (holds-payloads (content_of words) r.id stage.tree.attached)

  judge-seen : (o : Option NodeView) → o ≡ view_of r.id stage.tree.attached → judge_run (world_of stage words) r ≡ reason_if (is_some o)
  judge-seen o e = judge-is ∙ ap reason_if (sym (is_seen r.id stage.tree.attached) ∙ ap is_some (sym e))

  pub unseen : None ≡ view_of r.id stage.tree.attached → judge_run (world_of stage words) r ≡ Some Reasons.NoSuchNode
  unfolding reason_if
  unseen e = judge-seen None e

  pub seen_once : (view : NodeView) → Some view ≡ view_of r.id stage.tree.attached → judge_run (world_of stage words) r ≡ None
  unfolding reason_if
  seen_once view e = judge-seen (Some view) e

  -- by the flag that it has
  abbrev by_flag : List ReplyShape → Bool → Turn
  by_flag replies b = if b then turn_of stage words replies else told (turning r.on) r.id (with_flag r (turn_of stage words replies))

  acts-seen : (view : NodeView) (replies : List ReplyShape) → Some view ≡ view_of r.id stage.tree.attached → act_run r (turn_of stage words replies) ≡ by_flag replies (is_flagged r.on (Some view))
  acts-seen view replies e = ap (λ (o : Option NodeView). by_flag replies (is_flagged r.on o)) (view-payloads (content_of words) (negsuc 0) (negsuc 0) r.id stage.tree.attached ∙ sym e)

  pub same_flag : (view : NodeView) (replies : List ReplyShape) → Some view ≡ view_of r.id stage.tree.attached → is_flagged r.on (Some view) ≡ true → act_run r (turn_of stage words replies) ≡ turn_of stage words replies
  same_flag view replies e flagged = acts-seen view replies e ∙ ap (by_flag replies) flagged

  pub node_turned : (view : NodeView) (tree : NodeTree Held) (replies after : List ReplyShape) → Some view ≡ view_of r.id stage.tree.attached → is_flagged r.on (Some view) ≡ false → tree ≡ running r.id r.on stage.tree
      → turn_of (with_tree tree stage) words after ≡ told (turning r.on) r.id (turn_of (with_tree tree stage) words replies) → act_run r (turn_of stage words replies) ≡ turn_of (with_tree tree stage) words after
  node_turned view tree replies after e flagged is tells =
      acts-seen view replies e
      ∙ ap (by_flag replies) flagged
      ∙ ap (λ (n : Nodes Content). told (turning r.on) r.id (with_nodes stage words replies n)) (changed-payloads (content_of words) r.id (with_running r.on) (with_running r.on) (λ l. refl) stage.tree.attached)
      ∙ ap (λ (s : NodeTree Held). told (turning r.on) r.id (turn_of (with_tree s stage) words replies)) (sym is)
      ∙ sym tells

-- ---- what stays

keeps_running : (id : ℤ) (on : Bool) (tree : NodeTree Held) → KeepsTree tree (running id on tree)
keeps_running id on tree = record {
  saved = saved_followed 1 (setting id on) tree.journal;
  room = omega (arith, room_followed 1 (setting id on) tree.journal, count-turned id on tree.attached);
  extents = λ weight. ap (λ (es : List Extent). amount weight es + amount weight (live_held tree.detached)) (live-turned id on tree.attached);
  held = λ rate region h. held-turned rate region id on tree.attached h;
}

pub keeps_turned : (old new : Stage) (id : ℤ) (on : Bool) → new ≡ with_tree (running id on old.tree) old → Keeps old new
keeps_turned old new id on is = keeps_with old new (running id on old.tree) old.next_id (keeps_running id on old.tree) is

-- ---- replies after others

pub earlier-more : (a b c : List ReplyShape) → take (length a) b ≡ a → take (length b) c ≡ b → take (length a) c ≡ a
earlier-more a b c first second =
    let within : length a ≤ length b = omega (arith, ap length first, length-take (length a) b) in
    sym (take-take (length a) (length b) c within) ∙ ap (take (length a)) second ∙ first

-- ---- a node that is named

pub no_node : (stage : Stage) (words : List ℕ) (id : ℤ) → None ≡ view_of id stage.tree.attached → judge_node (world_of stage words) id ≡ Some Reasons.NoSuchNode
no_node stage words id e = unseen stage words (record { id = id; on = true }) e

pub some_node : (stage : Stage) (words : List ℕ) (id : ℤ) (view : NodeView) → Some view ≡ view_of id stage.tree.attached → judge_node (world_of stage words) id ≡ None
some_node stage words id view e = seen_once stage words (record { id = id; on = true }) view e
