use Rattle.std.proofs.Common.{◌∙◌, ◌++◌, ◌∷◌, [], ap, sym, List, w32, Some, rules}
use Rattle.std.specs.Prelude.{FitsSigned}
use Rattle.std.proofs.lemmas.Int.{to_z-of_z}
use Rattle.sn_osc.specs.Shape.{MessageShape}
use Rattle.sn_reply.specs.declared.replies.To.TheVariants.{Client}
use Rattle.sn_reply.specs.Replies.{ReplyShape}
use Rattle.sn_tree.specs.Trees.{view_of}
use Rattle.sn_world.specs.declared.notices.NodeEvent.TheVariants.{Asked}
use Rattle.sn_world.specs.World.{turn_of}
use Rattle.sn_world.specs.Notices.{event_message}
use Rattle.sn_nodecmd.proofs.TurningLemmas.{no_node, some_node}
use Rattle.sn_nodecmd.proofs.QueryLemmas.{informed}
use Rattle.sn_nodecmd.proofs.querying.NodeQueryQuestion.answer.Goals as goal

pub returns-in_default-clause-row : goal.returns-in_default-clause-row
returns-in_default-clause-row c =
    let fits : FitsSigned w32 c.args.self.now.id = search rules in
    let same = to_z-of_z w32 c.args.self.now.id fits in
    λ words. no_node c.args.stage.now words c.args.self.now.id (c.in_default.ensures ∙ ap (λ n. view_of n c.args.stage.now.tree.attached) same)

pub returns-clause-row : goal.returns-clause-row
returns-clause-row c =
    let fits : FitsSigned w32 c.args.self.now.id = search rules in
    let same = to_z-of_z w32 c.args.self.now.id fits in
    let seen = c.in-Some.ensures ∙ ap (λ n. view_of n c.args.stage.now.tree.attached) same in
    λ words. (
      some_node c.args.stage.now words c.args.self.now.id c.in-Some.view seen,
      sym (ap (λ (rs : List ReplyShape). turn_of c.args.stage.now words rs)
          (c.in_ok-push.ensures.ok ∙ ap (λ (m : MessageShape). let r : ReplyShape = record { to = Client c.args.from; message = m } in c.args.replies.now ++ r ∷ []) (c.in_ok-message.ensures.message ∙ ap (λ n. event_message Asked n c.in-Some.view) same))
          ∙ informed c.args.stage.now words c.args.replies.now c.args.from c.args.self.now (Some c.in-Some.view) seen),
    )
