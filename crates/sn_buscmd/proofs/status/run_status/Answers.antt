use Rattle.std.proofs.Common.{◌++◌, ◌∷◌, [], List, map, Ok, sym, ap, ◌∙◌}
use Rattle.std.specs.Prelude.{◌==◌}
use Rattle.std.proofs.lemmas.List.{length-map}
use Rattle.sn_osc.specs.Shape.{MessageShape, argument_of}
use Rattle.sn_reply.specs.declared.replies.To.TheVariants.{Client}
use Rattle.sn_reply.specs.Replies.{ReplyShape}
use Rattle.sn_world.specs.World.{turn_of, world_of}
use Rattle.sn_buscmd.proofs.StatusLemmas.{status-asked, counts-said}
use Rattle.sn_buscmd.proofs.status.run_status.Goals as goal

pub returns-clause-row : goal.returns-clause-row
returns-clause-row c = λ words.
    let args = c.args.arguments.now in
    let stage = c.args.stage.now in
    let t = turn_of stage words c.args.replies.now in
    let message = c.in_ok-message.ensures.message ∙ counts-said (world_of stage words) c.count_nodes-census.result c.len.result (c.count_nodes-census.ensures words) c.len.ensures in
    status-asked c.args.from (map argument_of args) t (ap (λ n. n == 0) (length-map args argument_of) ∙ sym c.is_empty.ensures ∙ c.if-not-is_empty.false)
    ∙ ap (λ (rs : List ReplyShape). Ok (turn_of stage words rs)) (sym (c.in_ok-push.ensures.ok ∙ ap (λ (m : MessageShape). c.args.replies.now ++ (record { to = Client c.args.from; message = m }) ∷ []) message))
