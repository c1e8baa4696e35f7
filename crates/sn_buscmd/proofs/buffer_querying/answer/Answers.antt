use Rattle.std.proofs.Common.{◌++◌, List, ap, ◌∙◌}
use Rattle.sn_osc.specs.Shape.{Argument}
use Rattle.sn_buscmd.specs.Samples.{place_infos}
use Rattle.sn_buscmd.proofs.QueryLemmas.{few_infos}
use Rattle.sn_buscmd.proofs.buffer_querying.answer.Goals as goal

pub into_long_message-requires-clause-few : goal.into_long_message-requires-clause-few
into_long_message-requires-clause-few c =
    let stage = c.args.stage.now in
    few_infos c.push_infos.new.answer stage.rate stage.buffers c.args.numbers.now
    (c.in_ok-push_infos.ensures ∙ ap (λ (xs : List Argument). xs ++ place_infos stage.rate stage.buffers c.args.numbers.now) c.new-answer.ensures) c.requires.few
