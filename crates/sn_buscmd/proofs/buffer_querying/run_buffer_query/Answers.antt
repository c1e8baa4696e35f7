use Rattle.std.proofs.Common.{◌≡◌, ◌≤◌, ◌++◌, ◌∷◌, [], Some, None, ◌∙◌, sym, ap, map, length, arith}
use Rattle.sn_osc.specs.Shape.{MessageShape, argument_of}
use Rattle.sn_reply.specs.declared.replies.To.TheVariants.{Client}
use Rattle.sn_world.specs.declared.buffer_repetition.BufferNumber.{BufferNumber}
use Rattle.sn_world.specs.BufferNumbers.{number_refusal}
use Rattle.sn_world.specs.BufferCommands.{buffer_number}
use Rattle.sn_world.specs.Rows.{singles, some_of, first_refusal}
use Rattle.sn_world.proofs.Parsing.{singles-few_of}
use Rattle.sn_buscmd.proofs.QueryLemmas.{query_told}
use Rattle.sn_buscmd.proofs.buffer_querying.run_buffer_query.Goals as goal

pub answer-requires-clause-few : goal.answer-requires-clause-few
answer-requires-clause-few c =
    let read : Some c.deref-2.result.now ≡ some_of (singles buffer_number (map argument_of c.args.arguments.now)) = ap Some c.deref-2.ensures.value ∙ c.in-Some.ensures ∙ ap some_of c.in_ok-singles.ensures in
    let few : length c.deref-2.result.now ≤ length c.args.arguments.now = singles-few_of buffer_number c.args.arguments.now c.deref-2.result.now read in
    omega arith

pub returns-clause-row : goal.returns-clause-row
returns-clause-row c = λ words.
    let read : Some c.deref-2.result.now ≡ some_of (singles buffer_number (map argument_of c.args.arguments.now)) = ap Some c.deref-2.ensures.value ∙ c.in-Some.ensures ∙ ap some_of c.in_ok-singles.ensures in
    let free : first_refusal (λ (r : BufferNumber). number_refusal r.number) c.deref-2.result.now ≡ None = ap (first_refusal (λ (r : BufferNumber). number_refusal r.number)) (c.deref-2.ensures.value ∙ sym c.deref.ensures.value) ∙ sym c.first_refusal.ensures ∙ c.in_default-first_refusal.is in
    query_told c.args.from (map argument_of c.args.arguments.now) c.args.stage.now words c.args.replies.now c.push.new.self c.deref-2.result.now read free
    (c.in_ok-push.ensures.ok ∙ ap (λ (m : MessageShape). c.args.replies.now ++ (record { to = Client c.args.from; message = m }) ∷ []) c.in_ok-message.ensures.message)
