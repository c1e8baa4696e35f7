use Rattle.std.proofs.Common.{◌≡◌, ◌++◌, ◌∷◌, [], ℤ, List, Some, None, map, sym, subst, ap, ◌∙◌, rules}
use Rattle.std.specs.Prelude.{FitsSigned}
use Rattle.std.specs.Int.{w32}
use Rattle.std.specs.Option.{option_map}
use Rattle.std.proofs.lemmas.Int.{to_z-of_z}
use Rattle.sn_osc.specs.Shape.{int, MessageShape, argument_of, message_of}
use Rattle.sn_mem.specs.declared.buffers.BufferPlace.{BufferPlace}
use Rattle.sn_reply.specs.declared.replies.To.TheVariants.{Client}
use Rattle.sn_mem.specs.Buffers.{samples_of}
use Rattle.sn_world.specs.BufferNumbers.{at_number}
use Rattle.sn_world.specs.BufferSamples.{answers, answered_with, asking}
use Rattle.sn_world.specs.Rows.{first_refusal}
use Rattle.sn_world.specs.World.{turn_of}
use Rattle.sn_buscmd.specs.SampleCommands.{numbered, AreFew}
use Rattle.sn_buscmd.proofs.SampleRowLemmas.{asked_of, missing, refused, told}
use Rattle.sn_buscmd.proofs.ResamplingLemmas.{may_write}
use Rattle.sn_buscmd.proofs.sample_questions.run_sample_question.Goals as goal

pub returns-in_default-find-clause-row : goal.returns-in_default-find-clause-row
returns-in_default-find-clause-row g c =
    let stage = c.args.stage.now in
    let words = g.P.Port.words c.args.port.now in
    let n : ℤ = c.in-Some.number in
    let fits : FitsSigned w32 n = search rules in
    let same = to_z-of_z w32 n fits in
    let all = c.in-Some.all.items in
    let read : Some (n, all) ≡ numbered g.R.Repeated.read (map argument_of c.args.arguments.now) = ap (option_map (λ p. (p.0, p.1.items))) (sym c.in-Some.is) ∙ c.in_ok-number.ensures in
    asked_of g.R.Repeated.read (asking g.R.Judged.judge g.R.SampleQuestion.answer c.args.address.now c.args.from) (map argument_of c.args.arguments.now) n all (turn_of stage words c.args.replies.now) read
    ∙ missing g.R.Judged.judge n all stage words c.args.replies.now _ (c.in_default-find.ensures ∙ ap (at_number stage.buffers) same)

pub returns-in-Some-first_refusal-clause-row : goal.returns-in-Some-first_refusal-clause-row
returns-in-Some-first_refusal-clause-row g c =
    let stage = c.args.stage.now in
    let words = g.P.Port.words c.args.port.now in
    let n : ℤ = c.in-Some.number in
    let fits : FitsSigned w32 n = search rules in
    let same = to_z-of_z w32 n fits in
    let all = c.in-Some.all.items in
    let read : Some (n, all) ≡ numbered g.R.Repeated.read (map argument_of c.args.arguments.now) = ap (option_map (λ p. (p.0, p.1.items))) (sym c.in-Some.is) ∙ c.in_ok-number.ensures in
    let p : BufferPlace = c.in-Some-find.place in
    let found : Some p ≡ at_number stage.buffers n = c.in-Some-find.ensures ∙ ap (at_number stage.buffers) same in
    let why : first_refusal (g.R.Judged.judge p.extent.len) all ≡ Some c.in-Some-first_refusal.reason = ap (first_refusal (g.R.Judged.judge p.extent.len)) (sym c.deref.ensures.value) ∙ sym c.first_refusal.ensures ∙ c.in-Some-first_refusal.is in
    asked_of g.R.Repeated.read (asking g.R.Judged.judge g.R.SampleQuestion.answer c.args.address.now c.args.from) (map argument_of c.args.arguments.now) n all (turn_of stage words c.args.replies.now) read
    ∙ refused g.R.Judged.judge n all stage words c.args.replies.now p found c.requires.pictures _ c.in-Some-first_refusal.reason why

pub answer_with-requires-clause-foot : goal.answer_with-requires-clause-foot
answer_with-requires-clause-foot g c =
    let stage = c.args.stage.now in
    let words = g.P.Port.words c.args.port.now in
    let n : ℤ = c.in-Some.number in
    let fits : FitsSigned w32 n = search rules in
    let same = to_z-of_z w32 n fits in
    let p : BufferPlace = c.in-Some-find.place in
    let found : Some p ≡ at_number stage.buffers n = c.in-Some-find.ensures ∙ ap (at_number stage.buffers) same in
    may_write stage words n p found c.requires.pictures (g.P.Port.foot c.args.port.now) c.requires.foot

pub answer_with-requires-clause-few : goal.answer_with-requires-clause-few
answer_with-requires-clause-few g c =
    let stage = c.args.stage.now in
    let words = g.P.Port.words c.args.port.now in
    let n : ℤ = c.in-Some.number in
    let fits : FitsSigned w32 n = search rules in
    let same = to_z-of_z w32 n fits in
    let all = c.in-Some.all.items in
    let read : Some (n, all) ≡ numbered g.R.Repeated.read (map argument_of c.args.arguments.now) = ap (option_map (λ p. (p.0, p.1.items))) (sym c.in-Some.is) ∙ c.in_ok-number.ensures in
    let samples : List ℤ = samples_of words c.in-Some-find.place.extent in
    subst (λ (m : ℤ). AreFew (int m ∷ answers g.R.SampleQuestion.answer samples c.deref-2.result.now)) (sym same)
    (subst (λ rs. AreFew (int n ∷ answers g.R.SampleQuestion.answer samples rs)) (sym c.deref-2.ensures.value) (c.requires.few n all samples read))

pub returns-clause-row : goal.returns-clause-row
returns-clause-row g c =
    let stage = c.args.stage.now in
    let words = g.P.Port.words c.args.port.now in
    let n : ℤ = c.in-Some.number in
    let fits : FitsSigned w32 n = search rules in
    let same = to_z-of_z w32 n fits in
    let all = c.in-Some.all.items in
    let read : Some (n, all) ≡ numbered g.R.Repeated.read (map argument_of c.args.arguments.now) = ap (option_map (λ p. (p.0, p.1.items))) (sym c.in-Some.is) ∙ c.in_ok-number.ensures in
    let p : BufferPlace = c.in-Some-find.place in
    let found : Some p ≡ at_number stage.buffers n = c.in-Some-find.ensures ∙ ap (at_number stage.buffers) same in
    let free : first_refusal (g.R.Judged.judge p.extent.len) all ≡ None = ap (first_refusal (g.R.Judged.judge p.extent.len)) (sym c.deref.ensures.value) ∙ sym c.first_refusal.ensures ∙ c.in_default-first_refusal.is in
    let samples : List ℤ = samples_of words p.extent in
    let message : MessageShape = answered_with c.args.address.now n (answers g.R.SampleQuestion.answer samples all) in
    let says : message_of c.in_ok-message.message ≡ message =
    c.in_ok-message.ensures.message
    ∙ ap (λ (m : ℤ). answered_with c.args.address.now m (answers g.R.SampleQuestion.answer samples c.deref-2.result.now)) same
    ∙ ap (λ rs. answered_with c.args.address.now n (answers g.R.SampleQuestion.answer samples rs)) c.deref-2.ensures.value in
    asked_of g.R.Repeated.read (asking g.R.Judged.judge g.R.SampleQuestion.answer c.args.address.now c.args.from) (map argument_of c.args.arguments.now) n all (turn_of stage words c.args.replies.now) read
    ∙ told g.R.Judged.judge n all stage words c.args.replies.now p found c.requires.pictures g.R.SampleQuestion.answer c.args.address.now c.args.from c.push.new.self free
    (c.in_ok-push.ensures.ok ∙ ap (λ (m : MessageShape). c.args.replies.now ++ (record { to = Client c.args.from; message = m }) ∷ []) says)
