use Rattle.std.proofs.Common.{◌<◌, ◌^◌, ℤ, List, pos, nat_abs, refl, ap, arith, rules}
use Rattle.std.specs.Prelude.{FitsSigned}
use Rattle.std.specs.Int.{w32}
use Rattle.std.proofs.lemmas.Int.{ints, to_z-of_z}
use Rattle.sn_mem.specs.Buffers.{samples_of}
use Rattle.sn_buscmd.proofs.SampleAnswerLemmas.{run-short, run-behind}
use Rattle.sn_buscmd.proofs.sample_questions.SampleRunSampleQuestion.push_answer.Goals as goal

pub overflow_cast-self : goal.overflow_cast-self
overflow_cast-self g c =
    let short : c.args.self.now.count < 2 ^ 31 = run-short (samples_of (g.P.Port.words c.args.port.now) c.args.words) c.args.self.now c.requires.few in
    omega (arith, ints, short)

pub returns-clause-answered : goal.returns-clause-answered
returns-clause-answered g c =
    let r = c.args.self.now in
    let samples : List ℤ = samples_of (g.P.Port.words c.args.port.now) c.args.words in
    let short : r.count < 2 ^ 31 = run-short samples r c.requires.few in
    let first_fits : FitsSigned w32 r.first = search rules in
    let count_fits : FitsSigned w32 (pos r.count) = omega (arith, ints, short) in
    let first = to_z-of_z w32 r.first first_fits in
    let count = to_z-of_z w32 (pos r.count) count_fits in
    run-behind c.args.found.now c.push_int.new.self c.push_int-2.new.self c.push_samples.new.found _ _ _ _ r samples first count (ap nat_abs first) refl
    c.in_ok-push_int.ensures.ok c.in_ok-push_int-2.ensures.ok c.in_ok-push_samples.ensures.answered
