use Rattle.std.proofs.Common.{map, arith}
use Rattle.std.proofs.lemmas.List.{length-map}
use Rattle.sn_osc.specs.Shape.{argument_of}
use Rattle.sn_buscmd.proofs.SampleAnswerLemmas.{few-get}
use Rattle.sn_buscmd.proofs.sample_questions.run_get_samples.Goals as goal

pub run_sample_question-requires-clause-few : goal.run_sample_question-requires-clause-few
run_sample_question-requires-clause-few g c =
    let args = c.args.arguments.now in
    few-get (map argument_of args) (omega (arith, c.requires.few, length-map args argument_of))
