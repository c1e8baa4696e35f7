use Rattle.std.proofs.Common.{◌≡◌, ◌<◌, ◌^◌, ◌++◌, drop, length, None}
use Rattle.sn_mem.specs.Buffers.{samples_of}
use Rattle.sn_world.specs.BufferSamples.{answers}
use Rattle.sn_world.specs.Rows.{first_refusal}
use Rattle.sn_buscmd.proofs.sample_questions.push_answers.Given as goal

abbrev pub invariant-loop-repetition : goal.invariant-loop-repetition
invariant-loop-repetition g l = record {
  free : first_refusal (g.R.Judged.judge l.words.len) (drop l.repetition-index l.all) ≡ None;
  few : length (answers g.R.SampleQuestion.answer (samples_of (g.P.Port.words l.fn.port) l.words) (drop l.repetition-index l.all)) < 2 ^ 31;
  left : l.found ++ answers g.R.SampleQuestion.answer (samples_of (g.P.Port.words l.fn.port) l.words) (drop l.repetition-index l.all) ≡ l.fn.found ++ answers g.R.SampleQuestion.answer (samples_of (g.P.Port.words l.fn.port) l.words) l.all;
  words : g.P.Port.words l.port ≡ g.P.Port.words l.fn.port;
  foot : g.P.Port.foot l.port ≡ g.P.Port.foot l.fn.port;
  rest : g.P.Port.rest l.port ≡ g.P.Port.rest l.fn.port;
}
