use Rattle.std.proofs.Common.{◌≡◌, ◌++◌, ◌-◌}
use Rattle.sn_mem.specs.Buffers.{samples_of}
use Rattle.sn_world.specs.BufferSamples.{values_from}
use Rattle.sn_buscmd.proofs.sample_questions.push_samples.Given as goal

abbrev pub invariant-loop-index : goal.invariant-loop-index
invariant-loop-index g l = record {
  left : l.found ++ values_from (samples_of (g.P.Port.words l.fn.port) l.words) l.index (l.end - l.index) ≡ l.fn.found ++ values_from (samples_of (g.P.Port.words l.fn.port) l.words) l.first (l.end - l.first);
  words : g.P.Port.words l.port ≡ g.P.Port.words l.fn.port;
  foot : g.P.Port.foot l.port ≡ g.P.Port.foot l.fn.port;
  rest : g.P.Port.rest l.port ≡ g.P.Port.rest l.fn.port;
}
