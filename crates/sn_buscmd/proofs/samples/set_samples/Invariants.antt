use Rattle.std.proofs.Common.{◌≡◌, ◌+◌, drop}
use Rattle.sn_mem.specs.Buffers.{samples_of}
use Rattle.sn_world.specs.BufferNumbers.{set_from}
use Rattle.sn_buscmd.specs.Samples.{KeepsAround}
use Rattle.sn_buscmd.proofs.samples.set_samples.Given as goal

abbrev pub invariant-loop-value : goal.invariant-loop-value
invariant-loop-value g l = record {
  at : l.index ≡ l.first + l.value-index;
  left : set_from l.index (drop l.value-index l.values) (samples_of (g.P.Port.words l.port) l.words) ≡ set_from l.first l.values (samples_of (g.P.Port.words l.fn.port) l.words);
  others : KeepsAround l.words (g.P.Port.words l.fn.port) (g.P.Port.words l.port);
  foot : g.P.Port.foot l.port ≡ g.P.Port.foot l.fn.port;
  rest : g.P.Port.rest l.port ≡ g.P.Port.rest l.fn.port;
}
