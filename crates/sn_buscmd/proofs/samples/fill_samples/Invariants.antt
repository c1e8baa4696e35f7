use Rattle.std.proofs.Common.{◌≡◌, ◌-◌, replicate}
use Rattle.sn_mem.specs.Buffers.{samples_of}
use Rattle.sn_world.specs.BufferNumbers.{set_from}
use Rattle.sn_buscmd.specs.Samples.{KeepsAround}
use Rattle.sn_buscmd.proofs.samples.fill_samples.Given as goal

abbrev pub invariant-loop-index : goal.invariant-loop-index
invariant-loop-index g l = record {
  left : set_from l.index (replicate (l.end - l.index) l.value) (samples_of (g.P.Port.words l.port) l.words) ≡ set_from l.first (replicate (l.end - l.first) l.value) (samples_of (g.P.Port.words l.fn.port) l.words);
  others : KeepsAround l.words (g.P.Port.words l.fn.port) (g.P.Port.words l.port);
  foot : g.P.Port.foot l.port ≡ g.P.Port.foot l.fn.port;
  rest : g.P.Port.rest l.port ≡ g.P.Port.rest l.fn.port;
}
