use Rattle.std.proofs.Common.{◌≡◌, drop}
use Rattle.sn_mem.specs.Buffers.{samples_of}
use Rattle.sn_world.specs.BufferSamples.{change_all}
use Rattle.sn_buscmd.specs.Fills.{fill_samples}
use Rattle.sn_buscmd.specs.Samples.{KeepsAround}
use Rattle.sn_buscmd.proofs.sample_changes.fill_each.Given as goal

abbrev pub invariant-loop-fill : goal.invariant-loop-fill
invariant-loop-fill g l = record {
  left : change_all fill_samples (drop l.fill-index l.fills) (samples_of (g.P.Port.words l.port) l.words) ≡ change_all fill_samples l.fills (samples_of (g.P.Port.words l.fn.port) l.words);
  others : KeepsAround l.words (g.P.Port.words l.fn.port) (g.P.Port.words l.port);
  foot : g.P.Port.foot l.port ≡ g.P.Port.foot l.fn.port;
  rest : g.P.Port.rest l.port ≡ g.P.Port.rest l.fn.port;
}
