use Rattle.std.proofs.Common.{◌≡◌, ◌-◌, ◌*◌, length}
use Rattle.sn_mem.specs.Buffers.{samples_of}
use Rattle.sn_world.specs.BufferNumbers.{set_from}
use Rattle.sn_world.specs.BufferReading.{ints_in}
use Rattle.sn_buscmd.specs.Samples.{KeepsAround}
use Rattle.sn_buscmd.proofs.buffer_holding.set_all.Given as goal

abbrev pub invariant-loop-index : goal.invariant-loop-index
invariant-loop-index g l = record {
  left : set_from l.index (ints_in (l.words.len - l.index) l.rest) (samples_of (g.P.Port.words l.port) l.words) ≡ set_from 0 (ints_in l.words.len l.bytes) (samples_of (g.P.Port.words l.fn.port) l.words);
  whole : length l.rest ≡ 4 * (l.words.len - l.index);
  others : KeepsAround l.words (g.P.Port.words l.fn.port) (g.P.Port.words l.port);
  foot : g.P.Port.foot l.port ≡ g.P.Port.foot l.fn.port;
  rest : g.P.Port.rest l.port ≡ g.P.Port.rest l.fn.port;
}
