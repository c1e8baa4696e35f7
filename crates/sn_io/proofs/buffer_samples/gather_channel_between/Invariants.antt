use Rattle.std.proofs.Common.{◌≡◌, take, length, get_or, Some, None}
use Rattle.sn_mem.specs.Blocks.{table}
use Rattle.sn_mem.specs.Buffers.{buffer_of}
use Rattle.sn_io.specs.BufferUnits.{sample_between}
use Rattle.sn_io.proofs.buffer_samples.gather_channel_between.Given as goal

abbrev pub invariant-loop-frame : goal.invariant-loop-frame
invariant-loop-frame g l = record {
  long : length l.samples ≡ 64;
  made : take l.frame l.samples ≡ table (λ k. sample_between (Some (buffer_of (g.P.Port.words l.initial.port) l.place)) (get_or l.points k None) l.channel) l.frame;
  words : g.P.Port.words l.port ≡ g.P.Port.words l.initial.port;
  foot : g.P.Port.foot l.port ≡ g.P.Port.foot l.initial.port;
  rest : g.P.Port.rest l.port ≡ g.P.Port.rest l.initial.port;
}
