use Rattle.std.proofs.Common.{◌≡◌, drop, None}
use Rattle.sn_mem.specs.Buffers.{samples_of}
use Rattle.sn_world.specs.BufferSamples.{change_all}
use Rattle.sn_world.specs.Rows.{first_refusal}
use Rattle.sn_buscmd.specs.Samples.{KeepsAround}
use Rattle.sn_buscmd.proofs.sample_changes.change_each.Given as goal

abbrev pub invariant-loop-repetition : goal.invariant-loop-repetition
invariant-loop-repetition g l = record {
  free : first_refusal (g.R.Judged.judge l.words.len) (drop l.repetition-index l.all) ≡ None;
  left : change_all g.R.ShortChange.change (drop l.repetition-index l.all) (samples_of (g.P.Port.words l.port) l.words) ≡ change_all g.R.ShortChange.change l.all (samples_of (g.P.Port.words l.fn.port) l.words);
  others : KeepsAround l.words (g.P.Port.words l.fn.port) (g.P.Port.words l.port);
  foot : g.P.Port.foot l.port ≡ g.P.Port.foot l.fn.port;
  rest : g.P.Port.rest l.port ≡ g.P.Port.rest l.fn.port;
}
