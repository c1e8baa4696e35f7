-- What was put, and what the synths that are left put.
use Rattle.std.proofs.Common.{◌≡◌, ◌++◌, drop, map}
use Rattle.sn_graph.specs.Voices.{all_reads}
use Rattle.sn_graph.proofs.jobs.all_reads.Given as goal

abbrev pub invariant-loop-voice : goal.invariant-loop-voice
invariant-loop-voice l = l.extents.items ++ all_reads (map (λ v. v.now) (drop l.voice-index l.run)) ≡ all_reads (map (λ v. v.now) l.run)
