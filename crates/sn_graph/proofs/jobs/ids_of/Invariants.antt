-- What was put, and what the synths that are left put.
use Rattle.std.proofs.Common.{◌≡◌, ◌++◌, drop, map}
use Rattle.sn_graph.specs.Voices.{ids_of}
use Rattle.sn_graph.proofs.jobs.ids_of.Given as goal

abbrev pub invariant-loop-voice : goal.invariant-loop-voice
invariant-loop-voice l = l.ids ++ ids_of (map (λ v. v.now) (drop l.voice-index l.run)) ≡ ids_of (map (λ v. v.now) l.run)
