-- What was put, and what the synths that are left put.
use Rattle.std.proofs.Common.{◌≡◌, ◌++◌, drop, map}
use Rattle.sn_graph.specs.Rows.{moves_of}
use Rattle.sn_graph.proofs.jobs.moves_of.Given as goal

abbrev pub invariant-loop-voice : goal.invariant-loop-voice
invariant-loop-voice l = l.moves ++ moves_of (map (λ v. v.now) (drop l.voice-index l.run)) ≡ moves_of (map (λ v. v.now) l.run)
