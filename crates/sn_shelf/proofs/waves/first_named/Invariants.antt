-- The first of the chunks that are left is the first of all.
use Rattle.std.proofs.Common.{◌≤◌, length}
use Rattle.sn_shelf.proofs.WaveLemmas.{IsPassing}
use Rattle.sn_shelf.proofs.waves.first_named.Given as goal

abbrev pub invariant-loop-rest : goal.invariant-loop-rest
invariant-loop-rest l = record {
  first : IsPassing l.one l.other (length l.chunks) l.chunks l.rest;
  shorter : length l.rest ≤ length l.chunks;
}

abbrev pub decreases-loop-rest : goal.decreases-loop-rest
decreases-loop-rest l = length l.rest
