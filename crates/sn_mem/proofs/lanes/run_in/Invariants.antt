-- The moves that are left say where the words stand.
use Rattle.std.proofs.Common.{◌≡◌, ◌<◌, ◌+◌, ℕ, drop}
use Rattle.sn_mem.specs.Lanes.{place_in}
use Rattle.sn_mem.proofs.lanes.run_in.Given as goal

abbrev pub invariant-loop-moved : goal.invariant-loop-moved
invariant-loop-moved l = (i : ℕ) → i < l.run.len → place_in (drop l.moved-index l.moves) (l.run.at + i) ≡ place_in l.moves (l.run.at + i)
