use Rattle.std.proofs.Common.{◌≡◌, ◌++◌, map, drop}
use Rattle.sn_nodecmd.specs.Runs.{run_of}
use Rattle.sn_nodecmd.specs.Mapped.{mapping_of, run_for}
use Rattle.sn_nodecmd.proofs.mappings.runs_for.Given as goal

abbrev pub invariant-loop-mapping : goal.invariant-loop-mapping
invariant-loop-mapping l = map run_of l.runs.items ++ map run_for (map mapping_of (drop l.mapping-index l.mappings)) ≡ map run_for (map mapping_of l.mappings)
