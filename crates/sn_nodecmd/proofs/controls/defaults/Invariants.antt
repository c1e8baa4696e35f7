use Rattle.std.proofs.Common.{◌≡◌, ◌++◌, map, drop}
use Rattle.sn_nodecmd.proofs.ControlLemmas.{default_in}
use Rattle.sn_nodecmd.proofs.controls.defaults.Given as goal

abbrev pub invariant-loop-param : goal.invariant-loop-param
invariant-loop-param l = l.controls.items ++ map default_in (drop l.param-index l.param-items) ≡ map default_in l.param-items
