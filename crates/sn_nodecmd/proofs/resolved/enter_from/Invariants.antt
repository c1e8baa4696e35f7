use Rattle.std.proofs.Common.{◌≡◌, ◌-◌, length}
use Rattle.sn_nodecmd.specs.Runs.{values_of}
use Rattle.sn_nodecmd.specs.Resolving.{entered_from}
use Rattle.sn_nodecmd.proofs.resolved.enter_from.Given as goal

abbrev pub invariant-loop-place : goal.invariant-loop-place
invariant-loop-place l = entered_from l.place (values_of l.left) l.last ≡ entered_from l.first (values_of l.fn.values) l.fn.last

abbrev pub decreases-loop-place : goal.decreases-loop-place
decreases-loop-place l = length l.last - l.place
