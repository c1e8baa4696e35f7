use Rattle.std.proofs.Common.{◌≡◌, ◌-◌, length, take}
use Rattle.sn_nodecmd.specs.Laying.{laid}
use Rattle.sn_nodecmd.proofs.laying.lay.Given as goal

abbrev pub invariant-loop-place : goal.invariant-loop-place
invariant-loop-place l = l.controls ≡ laid l.field (take l.place l.last) l.fn.controls

abbrev pub decreases-loop-place : goal.decreases-loop-place
decreases-loop-place l = length l.last - l.place
