use Rattle.std.proofs.Common.{◌≡◌, ◌-◌, length}
use Rattle.sn_nodecmd.specs.Runs.{values_of}
use Rattle.sn_nodecmd.specs.Laying.{laid_from}
use Rattle.sn_nodecmd.proofs.laying.lay_from.Given as goal

abbrev pub invariant-loop-place : goal.invariant-loop-place
invariant-loop-place l = laid_from l.field l.place (values_of l.left) l.controls ≡ laid_from l.field l.first (values_of l.fn.values) l.fn.controls

abbrev pub decreases-loop-place : goal.decreases-loop-place
decreases-loop-place l = length l.controls - l.place
