-- What the controls that are left make of the uses is what all of them made of the first.
use Rattle.std.proofs.Common.{◌≡◌, drop}
use Rattle.sn_foot.specs.Putting.{put_controls}
use Rattle.sn_foot.proofs.using.push_controls.Given as goal

abbrev pub invariant-loop-control : goal.invariant-loop-control
invariant-loop-control l = put_controls (drop l.control-index l.controls) l.uses.items ≡ put_controls l.controls l.fn.uses.items
