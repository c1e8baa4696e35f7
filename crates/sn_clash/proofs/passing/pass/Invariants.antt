-- The nodes that are left make of what was passed what all nodes make of nothing.
use Rattle.std.proofs.Common.{◌≡◌, ◌-◌, length, map, take}
use Rattle.sn_foot.specs.Footprints.{is_there}
use Rattle.sn_clash.specs.Passing.{nothing, pass, passed_of}
use Rattle.sn_clash.specs.Rows.{row_of}
use Rattle.sn_clash.proofs.passing.pass.Given as goal

abbrev pub invariant-loop-back : goal.invariant-loop-back
invariant-loop-back l =
    pass (is_there l.buffers) (map row_of (take (length l.nodes - l.back) l.nodes)) (passed_of (is_there l.buffers) l.passed.items l.found.items)
    ≡ pass (is_there l.buffers) (map row_of l.nodes) nothing
