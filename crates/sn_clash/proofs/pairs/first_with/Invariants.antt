-- The first clash is one with a member that is left.
use Rattle.std.proofs.Common.{◌≡◌, ◌-◌, length, take}
use Rattle.sn_foot.specs.Footprints.{is_there}
use Rattle.sn_clash.specs.Clashing.{clashes_with}
use Rattle.sn_clash.specs.Passing.{member_of, members_of}
use Rattle.sn_clash.proofs.pairs.first_with.Given as goal

abbrev pub invariant-loop-back : goal.invariant-loop-back
invariant-loop-back l =
    take 1 (clashes_with l.group (member_of (is_there l.buffers) l.first) (members_of (is_there l.buffers) (take (length l.later - l.back) l.later)))
    ≡ take 1 (clashes_with l.group (member_of (is_there l.buffers) l.first) (members_of (is_there l.buffers) l.later))
