-- What was taken, and what is left to be taken, is all.
use Rattle.std.proofs.Common.{◌≡◌, Bool, drop, length, take}
use Rattle.sn_foot.specs.declared.resource.Resource.{Resource}
use Rattle.sn_foot.specs.Uses.{footprint_in}
use Rattle.sn_clash.specs.Passing.{gathered, members_of}
use Rattle.sn_clash.proofs.gathering.gather.Given as goal

abbrev pub invariant-loop-passed : goal.invariant-loop-passed
invariant-loop-passed l = record {
  uses : (there : Resource → Bool) → gathered (footprint_in there l.uses.items) (members_of there (drop l.kept l.passed.items)) ≡ gathered (footprint_in there l.fn.uses.items) (members_of there (drop l.kept l.fn.passed.items));
  left : take l.kept l.passed.items ≡ take l.kept l.fn.passed.items;
}

abbrev pub decreases-loop-passed : goal.decreases-loop-passed
decreases-loop-passed l = length l.passed.items
