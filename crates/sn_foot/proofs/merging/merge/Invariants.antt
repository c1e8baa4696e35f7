-- What is done, and what the last extent and the rest make.
use Rattle.std.proofs.Common.{◌≡◌, ◌++◌, drop}
use Rattle.std.specs.List.{All}
use Rattle.sn_foot.specs.Canonical.{AreRising, Ends, merged, nothing}
use Rattle.sn_foot.proofs.merging.merge.Given as goal

abbrev pub invariant-loop-extent : goal.invariant-loop-extent
invariant-loop-extent l = record {
  merged : l.found ++ merged l.last (drop l.extent-index l.extents) ≡ merged nothing l.extents;
  order : AreRising l.last.at (drop l.extent-index l.extents);
  ends : All Ends (drop l.extent-index l.extents);
  last : Ends l.last;
}
