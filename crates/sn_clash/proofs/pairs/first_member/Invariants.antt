-- Of the members so far, from the last on, the first that clashes with a later one, and what all of them use.
use Rattle.std.proofs.Common.{◌≡◌, ◌≤◌, length, take}
use Rattle.sn_foot.specs.Footprints.{is_there}
use Rattle.sn_clash.specs.Marking.{marked_in}
use Rattle.sn_clash.specs.Passing.{from_first, gathered, members_of, no_use}
use Rattle.sn_clash.proofs.pairs.first_member.Given as goal

abbrev pub invariant-loop-index : goal.invariant-loop-index
invariant-loop-index l = record {
  within : l.first ≤ l.index;
  first : members_of (is_there l.buffers) (take l.first l.members) ≡ from_first (members_of (is_there l.buffers) (take l.index l.members));
  long : length l.later ≡ 3072;
  uses : marked_in (is_there l.buffers) l.later ≡ gathered no_use (members_of (is_there l.buffers) (take l.index l.members));
}
