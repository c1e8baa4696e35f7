-- What was put, and what is left to be put.
use Rattle.std.proofs.Common.{◌≡◌, drop, length}
use Rattle.sn_round.specs.Inverting.{put_in_each}
use Rattle.sn_round.proofs.successors.put_in_each.Given as goal

abbrev pub invariant-loop-predecessor : goal.invariant-loop-predecessor
invariant-loop-predecessor l = record {
  long : length l.lists.items ≡ length l.fn.lists.items;
  left : put_in_each l.job (drop l.predecessor-index l.before) l.lists.items ≡ put_in_each l.job l.before l.fn.lists.items;
}
