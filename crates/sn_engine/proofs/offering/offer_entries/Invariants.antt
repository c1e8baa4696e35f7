-- The entries so far were offered.
use Rattle.std.proofs.Common.{◌≡◌, ◌≤◌, ◌+◌, ◌^◌, ◌++◌, List, length, map}
use Rattle.sn_engine.specs.Answerable.{AllAnswerable, AreAnswerable}
use Rattle.sn_engine.specs.Arriving.{offer_entries}
use Rattle.sn_engine.specs.Entries.{Timed}
use Rattle.sn_engine.specs.Stacks.{timed_of}
use Rattle.sn_engine.proofs.offering.offer_entries.Given as goal

abbrev pub invariant-loop-entry : goal.invariant-loop-entry
invariant-loop-entry l = record {
  front : List Timed;
  parts : map timed_of l.fn.entries.items ≡ front ++ map timed_of l.entry-iterator.rest.items;
  offered : offer_entries l.boundary l.from front (record { waiting = l.fn.queue; replies = l.fn.replies; refused = 0 }) ≡ record { waiting = l.queue; replies = l.replies; refused = l.refused };
  left : AreAnswerable (map timed_of l.entry-iterator.rest.items);
  puts : l.queue.puts + length l.entry-iterator.rest.items ≤ 2 ^ 62;
  few : l.refused + length l.entry-iterator.rest.items ≤ length l.fn.entries.items;
  waiting : AllAnswerable l.queue.waiting;
}
