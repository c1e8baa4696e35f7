use Rattle.sn_engine.proofs.EntryLemmas.{SortedOut}
use Rattle.sn_engine.proofs.entry.sort_out.Given as goal

abbrev pub invariant-loop-packet : goal.invariant-loop-packet
invariant-loop-packet l = SortedOut l.tag l.yielded l.messages.items l.enclosed.items
