-- What an ordered map of entries means.
use Rattle.std.specs.Prelude.{map}
use Rattle.sn_osc.specs.Shape.{message_of}
use Rattle.sn_queue.specs.declared.entry.Entry.{Entry}
use Rattle.sn_queue.specs.declared.entry.Rank.{Rank}
use Rattle.sn_queue.specs.declared.entry.Batch.{Batch}
use Rattle.sn_queue.specs.declared.queue.Queue.TheInside.{Inside}
use Rattle.sn_queue.specs.Waiting.{Waiting, WaitingList, IsInOrder}

abbrev pub waiting_of : Entry → Waiting
waiting_of e = record { key = e.key; number = e.number; from = e.from; messages = map message_of e.messages }

abbrev pub waiting_at : Rank × Batch → Waiting
waiting_at e = record { key = e.0.key; number = e.0.number; from = e.1.from; messages = map message_of e.1.messages }

abbrev pub meaning : Inside → WaitingList
meaning q = record { base = q.clock.base; rate = q.clock.rate; limit = q.limit; puts = q.puts; waiting = map waiting_at q.waiting.entries }

abbrev pub IsKept : Inside → Type 0
IsKept q = IsInOrder (meaning q)
