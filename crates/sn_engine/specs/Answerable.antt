-- Entries whose messages can be answered.
use Rattle.std.specs.Prelude.{List}
use Rattle.std.specs.List.{AllByRecursion}
use Rattle.sn_queue.specs.Waiting.{Waiting}
use Rattle.sn_reply.specs.Sending.{IsAnswerable}
use Rattle.sn_engine.specs.Entries.{Timed}

abbrev pub AllAnswerable : List Waiting → Type 0
AllAnswerable ws = AllByRecursion (λ w. AllByRecursion IsAnswerable w.messages) ws

abbrev pub AreAnswerable : List Timed → Type 0
AreAnswerable es = AllByRecursion (λ e. AllByRecursion IsAnswerable e.messages) es
