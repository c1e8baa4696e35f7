-- As many connections were taken as the loop has run.
use Rattle.std.proofs.Common.{◌≡◌, length}
use Rattle.snova.proofs.several.accept_all.Given as goal

abbrev pub invariant-loop : goal.invariant-loop
invariant-loop l = record { clients : length l.clients.items ≡ l.counter; sinks : length l.sinks.items ≡ l.counter }
