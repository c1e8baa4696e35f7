-- How many connections the words of a session choose.
use Rattle.std.proofs.Common.{◌≤◌, ℕ, IsTrue, arith}
use Rattle.std.proofs.lemmas.Bool.Decides.{nat_tests}
use Rattle.sn_ports.specs.Limits.{most_clients}
use Rattle.sn_pcm.specs.Allowed.{is_within}

pub clients_fit : (clients : ℕ) → IsTrue (is_within 1 most_clients clients) → (1 ≤ clients) × (clients ≤ most_clients)
clients_fit clients h = (grind (arith, nat_tests), grind (arith, nat_tests))
