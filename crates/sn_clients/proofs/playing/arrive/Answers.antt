use Rattle.std.proofs.Common.{◌≤◌, ℕ, List, length, subst, arith}
use Rattle.sn_ports.specs.Limits.{most_packet}
use Rattle.sn_osc.specs.Grammar.{Spells}
use Rattle.sn_osc.specs.Shape.{shape}
use Rattle.sn_clients.proofs.LoopLemmas.{entries_at_most, packet_puts}
use Rattle.sn_clients.proofs.playing.arrive.Goals as goal

pub offer-requires-clause-puts : goal.offer-requires-clause-puts
offer-requires-clause-puts c =
    let found = c.in-Ok.ensures.found in
    let spelled = subst (Spells (shape c.in-Ok.packet)) c.as_slice.ensures found.1 in
    let few = subst (λ (bytes : List ℕ). length bytes ≤ most_packet) c.as_slice.ensures found.0 in
    omega (arith, c.requires.puts, entries_at_most (shape c.in-Ok.packet) c.args.note.now.frame.bytes spelled few)

pub returns-in_ok-offer-in-Ok-clause-puts : goal.returns-in_ok-offer-in-Ok-clause-puts
returns-in_ok-offer-in-Ok-clause-puts c =
    let found = c.in-Ok.ensures.found in
    let spelled = subst (Spells (shape c.in-Ok.packet)) c.as_slice.ensures found.1 in
    let few = subst (λ (bytes : List ℕ). length bytes ≤ most_packet) c.as_slice.ensures found.0 in
    packet_puts c.args.note.now.client (shape c.in-Ok.packet) c.args.note.now.frame.bytes c.args.engine.now.running c.offer.new.self.running spelled few c.in_ok-offer-in-Ok.ensures.ok
