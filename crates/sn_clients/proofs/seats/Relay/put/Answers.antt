use Rattle.std.proofs.Common.{refl}
use Rattle.crossbeam_queue.specs.Passes.{ruled_capacity, view}
use Rattle.sn_clients.specs.declared.notes.Note.{Note}
use Rattle.sn_clients.proofs.Moves.{inlet_sees, puts}
use Rattle.sn_clients.proofs.seats.Relay.put.Goals as goal

pub push_as-requires-clause-rule : goal.push_as-requires-clause-rule
push_as-requires-clause-rule g c =
    let inlet = c.args.inlet.now in
    let note : Note = record { client = inlet.client; number = inlet.count; frame = c.args.frame } in
    (puts (ruled_capacity c.args.self.now.queue) inlet.pass.id inlet.client inlet.count (view inlet.pass) note inlet.knows refl refl, inlet_sees inlet.pass.id inlet.client inlet.count (view inlet.pass) inlet.knows)
