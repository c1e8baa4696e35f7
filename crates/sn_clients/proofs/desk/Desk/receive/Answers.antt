use Rattle.std.proofs.Common.{◌≡◌, ◌∙◌, ◌++◌, ◌∷◌, [], List, ap, refl, subst, sym}
use Rattle.sn_clients.specs.declared.ends.End.{End}
use Rattle.sn_clients.specs.declared.turns.Turn.{Turn}
use Rattle.sn_clients.specs.declared.turns.Turn.TheVariants.{Frame}
use Rattle.sn_clients.specs.Answers.{end_of}
use Rattle.sn_clients.specs.Delivery.{AllWereTaken}
use Rattle.sn_clients.proofs.LoopLemmas.{inlets_stay, inlets_taken, received_err, same_inlets}
use Rattle.sn_clients.proofs.desk.Desk.receive.Goals as goal

pub returns-in_err-make_room-clause-received : goal.returns-in_err-make_room-clause-received
returns-in_err-make_room-clause-received g c = received_err _ c.args.self.now _ c.from_residual.result c.from_residual.ensures.1 (record { engine = refl; failed = refl; turns = c.make_room.ensures.same; end = refl })

pub returns-in-None-clause-received : goal.returns-in-None-clause-received
returns-in-None-clause-received g c =
    (record { engine = refl; failed = refl; turns = c.make_room.ensures.same; end = c.in-None.ensures.same }, subst AllWereTaken (sym c.in-None.ensures.same) c.in-None.ensures.empty)

pub returns-in-Some-clause-received : goal.returns-in-Some-clause-received
returns-in-Some-clause-received g c = record {
  engine = refl;
  failed = refl;
  turns = c.put_turn.ensures ∙ ap (λ (ts : List Turn). ts ++ Frame c.in-Some.note.client ∷ []) c.make_room.ensures.same;
  end = c.in-Some.ensures.taken;
}

pub returns-in_err-make_room-clause-inlets : goal.returns-in_err-make_room-clause-inlets
returns-in_err-make_room-clause-inlets g c = same_inlets (end_of c.args.self.now.outlet)

pub returns-in-None-clause-inlets : goal.returns-in-None-clause-inlets
returns-in-None-clause-inlets g c = inlets_stay (end_of c.args.self.now.outlet) (end_of c.take.new.outlet) c.in-None.ensures.same

pub returns-in-Some-clause-inlets : goal.returns-in-Some-clause-inlets
returns-in-Some-clause-inlets g c = inlets_taken (end_of c.args.self.now.outlet) (end_of c.take.new.outlet) c.in-Some.note c.in-Some.ensures.taken
