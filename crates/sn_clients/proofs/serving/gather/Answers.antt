use Rattle.std.proofs.Common.{◌≡◌, ◌∙◌, true, refl, subst, sym}
use Rattle.sn_clients.specs.declared.seats.Inlet.{Inlet}
use Rattle.sn_clients.specs.Answers.{IsInletOf, end_of, has_found, has_stopped, sender_of}
use Rattle.sn_clients.specs.Clients.{Seated}
use Rattle.sn_clients.proofs.ServingLemmas.{fronts_more}
use Rattle.sn_clients.specs.Delivery.{AreFronts}
use Rattle.sn_clients.proofs.serving.gather.Goals as goal

pub returns-clause-gathered : goal.returns-clause-gathered
returns-clause-gathered g c =
    let inlet = c.in-Some.inlet in
    let is = sym c.leave.ensures.inlet ∙ c.in-Some.is in
    let seat = subst (Seated (λ (i : Inlet). IsInletOf c.args.relay.now i × ((sender_of i).client ≡ c.args._number))) is c.requires.inlet in
    let stopped = has_stopped c.args.outlet.now in (
      sender_of inlet,
      record {
        inlet = subst (Seated (λ (i : Inlet). (sender_of i ≡ sender_of inlet) × (has_found i ≡ true → stopped ≡ true))) (sym is) (refl, c.gather.ensures.found);
        client = seat.1;
        left = c.leave.ensures.rest;
      },
      c.gather.ensures.end,
    )

pub returns-clause-fronts : goal.returns-clause-fronts
returns-clause-fronts g c = λ all. subst AreFronts (sym c.gather.ensures.end) (fronts_more (end_of c.args.outlet.now) (sender_of c.in-Some.inlet) all c.gather.ensures.front)
