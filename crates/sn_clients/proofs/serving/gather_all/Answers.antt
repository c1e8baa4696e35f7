use Rattle.std.proofs.Common.{◌∙◌, ◌<◌, Bool, ap, le_refl, length, refl, subst, sym, arith}
use Rattle.std.specs.Prelude.{slice_index_or}
use Rattle.sn_clients.specs.Answers.{end_of, has_stopped}
use Rattle.sn_clients.specs.Ends.{clients_in, gathered_in, taken_in}
use Rattle.sn_clients.specs.Seating.{IsGathered, IsSeatOf}
use Rattle.sn_clients.proofs.ClientLemmas.{next_gathered, none_gathered}
use Rattle.sn_clients.proofs.ServingLemmas.{fronts_none}
use Rattle.sn_clients.proofs.serving.gather_all.Goals as goal

pub loop-at-init : goal.loop-at-init
loop-at-init g c =
    let e = end_of c.args.outlet.now in
    record { outlet = c.requires.outlet; gathered = none_gathered (has_stopped c.args.outlet.now) c.args.clients.now (gathered_in e) c.requires.none; fronts = fronts_none e c.requires.none; taken = refl; clients = refl; stopped = refl }

pub bounds-clients-at : goal.bounds-clients-at
bounds-clients-at g c = omega (arith, c.loop-at-test.true, c.loop-at.invariant.gathered.count)

pub gather-requires-clause-inlet : goal.gather-requires-clause-inlet
gather-requires-clause-inlet g c =
    let l = c.loop-at in
    let was = c.index-clients-at.result in
    subst (IsSeatOf c.args.relay.now l.at) (sym (l.invariant.gathered.rest l.at was (le_refl l.at))) (c.requires.inlets l.at was (omega (arith, c.loop-at-test.true)))

pub loop-at-preserved : goal.loop-at-preserved
loop-at-preserved g c =
    let l = c.loop-at in
    let i = l.invariant in
    let was = c.index-clients-at.result in
    let n = c.gather.new in
    let (sender, one, end) = c.gather.ensures.gathered in
    let same = subst (λ (stopped : Bool). IsGathered stopped l.at (slice_index_or l.clients l.at was) n.client sender) i.stopped one in
    record {
      outlet = c.gather.ensures.outlet;
      gathered = next_gathered (has_stopped c.args.outlet.now) c.args.clients.now l.clients _ (gathered_in (end_of l.outlet)) (gathered_in (end_of n.outlet)) l.at was n.client sender i.gathered (omega (arith, c.loop-at-test.true)) refl (ap gathered_in end) same;
      fronts = c.gather.ensures.fronts i.fronts;
      taken = ap taken_in end ∙ i.taken;
      clients = ap clients_in end ∙ i.clients;
      stopped = c.gather.ensures.stopped ∙ i.stopped;
    }

pub returns-clause-gathered : goal.returns-clause-gathered
returns-clause-gathered g c = λ k d s inside.
    let l = c.loop-at in
    let i = l.invariant in
    let within : k < l.at = omega (arith, inside, c.loop-at-test.false, l.auto) in
    subst (λ (stopped : Bool). IsGathered stopped k (slice_index_or c.args.clients.now k d) (slice_index_or l.clients k d) (slice_index_or (gathered_in (end_of l.outlet)) k s)) (sym i.stopped) (i.gathered.gathered k d s within)

pub returns-clause-senders : goal.returns-clause-senders
returns-clause-senders g c = omega (arith, c.loop-at.invariant.gathered.many, c.loop-at-test.false, c.loop-at.auto)

pub returns-clause-count : goal.returns-clause-count
returns-clause-count g c = c.loop-at.invariant.gathered.count
