use Rattle.std.proofs.Common.{◌≡◌, List, subst, sym, rules}
use Rattle.std.specs.Vec.{with_items}
use Rattle.std.proofs.lemmas.List.{with_items_is, places}
use Rattle.sn_clients.specs.Looping.{HasPlayed}
use Rattle.sn_clients.proofs.serving.play_each.Goals as goal

pub returns : goal.returns
returns g c =
    let old = c.args.sinks.now in
    let n = c.play.new in
    let is : (with_items old n.sinks).items ≡ n.sinks = with_items_is old n.sinks (search (rules, places)) in
    let first : c.as_mut_slice.result.now ≡ old.items = search rules in
    subst (λ (p : List g.row.R.Denot × List g.row.R.Denot). HasPlayed g.R.Sink.taken g.R.Sink.faults g.O.Sink.taken g.O.Sink.faults g.T.Pulse.left g.T.Pulse.zeros c.args.relay.now c.args.most c.args.desk.now n.self p.0 p.1 c.args.sound.now n.sound c.args.pulse.now n.pulse c.play.result)
    (λ i. (first i, sym is i)) c.play.ensures
