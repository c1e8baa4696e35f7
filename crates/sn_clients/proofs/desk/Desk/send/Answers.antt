use Rattle.std.proofs.Common.{◌≡◌, Bool, List, subst, sym, rules}
use Rattle.std.specs.Vec.{with_items}
use Rattle.std.proofs.lemmas.List.{with_items_is, places}
use Rattle.sn_clients.specs.Written.{AllSend}
use Rattle.sn_clients.proofs.desk.Desk.send.Goals as goal

pub returns-clause-sent : goal.returns-clause-sent
returns-clause-sent g c =
    let old = c.args.self.now.failed in
    let now : List Bool = c.send_all.new.failed in
    let is : (with_items old now).items ≡ now = with_items_is old now (search (rules, places)) in
    let first : c.deref_mut.result.now ≡ old.items = search rules in
    subst (λ (p : List Bool × List Bool). AllSend g.R.Sink.taken g.R.Sink.faults c.args.sinks.now c.send_all.new.sinks p.0 p.1 c.args.self.now.engine.running.replies) (λ i. (first i, sym is i)) c.send_all.ensures.sent
