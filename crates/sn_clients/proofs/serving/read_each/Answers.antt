use Rattle.std.proofs.Common.{◌≡◌, ◌∙◌, ◌<◌, ℕ, List, ap, length, subst, sym, rules}
use Rattle.std.specs.Prelude.{slice_index_or}
use Rattle.std.specs.Vec.{with_items}
use Rattle.std.proofs.lemmas.List.{with_items_is, places}
use Rattle.sn_clients.specs.declared.clients.Client.{Client}
use Rattle.sn_clients.specs.Clients.{IsRead}
use Rattle.sn_clients.proofs.serving.read_each.Goals as goal

pub returns-clause-read : goal.returns-clause-read
returns-clause-read g c = λ k d inside.
    let old = c.args.clients.now in
    let now = c.read_clients.new.clients in
    let is : (with_items old now).items ≡ now = with_items_is old now (search (rules, places)) in
    let first : c.as_mut_slice.result.now ≡ old.items = search rules in
    subst (λ (p : List (Client g.row.S.Denot) × List (Client g.row.S.Denot)). IsRead c.args.relay.now g.S.Source.left g.S.Source.faults k (slice_index_or p.0 k d) (slice_index_or p.1 k d)) (λ i. (first i, sym is i))
    (c.read_clients.ensures.read k d (subst (λ (l : List (Client g.row.S.Denot)). k < length l) (sym first) inside))

pub returns-clause-count : goal.returns-clause-count
returns-clause-count g c =
    let old = c.args.clients.now in
    let now = c.read_clients.new.clients in
    let is : (with_items old now).items ≡ now = with_items_is old now (search (rules, places)) in
    let first : c.as_mut_slice.result.now ≡ old.items = search rules in
    ap length is ∙ c.read_clients.ensures.count ∙ ap length first
