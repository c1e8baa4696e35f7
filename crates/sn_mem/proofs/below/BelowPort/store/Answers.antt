use Rattle.std.proofs.Common.{◌≡◌, ℕ, ◌∙◌, List, ap}
use Rattle.std.specs.Prelude.{drop}
use Rattle.std.proofs.lemmas.List.{drop-set-lt}
use Rattle.sn_mem.specs.declared.extents.Foot.{Foot}
use Rattle.sn_mem.specs.Under.{written_below}
use Rattle.sn_mem.proofs.below.BelowPort.store.Goals as goal

pub store-requires : goal.store-requires
store-requires g c = (written_below c.args.self.now.end (g.P.Port.foot c.args.self.now.port.now) c.args.at c.requires).1

pub returns-clause-rest : goal.returns-clause-rest
returns-clause-rest g c =
    let port = c.args.self.now.port in
    let end : ℕ = c.args.self.now.end in
    let ws = g.P.Port.words port.now in
    let past : drop end (g.P.Port.words c.store.new.self) ≡ drop end ws = ap (drop end) c.store.ensures.changed ∙ drop-set-lt end ws c.args.at c.args.value (written_below end (g.P.Port.foot port.now) c.args.at c.requires).0 in
    let name : ℕ = port.ghost_name in
    let foot : Foot = g.P.Port.foot c.store.new.self in
    let now : List ℕ = drop end (g.P.Port.words c.store.new.self) in
    ap (λ (r : g.row.P-Rest.Denot). record { port = name; end = end; foot = foot; rest = r; past = now }) c.store.ensures.rest
    ∙ ap (λ (f : Foot). record { port = name; end = end; foot = f; rest = g.P.Port.rest port.now; past = now }) c.store.ensures.foot
    ∙ ap (λ (l : List ℕ). record { port = name; end = end; foot = g.P.Port.foot port.now; rest = g.P.Port.rest port.now; past = l }) past
