use Rattle.std.proofs.Common.{◌≡◌, ℕ, ◌∙◌, true, List, length, length-set, set, ap, sym, subst}
use Rattle.sn_mem.specs.declared.extents.Foot.{Foot}
use Rattle.sn_mem.specs.Words.{writes}
use Rattle.sn_mem.specs.Lanes.{exchanged, foot_through}
use Rattle.sn_mem.specs.Through.{written_through}
use Rattle.sn_mem.proofs.LaneWords.{exchanged_set, rooms}
use Rattle.sn_mem.proofs.lanes.LanePortPort.store.Goals as goal

pub place_in-requires : goal.place_in-requires
place_in-requires g c =
    let port = c.args.self.now.port.now in
    let ws = g.P.Port.words port in
    let ms = c.args.self.now.moves.now in
    rooms (length ws) ms (written_through ms (length ws) (g.P.Port.foot port) c.args.at c.requires).1.0

pub store-requires : goal.store-requires
store-requires g c =
    let port = c.args.self.now.port.now in
    let f = g.P.Port.foot port in
    subst (λ (x : ℕ). writes f x ≡ true) (sym c.place_in.ensures) (written_through c.args.self.now.moves.now (length (g.P.Port.words port)) f c.args.at c.requires).1.1

pub returns-clause-changed : goal.returns-clause-changed
returns-clause-changed g c =
    let port = c.args.self.now.port.now in
    let ws = g.P.Port.words port in
    let ms = c.args.self.now.moves.now in
    let w = written_through ms (length ws) (g.P.Port.foot port) c.args.at c.requires in
    ap (exchanged ms) c.store.ensures.changed
    ∙ ap (λ (x : ℕ). exchanged ms (set ws x c.args.value)) c.place_in.ensures
    ∙ exchanged_set ms ws c.args.at c.args.value w.1.0 w.0

pub returns-clause-foot : goal.returns-clause-foot
returns-clause-foot g c =
    let port = c.args.self.now.port.now in
    let ws = g.P.Port.words port in
    let ms = c.args.self.now.moves.now in
    let long : length (g.P.Port.words c.store.new.self) ≡ length ws = ap (λ (us : List ℕ). length us) c.store.ensures.changed ∙ length-set ws c.place_in.result c.args.value in
    ap (λ (n : ℕ). foot_through ms n (g.P.Port.foot c.store.new.self)) long ∙ ap (λ (f : Foot). foot_through ms (length ws) f) c.store.ensures.foot
