use Rattle.std.proofs.Common.{◌≡◌, ℕ, ◌∙◌, true, length, ap, sym, subst}
use Rattle.std.specs.Prelude.{slice_index}
use Rattle.sn_mem.specs.Words.{touches}
use Rattle.sn_mem.specs.Through.{touched_through}
use Rattle.sn_mem.proofs.LaneWords.{exchanged_at, rooms}
use Rattle.sn_mem.proofs.lanes.LanePortPort.load.Goals as goal

pub place_in-requires : goal.place_in-requires
place_in-requires g c =
    let port = c.args.self.now.port.now in
    let ws = g.P.Port.words port in
    let ms = c.args.self.now.moves.now in
    rooms (length ws) ms (touched_through ms (length ws) (g.P.Port.foot port) c.args.at c.requires).1.0

pub load-requires : goal.load-requires
load-requires g c =
    let port = c.args.self.now.port.now in
    let f = g.P.Port.foot port in
    subst (λ (x : ℕ). touches f x ≡ true) (sym c.place_in.ensures) (touched_through c.args.self.now.moves.now (length (g.P.Port.words port)) f c.args.at c.requires).1.1

pub returns-clause-word : goal.returns-clause-word
returns-clause-word g c =
    let port = c.args.self.now.port.now in
    let ws = g.P.Port.words port in
    let ms = c.args.self.now.moves.now in
    c.load.ensures.word ∙ ap (λ (x : ℕ). slice_index ws x) c.place_in.ensures ∙ sym (exchanged_at ms ws c.args.at (touched_through ms (length ws) (g.P.Port.foot port) c.args.at c.requires).0)
