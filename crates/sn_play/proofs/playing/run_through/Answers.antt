use Rattle.std.proofs.Common.{◌≡◌, ◌∙◌, ◌∷◌, [], ℕ, ℤ, List, w32, length, ap, sym, subst, rules}
use Rattle.std.proofs.lemmas.Bool.{cond-true}
use Rattle.std.proofs.lemmas.Int.{to_z-of_z}
use Rattle.sn_mem.specs.declared.extents.Foot.{Foot}
use Rattle.sn_mem.specs.declared.lanes.LaneRest.{LaneRest}
use Rattle.sn_mem.specs.declared.moves.Moved.{Moved}
use Rattle.sn_mem.specs.Lanes.{are_moves, exchanged, foot_through, through}
use Rattle.sn_io.proofs.Exchanging.{runs_through}
use Rattle.sn_play.specs.Named.{CanRun, held_at, words_by_ids}
use Rattle.sn_play.proofs.playing.run_through.Goals as goal

pub run_node-requires-clause-held : goal.run_node-requires-clause-held
run_node-requires-clause-held g c =
    let l = c.new-lanes.result in
    let stage = c.args.stage.now in
    let port = c.args.port.now in
    let h = held_at stage c.args.node in
    subst (λ (z : ℤ). CanRun stage (foot_through l.moves.now (length (g.P.Port.words l.port.now)) (g.P.Port.foot l.port.now)) (held_at stage z)) (sym (to_z-of_z w32 c.args.node c.ranges.node))
    (subst (λ (ms : List Moved). CanRun stage (foot_through ms (length (g.P.Port.words l.port.now)) (g.P.Port.foot l.port.now)) h) (sym c.new-lanes.ensures.moves)
    (subst (λ (ws : List ℕ). CanRun stage (foot_through c.args.moves.now (length ws) (g.P.Port.foot l.port.now)) h) (sym (ap (λ p. g.P.Port.words p) c.new-lanes.ensures.same))
    (subst (λ (f : Foot). CanRun stage (foot_through c.args.moves.now (length (g.P.Port.words port)) f) h) (sym (ap (λ p. g.P.Port.foot p) c.new-lanes.ensures.same)) c.requires.may.moved)))

pub returns-clause-words : goal.returns-clause-words
returns-clause-words g c =
    let ws : List ℕ = g.P.Port.words c.args.port.now in
    let ms : List Moved = c.args.moves.now in
    let may = c.requires.may in
    let first = c.new-lanes.result in
    let last = c.run_node.new.port in
    let vs : List ℕ = g.P.Port.words last.port.now in
    let change : List ℕ → List ℕ = words_by_ids c.args.stage.now c.args.block (c.args.node ∷ []) in
    let same : last.moves.now ≡ ms = ap (λ (r : LaneRest g.row.P-Rest.Denot). r.moves) c.run_node.ensures.port.1 ∙ c.new-lanes.ensures.moves in
    let seen : exchanged first.moves.now (g.P.Port.words first.port.now) ≡ exchanged ms ws = (λ i. exchanged (c.new-lanes.ensures.moves i) (g.P.Port.words (c.new-lanes.ensures.same i))) in
    let ran : exchanged last.moves.now vs ≡ change (exchanged first.moves.now (g.P.Port.words first.port.now)) =
    subst (λ (z : ℤ). exchanged last.moves.now vs ≡ words_by_ids c.args.stage.now c.args.block (z ∷ []) (exchanged first.moves.now (g.P.Port.words first.port.now))) (to_z-of_z w32 c.args.node c.ranges.node) c.run_node.ensures.words in
    let made : exchanged ms vs ≡ change (exchanged ms ws) = ap (λ (ks : List Moved). exchanged ks vs) (sym same) ∙ ran ∙ ap change seen in
    let given : c.port-1.given.0 ≡ last.port.now = search rules in
    ap (λ p. g.P.Port.words p) given
    ∙ runs_through c.args.block may.own ms change may.puts may.off_buses may.off_lanes vs ws may.moves made
    ∙ sym (cond-true (are_moves (length ws) ms) (through ms change ws) ws may.moves)

pub returns-clause-port : goal.returns-clause-port
returns-clause-port g c =
    let given : c.port-1.given.0 ≡ c.run_node.new.port.port.now = search rules in
    let kept = c.run_node.ensures.port.1 in (
      ap (λ p. g.P.Port.foot p) given ∙ ap (λ (r : LaneRest g.row.P-Rest.Denot). r.foot) kept ∙ ap (λ p. g.P.Port.foot p) c.new-lanes.ensures.same,
      ap (λ p. g.P.Port.rest p) given ∙ ap (λ (r : LaneRest g.row.P-Rest.Denot). r.rest) kept ∙ ap (λ p. g.P.Port.rest p) c.new-lanes.ensures.same,
    )
