use Rattle.std.proofs.Common.{◌≡◌, ◌∙◌, ◌∷◌, [], ℕ, ℤ, List, w32, ap, sym, subst}
use Rattle.std.proofs.lemmas.Int.{to_z-of_z}
use Rattle.sn_mem.specs.declared.moves.Moved.{Moved}
use Rattle.sn_mem.specs.Lanes.{through_if}
use Rattle.sn_play.specs.Named.{CanRun, held_at, words_by_ids}
use Rattle.sn_play.proofs.StepRuns.{through_none}
use Rattle.sn_play.proofs.LanedSteps.{no_moves}
use Rattle.sn_play.proofs.playing.run_moved.Goals as goal

pub run_node-requires-clause-held : goal.run_node-requires-clause-held
run_node-requires-clause-held g c =
    subst (λ (z : ℤ). CanRun c.args.stage.now (g.P.Port.foot c.args.port.now) (held_at c.args.stage.now z)) (sym (to_z-of_z w32 c.args.node c.ranges.node))
    (c.requires.may.plain (no_moves c.args.moves.now (sym c.is_empty.ensures ∙ c.if-is_empty.true)))

pub returns-then-is_empty-clause-words : goal.returns-then-is_empty-clause-words
returns-then-is_empty-clause-words g c =
    let change : List ℕ → List ℕ = words_by_ids c.args.stage.now c.args.block (c.args.node ∷ []) in
    let ws = g.P.Port.words c.args.port.now in
    let last : List ℕ = g.P.Port.words c.run_node.new.port in
    let ran : last ≡ change ws = subst (λ (z : ℤ). last ≡ words_by_ids c.args.stage.now c.args.block (z ∷ []) ws) (to_z-of_z w32 c.args.node c.ranges.node) c.run_node.ensures.words in
    ran
    ∙ sym (through_none change ws (c.requires.may.puts.long ws))
    ∙ ap (λ (ms : List Moved). through_if ms change ws) (sym (no_moves c.args.moves.now (sym c.is_empty.ensures ∙ c.if-is_empty.true)))
