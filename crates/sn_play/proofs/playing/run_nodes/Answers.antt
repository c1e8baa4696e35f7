use Rattle.std.proofs.Common.{◌≡◌, ◌∙◌, ◌∷◌, [], ℕ, ℤ, pos, List, SFits, w32, length, take, get_or, refl, ap, sym, subst, rules}
use Rattle.std.proofs.lemmas.Int.{to_z-of_z}
use Rattle.sn_mem.specs.declared.extents.Foot.{Foot}
use Rattle.sn_mem.specs.declared.moves.Moved.{Moved}
use Rattle.sn_graph.specs.Plans.{Step, renders, runs_of}
use Rattle.sn_play.specs.Steps.{CanMove, lane_step, lane_steps}
use Rattle.sn_play.proofs.LanedJobs.{lane_then}
use Rattle.sn_play.proofs.StepRuns.{can_at, runs_more, step_long}
use Rattle.sn_play.proofs.playing.run_nodes.Goals as goal

pub loop-number-init : goal.loop-number-init
loop-number-init g c = record { words = refl; long = refl; foot = refl; rest = refl }

pub run_moved-requires-clause-may : goal.run_moved-requires-clause-may
run_moved-requires-clause-may g c =
    let stage = c.args.stage.now in
    let b = c.args.block in
    let n = c.loop-number.number in
    let i = c.loop-number.invariant in
    let node = get_or c.args.nodes.now n (pos 0) in
    let port = c.args.port.now in
    let fits : SFits w32 node = search rules in
    subst (λ (z : ℤ). CanMove stage b z c.of.result.now (g.P.Port.foot c.loop-number.port) (length (g.P.Port.words c.loop-number.port))) (sym (to_z-of_z w32 node fits))
    (subst (λ (ms : List Moved). CanMove stage b node ms (g.P.Port.foot c.loop-number.port) (length (g.P.Port.words c.loop-number.port))) (sym c.of.ensures)
    (subst (λ (f : Foot). CanMove stage b node (get_or c.args.moves.now n []) f (length (g.P.Port.words c.loop-number.port))) (sym i.foot)
    (subst (λ (k : ℕ). CanMove stage b node (get_or c.args.moves.now n []) (g.P.Port.foot port) k) (sym i.long)
    (can_at stage b c.args.nodes.now c.args.moves.now (g.P.Port.foot port) (length (g.P.Port.words port)) n (pos 0) c.requires.nodes c.loop-number-test.true))))

pub loop-number-preserved : goal.loop-number-preserved
loop-number-preserved g c =
    let stage = c.args.stage.now in
    let b = c.args.block in
    let n = c.loop-number.number in
    let i = c.loop-number.invariant in
    let node = get_or c.args.nodes.now n (pos 0) in
    let first = g.P.Port.words c.args.port.now in
    let so_far = runs_of (take n c.args.nodes.now) c.args.moves.now in
    let step = renders node (get_or c.args.moves.now n []) in
    let fits : SFits w32 node = search rules in
    let ran = subst (λ (z : ℤ). g.P.Port.words c.run_moved.new.port ≡ lane_step stage b (renders z c.of.result.now) (g.P.Port.words c.loop-number.port)) (to_z-of_z w32 node fits) c.run_moved.ensures.words in
    let made = ran ∙ ap (λ (ms : List Moved). lane_step stage b (renders node ms) (g.P.Port.words c.loop-number.port)) c.of.ensures in
    record {
      words = made
          ∙ ap (lane_step stage b step) i.words
          ∙ sym (lane_then stage b so_far (step ∷ []) first)
          ∙ ap (λ (steps : List Step). lane_steps stage b steps first) (sym (runs_more c.args.nodes.now c.args.moves.now n (pos 0) c.loop-number-test.true));
      long = ap (λ (ws : List ℕ). length ws) made ∙ step_long stage b node (get_or c.args.moves.now n []) (g.P.Port.words c.loop-number.port) ∙ i.long;
      foot = c.run_moved.ensures.port.0 ∙ i.foot;
      rest = c.run_moved.ensures.port.1 ∙ i.rest;
    }
