use Rattle.std.proofs.Common.{◌≡◌, ◌≤◌, ◌-◌, Err, subst, sym, arith, le_refl, refl}
use Rattle.sn_render.specs.Going.{IsGoing}
use Rattle.sn_render.proofs.GoingLemmas.{begins, ended, ended_world, end_cut}
use Rattle.sn_render.proofs.RowLemmas.{goes_on, row_counted, row_cut}
use Rattle.sn_render.proofs.FaultLemmas.{none_failed, none_else_after, none_else_err}
use Rattle.sn_render.proofs.WritingLemmas.{on_ok, on_err, on_any_err}
use Rattle.sn_render.proofs.rendering.render_blocks.Goals as goal

pub loop-done-init : goal.loop-done-init
loop-done-init g c =
    let same : c.args.blocks ≡ c.args.blocks - 0 = omega arith in
    record {
      count = sym c.requires.begun;
      going = subst (λ n. IsGoing c.args.engine.now.running c.args.blocks n (g.O.Sink.taken c.args.sound.now) (g.O.Sink.taken c.args.sound.now) (g.R.Sink.taken c.args.replies.now) (g.R.Sink.taken c.args.replies.now) c.args.engine.now.running) same
          (begins c.args.blocks (g.O.Sink.taken c.args.sound.now) (g.R.Sink.taken c.args.replies.now) c.args.engine.now.running c.requires.stands);
      sound_later = le_refl _;
      reply_later = le_refl _;
      still = (refl, refl);
    }

pub loop-done-preserved : goal.loop-done-preserved
loop-done-preserved g c =
    let i = c.loop-done.invariant in
    let row = c.in_ok-render_row.ensures.row in
    let few : c.min-most.result ≤ c.args.blocks - c.loop-done.done = omega (arith, c.min-most.ensures) in
    let counted = row_counted _ _ _ _ _ c.loop-done.engine.running c.render_row.new.engine.running row in
    record {
      count = c.block-done.ensures;
      going = goes_on c.args.engine.now.running c.args.blocks (c.args.blocks - c.loop-done.done) _ _ _ _ _ _ _ _ c.loop-done.engine.running c.render_row.new.engine.running i.going row few (omega (arith, c.block-done.ensures, counted, i.count));
      sound_later = omega (arith, i.sound_later, c.render_row.ensures.sound_later);
      reply_later = omega (arith, i.reply_later, c.render_row.ensures.reply_later);
      still = none_failed _ _ _ _ _ _ i.still c.in_ok-render_row.ensures.unfailed;
    }

pub loop-done-smaller : goal.loop-done-smaller
loop-done-smaller g c =
    let row = c.in_ok-render_row.ensures.row in
    let counted = row_counted _ _ _ _ _ c.loop-done.engine.running c.render_row.new.engine.running row in
    omega (arith, c.block-done.ensures, counted, c.loop-done.invariant.count, c.loop-done-test.true, row.some)

pub returns-clause-ended : goal.returns-clause-ended
returns-clause-ended g c =
    let none : c.args.blocks - c.loop-done.done ≡ 0 = omega (arith, c.loop-done-test.false) in
    let going = subst (λ n. IsGoing c.args.engine.now.running c.args.blocks n (g.O.Sink.taken c.args.sound.now) (g.O.Sink.taken c.loop-done.sound) (g.R.Sink.taken c.args.replies.now) (g.R.Sink.taken c.loop-done.replies) c.loop-done.engine.running) none c.loop-done.invariant.going in
    on_ok c.render_end.result (ended c.args.engine.now.running c.args.blocks _ _ _ _ _ _ c.loop-done.engine.running going) c.render_end.ensures.end

pub returns-clause-unfailed : goal.returns-clause-unfailed
returns-clause-unfailed g c = none_else_after c.render_end.result _ _ _ _ _ _ c.loop-done.invariant.still c.render_end.ensures.unfailed

pub returns-in_err-render_row-clause-unfailed : goal.returns-in_err-render_row-clause-unfailed
returns-in_err-render_row-clause-unfailed g c =
    let e = c.in_err-render_row.field-0.0 in
    none_else_err c.from_residual.result e _ _ _ _ c.from_residual.ensures.1 (none_else_after (Err e) _ _ _ _ _ _ c.loop-done.invariant.still c.in_err-render_row.ensures.unfailed)

pub returns-in_err-render_row-clause-fronts : goal.returns-in_err-render_row-clause-fronts
returns-in_err-render_row-clause-fronts g c =
    let few : c.min-most.result ≤ c.args.blocks - c.loop-done.done = omega (arith, c.min-most.ensures) in
    on_any_err c.from_residual.result (row_cut c.args.engine.now.running c.args.blocks (c.args.blocks - c.loop-done.done) _ _ _ _ _ _ _ c.loop-done.engine.running c.loop-done.invariant.going c.in_err-render_row.ensures.fronts few)

pub returns-clause-fronts : goal.returns-clause-fronts
returns-clause-fronts g c =
    let none : c.args.blocks - c.loop-done.done ≡ 0 = omega (arith, c.loop-done-test.false) in
    let going = subst (λ n. IsGoing c.args.engine.now.running c.args.blocks n (g.O.Sink.taken c.args.sound.now) (g.O.Sink.taken c.loop-done.sound) (g.R.Sink.taken c.args.replies.now) (g.R.Sink.taken c.loop-done.replies) c.loop-done.engine.running) none c.loop-done.invariant.going in
    on_err c.render_end.result (end_cut c.args.engine.now.running c.args.blocks _ _ _ _ _ _ c.loop-done.engine.running going) c.render_end.ensures.fronts

pub returns-clause-world : goal.returns-clause-world
returns-clause-world g c =
    let none : c.args.blocks - c.loop-done.done ≡ 0 = omega (arith, c.loop-done-test.false) in
    let going = subst (λ n. IsGoing c.args.engine.now.running c.args.blocks n (g.O.Sink.taken c.args.sound.now) (g.O.Sink.taken c.loop-done.sound) (g.R.Sink.taken c.args.replies.now) (g.R.Sink.taken c.loop-done.replies) c.loop-done.engine.running) none c.loop-done.invariant.going in
    on_ok c.render_end.result (ended_world c.args.engine.now.running c.args.blocks _ _ _ _ c.loop-done.engine.running c.render_end.new.engine.running.world going) c.render_end.ensures.world
