use Rattle.std.proofs.Common.{◌≡◌, ◌∙◌, ℕ, ap, arith}
use Rattle.sn_engine.specs.Running.{Running, at_boundary, with_settled}
use Rattle.sn_engine.specs.Playing.{Playing}
use Rattle.sn_engine.proofs.Pasts.{running_is}
use Rattle.sn_engine.proofs.RowLemmas.{at_least_one, row_block, row_standing}
use Rattle.sn_render.proofs.RowLemmas.{turns_are}
use Rattle.sn_render.proofs.rendering.play_row.Goals as goal

pub blocks-requires-clause-quiet : goal.blocks-requires-clause-quiet
blocks-requires-clause-quiet g c κs within = c.span-count.ensures.quiet

pub blocks-requires-clause-bounded : goal.blocks-requires-clause-bounded
blocks-requires-clause-bounded g c κs within = ap (λ (r : Running). r.standing) c.in_ok-boundary.ensures.ok

pub blocks-requires-clause-block : goal.blocks-requires-clause-block
blocks-requires-clause-block g c κs within =
    omega (arith, ap (λ (r : Running). r.block) c.in_ok-boundary.ensures.ok, ap (λ (p : Playing). p.running.block) c.want.ensures, c.requires.block, c.span-count.ensures.want)

pub settle-requires-clause-rendered : goal.settle-requires-clause-rendered
settle-requires-clause-rendered g c = ap (λ (r : Running). r.standing) c.blocks-2.ensures.running ∙ row_standing c.span-count.result c.boundary.new.self.running (at_least_one c.boundary.new.self c.span-count.result c.span-count.ensures.quiet)

pub settle-requires-clause-block : goal.settle-requires-clause-block
settle-requires-clause-block g c =
    omega (arith, ap (λ (r : Running). r.block) c.blocks-2.ensures.running, row_block c.span-count.result c.boundary.new.self.running, ap (λ (r : Running). r.block) c.in_ok-boundary.ensures.ok, ap (λ (p : Playing). p.running.block) c.want.ensures, c.requires.block, c.span-count.ensures.want)

pub returns : goal.returns
returns g c =
    let r : Running = c.args.engine.now.running in
    let n : ℕ = c.span-count.result in
    let bounded : c.boundary.new.self.running ≡ at_boundary r = c.in_ok-boundary.ensures.ok ∙ ap at_boundary (running_is c.want.ensures) in record {
      blocks = n;
      some = at_least_one c.boundary.new.self n c.span-count.ensures.quiet;
      few = c.span-count.ensures.want;
      played = c.settle.ensures.running ∙ (ap with_settled c.blocks-2.ensures.running ∙ (c.rows_are_turns.ensures (ap (λ (r : Running). r.standing) bounded) r n bounded c.span-count.ensures.quiet ∙ turns_are n r));
    }
