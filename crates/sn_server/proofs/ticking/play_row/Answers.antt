use Rattle.std.proofs.Common.{◌∙◌, ℕ, ap, sym, arith}
use Rattle.sn_engine.specs.Running.{Running, flow_at, with_settled}
use Rattle.sn_engine.proofs.RowLemmas.{at_least_one, row_block, row_standing}
use Rattle.sn_render.proofs.RowLemmas.{turns_are}
use Rattle.sn_server.proofs.ServingLemmas.{goes_through}
use Rattle.sn_server.proofs.ticking.play_row.Goals as goal

pub blocks-requires-clause-quiet : goal.blocks-requires-clause-quiet
blocks-requires-clause-quiet g c κs within = c.span-count.ensures.quiet

pub blocks-requires-clause-block : goal.blocks-requires-clause-block
blocks-requires-clause-block g c κs within = omega (arith, c.requires.block, c.span-count.ensures.want)

pub settle-requires-clause-rendered : goal.settle-requires-clause-rendered
settle-requires-clause-rendered g c =
    ap (λ (r : Running). r.standing) c.blocks-2.ensures.running ∙ row_standing c.span-count.result c.args.engine.now.running (at_least_one c.args.engine.now c.span-count.result c.span-count.ensures.quiet)

pub settle-requires-clause-block : goal.settle-requires-clause-block
settle-requires-clause-block g c =
    omega (arith, ap (λ (r : Running). r.block) c.blocks-2.ensures.running, row_block c.span-count.result c.args.engine.now.running, c.requires.block, c.span-count.ensures.want)

pub returns : goal.returns
returns g c = λ r is on.
    let n : ℕ = c.span-count.result in record {
      blocks = n;
      some = at_least_one c.args.engine.now n c.span-count.ensures.quiet;
      few = c.span-count.ensures.want;
      flows = goes_through n r on (λ k some few. ap (λ (q : Running). flow_at q) (sym (turns_are k r)) ∙ c.rows_go_on.ensures c.requires.bounded r n k is c.span-count.ensures.quiet some few);
      played = c.settle.ensures.running ∙ (ap with_settled c.blocks-2.ensures.running ∙ (c.rows_are_turns.ensures c.requires.bounded r n is c.span-count.ensures.quiet ∙ turns_are n r));
    }
