use Rattle.std.proofs.Common.{length, arith}
use Rattle.sn_engine.proofs.RoundLemmas.{one_round}
use Rattle.sn_engine.proofs.rendering.render_first.Goals as goal

pub render_span-requires-clause-spanned : goal.render_span-requires-clause-spanned
render_span-requires-clause-spanned g c κs within = c.in-Some.ensures.spanned c.args.part.now.outputs.now c.args.part.now.copies c.requires.spanned

pub returns-clause-rounds : goal.returns-clause-rounds
returns-clause-rounds g c =
    let part = c.args.part.now in
    let s = c.in-Some.ensures.spanned part.outputs.now part.copies c.requires.spanned in
    one_round part.outputs.now part.copies c.in-Some.span.now.blocks part.planned.now.jobs c.in-Some.span.now.all (length c.args.crew.now.hands.items) _ c.args.memory.now.rounds c.render_span.new.memory.rounds s.some s.all_are c.allow_threads-2.ensures c.render_span.ensures.rounds

pub returns-clause-some : goal.returns-clause-some
returns-clause-some g c =
    let part = c.args.part.now in
    omega (arith, (c.in-Some.ensures.spanned part.outputs.now part.copies c.requires.spanned).some)
