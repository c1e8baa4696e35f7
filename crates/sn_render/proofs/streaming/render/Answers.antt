use Rattle.sn_render.proofs.OutcomeLemmas.{complete}
use Rattle.sn_render.proofs.streaming.render.Goals as goal

pub returns-clause-complete : goal.returns-clause-complete
returns-clause-complete g c = λ bytes answer told has source sound replies.
    complete c.args.settings.now (g.S.Source.left c.args.source.now) c.run_stream.result answer bytes c.run_stream.ensures.answer told has
    (λ e. source (c.run_stream.ensures.read e)) (λ e. sound (c.run_stream.ensures.sound e)) (λ e. replies (c.run_stream.ensures.reply e))
