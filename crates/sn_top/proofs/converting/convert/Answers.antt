use Rattle.sn_top.proofs.ConvertLemmas.{complete, by_conversion}
use Rattle.sn_top.proofs.converting.convert.Goals as goal

pub returns-in-Ok-clause-complete : goal.returns-in-Ok-clause-complete
returns-in-Ok-clause-complete g c =
    by_conversion c.args.words.now c.in-Ok.conversion _ c.in-Ok.ensures.ok
    (λ given answer told has source out. complete c.in-Ok.conversion (g.S.Source.left c.args.source.now) c.convert_all.result answer given c.convert_all.ensures.answer told has
    (λ e. source (c.convert_all.ensures.read e)) (λ e. out (c.convert_all.ensures.out e)))
