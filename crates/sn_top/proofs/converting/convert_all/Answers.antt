use Rattle.sn_top.proofs.ConvertLemmas.{out_answer}
use Rattle.sn_top.proofs.converting.convert_all.Goals as goal

pub returns-clause-answer : goal.returns-clause-answer
returns-clause-answer g c = out_answer c.args.conversion (g.S.Source.left c.args.source.now) c.in-Ok.made.packets c.in-Ok.made.bytes.bytes c.in-Ok.ensures.forms
