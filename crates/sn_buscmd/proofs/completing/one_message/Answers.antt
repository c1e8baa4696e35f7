use Rattle.sn_osc.specs.Shape.{shape}
use Rattle.sn_buscmd.proofs.CompletingLemmas.{found_answerable}
use Rattle.sn_buscmd.proofs.completing.one_message.Goals as goal

pub returns-in-Ok-clause-answerable : goal.returns-in-Ok-clause-answerable
returns-in-Ok-clause-answerable c = found_answerable c.message_in.result (shape c.in-Ok.packet) c.args.bytes.now c.message_in.ensures c.in-Ok.ensures.found
