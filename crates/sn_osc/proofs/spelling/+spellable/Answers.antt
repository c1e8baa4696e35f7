use Rattle.std.proofs.Common.{ap, ◌∙◌, arith}
use Rattle.sn_osc.specs.Shape.{shape}
use Rattle.sn_osc.proofs.ShapeLemmas.{shape-Bundle}
use Rattle.sn_osc.proofs.Encoded.{is_packet-deeper}
use Rattle.sn_osc.proofs.spelling.+spellable.Goals as goal

pub is_packet-returns-then-deep-gt0 : goal.is_packet-returns-then-deep-gt0
is_packet-returns-then-deep-gt0 t c = is_packet-deeper c.args.deep c.args.around _ _ _ (omega (arith, c.if-deep-gt0.true)) c.is_bundle.ensures (ap shape c.in-Bundle.is ∙ shape-Bundle c.in-Bundle.bundle)
