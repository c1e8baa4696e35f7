use Rattle.std.proofs.Common.{ap, sym, ◌∙◌}
use Rattle.sn_osc.specs.Shape.{shape}
use Rattle.sn_osc.proofs.ShapeLemmas.{shape-Bundle}
use Rattle.sn_shelf.specs.Asking.{asks}
use Rattle.sn_shelf.proofs.asking.+asking.Goals as goal

pub asks-returns-in-Bundle : goal.asks-returns-in-Bundle
asks-returns-in-Bundle t c = c.any_asks.ensures ∙ sym (ap asks (ap shape c.in-Bundle.is ∙ shape-Bundle c.in-Bundle.bundle))
