use Rattle.std.proofs.Common.{◌≡◌, drop}
use Rattle.sn_osc.specs.Shape.{shapes}
use Rattle.sn_shelf.specs.Asking.{any_asks}
use Rattle.sn_shelf.proofs.asking.+asking.Given as goal

abbrev pub invariant-any_asks-loop-element : goal.invariant-any_asks-loop-element
invariant-any_asks-loop-element l = any_asks (shapes (drop l.element-index l.item.elements.items)) ≡ any_asks (shapes l.item.elements.items)
