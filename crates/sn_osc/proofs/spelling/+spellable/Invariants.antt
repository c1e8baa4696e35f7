use Rattle.std.proofs.Common.{◌≡◌, drop}
use Rattle.sn_osc.specs.Shape.{shapes}
use Rattle.sn_osc.specs.Bytes.{are_packets}
use Rattle.sn_osc.proofs.spelling.+spellable.Given as goal

abbrev pub invariant-is_bundle-loop-element : goal.invariant-is_bundle-loop-element
invariant-is_bundle-loop-element l = are_packets l.deep l.around (shapes (drop l.element-index l.item.elements.items)) ≡ are_packets l.deep l.around (shapes l.item.elements.items)
