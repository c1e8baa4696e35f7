use Rattle.std.proofs.Common.{◌≡◌, ◌++◌, drop}
use Rattle.sn_osc.specs.Shape.{shapes}
use Rattle.sn_score.specs.Lines.{bundle_line, line, elements_text}
use Rattle.sn_score.proofs.lines.+writing.Given as goal

abbrev pub invariant-put_bundle-loop-element : goal.invariant-put_bundle-loop-element
invariant-put_bundle-loop-element l = l.out.bytes ++ elements_text (shapes (drop l.element-index l.item.elements.items)) ≡ l.fn.out.bytes ++ (line (bundle_line l.item.tag) ++ elements_text (shapes l.item.elements.items))
