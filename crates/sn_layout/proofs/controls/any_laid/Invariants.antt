use Rattle.std.proofs.Common.{◌≡◌}
use Rattle.sn_def.specs.Defs.{definition_of}
use Rattle.sn_layout.specs.Leaving.{any_laid}
use Rattle.sn_layout.proofs.controls.any_laid.Given as goal

abbrev pub invariant-loop-left : goal.invariant-loop-left
invariant-loop-left l = any_laid (definition_of l.def) l.controls l.number l.left ≡ any_laid (definition_of l.def) l.controls l.fn.number l.count

abbrev pub decreases-loop-left : goal.decreases-loop-left
decreases-loop-left l = l.left
