use Rattle.std.proofs.Common.{◌==◌, ◌∙◌, List, ℕ, length}
use Rattle.sn_def.proofs.Fielding.{any_same}
use Rattle.sn_def.proofs.line.has_empty.Goals as goal

pub returns : goal.returns
returns c = c.any_empty.ensures ∙ any_same (λ (f : List ℕ). length f == 0) c.args.fields.now
