use Rattle.std.proofs.Common.{◌∙◌}
use Rattle.sn_def.proofs.PrintLoop.{name_of}
use Rattle.sn_def.proofs.printing.control_name.Goals as goal

pub returns : goal.returns
returns c = c.name_at.ensures ∙ name_of _ _ c.args.number c.as_slice.ensures
