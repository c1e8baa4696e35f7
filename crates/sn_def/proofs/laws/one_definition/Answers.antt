use Rattle.std.proofs.Common.{sym, ◌∙◌}
use Rattle.sn_def.specs.declared.fault.DefFault.{DefFault}
use Rattle.sn_def.proofs.Forming.{same_ok}
use Rattle.sn_def.proofs.Complete.{is_read}
use Rattle.sn_def.proofs.laws.one_definition.Goals as goal

pub returns : goal.returns
returns c = λ text d e a b. same_ok {E = DefFault} d e (sym (is_read c.literal_bytes.ensures text d a) ∙ is_read c.literal_bytes.ensures text e b)
