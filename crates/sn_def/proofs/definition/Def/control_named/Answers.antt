use Rattle.std.proofs.Common.{◌∙◌}
use Rattle.sn_def.proofs.Placing.{same_control}
use Rattle.sn_def.proofs.definition.Def.control_named.Goals as goal

pub returns-in-Some : goal.returns-in-Some
returns-in-Some c = c.in-Some.ensures ∙ same_control c.args.name.now _ _ c.as_slice.ensures

pub returns-in-None : goal.returns-in-None
returns-in-None c = c.in-None.ensures ∙ same_control c.args.name.now _ _ c.as_slice.ensures
