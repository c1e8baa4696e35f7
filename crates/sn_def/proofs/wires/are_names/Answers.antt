use Rattle.std.proofs.Common.{◌∙◌}
use Rattle.sn_def.specs.Reading.{is_name}
use Rattle.sn_def.proofs.Fielding.{all_same}
use Rattle.sn_def.proofs.wires.are_names.Goals as goal

pub returns : goal.returns
returns c = c.all_names.ensures ∙ all_same (is_name c.args.version) c.args.fields.now
