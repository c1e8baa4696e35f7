use Rattle.sn_def.proofs.Forming.{formed}
use Rattle.sn_def.specs.Defs.{definition_of}
use Rattle.sn_def.proofs.definition.Def.well_formed.Goals as goal

pub returns : goal.returns
returns c = formed (definition_of c.args.self.now) c.args.self.now.written
