use Rattle.sn_def.specs.Defs.{definition_of}
use Rattle.sn_nodecmd.proofs.GettingLemmas.{controls_named_well}
use Rattle.sn_nodecmd.proofs.getting.are_named.Goals as goal

pub returns : goal.returns
returns c = controls_named_well c.names_are_short.ensures (definition_of c.args.def.now) c.args.def.now.written
