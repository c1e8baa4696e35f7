use Rattle.sn_def.specs.Defs.{definition_of}
use Rattle.sn_nodecmd.proofs.NameLemmas.{name-clean, name-short}
use Rattle.sn_nodecmd.proofs.GettingLemmas.{known-name}
use Rattle.sn_nodecmd.proofs.getting.push_text.Goals as goal

pub push_name-requires-clause-clean : goal.push_name-requires-clause-clean
push_name-requires-clause-clean c = name-clean c.args.name.now (known-name (definition_of c.args.def.now) c.args.name.now c.requires.known c.are_named.ensures)

pub push_name-requires-clause-short : goal.push_name-requires-clause-short
push_name-requires-clause-short c = name-short c.args.name.now (known-name (definition_of c.args.def.now) c.args.name.now c.requires.known c.are_named.ensures)
