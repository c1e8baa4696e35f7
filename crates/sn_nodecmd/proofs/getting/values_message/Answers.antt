use Rattle.std.proofs.Common.{map, arith}
use Rattle.sn_mem.specs.Buses.{control_buses}
use Rattle.sn_def.specs.Defs.{definition_of}
use Rattle.sn_nodecmd.specs.Runs.{name_of}
use Rattle.sn_nodecmd.proofs.GettingLemmas.{few-told}
use Rattle.sn_nodecmd.proofs.getting.values_message.Goals as goal

pub into_long_message-requires-clause-few : goal.into_long_message-requires-clause-few
into_long_message-requires-clause-few g c =
    few-told (control_buses (g.P.Port.words c.args.port.now)) (definition_of c.args.def.now) c.args.controls.now
    c.new-answer.result c.push_int.new.self c.push_values.new.answer _ (map name_of c.args.asked.now)
    c.new-answer.ensures c.in_ok-push_int.ensures.ok c.in_ok-push_values.ensures.values (omega arith) c.requires.few
