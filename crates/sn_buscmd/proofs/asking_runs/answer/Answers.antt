use Rattle.std.proofs.Common.{◌≡◌, map, subst, sym, rules}
use Rattle.sn_osc.specs.Shape.{MessageShape, arguments, argument_of}
use Rattle.sn_reply.specs.Sending.{IsSendable}
use Rattle.sn_mem.specs.Buses.{control_buses}
use Rattle.sn_world.specs.Runs.{answer_getn}
use Rattle.sn_buscmd.proofs.RunLemmas.{sendable-getn}
use Rattle.sn_buscmd.proofs.asking_runs.answer.Goals as goal

pub returns-clause-sendable : goal.returns-clause-sendable
returns-clause-sendable g c =
    let words = g.P.Port.words c.args.port.now in
    let found : MessageShape = record { address = c.in_ok-from_slice.field-0.bytes; body = arguments (map argument_of c.in_ok-arguments.arguments) } in
    let same : found ≡ answer_getn (control_buses words) c.args.runs.now = search rules in
    subst IsSendable (sym same) (sendable-getn words c.args.runs.now c.requires.all c.requires.few c.requires.values)
