use Rattle.std.proofs.Common.{ap, subst, sym, map, Some, Result}
use Rattle.sn_osc.specs.Shape.{argument_of}
use Rattle.sn_def.specs.Defs.{definition_of}
use Rattle.sn_reply.specs.declared.reason.Reason.{Reason}
use Rattle.sn_world.specs.World.{Turn, turn_of}
use Rattle.sn_world.specs.NewSynth.{new_synth}
use Rattle.sn_world.specs.Answers.{Follows}
use Rattle.sn_nodecmd.specs.Asking.{request_of}
use Rattle.sn_nodecmd.proofs.MakingLemmas.{of_definition}
use Rattle.sn_nodecmd.proofs.making.run_new.Goals as goal

pub returns-clause-row : goal.returns-clause-row
returns-clause-row g c = λ from.
    subst (λ (o : Result Turn Reason). Follows c.make.result o (turn_of c.make.new.stage (g.P.Port.words c.make.new.port) c.make.new.replies))
    (sym (of_definition (request_of c.in-Some.asked) (new_synth (map argument_of c.args.arguments.now)) (Some (definition_of c.in-Some-named.def.now.value)) (definition_of c.in_ok-def.def.value) (turn_of c.args.stage.now (g.P.Port.words c.args.port.now) c.args.replies.now)
    c.in-Some.ensures.request c.in-Some-named.ensures (ap (λ d. Some (definition_of d)) (sym c.in_ok-def.ensures))))
    c.make.ensures.row
