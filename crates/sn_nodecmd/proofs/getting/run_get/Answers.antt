use Rattle.std.proofs.Common.{ap, sym, ◌∙◌, map}
use Rattle.std.specs.Option.{option_map}
use Rattle.sn_osc.specs.Shape.{argument_of}
use Rattle.sn_nodecmd.specs.Getting.{request_of}
use Rattle.sn_nodecmd.proofs.GettingLemmas.{can_be_told}
use Rattle.sn_nodecmd.proofs.getting.run_get.Goals as goal

pub answer-requires-clause-few : goal.answer-requires-clause-few
answer-requires-clause-few g c =
    can_be_told (map argument_of c.args.arguments.now) (request_of c.in-Some.asked) (sym c.in_ok-asked.ensures ∙ ap (option_map request_of) c.in-Some.is) c.requires.few
