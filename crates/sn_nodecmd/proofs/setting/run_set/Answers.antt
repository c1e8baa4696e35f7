use Rattle.std.proofs.Common.{ap, sym, subst, ◌∙◌, ℤ, map, Option, Some, Result, w32, rules}
use Rattle.std.specs.Prelude.{FitsSigned}
use Rattle.std.specs.Option.{option_map}
use Rattle.std.proofs.lemmas.Int.{to_z-of_z}
use Rattle.sn_reply.specs.declared.reason.Reason.{Reason}
use Rattle.sn_nodecmd.specs.Runs.{run_of}
use Rattle.sn_nodecmd.specs.Reworks.{request_of}
use Rattle.sn_world.specs.World.{Turn, turn_of}
use Rattle.sn_world.specs.ControlRuns.{ControlRun, ForNode, set_outcome}
use Rattle.sn_world.specs.Answers.{Follows}
use Rattle.sn_nodecmd.proofs.CoveringLemmas.{left-set, same-outcome}
use Rattle.sn_nodecmd.proofs.setting.run_set.Goals as goal

pub returns-clause-row : goal.returns-clause-row
returns-clause-row c =
    let asked = c.in-Some.asked in
    let left = map run_of c.in_ok-runs.runs.items in
    let fits : FitsSigned w32 asked.id = search rules in
    let same = to_z-of_z w32 asked.id fits in
    λ words replies.
    let before = turn_of c.args.stage.now words replies in
    let after = turn_of c.set_all.new.stage words replies in
    let set : Follows c.set_all.result (set_outcome (Some (record { id = asked.id; all = left })) before) after =
    subst (λ (n : ℤ). Follows c.set_all.result (set_outcome (Some (record { id = n; all = left })) before) after) same (c.set_all.ensures.row words replies) in
    let all : Follows c.set_all.result (set_outcome (Some (request_of asked)) before) after =
    subst (λ (o : Result Turn Reason). Follows c.set_all.result o after) (same-outcome asked.id left (map run_of asked.runs.items) (left-set asked.runs.items c.in_ok-runs.runs.items c.in_ok-runs.ensures) before) set in
    subst (λ (o : Option (ForNode ControlRun)). Follows c.set_all.result (set_outcome o before) after) (sym (ap (option_map request_of) c.in-Some.is) ∙ c.in_ok-asked.ensures) all
