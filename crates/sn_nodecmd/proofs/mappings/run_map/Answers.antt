use Rattle.std.proofs.Common.{ap, sym, subst, ◌∙◌, ℤ, map, Option, Some, Result, w32, rules}
use Rattle.std.specs.Prelude.{FitsSigned}
use Rattle.std.specs.Option.{option_map}
use Rattle.std.proofs.lemmas.Int.{to_z-of_z}
use Rattle.sn_reply.specs.declared.reason.Reason.{Reason}
use Rattle.sn_world.specs.World.{Turn, turn_of}
use Rattle.sn_world.specs.ControlRuns.{ForNode}
use Rattle.sn_world.specs.Mappings.{Mapping, map_outcome}
use Rattle.sn_world.specs.Answers.{Follows}
use Rattle.sn_nodecmd.specs.Mapped.{mapping_of, request_of}
use Rattle.sn_nodecmd.proofs.NeededLemmas.{same_mapped}
use Rattle.sn_nodecmd.proofs.mappings.run_map.Goals as goal

pub returns-clause-row : goal.returns-clause-row
returns-clause-row c =
    let asked = c.in-Some.asked in
    let left = map mapping_of c.in_ok-mappings.mappings.items in
    let fits : FitsSigned w32 asked.id = search rules in
    let same = to_z-of_z w32 asked.id fits in
    λ words replies.
    let before = turn_of c.args.stage.now words replies in
    let after = turn_of c.map_all.new.stage words replies in
    let mapped : Follows c.map_all.result (map_outcome (Some (record { id = asked.id; all = left })) before) after =
    subst (λ (n : ℤ). Follows c.map_all.result (map_outcome (Some (record { id = n; all = left })) before) after) same (c.map_all.ensures.row words replies) in
    let all : Follows c.map_all.result (map_outcome (Some (request_of asked)) before) after =
    subst (λ (o : Result Turn Reason). Follows c.map_all.result o after) (same_mapped c.args.stage.now words replies asked.id (map mapping_of asked.mappings.items) left c.in_ok-mappings.ensures) mapped in
    subst (λ (o : Option (ForNode Mapping)). Follows c.map_all.result (map_outcome o before) after) (sym (ap (option_map request_of) c.in-Some.is) ∙ c.in_ok-asked.ensures) all
