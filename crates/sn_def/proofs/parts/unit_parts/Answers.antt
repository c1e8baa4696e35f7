use Rattle.std.proofs.Common.{◌≡◌, ℕ, ◌+◌, ap, sym, ◌∙◌, Some, None, take, drop, arith}
use Rattle.std.proofs.lemmas.Grind.{common_steps}
use Rattle.std.specs.Option.{option_map}
use Rattle.sn_def.specs.Reading.{parts_from}
use Rattle.sn_def.specs.Parts.{parts_seen}
use Rattle.sn_def.specs.Answers.{texts}
use Rattle.sn_def.proofs.Fielding.{parts_are, parts_split}
use Rattle.sn_def.proofs.parts.unit_parts.Goals as goal

pub returns-in-None : goal.returns-in-None
returns-in-None c = c.parts_from.ensures ∙ parts_are c.args.fields.now None c.in-None.ensures

pub returns-in-Some-eq0 : goal.returns-in-Some-eq0
returns-in-Some-eq0 c = parts_are c.args.fields.now (Some 0) (ap (λ (k : ℕ). Some k) (sym c.in-Some-eq0.field-0-test) ∙ c.in-Some-eq0.ensures)

pub returns-in-Some : goal.returns-in-Some
returns-in-Some c =
    let fields = c.args.fields.now in
    let i = c.in-Some.at in
    let made : option_map parts_seen c.parts_from-in-Some.result ≡ parts_from (texts (take i fields)) (texts (drop (i + 1) fields)) = grind (arith, common_steps) in
    made ∙ parts_split fields i c.in-Some.at-test.1 ∙ parts_are fields (Some i) c.in-Some.ensures
