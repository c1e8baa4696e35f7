use Rattle.std.proofs.Common.{ap, sym, ◌∙◌, Ok, Result}
use Rattle.std.proofs.lemmas.Result.{err_from_is_err_and}
use Rattle.sn_def.specs.declared.fault.DefKind.{DefKind}
use Rattle.sn_def.specs.Definition.{Definition}
use Rattle.sn_def.specs.Parts.{parts_seen}
use Rattle.sn_def.specs.Answers.{texts}
use Rattle.sn_def.proofs.Fielding.{as_many}
use Rattle.sn_def.proofs.Uniting.{bad_wires, bad_inputs, good_unit, same_units}
use Rattle.sn_def.proofs.line.unit_with.Goals as goal

pub returns-in_err-named : goal.returns-in_err-named
returns-in_err-named c =
    let p = err_from_is_err_and c.from_residual.result c.from_residual.ensures.1 in
    rw (p.1, p.2) (bad_wires _ c.args.draft (parts_seen c.args.parts) c.args.kind c.in_err-named.ensures)

pub returns-in_err-inputs : goal.returns-in_err-inputs
returns-in_err-inputs c =
    let p = err_from_is_err_and c.from_residual-in_err-inputs.result c.from_residual-in_err-inputs.ensures.1 in
    rw (p.1, p.2) (bad_inputs _ c.args.draft c.in_ok-named.named (parts_seen c.args.parts) c.args.kind c.in_ok-named.ensures (rw (← c.row_of-row.ensures) c.in_err-inputs.ensures))

pub with_unit-requires : goal.with_unit-requires
with_unit-requires c =
    rw (same_units c.args.draft c.in_ok-named.named (texts c.args.parts.outputs.now) c.in_ok-named.ensures) c.requires.units

pub returns : goal.returns
returns c =
    let parts = c.args.parts in
    let ok : Definition → Result Definition DefKind = λ d. Ok d in
    good_unit c.args.draft c.in_ok-named.named (parts_seen parts) c.args.kind c.in_ok-inputs.field-0 c.in_ok-named.ensures (rw (← c.row_of-row.ensures) c.in_ok-inputs.ensures) ∙ ap ok (rw (as_many parts.outputs.now) (sym c.in_ok-with_unit.ensures))
