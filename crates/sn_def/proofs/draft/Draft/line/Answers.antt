use Rattle.std.proofs.Common.{◌≤◌, ◌+◌, length, sym, subst, arith}
use Rattle.sn_def.specs.Definition.{Definition}
use Rattle.sn_def.specs.Drafts.{draft_of}
use Rattle.sn_def.proofs.draft.Draft.line.Goals as goal

pub overflow_cast-result : goal.overflow_cast-result
overflow_cast-result c =
    let s = c.self.inside in
    let d = draft_of s.name s.controls.items s.arrays.items s.units.items s.wires.items in
    let most : c.args.read ≤ length d.controls + length d.units = subst (λ (e : Definition). c.args.read ≤ length e.controls + length e.units) (sym c.self.view_is) c.requires in
    omega (arith, most, c.self.invariant.controls, c.self.invariant.units)

pub overflow_add-result : goal.overflow_add-result
overflow_add-result c =
    let s = c.self.inside in
    let d = draft_of s.name s.controls.items s.arrays.items s.units.items s.wires.items in
    let most : c.args.read ≤ length d.controls + length d.units = subst (λ (e : Definition). c.args.read ≤ length e.controls + length e.units) (sym c.self.view_is) c.requires in
    omega (arith, most, c.self.invariant.controls, c.self.invariant.units)

pub returns-clause-few : goal.returns-clause-few
returns-clause-few c =
    let s = c.self.inside in
    let d = draft_of s.name s.controls.items s.arrays.items s.units.items s.wires.items in
    let most : c.args.read ≤ length d.controls + length d.units = subst (λ (e : Definition). c.args.read ≤ length e.controls + length e.units) (sym c.self.view_is) c.requires in
    omega (arith, most, c.self.invariant.controls, c.self.invariant.units)
