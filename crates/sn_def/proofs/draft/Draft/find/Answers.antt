use Rattle.std.proofs.Common.{◌≡◌, ◌<◌, cond, length, Some, None, refl, ap, ◌∙◌, arith}
use Rattle.sn_def.specs.Definition.{Definition, place_of, control_names, named}
use Rattle.sn_def.specs.Drafts.{draft_of, has_point}
use Rattle.sn_def.proofs.Placing.{by_element, by_map, element_below}
use Rattle.sn_def.proofs.draft.Draft.find.Goals as goal

pub overflow_cast-result : goal.overflow_cast-result
overflow_cast-result c =
    let s = c.self.inside in
    let d = draft_of s.name s.controls.items s.arrays.items s.units.items s.wires.items in
    let name = c.args.name.now in
    let is : Some c.in-Some.number ≡ cond (has_point name) (place_of name (control_names d)) None = rw c.deref.ensures.value at c.in-Some.ensures in
    let low : c.in-Some.number < length d.controls = element_below d name c.in-Some.number (has_point name) is in
    omega (arith, low, c.self.invariant.controls)

pub returns-in-Some : goal.returns-in-Some
returns-in-Some c =
    let s = c.self.inside in
    let d = draft_of s.name s.controls.items s.arrays.items s.units.items s.wires.items in
    let name = c.args.name.now in
    let is : Some c.in-Some.number ≡ cond (has_point name) (place_of name (control_names d)) None = rw c.deref.ensures.value at c.in-Some.ensures in
    by_element d s.known.map name c.in-Some.number (has_point name) c.self.invariant is ∙ ap (λ (e : Definition). named e name) c.self.view_is

pub returns-in-None : goal.returns-in-None
returns-in-None c =
    let s = c.self.inside in
    let d = draft_of s.name s.controls.items s.arrays.items s.units.items s.wires.items in
    let name = c.args.name.now in
    let is : None ≡ cond (has_point name) (place_of name (control_names d)) None = rw c.deref.ensures.value at c.in-None.ensures in
    c.find.ensures ∙ by_map d s.known.map name (has_point name) refl c.self.invariant is ∙ ap (λ (e : Definition). named e name) c.self.view_is
