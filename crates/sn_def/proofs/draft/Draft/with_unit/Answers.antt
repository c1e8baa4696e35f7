use Rattle.std.proofs.Common.{◌<◌, subst, sym, length}
use Rattle.sn_def.specs.Definition.{Definition}
use Rattle.sn_def.specs.Drafts.{draft_of, IsDraft}
use Rattle.sn_def.proofs.Drafting.{unit_kept}
use Rattle.sn_def.proofs.draft.Draft.with_unit.Goals as goal

pub invariant_of-draft : goal.invariant_of-draft
invariant_of-draft c =
    let s = c.draft.inside in
    let d = draft_of s.name s.controls.items s.arrays.items s.units.items s.wires.items in
    let room : length d.units < 256 = subst (λ (e : Definition). length e.units < 256) (sym c.draft.view_is) c.requires in
    subst (λ units. IsDraft (draft_of s.name s.controls.items s.arrays.items units s.wires.items) s.known.map) (sym c.in_ok-push.ensures.items) (unit_kept d s.known.map c.args.kind c.args.inputs c.args.outputs c.draft.invariant room)
