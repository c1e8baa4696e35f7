use Rattle.std.proofs.Common.{rules, ◌≡◌, ◌<◌, None, subst, sym, ◌∙◌, length}
use Rattle.std.specs.Int.{w32}
use Rattle.std.proofs.lemmas.Int.{to_z-of_z}
use Rattle.std.proofs.lemmas.List.{length-map}
use Rattle.sn_def.specs.Definition.{Definition, named}
use Rattle.sn_def.specs.Params.{parameter_of}
use Rattle.sn_def.specs.Drafts.{draft_of, IsDraft}
use Rattle.sn_def.proofs.Drafting.{control_kept, draft-control}
use Rattle.sn_def.proofs.draft.Draft.with_control.Goals as goal

pub invariant_of-draft : goal.invariant_of-draft
invariant_of-draft c =
    let s = c.draft.inside in
    let d = draft_of s.name s.controls.items s.arrays.items s.units.items s.wires.items in
    let is : d ≡ c.args.self = c.draft.view_is in
    let fresh : named d c.args.name.now ≡ None = subst (λ (e : Definition). named e c.args.name.now ≡ None) (sym is) c.requires.fresh in
    let room : length d.controls < 512 = subst (λ (e : Definition). length e.controls < 512) (sym is) c.requires.room in
    let count : c.len-number.result ≡ length s.controls.items = search rules in
    let kept = control_kept d s.known.map c.add.new.self.map c.args.name.now c.args.default c.len-number.result c.draft.invariant fresh room (count ∙ sym (length-map s.controls.items parameter_of)) c.in_ok-add.ensures in
    subst (λ (e : Definition). IsDraft e c.add.new.self.map) (sym (draft-control s.name s.controls.items c.push.new.self.items s.arrays.items s.units.items s.wires.items _ c.args.name.now c.args.default c.in_ok-from_slice.ensures (to_z-of_z w32 c.args.default c.ranges.default) c.in_ok-push.ensures.items)) kept
