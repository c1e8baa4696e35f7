use Rattle.std.proofs.Common.{rules, ◌≡◌, ◌≤◌, ◌+◌, None, subst, sym, ◌∙◌, length}
use Rattle.std.proofs.lemmas.List.{length-map}
use Rattle.sn_def.specs.Definition.{Definition, named}
use Rattle.sn_def.specs.Params.{parameter_of}
use Rattle.sn_def.specs.Drafts.{draft_of, IsDraft}
use Rattle.sn_def.proofs.Drafting.{array_kept, draft-array}
use Rattle.sn_def.proofs.draft.Draft.with_array.Goals as goal

pub invariant_of-draft : goal.invariant_of-draft
invariant_of-draft c =
    let s = c.draft.inside in
    let d = draft_of s.name s.controls.items s.arrays.items s.units.items s.wires.items in
    let is : d ≡ c.args.self = c.draft.view_is in
    let name = c.args.name.now in
    let vs = c.args.defaults.now in
    let fresh : named d name ≡ None = subst (λ (e : Definition). named e name ≡ None) (sym is) c.requires.fresh in
    let room : length d.controls + length vs ≤ 512 = subst (λ (e : Definition). length e.controls + length vs ≤ 512) (sym is) c.requires.room in
    let count : c.len-first.result ≡ length s.controls.items = search rules in
    let number : c.len-first.result ≡ length d.controls = count ∙ sym (length-map s.controls.items parameter_of) in
    let kept = array_kept d s.known.map c.add.new.self.map name vs c.len-first.result c.draft.invariant fresh c.requires.some room number c.in_ok-add.ensures in
    subst (λ (e : Definition). IsDraft e c.add.new.self.map) (sym (draft-array s.name s.controls.items c.push_elements.new.controls.items s.arrays.items c.push.new.self.items s.units.items s.wires.items name vs _ c.in_ok-push_elements.ensures c.in_ok-push.ensures.items number (search rules))) kept
