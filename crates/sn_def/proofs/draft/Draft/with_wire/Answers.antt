use Rattle.std.proofs.Common.{rules, ◌≡◌, ◌<◌, None, subst, sym, ◌∙◌, length}
use Rattle.std.proofs.lemmas.List.{length-map}
use Rattle.sn_ports.specs.Octets.{Octets}
use Rattle.sn_def.specs.Definition.{Definition, named}
use Rattle.sn_def.specs.Drafts.{draft_of, IsDraft}
use Rattle.sn_def.proofs.Drafting.{wire_kept, draft-wire}
use Rattle.sn_def.proofs.draft.Draft.with_wire.Goals as goal

pub invariant_of-draft : goal.invariant_of-draft
invariant_of-draft c =
    let s = c.draft.inside in
    let d = draft_of s.name s.controls.items s.arrays.items s.units.items s.wires.items in
    let is : d ≡ c.args.self = c.draft.view_is in
    let fresh : named d c.args.name.now ≡ None = subst (λ (e : Definition). named e c.args.name.now ≡ None) (sym is) c.requires.fresh in
    let room : length d.wires < 512 = subst (λ (e : Definition). length e.wires < 512) (sym is) c.requires.room in
    let count : c.len-number.result ≡ length s.wires.items = search rules in
    let kept = wire_kept d s.known.map c.add.new.self.map c.args.name.now c.len-number.result c.draft.invariant fresh room (count ∙ sym (length-map s.wires.items (λ (o : Octets). o.bytes))) c.in_ok-add.ensures in
    subst (λ (e : Definition). IsDraft e c.add.new.self.map) (sym (draft-wire s.name s.controls.items s.arrays.items s.units.items s.wires.items c.push.new.self.items _ c.args.name.now c.in_ok-from_slice.ensures c.in_ok-push.ensures.items)) kept
