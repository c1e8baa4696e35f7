use Rattle.std.proofs.Common.{◌≡◌, ◌∙◌, ◌++◌, ℕ, List, ap, append-nil, sym}
use Rattle.std.proofs.lemmas.Result.{IfOk-weaker}
use Rattle.sn_foot.specs.declared.uses.Use.{Use}
use Rattle.sn_foot.specs.Footprints.{is_there}
use Rattle.sn_foot.specs.Uses.{footprint_in}
use Rattle.sn_clash.specs.Passing.{used_by}
use Rattle.sn_world.specs.Pictures.{units_of}
use Rattle.sn_report.specs.Reports.{foot_line, held_sight, node_line}
use Rattle.sn_report.proofs.Used.{no_line, node_line_is}
use Rattle.sn_report.proofs.lines.put_node.Goals as goal

pub returns-then-not-is_synth : goal.returns-then-not-is_synth
returns-then-not-is_synth c =
    let v = c.args.visit.now in
    let none = no_line (is_there c.args.buffers.now) v.payload.now (sym c.is_synth.ensures ∙ c.if-not-is_synth.true) in
    sym (ap (λ (l : List ℕ). c.args.out.now.bytes ++ l) (λ i. none i v.id) ∙ append-nil c.args.out.now.bytes)

pub returns : goal.returns
returns c =
    let v = c.args.visit.now in
    let there = is_there c.args.buffers.now in
    let line = node_line_is there v.payload.now (sym c.is_synth.ensures ∙ c.if-not-is_synth.false) in
    let foot : footprint_in there c.deref.result.now ≡ used_by there v.payload.now = ap (λ (us : List Use). footprint_in there us) c.deref.ensures.value ∙ c.in_ok-uses.ensures c.args.buffers.now in
    let same = ap (foot_line v.id (units_of v.payload.now)) foot ∙ sym (λ i. line i v.id) in
    IfOk-weaker c.put_synth.result _ (λ _. c.put_synth.new.out.bytes ≡ c.args.out.now.bytes ++ node_line there v.id (held_sight v.payload.now))
    (λ _ e. e ∙ ap (λ (l : List ℕ). c.args.out.now.bytes ++ l) same) c.put_synth.ensures
