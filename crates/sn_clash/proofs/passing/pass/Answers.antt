use Rattle.std.proofs.Common.{◌≡◌, ◌∙◌, ◌+◌, ◌-◌, ℕ, Bool, arith, ap, length, map, take}
use Rattle.sn_foot.specs.declared.resource.Resource.{Resource}
use Rattle.sn_foot.specs.Footprints.{is_there}
use Rattle.sn_clash.specs.Passing.{Passed, pass, passed_of}
use Rattle.sn_clash.specs.Rows.{row_of}
use Rattle.sn_clash.proofs.Stacking.{pass_next}
use Rattle.sn_clash.proofs.passing.pass.Goals as goal

pub loop-back-preserved : goal.loop-back-preserved
loop-back-preserved c =
    let there : Resource → Bool = is_there c.args.buffers.now in
    let ms = c.args.nodes.now in
    let old : Passed = passed_of there c.loop-back.passed.items c.loop-back.found.items in
    let new : Passed = passed_of there c.pass_one.new.passed.items c.pass_one.new.found.items in
    let m : ℕ = length ms - 1 - c.loop-back.back in
    let next : length ms - (c.loop-back.back + 1) ≡ m = omega (arith, c.loop-back-test.true) in
    ap (λ (k : ℕ). pass there (map row_of (take k ms)) new) next
    ∙ pass_next there ms (length ms - c.loop-back.back) m c.index-nodes-nodes.result old new (omega (arith, c.loop-back-test.true)) (omega (arith, c.loop-back-test.true)) c.index-nodes-nodes.is c.in_ok-pass_one.ensures
    ∙ c.loop-back.invariant
