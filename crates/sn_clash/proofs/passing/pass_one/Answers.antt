use Rattle.std.proofs.Common.{◌≡◌, ◌∙◌, ◌-◌, ◌++◌, ◌∷◌, [], ℕ, Bool, List, ap, arith, length, length-drop, take, drop, take_all, sym}
use Rattle.sn_foot.specs.declared.resource.Resource.{Resource}
use Rattle.sn_clash.specs.declared.subtree.Subtree.{Subtree}
use Rattle.sn_foot.specs.Footprints.{is_there}
use Rattle.sn_clash.specs.Passing.{members_of, uses_at}
use Rattle.sn_clash.specs.Rows.{label_in}
use Rattle.sn_clash.proofs.Stacking.{one_passed}
use Rattle.sn_clash.proofs.passing.pass_one.Goals as goal

pub returns : goal.returns
returns c =
    let there : Resource → Bool = is_there c.args.buffers.now in
    let old = c.args.passed.now.items in
    let kept : ℕ = c.saturating_sub-kept.result in
    let kept_is : kept ≡ length old - c.args.node.now.children = omega (arith, c.saturating_sub-kept.ensures, c.len.ensures, c.args.passed.now.ok.0) in
    let size_is : c.len-2.result ≡ length c.args.found.now.items = omega (arith, c.len-2.ensures, c.args.found.now.ok.0) in
    let new_is : c.push.new.self.items ≡ take kept old ++ c.subtree.result ∷ [] = c.in_ok-push.ensures.items ∙ ap (λ (es : List Subtree). es ++ c.subtree.result ∷ []) c.in_ok-uses.ensures.left in
    let ds : List Subtree = c.deref.result.now in
    let below : List Subtree = take (length ds - kept) (drop kept ds) in
    let below_is : below ≡ drop kept old = take_all (length ds - kept) (drop kept ds) (omega (arith, length-drop kept ds)) ∙ ap (λ (es : List Subtree). drop kept es) c.deref.ensures.value in
    one_passed there (label_in c.args.node.now) c.args.node.now.children old below c.push.new.self.items c.args.found.now.items c.report.new.found.items kept c.base_of-base.result c.len-2.result c.in_ok-uses.uses
    below_is kept_is size_is (c.base_of-base.ensures there)
    (c.in_ok-uses.ensures.uses c.args.buffers.now ∙ ap (λ (es : List Subtree). uses_at there (label_in c.args.node.now) (members_of there es)) (sym below_is)) c.in_ok-report.ensures
    (new_is ∙ ap (λ (e : Subtree). take kept old ++ e ∷ []) c.subtree.ensures)
