use Rattle.std.proofs.Common.{◌≡◌, ◌∙◌, ◌+◌, ◌-◌, ℕ, ℤ, Bool, List, [], ◌∷◌, ap, subst, arith, take, length, w32, to_z, of_z, rules}
use Rattle.std.specs.Prelude.{FitsSigned}
use Rattle.std.specs.List.{filter}
use Rattle.std.proofs.lemmas.Int.{to_z-of_z}
use Rattle.sn_foot.specs.declared.resource.Resource.{Resource}
use Rattle.sn_foot.specs.Footprints.{Footprint, clash_on, is_there}
use Rattle.sn_clash.specs.declared.clash.Clash.{Clash}
use Rattle.sn_foot.specs.declared.uses.Use.{Use}
use Rattle.sn_clash.specs.declared.subtree.Subtree.{Subtree}
use Rattle.sn_clash.specs.Clashing.{Member, clashes_with, resources}
use Rattle.sn_foot.specs.Uses.{footprint_in}
use Rattle.sn_clash.specs.Marking.{marked_in}
use Rattle.sn_clash.specs.Passing.{member_of, members_of}
use Rattle.sn_clash.proofs.Members.{past_member, with_member}
use Rattle.sn_clash.proofs.pairs.first_with.Goals as goal

pub returns-in-Some : goal.returns-in-Some
returns-in-Some c =
    let there : Resource → Bool = is_there c.args.buffers.now in
    let es = c.args.later.now in
    let a : Member = member_of there c.args.first.now in
    let x : Subtree = c.index-later-later.result in
    let fits : FitsSigned w32 c.args.group = search rules in
    let same : to_z w32 (of_z w32 c.args.group) ≡ c.args.group = to_z-of_z w32 c.args.group fits in
    let clash : c.clash_between.result ≡ record { group = c.args.group; first = a.id; second = x.id; resource = c.in-Some.resource } =
    c.clash_between.ensures ∙ ap (λ (g : ℤ). record { group = g; first = a.id; second = x.id; resource = c.in-Some.resource }) same in
    let marked : marked_in there c.in_ok-marks.marks ≡ a.uses = c.in_ok-marks.ensures c.args.buffers.now ∙ ap (λ (us : List Use). footprint_in there us) c.deref.ensures.value in
    let shared : c.in-Some.resource ∷ [] ≡ take 1 (filter (clash_on a.uses (footprint_in there x.uses.items)) resources) =
    c.in-Some.ensures
    ∙ ap (λ (us : List Use). take 1 (filter (clash_on (marked_in there c.in_ok-marks.marks) (footprint_in there us)) resources)) c.deref-in-loop-back.ensures.value
    ∙ ap (λ (f : Footprint). take 1 (filter (clash_on f (footprint_in there x.uses.items)) resources)) marked in
    ap (λ (k : Clash). k ∷ []) clash
    ∙ with_member there c.args.group a es (length es - c.loop-back.back) (length es - 1 - c.loop-back.back) x c.in-Some.resource (omega (arith, c.loop-back-test.true)) (omega (arith, c.loop-back-test.true)) c.index-later-later.is shared
    ∙ subst (λ (g : ℤ). take 1 (clashes_with g a (members_of there (take (length es - c.loop-back.back) es))) ≡ take 1 (clashes_with g a (members_of there es))) same c.loop-back.invariant

pub loop-back-preserved : goal.loop-back-preserved
loop-back-preserved c =
    let there : Resource → Bool = is_there c.args.buffers.now in
    let es = c.args.later.now in
    let a : Member = member_of there c.args.first.now in
    let x : Subtree = c.index-later-later.result in
    let next : length es - (c.loop-back.back + 1) ≡ length es - 1 - c.loop-back.back = omega (arith, c.loop-back-test.true) in
    let g : ℤ = to_z w32 (of_z w32 c.args.group) in
    let marked : marked_in there c.in_ok-marks.marks ≡ a.uses = c.in_ok-marks.ensures c.args.buffers.now ∙ ap (λ (us : List Use). footprint_in there us) c.deref.ensures.value in
    let none : [] ≡ take 1 (filter (clash_on a.uses (footprint_in there x.uses.items)) resources) =
    c.in_default.ensures
    ∙ ap (λ (us : List Use). take 1 (filter (clash_on (marked_in there c.in_ok-marks.marks) (footprint_in there us)) resources)) c.deref-in-loop-back.ensures.value
    ∙ ap (λ (f : Footprint). take 1 (filter (clash_on f (footprint_in there x.uses.items)) resources)) marked in
    ap (λ (k : ℕ). take 1 (clashes_with g a (members_of there (take k es)))) next
    ∙ past_member there g a es (length es - c.loop-back.back) (length es - 1 - c.loop-back.back) x (omega (arith, c.loop-back-test.true)) (omega (arith, c.loop-back-test.true)) c.index-later-later.is none
    ∙ c.loop-back.invariant
