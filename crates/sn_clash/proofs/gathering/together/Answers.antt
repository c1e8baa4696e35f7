use Rattle.std.proofs.Common.{◌≡◌, ◌∙◌, ◌++◌, Bool, List, ap}
use Rattle.std.proofs.lemmas.Result.{IfOk-weaker}
use Rattle.std.specs.Global.{Vec}
use Rattle.sn_foot.specs.declared.resource.Resource.{Resource}
use Rattle.sn_foot.specs.declared.uses.Use.{Use}
use Rattle.sn_foot.specs.Uses.{footprint_in}
use Rattle.sn_clash.specs.Passing.{either}
use Rattle.sn_clash.proofs.Together.{either_swapped}
use Rattle.sn_clash.proofs.Putting.{joined}
use Rattle.sn_clash.proofs.gathering.together.Goals as goal

pub returns-then-len : goal.returns-then-len
returns-then-len c =
    let us : List Use = c.args.first.items in
    let vs : List Use = c.args.second.items in
    IfOk-weaker c.appended.result (λ (u : Vec Use). u.items ≡ vs ++ c.deref.result.now) (λ (u : Vec Use). (there : Resource → Bool) → footprint_in there u.items ≡ either (footprint_in there us) (footprint_in there vs))
    (λ u e there. joined there vs us u.items (e ∙ ap (λ ws. vs ++ ws) c.deref.ensures.value) ∙ either_swapped (footprint_in there vs) (footprint_in there us)) c.appended.ensures

pub returns : goal.returns
returns c =
    let us : List Use = c.args.first.items in
    let vs : List Use = c.args.second.items in
    IfOk-weaker c.appended-2.result (λ (u : Vec Use). u.items ≡ us ++ c.deref-2.result.now) (λ (u : Vec Use). (there : Resource → Bool) → footprint_in there u.items ≡ either (footprint_in there us) (footprint_in there vs))
    (λ u e there. joined there us vs u.items (e ∙ ap (λ ws. us ++ ws) c.deref-2.ensures.value)) c.appended-2.ensures
