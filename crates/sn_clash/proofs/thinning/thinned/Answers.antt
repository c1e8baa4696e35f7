use Rattle.std.proofs.Common.{◌≡◌, ◌∙◌, Bool, List, ap}
use Rattle.std.proofs.lemmas.Result.{IfOk-weaker}
use Rattle.std.specs.Global.{Vec}
use Rattle.sn_foot.specs.declared.resource.Resource.{Resource}
use Rattle.sn_foot.specs.declared.uses.Use.{Use}
use Rattle.sn_foot.specs.Uses.{footprint_in}
use Rattle.sn_clash.proofs.thinning.thinned.Goals as goal

pub returns : goal.returns
returns c =
    IfOk-weaker c.without_repeats.result
    (λ (u : Vec Use). (there : Resource → Bool) → footprint_in there u.items ≡ footprint_in there c.deref.result.now)
    (λ (u : Vec Use). (there : Resource → Bool) → footprint_in there u.items ≡ footprint_in there c.args.uses.items)
    (λ u e there. e there ∙ ap (λ (us : List Use). footprint_in there us) c.deref.ensures.value) c.without_repeats.ensures
