use Rattle.std.proofs.Common.{◌∙◌, List, [], ◌∷◌, ◌++◌, subst, sym}
use Rattle.sn_foot.specs.declared.uses.Use.{Use}
use Rattle.sn_clash.specs.declared.marks.Mark.{Mark}
use Rattle.sn_clash.specs.Marking.{IsThinned, mark_use}
use Rattle.sn_clash.proofs.Thinned.{thinned_new, thinned_old}
use Rattle.sn_clash.proofs.thinning.put_new.Goals as goal

pub returns-then-has : goal.returns-then-has
returns-then-has c = λ uses is. thinned_old c.args.marks.now c.args.kept.now.items uses c.args.used.now (sym c.has.ensures ∙ c.if-has.true) is

pub returns : goal.returns
returns c = λ uses is.
    let u : Use = c.args.used.now in
    let old : List Mark = c.args.marks.now in
    subst (λ (ms : List Mark). IsThinned ms c.push.new.self.items (uses ++ u ∷ [])) (sym c.mark.ensures)
    (subst (λ (us : List Use). IsThinned (mark_use u old) us (uses ++ u ∷ [])) (sym c.in_ok-push.ensures.items) (thinned_new old c.args.kept.now.items uses u is))
