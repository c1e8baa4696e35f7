use Rattle.std.proofs.Common.{◌∙◌, ◌++◌, List, ap}
use Rattle.std.proofs.lemmas.Result.{on_ok_weaker}
use Rattle.sn_foot.specs.declared.uses.Use.{Use}
use Rattle.sn_foot.specs.Judging.{is_alone, is_counted}
use Rattle.sn_foot.proofs.Judged.{judged_same, test_is}
use Rattle.sn_foot.proofs.judging.push_many.Goals as goal

pub returns : goal.returns
returns c =
    let own : List Use = c.args.own.now in
    let counts = c.in_ok-counts.counts in
    on_ok_weaker c.push_counted.result
    (λ e. e ∙ ap (λ (us : List Use). c.args.uses.now.items ++ us) (judged_same (is_counted counts) (is_alone own) (test_is own counts c.in_ok-counts.ensures.long c.in_ok-counts.ensures.once) own))
    c.push_counted.ensures
