use Rattle.std.proofs.Common.{◌≡◌, true, sym, ◌∙◌}
use Rattle.sn_def.specs.Drafts.{has_point}
use Rattle.sn_def.proofs.Placing.{place_is}
use Rattle.sn_def.proofs.draft.element.Goals as goal

pub returns-then-has_point : goal.returns-then-has_point
returns-then-has_point c =
    let pointed : has_point c.args.name.now ≡ true = sym c.has_point.ensures ∙ c.if-has_point.true in
    rw pointed (c.place_of.ensures ∙ place_is c.args.name.now c.args.controls.now)
