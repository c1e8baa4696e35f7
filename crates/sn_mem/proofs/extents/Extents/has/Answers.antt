use Rattle.std.proofs.Common.{◌≡◌, ◌∙◌, ap, List, rules}
use Rattle.sn_mem.specs.declared.extents.Extent.{Extent}
use Rattle.sn_mem.specs.Words.{has}
use Rattle.sn_mem.proofs.Meetings.{has_is}
use Rattle.sn_mem.proofs.extents.Extents.has.Goals as goal

pub returns : goal.returns
returns c =
    let same : c.as_slice.result.now ≡ c.args.self.now = search rules in
    c.any_covers.ensures ∙ (has_is c.as_slice.result.now c.args.word ∙ ap (λ (es : List Extent). has es c.args.word) same)
