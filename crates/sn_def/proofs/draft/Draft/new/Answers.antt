use Rattle.sn_def.proofs.Drafting.{fresh_draft}
use Rattle.sn_def.proofs.draft.Draft.new.Goals as goal

pub invariant_of-result : goal.invariant_of-result
invariant_of-result c = fresh_draft c.args.name _ _ _ _ c.new-5.result.map c.new.ensures.items c.new-2.ensures.items c.new-3.ensures.items c.new-4.ensures.items c.new-5.ensures
