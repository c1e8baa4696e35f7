use Rattle.std.proofs.Common.{rules}
use Rattle.std.proofs.lemmas.Fn.{filter_same}
use Rattle.sn_nodecmd.proofs.ordering.attached.Goals as goal

pub returns-clause-there : goal.returns-clause-there
returns-clause-there c = filter_same _ _ _ (λ x b f' k. search rules) _ _ c.retain.ensures.filtered
