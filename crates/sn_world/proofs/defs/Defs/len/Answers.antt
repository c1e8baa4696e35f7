use Rattle.std.proofs.Common.{sym, ◌∙◌}
use Rattle.sn_def.specs.Defs.{definition_of}
use Rattle.sn_world.proofs.DefsLemmas.{counted}
use Rattle.sn_world.proofs.defs.Defs.len.Goals as goal

pub returns : goal.returns
returns c = c.len.ensures.len ∙ sym (counted (λ k. k.items) (λ a. definition_of a.value) c.args.self.now.items.entries c.len.ensures.ordered)
