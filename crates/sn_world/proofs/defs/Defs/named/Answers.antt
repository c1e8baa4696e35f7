use Rattle.std.proofs.Common.{ap, ◌∙◌}
use Rattle.std.specs.Option.{option_map}
use Rattle.sn_def.specs.Defs.{definition_of}
use Rattle.sn_world.proofs.DefsLemmas.{of_copied, got}
use Rattle.sn_world.proofs.defs.Defs.named.Goals as goal

pub returns : goal.returns
returns c =
    of_copied (λ a. definition_of a.value) c.get.result
    ∙ ap (option_map (λ a. definition_of a.value)) c.get.ensures.value
    ∙ got (λ k. k.items) (λ a. definition_of a.value) c.args.name.now c.args.self.now.items.entries
