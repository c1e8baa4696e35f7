use Rattle.std.proofs.Common.{ap, ◌∙◌, map}
use Rattle.std.specs.FinMap as finite
use Rattle.sn_def.specs.Defs.{definition_of}
use Rattle.sn_world.proofs.DefsLemmas.{named_entry, removed}
use Rattle.sn_world.proofs.defs.Defs.remove.Goals as goal

pub returns : goal.returns
returns c =
    ap (λ es. finite.from_entries (map (named_entry (λ k. k.items) (λ a. definition_of a.value)) es)) c.remove.ensures.entries
    ∙ removed (λ k. k.items) (λ a. definition_of a.value) c.args.name.now c.args.self.now.items.entries c.len.ensures.ordered
