use Rattle.std.proofs.Common.{◌∙◌, ap, List}
use Rattle.std.specs.List.{list_any}
use Rattle.std.specs.BTreeSet.{contains}
use Rattle.sn_clash.specs.declared.clash.Clash.{Clash}
use Rattle.sn_engine.specs.declared.before.Key.{Key}
use Rattle.sn_engine.specs.Clashing.{same_clash}
use Rattle.sn_engine.specs.Seeking.{key_cmp}
use Rattle.sn_engine.proofs.before.Before.has.Goals as goal

pub returns : goal.returns
returns c =
    c.contains.ensures
    ∙ ap (λ (k : Key). contains key_cmp c.self.inside.keys k) c.key_of.ensures
    ∙ c.self.invariant c.args.clash.now
    ∙ ap (λ (cs : List Clash). list_any (λ b. same_clash b c.args.clash.now) cs) c.self.view_is
