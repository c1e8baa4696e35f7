use Rattle.std.proofs.Common.{◌++◌, ◌∙◌, ap, List}
use Rattle.sn_clash.specs.declared.clash.Clash.{Clash}
use Rattle.sn_engine.specs.Clashing.{told_clashes}
use Rattle.sn_engine.proofs.clashing.take_clashes.Goals as goal

pub returns-clause-told : goal.returns-clause-told
returns-clause-told c = λ words.
    c.in_ok-tell_clashes.ensures
    ∙ ap (λ (bs : List Clash). c.args.said.now ++ told_clashes bs c.as_slice-2.result.now) c.as_slice.ensures
    ∙ ap (λ (cs : List Clash). c.args.said.now ++ told_clashes c.args.held.now cs) (c.as_slice-2.ensures ∙ c.in_ok-found.ensures.world words)
