use Rattle.std.proofs.Common.{◌∙◌, ap, sym, List, Bool}
use Rattle.std.specs.List.{list_any}
use Rattle.sn_tree.specs.Views.{views_below}
use Rattle.sn_nodecmd.proofs.ToldLemmas.{unheard_ends}
use Rattle.sn_nodecmd.proofs.telling.tell_all_end.Goals as goal

pub returns-then-not-is_heard-clause-told : goal.returns-then-not-is_heard-clause-told
returns-then-not-is_heard-clause-told c = λ w same.
    unheard_ends (views_below c.args.node.now.id c.args.tree.now.attached) w c.args.replies.now (ap (λ (flags : List Bool). list_any (λ (on : Bool). on) flags) same ∙ (sym c.is_heard.ensures ∙ c.if-not-is_heard.true))
