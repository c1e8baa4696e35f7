use Rattle.std.proofs.Common.{◌∙◌, ap, sym, map}
use Rattle.std.proofs.lemmas.Result.{IfOk-weaker}
use Rattle.std.specs.List.{position}
use Rattle.sn_nodecmd.specs.Covering.{AreLeft}
use Rattle.sn_nodecmd.specs.Mapped.{mapping_of, AreNeeded}
use Rattle.sn_nodecmd.proofs.NeededLemmas.{is_bad, same_control, needed_all}
use Rattle.sn_nodecmd.proofs.needed.needed.Goals as goal

pub needed_to-requires : goal.needed_to-requires
needed_to-requires c = sym (c.in-Some.ensures ∙ ap (position is_bad) c.deref.ensures.value)

pub returns-in-None : goal.returns-in-None
returns-in-None c =
    IfOk-weaker c.latest.result
    (λ v. AreLeft same_control c.args.mappings.items v.items)
    (λ v. AreNeeded (map mapping_of c.args.mappings.items) (map mapping_of v.items))
    (λ v left. needed_all c.args.mappings.items v.items (c.in-None.ensures ∙ ap (position is_bad) c.deref.ensures.value) left)
    c.latest.ensures
