use Rattle.std.proofs.Common.{List, sym, subst, map, take}
use Rattle.sn_nodecmd.specs.declared.mappings.Mapping.{Mapping}
use Rattle.sn_nodecmd.specs.Covering.{AreLeft}
use Rattle.sn_nodecmd.specs.Mapped.{mapping_of, AreNeeded}
use Rattle.sn_nodecmd.proofs.NeededLemmas.{same_control, needed_to_bad}
use Rattle.sn_nodecmd.proofs.needed.needed_to.Goals as goal

pub returns : goal.returns
returns c =
    let ms = c.args.mappings.items in
    let left = c.in_ok-left.left.items in
    let kept : AreLeft same_control (take c.args.place ms) left = subst (λ (all : List Mapping). AreLeft same_control all left) c.truncate.ensures.items c.in_ok-left.ensures in
    subst (λ (all : List Mapping). AreNeeded (map mapping_of ms) (map mapping_of all)) (sym c.in_ok-push.ensures.items) (needed_to_bad ms left c.args.place c.index-bad.result.now c.requires c.index-bad.ensures kept)
