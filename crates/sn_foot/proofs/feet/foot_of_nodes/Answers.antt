use Rattle.std.proofs.Common.{◌∙◌, ◌++◌, List, ap, map}
use Rattle.sn_foot.specs.declared.uses.Role.TheVariants.{Mix, Read, Write}
use Rattle.sn_foot.specs.declared.uses.Use.{Use}
use Rattle.sn_foot.specs.Canonical.{canonical}
use Rattle.sn_foot.specs.Footprints.{states_of}
use Rattle.sn_foot.specs.Uses.{places_of}
use Rattle.sn_foot.proofs.Footing.{foot_by_uses}
use Rattle.sn_foot.proofs.feet.foot_of_nodes.Goals as goal

pub returns : goal.returns
returns c =
    let hs = map (λ h. h.now) c.args.nodes.now in
    let buffers = c.args.buffers.now in
    foot_by_uses buffers hs c.in_ok-uses.uses.items (record { reads = c.in_ok-reads.reads; writes = c.in_ok-writes.writes; mixes = c.in_ok-mixes.mixes }) c.in_ok-uses.ensures
    (c.in_ok-reads.ensures ∙ ap (λ (us : List Use). canonical (places_of buffers Read us)) c.deref.ensures.value)
    (c.in_ok-writes.ensures ∙ ap (λ (us : List Use). canonical (places_of buffers Write us ++ states_of hs)) c.deref-2.ensures.value)
    (c.in_ok-mixes.ensures ∙ ap (λ (us : List Use). canonical (places_of buffers Mix us)) c.deref-3.ensures.value)
