use Rattle.std.proofs.Common.{◌≡◌, ◌++◌, List, subst, sym, ap, ◌∙◌}
use Rattle.std.specs.List.{All}
use Rattle.sn_mem.specs.declared.extents.Extent.{Extent}
use Rattle.sn_mem.specs.Lanes.{buses_in, lanes_in}
use Rattle.sn_foot.specs.Canonical.{Ends}
use Rattle.sn_graph.proofs.jobs.joint_foot.Goals as goal

pub canonical-requires : goal.canonical-requires
canonical-requires c =
    let put : c.append_lanes.new.extents.items ≡ lanes_in c.args.lanes.now = c.in_ok-append_lanes.ensures ∙ ap (λ (es : List Extent). es ++ lanes_in c.args.lanes.now) c.new-reads.ensures.items in
    subst (λ (es : List Extent). All Ends es) (sym put) c.requires.0

pub canonical-requires-2 : goal.canonical-requires-2
canonical-requires-2 c =
    let put : c.append_buses.new.extents.items ≡ buses_in c.args.lanes.now = c.in_ok-append_buses.ensures ∙ ap (λ (es : List Extent). es ++ buses_in c.args.lanes.now) c.new-writes.ensures.items in
    subst (λ (es : List Extent). All Ends es) (sym put) c.requires.1
