use Rattle.std.proofs.Common.{List, subst, sym}
use Rattle.std.specs.List.{All}
use Rattle.sn_mem.specs.declared.extents.Extent.{Extent}
use Rattle.sn_foot.specs.Canonical.{Ends}
use Rattle.sn_graph.proofs.Drafting.{behind, reads_end, writes_end}
use Rattle.sn_graph.proofs.jobs.foot_of.Goals as goal

pub canonical-requires : goal.canonical-requires
canonical-requires c = subst (λ (es : List Extent). All Ends es) (sym c.in_ok-reads.ensures) (reads_end (behind c.args.run.now) c.requires)

pub canonical-requires-2 : goal.canonical-requires-2
canonical-requires-2 c = subst (λ (es : List Extent). All Ends es) (sym c.in_ok-writes.ensures) (writes_end (behind c.args.run.now) c.requires)
