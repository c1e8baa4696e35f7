use Rattle.std.proofs.Common.{◌∙◌, List, Option, ap, subst, sym}
use Rattle.sn_mem.specs.declared.moves.Moved.{Moved}
use Rattle.sn_graph.specs.declared.nodes.HeardNodes.{HeardNodes as Given}
use Rattle.sn_graph.specs.Voices.{HeardNodes, group, lanes_if}
use Rattle.sn_graph.specs.Inputs.{nodes_of}
use Rattle.sn_graph.proofs.Flags.{AreOf, with_group}
use Rattle.sn_graph.proofs.linked.Linked.after_group.Goals as goal

pub invariant_of-linked : goal.invariant_of-linked
invariant_of-linked c =
    let s = c.self.inside in
    let b = c.inner.inside in
    let flags = subst (λ (r : HeardNodes). AreOf r c.either-mixed.result c.either-shared.result) (sym c.in_ok-nodes.ensures.nodes)
    (with_group c.lanes_if.result (nodes_of b.nodes) (nodes_of s.nodes) b.mixed s.mixed s.shared c.both-more.result c.either-mixed.result c.either-shared.result (c.self.invariant.0, c.self.invariant.1)
    c.inner.invariant.0 c.both-more.ensures c.either-shared.ensures c.either-mixed.ensures) in
    (flags.0, flags.1, c.in_ok-nodes.ensures.noted c.inner.invariant.1 c.inner.invariant.2 c.self.invariant.2)

pub returns : goal.returns
returns c =
    c.in_ok-nodes.ensures.nodes
    ∙ ap (λ (l : Option (List Moved)). group l (nodes_of c.inner.inside.nodes) (nodes_of c.self.inside.nodes)) c.lanes_if.ensures
    ∙ ap (λ (r : Given). group (lanes_if c.args.split) (nodes_of r) (nodes_of c.self.inside.nodes)) c.inner.view_is
    ∙ ap (λ (r : Given). group (lanes_if c.args.split) (nodes_of c.args.inner) (nodes_of r)) c.self.view_is
