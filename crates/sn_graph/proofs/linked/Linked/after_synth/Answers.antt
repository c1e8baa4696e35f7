use Rattle.std.proofs.Common.{◌∙◌, ap, subst, sym}
use Rattle.sn_graph.specs.declared.nodes.HeardNodes.{HeardNodes as Given}
use Rattle.sn_graph.specs.Voices.{HeardNodes, synth}
use Rattle.sn_graph.specs.Inputs.{nodes_of}
use Rattle.sn_graph.proofs.Flags.{AreOf, with_synth}
use Rattle.sn_graph.proofs.linked.Linked.after_synth.Goals as goal

pub invariant_of-linked : goal.invariant_of-linked
invariant_of-linked c =
    let s = c.self.inside in
    let flags = subst (λ (r : HeardNodes). AreOf r c.either-mixed.result c.either-shared.result) (sym c.in_ok-nodes.ensures.nodes)
    (with_synth c.args.voice (nodes_of s.nodes) c.buses_of-own.result s.mixed s.shared c.both-more.result c.either-mixed.result c.either-shared.result (c.self.invariant.0, c.self.invariant.1)
    c.buses_of-own.ensures c.both-more.ensures c.either-shared.ensures c.either-mixed.ensures) in
    (flags.0, flags.1, c.in_ok-nodes.ensures.noted c.self.invariant.2)

pub returns : goal.returns
returns c = c.in_ok-nodes.ensures.nodes ∙ ap (λ (r : Given). synth c.args.voice (nodes_of r)) c.self.view_is
