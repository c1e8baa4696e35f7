use Rattle.std.proofs.Common.{◌≡◌, ◌∙◌, ap, subst, sym}
use Rattle.sn_mem.specs.Blocks.{table}
use Rattle.sn_graph.specs.declared.nodes.HeardNodes.{HeardNodes as Given}
use Rattle.sn_graph.specs.Sharing.{two_mix}
use Rattle.sn_graph.specs.Voices.{group}
use Rattle.sn_graph.specs.Inputs.{AreNoted, nodes_of}
use Rattle.sn_graph.proofs.linked.group_before.Goals as goal

pub returns-clause-nodes : goal.returns-clause-nodes
returns-clause-nodes c =
    ap (λ (r : Given). group c.args.joint.lanes (nodes_of r) (nodes_of c.in_ok-new-2.field-0.value)) c.in_ok-new.ensures.ok
    ∙ ap (λ (r : Given). group c.args.joint.lanes (nodes_of c.args.inner) (nodes_of r)) c.in_ok-new-2.ensures.ok

pub returns-clause-noted : goal.returns-clause-noted
returns-clause-noted c = λ shared inner rest. (
  subst (λ (r : Given). c.args.joint.shared ≡ table (two_mix (nodes_of r)) 128) (sym c.in_ok-new.ensures.ok) shared,
  (subst AreNoted (sym c.in_ok-new.ensures.ok) inner, subst AreNoted (sym c.in_ok-new-2.ensures.ok) rest),
)
