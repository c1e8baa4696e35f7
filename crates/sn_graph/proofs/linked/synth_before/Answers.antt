use Rattle.std.proofs.Common.{ap, subst, sym}
use Rattle.sn_graph.specs.declared.nodes.HeardNodes.{HeardNodes as Given}
use Rattle.sn_graph.specs.Voices.{synth}
use Rattle.sn_graph.specs.Inputs.{AreNoted, nodes_of}
use Rattle.sn_graph.proofs.linked.synth_before.Goals as goal

pub returns-clause-nodes : goal.returns-clause-nodes
returns-clause-nodes c = ap (λ (r : Given). synth c.args.voice (nodes_of r)) c.in_ok-new.ensures.ok

pub returns-clause-noted : goal.returns-clause-noted
returns-clause-noted c = λ rest. subst AreNoted (sym c.in_ok-new.ensures.ok) rest
