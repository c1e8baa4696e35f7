use Rattle.std.proofs.Common.{◌∙◌}
use Rattle.sn_graph.proofs.Flags.{none_told}
use Rattle.sn_graph.proofs.linked.Linked.new.Goals as goal

pub invariant_of-result : goal.invariant_of-result
invariant_of-result c = (c.no_buses.ensures ∙ none_told 128, c.no_buses-2.ensures ∙ none_told 128, tt)
