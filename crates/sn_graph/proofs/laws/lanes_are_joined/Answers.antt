use Rattle.std.specs.Prelude.{pos, false, replicate}
use Rattle.sn_tree.specs.Trees.{subtree}
use Rattle.sn_graph.specs.Stages.{clashing_in, nodes_in, nodes_with}
use Rattle.sn_graph.proofs.Clearing.{are_plain}
use Rattle.sn_graph.proofs.Hearing.{all_heard}
use Rattle.sn_graph.proofs.Splitting.{are_joined, are_laned, heard_laned}
use Rattle.sn_graph.proofs.laws.lanes_are_joined.Goals as goal

pub returns : goal.returns
returns c = λ first most.
    let stage = c.args.stage.now in
    let heard = all_heard stage.buffers (clashing_in stage) (subtree (pos 0) stage.tree.attached) in
    let plain = are_plain stage.buffers (clashing_in stage) (subtree (pos 0) stage.tree.attached) in
    are_joined first (λ n. false) (λ n. false) (nodes_with first most stage)
    (heard_laned first most (replicate 128 false) 0 (nodes_in stage) heard) (are_laned first most (nodes_in stage) plain)
