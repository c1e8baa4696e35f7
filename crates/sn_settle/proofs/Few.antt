-- No more nodes run than there are.
use Rattle.std.proofs.Common.{◌≤◌, ◌+◌, Bool, true, false, cond, ◌∷◌, ◌++◌, length, arith}
use Rattle.std.proofs.lemmas.List.{length-append}
use Rattle.sn_tree.specs.Trees.{Nodes, none, node, count, running_labels}

pub few_running : {P : Type 0} (t : Nodes P) → length (running_labels t) ≤ count t
few_running none = omega arith
few_running (node l below after) = at l.running (few_running below) (few_running after)
  where
    at : (b : Bool) → length (running_labels below) ≤ count below → length (running_labels after) ≤ count after → length (cond b (l ∷ (running_labels below ++ running_labels after)) (running_labels after)) ≤ 1 + count below + count after
    at true one two = omega (arith, one, two, length-append (running_labels below) (running_labels after))
    at false one two = omega (arith, one, two)
