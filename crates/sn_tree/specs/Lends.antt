-- What a tree ends as, if a `&mut` to a payload is returned.
use Rattle.std.specs.Prelude.{ℤ, Option}
use Rattle.std.specs.Borrow.{LendsIf, Fml, RattleType, MutBor}
use Rattle.sn_tree.specs.Model.{NodeTree}
use Rattle.sn_tree.specs.Steps.{written}
use Rattle.sn_tree.specs.contracts.tree.Tree.{the_row}

module _ (P : RattleType) (tree : MutBor (NodeTree P.Denot)) (id : ℤ) where
  -- after the borrow r ends, the node has the last value written through r; at `None` the tree stays as it is
  abbrev pub lends_payload : Option (MutBor P.Denot) → Fml
  lends_payload r = LendsIf (the_row P) P tree r (written id tree.now) tree.now
