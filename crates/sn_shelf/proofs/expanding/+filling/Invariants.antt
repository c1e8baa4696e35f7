-- The elements so far are what is made of those that were taken.
use Rattle.std.proofs.Common.{◌≡◌, ◌≤◌}
use Rattle.std.specs.Prelude.{IfSome}
use Rattle.sn_osc.specs.Shape.{shapes}
use Rattle.sn_shelf.specs.Expanded.{expanded_elements}
use Rattle.sn_shelf.specs.Growth.{AllGrow}
use Rattle.sn_shelf.specs.Remembering.{Knows}
use Rattle.sn_shelf.proofs.expanding.+filling.Given as goal

abbrev pub invariant-fill_elements-loop-packet : goal.invariant-fill_elements-loop-packet
invariant-fill_elements-loop-packet g l = record {
  told : IfSome (g.H.Shelf.files l.fn.shelf) (λ fs. (shapes l.done.items, l.room) ≡ expanded_elements fs l.fn.room (shapes l.yielded));
  grows : AllGrow (shapes l.yielded) (shapes l.done.items) l.fn.room l.room;
  less : l.room ≤ l.fn.room;
  knows : Knows (g.H.Shelf.files l.shelf) l.reader.last;
  kept : g.H.Shelf.files l.shelf ≡ g.H.Shelf.files l.fn.shelf;
  later : g.H.Shelf.faults l.fn.shelf ≤ g.H.Shelf.faults l.shelf;
  still : g.H.Shelf.faults l.shelf ≡ g.H.Shelf.faults l.fn.shelf;
}
