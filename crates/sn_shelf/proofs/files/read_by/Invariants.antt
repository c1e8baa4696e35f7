-- What was read begins the file.
use Rattle.std.proofs.Common.{◌≡◌, ◌≤◌, ◌-◌, ◌+◌, length}
use Rattle.sn_shelf.specs.Files.{IsReadNamed}
use Rattle.sn_shelf.proofs.files.read_by.Given as goal

abbrev pub invariant-loop-shelf : goal.invariant-loop-shelf
invariant-loop-shelf g l = record {
  read : IsReadNamed (g.H.Shelf.files l.fn.shelf) l.name.bytes l.bytes.bytes;
  few : length l.bytes.bytes ≤ 33554432 + 1048576;
  piece : length l.piece ≡ 1048576;
  kept : g.H.Shelf.files l.shelf ≡ g.H.Shelf.files l.fn.shelf;
  later : g.H.Shelf.faults l.fn.shelf ≤ g.H.Shelf.faults l.shelf;
  still : g.H.Shelf.faults l.shelf ≡ g.H.Shelf.faults l.fn.shelf;
}

abbrev pub decreases-loop-shelf : goal.decreases-loop-shelf
decreases-loop-shelf g l = 33554432 + 1048576 - length l.bytes.bytes
