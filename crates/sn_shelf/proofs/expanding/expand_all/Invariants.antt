-- The packets so far are what is made of those that were taken.
use Rattle.std.proofs.Common.{◌≡◌, ◌≤◌, ◌^◌, length, map}
use Rattle.std.specs.Prelude.{IfSome}
use Rattle.sn_ports.specs.Limits.{most_samples}
use Rattle.sn_osc.specs.Shape.{shape}
use Rattle.sn_shelf.specs.Asking.{AllKeepUnasked}
use Rattle.sn_shelf.specs.Expanded.{expanded_list}
use Rattle.sn_shelf.specs.Growth.{AllSpelledWithin}
use Rattle.sn_shelf.specs.Remembering.{Knows}
use Rattle.sn_shelf.proofs.expanding.expand_all.Given as goal

abbrev pub invariant-loop-packet : goal.invariant-loop-packet
invariant-loop-packet g l = record {
  told : IfSome (g.H.Shelf.files l.fn.shelf) (λ fs. (map shape l.done.items, l.room) ≡ expanded_list fs most_samples (map shape l.yielded));
  unasked : AllKeepUnasked (map shape l.yielded) (map shape l.done.items);
  spelled : AllSpelledWithin (2 ^ 27) (map shape l.done.items);
  left : AllSpelledWithin 65536 (map shape l.packet-iterator.rest.items);
  count : length l.done.items ≡ length l.yielded;
  room : l.room ≤ most_samples;
  knows : Knows (g.H.Shelf.files l.shelf) l.reader.last;
  kept : g.H.Shelf.files l.shelf ≡ g.H.Shelf.files l.fn.shelf;
  later : g.H.Shelf.faults l.fn.shelf ≤ g.H.Shelf.faults l.shelf;
  still : g.H.Shelf.faults l.shelf ≡ g.H.Shelf.faults l.fn.shelf;
}
