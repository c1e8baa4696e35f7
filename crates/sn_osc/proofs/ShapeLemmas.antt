-- The shape of a bundle is that of its elements.
use Rattle.std.proofs.Common.{◌≡◌, refl, ap, ◌∙◌}
use mathlib.Core.Former.{Count}
use Rattle.sn_osc.specs.declared.packet.Bundle.{Bundle}
use Rattle.sn_osc.specs.declared.packet.Packet.{Packet, Bundle', Row_of-Packet, end_of-Packet, more_of-Packet, items-the_row-Packet, items_hidden-the_row-Packet-0}
use Rattle.sn_osc.specs.declared.packet.Packet as packets
use Rattle.sn_osc.specs.Shape.{bundle, more, shape, row_shapes, shapes}

abbrev row_of : Packet → (n : Count) × Row_of-Packet n
row_of (Bundle' tag room row) = (_, row)
row_of _ = (_, end_of-Packet)

row_is : (n : _) (row : Row_of-Packet n) → row_shapes row ≡ shapes (items-the_row-Packet n row)
row_is n end_of-Packet = refl
row_is n (more_of-Packet packet rest) = ap (more (shape packet)) (row_is _ rest)

pub shape-Bundle : (b : Bundle) → shape (packets.Bundle b) ≡ bundle b.tag (shapes b.elements.items)
shape-Bundle b =
    let row = row_of (packets.Bundle b) in
    ap (bundle b.tag) (row_is row.0 row.1 ∙ ap shapes (items_hidden-the_row-Packet-0 b.elements))
