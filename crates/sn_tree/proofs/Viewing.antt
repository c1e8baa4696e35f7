-- A node that is not there is not seen.
use Rattle.std.proofs.Common.{◌≡◌, ℤ, false, ◌||◌, [], None, refl}
use Rattle.std.specs.Ordering.{int_eq}
use Rattle.std.proofs.lemmas.Bool.{or_parts}
use Rattle.sn_tree.specs.Trees.{Nodes, none, node, holds, view_from}
use Rattle.sn_tree.specs.Views.{views_at}

pub no_views : {P : Type 0} (parent previous id : ℤ) (t : Nodes P) → holds id t ≡ false → views_at parent previous id t ≡ []
no_views parent previous id none h = refl
no_views parent previous id (node label below after) h =
    let d = or_parts (int_eq label.id id) (holds id below || holds id after) h in
    let b = or_parts (holds id below) (holds id after) d.1 in
    rw (d.0, b.0) (no_views parent label.id id after b.1)

pub no_view : {P : Type 0} (parent previous id : ℤ) (t : Nodes P) → holds id t ≡ false → view_from parent previous id t ≡ None
no_view parent previous id none h = refl
no_view parent previous id (node label below after) h =
    let d = or_parts (int_eq label.id id) (holds id below || holds id after) h in
    let b = or_parts (holds id below) (holds id after) d.1 in
    rw (d.0, b.0) (no_view parent label.id id after b.1)
