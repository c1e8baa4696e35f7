-- The places of buffers end below 2^32.
use Rattle.std.proofs.Common.{◌≡◌, ℕ, zero, suc, List, [], ◌∷◌, Option, Some, None}
use Rattle.std.specs.Prelude.{replicate, slice_set}
use Rattle.std.specs.List.{All}
use Rattle.std.proofs.lemmas.List.Elements.{All-nil, All-append}
use Rattle.sn_mem.specs.declared.buffers.BufferPlace.{BufferPlace}
use Rattle.sn_mem.specs.Buffers.{live_places, place_extents}
use Rattle.sn_foot.specs.Canonical.{Ends}
use Rattle.sn_foot.proofs.Finding.{all_parts}

-- those of no buffers
pub none_end : (count : ℕ) → All Ends (live_places (replicate count None))
unfolding live_places
none_end zero = All-nil Ends
none_end (suc n) = none_end n

-- and those of which one is set
pub set_ends : (buffers : List (Option BufferPlace)) (n : ℕ) (p : Option BufferPlace) → All Ends (live_places buffers) → All Ends (place_extents p) → All Ends (live_places (slice_set buffers n p))
unfolding live_places
set_ends [] n p all one = All-nil Ends
set_ends (b ∷ bs) zero p all one = All-append Ends (place_extents p) (live_places bs) one (all_parts Ends (place_extents b) (live_places bs) all).1
set_ends (b ∷ bs) (suc n) p all one =
    let parts = all_parts Ends (place_extents b) (live_places bs) all in
    All-append Ends (place_extents b) (live_places (slice_set bs n p)) parts.0 (set_ends bs n p parts.1 one)
