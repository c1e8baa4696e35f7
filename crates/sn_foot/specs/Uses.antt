-- What a list of uses says of resources, and where these lie.
use Rattle.std.specs.Prelude.{◌≡◌, ◌<◌, ◌==◌, Bool, true, false, ◌&&◌, ◌||◌, List, [], ◌∷◌, ◌++◌, Option}
use Rattle.std.specs.List.{list_any}
use Rattle.sn_ports.specs.Limits.{control_bus_count}
use Rattle.sn_mem.specs.declared.extents.Extent.{Extent}
use Rattle.sn_mem.specs.declared.buffers.BufferPlace.{BufferPlace}
use Rattle.sn_world.specs.declared.stage.Held.{Held}
use Rattle.sn_foot.specs.declared.resource.Resource.{Resource}
use Rattle.sn_foot.specs.declared.resource.Resource.TheVariants.{Audio, Control, Buffer}
use Rattle.sn_foot.specs.declared.uses.Role.{Role}
use Rattle.sn_foot.specs.declared.uses.Role.TheVariants.{Read, Write, Mix}
use Rattle.sn_foot.specs.declared.uses.Use.{Use}
use Rattle.sn_foot.specs.Footprints.{Footprint, held_mixes, held_reads, held_writes, is_there, number_of, place_of, where_used}

abbrev pub is_same : Resource → Resource → Bool
is_same (Audio m) (Audio n) = m == n
is_same (Control m) (Control n) = m == n
is_same (Buffer m) (Buffer n) = m == n
is_same _ _ = false

abbrev pub is_role : Role → Role → Bool
is_role Read Read = true
is_role Write Write = true
is_role Mix Mix = true
is_role _ _ = false

-- some of them uses the resource in this way
abbrev pub uses_in : Role → List Use → Resource → Bool
uses_in role uses r = list_any (λ u. is_role role u.role && is_same u.resource r) uses

-- of the resources that are there, those that some of them reads, writes and mixes
abbrev pub footprint_in : (Resource → Bool) → List Use → Footprint
footprint_in there uses = record { reads = λ r. there r && uses_in Read uses r; writes = λ r. there r && uses_in Write uses r; mixes = λ r. there r && uses_in Mix uses r }

-- the places of the resources that they use in this way, as far as they are there
abbrev pub places_of : List (Option BufferPlace) → Role → List Use → List Extent
places_of buffers role [] = []
places_of buffers role (u ∷ us) = where_used (is_role role u.role) (place_of buffers u.resource) ++ places_of buffers role us

-- ---- what nodes use

abbrev pub held_uses : Role → Held → Resource → Bool
held_uses Read h r = held_reads h r
held_uses Write h r = held_writes h r
held_uses Mix h r = held_mixes h r

-- whether nodes use a resource that is there
abbrev pub nodes_use : List (Option BufferPlace) → Role → List Held → Resource → Bool
nodes_use buffers role hs r = is_there buffers r && list_any (λ h. held_uses role h r) hs

-- after a node was put to uses, what has a number below 1,024 is used just if it was used before, or by the node itself
abbrev pub PutsUses : Held → List Use → List Use → Type 0
PutsUses h before after = (role : Role) (r : Resource) → number_of r < control_bus_count → uses_in role after r ≡ (uses_in role before r || held_uses role h r)
