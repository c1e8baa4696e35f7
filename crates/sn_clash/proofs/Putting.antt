-- What is put for a node is what it uses by itself.
use Rattle.std.proofs.Common.{◌≡◌, Bool, ◌&&◌, ◌||◌, List, [], ◌++◌, Option, ap, ◌∙◌}
use Rattle.std.proofs.Math.Bool.{and-or_distrib_left}
use Rattle.std.proofs.lemmas.List.Folds.{list_any-append}
use Rattle.sn_mem.specs.declared.buffers.BufferPlace.{BufferPlace}
use Rattle.sn_world.specs.declared.stage.Held.{Held}
use Rattle.sn_foot.specs.declared.resource.Resource.{Resource}
use Rattle.sn_foot.specs.declared.uses.Role.{Role}
use Rattle.sn_foot.specs.declared.uses.Role.TheVariants.{Read, Write, Mix}
use Rattle.sn_foot.specs.declared.uses.Use.{Use}
use Rattle.sn_foot.specs.Footprints.{held_mixes, held_reads, held_writes, is_there}
use Rattle.sn_foot.specs.Uses.{PutsUses, footprint_in, is_role, is_same, uses_in}
use Rattle.sn_foot.proofs.Putting.{low_number}
use Rattle.sn_clash.specs.Passing.{either, used_by}
use Rattle.sn_clash.proofs.Marking.{guarded}

pub own_use : (buffers : List (Option BufferPlace)) (h : Held) (new : List Use) → PutsUses h [] new → footprint_in (is_there buffers) new ≡ used_by (is_there buffers) h
own_use buffers h new put = λ i. record {
  reads = λ r. guarded (is_there buffers r) (uses_in Read new r) (held_reads h r) (λ t. put Read r (low_number buffers r t)) i;
  writes = λ r. guarded (is_there buffers r) (uses_in Write new r) (held_writes h r) (λ t. put Write r (low_number buffers r t)) i;
  mixes = λ r. guarded (is_there buffers r) (uses_in Mix new r) (held_mixes h r) (λ t. put Mix r (low_number buffers r t)) i;
}

-- ---- lists together

appended : (there : Resource → Bool) (a : Role) (us vs : List Use) (r : Resource) → (there r && uses_in a (us ++ vs) r) ≡ ((there r && uses_in a us r) || (there r && uses_in a vs r))
appended there a us vs r = ap (λ b. there r && b) (list_any-append (λ (u : Use). is_role a u.role && is_same u.resource r) us vs) ∙ and-or_distrib_left (there r) (uses_in a us r) (uses_in a vs r)

pub joined : (there : Resource → Bool) (us vs new : List Use) → new ≡ us ++ vs → footprint_in there new ≡ either (footprint_in there us) (footprint_in there vs)
joined there us vs new e = ap (λ (ws : List Use). footprint_in there ws) e ∙ (λ i. record { reads = λ r. appended there Read us vs r i; writes = λ r. appended there Write us vs r i; mixes = λ r. appended there Mix us vs r i })
