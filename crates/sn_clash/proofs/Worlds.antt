-- The clashes of a stage and of a world that it stands for.
use Rattle.std.proofs.Common.{◌≡◌, ℕ, List, Option, refl, ◌∙◌}
use Rattle.sn_mem.specs.declared.buffers.BufferPlace.{BufferPlace}
use Rattle.sn_mem.specs.Buffers.{buffer_of, buffers_of}
use Rattle.sn_world.specs.declared.stage.Held.{Held}
use Rattle.sn_world.specs.declared.stage.Held.TheVariants as held
use Rattle.sn_world.specs.declared.stage.Stage.{Stage}
use Rattle.sn_world.specs.Nodes.{content_of}
use Rattle.sn_world.specs.World.{world_of}
use Rattle.sn_foot.specs.declared.resource.Resource.{Resource}
use Rattle.sn_foot.specs.declared.uses.Role.{Role}
use Rattle.sn_foot.specs.declared.uses.Role.TheVariants.{Read, Write, Mix}
use Rattle.sn_foot.specs.Footprints.{is_there}
use Rattle.sn_foot.specs.Uses.{held_uses}
use Rattle.sn_clash.specs.Clashing.{clashes, clashes_in, clashes_of, content_uses}
use Rattle.sn_clash.proofs.Mapped.{there_map, clashes_mapped}

-- ---- buffers

pub same_there : (words : List ℕ) (buffers : List (Option BufferPlace)) (r : Resource) → is_there (buffers_of words buffers) r ≡ is_there buffers r
unfolding buffers_of
same_there words buffers r = there_map (buffer_of words) buffers r

-- ---- what synths use

same_uses : (words : List ℕ) (role : Role) (h : Held) (r : Resource) → content_uses role (content_of words h) r ≡ held_uses role h r
same_uses words Read held.Group r = refl
same_uses words Write held.Group r = refl
same_uses words Mix held.Group r = refl
same_uses words Read (held.Synth def controls state) r = refl
same_uses words Write (held.Synth def controls state) r = refl
same_uses words Mix (held.Synth def controls state) r = refl

pub same_clashes : (stage : Stage) (words : List ℕ) → clashes_of (world_of stage words) ≡ clashes_in stage
same_clashes stage words =
    let t = stage.tree.attached in
    clashes_mapped (content_of words) (is_there (buffers_of words stage.buffers)) content_uses t
    ∙ (λ i. clashes (λ r. same_there words stage.buffers r i) (λ role h r. same_uses words role h r i) t)
