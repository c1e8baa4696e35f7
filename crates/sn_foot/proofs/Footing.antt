-- The places of what is used have the words of a footprint.
use Rattle.std.proofs.Common.{◌≡◌, ℕ, Bool, true, false, ◌&&◌, ◌||◌, List, [], ◌∷◌, ◌++◌, Option, Some, None, sym, refl, ap, ◌∙◌, ⊎_elim, true≢false}
use Rattle.std.specs.Prelude.{is_some}
use Rattle.std.specs.List.{list_any}
use Rattle.std.proofs.lemmas.Bool.{and_from, and_parts, or_cases, or_left, or_right}
use Rattle.sn_mem.specs.declared.extents.Extent.{Extent}
use Rattle.sn_foot.specs.declared.reach.Reach.{Reach}
use Rattle.sn_mem.specs.Words.{has}
use Rattle.sn_mem.specs.declared.buffers.BufferPlace.{BufferPlace}
use Rattle.sn_world.specs.declared.stage.Held.{Held}
use Rattle.sn_foot.specs.declared.resource.Resource.{Resource}
use Rattle.sn_foot.specs.declared.uses.Role.{Role}
use Rattle.sn_foot.specs.declared.uses.Role.TheVariants.{Read, Write, Mix}
use Rattle.sn_foot.specs.declared.uses.Use.{Use}
use Rattle.sn_foot.specs.Canonical.{canonical}
use Rattle.sn_foot.specs.Footprints.{foot_of, is_there, lies_in, place_of, states_of, used_places, where_used}
use Rattle.sn_foot.specs.Uses.{held_uses, is_role, is_same, nodes_use, places_of, uses_in}
use Rattle.sn_foot.specs.Putting.{put_nodes}
use Rattle.sn_foot.proofs.Runs.{has_append, has_canonical, is_canonical, unique}
use Rattle.sn_foot.proofs.Sameness.{is_itself, same_is}
use Rattle.sn_foot.proofs.Placing.{has_place}
use Rattle.sn_foot.proofs.Containing.{are_places, is_used, places_are, used_is}
use Rattle.sn_foot.proofs.Putting.{low_number, nodes_put}

both_ways : (p q : Bool) → (p ≡ true → q ≡ true) → (q ≡ true → p ≡ true) → p ≡ q
both_ways true q f g = sym (f refl)
both_ways false true f g = g refl
both_ways false false f g = refl

some_place : (x : ℕ) (place : Option Extent) → lies_in x place ≡ true → is_some place ≡ true
some_place x None h = absurd (true≢false (sym h))
some_place x (Some e) h = refl

module _ (buffers : List (Option BufferPlace)) (a : Role) where
  -- the word is one of a resource that is used in this way
  abbrev IsOfUse : List Use → ℕ → Type 0
  IsOfUse us x = (r : Resource) × ((uses_in a us r ≡ true) × (lies_in x (place_of buffers r) ≡ true))

  use_at : (us : List Use) (x : ℕ) → has (places_of buffers a us) x ≡ true → IsOfUse us x
  use_at [] x h = absurd (true≢false (sym h))
  use_at (u ∷ us) x h =
      let place : Option Extent = place_of buffers u.resource in
      let first : List Extent = where_used (is_role a u.role) place in
      let same : Resource → Bool = λ r. is_role a u.role && is_same u.resource r in
      ⊎_elim
      (λ (p : has first x ≡ true).
      let q = used_is (is_role a u.role) place x p in
      (u.resource, (or_left (same u.resource) (uses_in a us u.resource) (and_from (is_role a u.role) (is_same u.resource u.resource) q.0 (is_itself u.resource)), q.1)))
      (λ (p : has (places_of buffers a us) x ≡ true). let q = use_at us x p in (q.0, (or_right (same q.0) (uses_in a us q.0) q.1.0, q.1.1)))
      (or_cases (has first x) (has (places_of buffers a us) x) (sym (has_append first (places_of buffers a us) x) ∙ h))

  at_use : (us : List Use) (x : ℕ) (r : Resource) → uses_in a us r ≡ true → lies_in x (place_of buffers r) ≡ true → has (places_of buffers a us) x ≡ true
  at_use [] x r used lies = absurd (true≢false (sym used))
  at_use (u ∷ us) x r used lies =
      let place : Option Extent = place_of buffers u.resource in
      let first : List Extent = where_used (is_role a u.role) place in
      has_append first (places_of buffers a us) x
      ∙ ⊎_elim
      (λ (p : (is_role a u.role && is_same u.resource r) ≡ true).
      let q = and_parts (is_role a u.role) (is_same u.resource r) p in
      or_left (has first x) (has (places_of buffers a us) x) (is_used (is_role a u.role) place x q.0 (ap (λ s. lies_in x (place_of buffers s)) (same_is u.resource r q.1) ∙ lies)))
      (λ (p : uses_in a us r ≡ true). or_right (has first x) (has (places_of buffers a us) x) (at_use us x r p lies))
      (or_cases (is_role a u.role && is_same u.resource r) (uses_in a us r) used)

  there_of : (x : ℕ) (r : Resource) → lies_in x (place_of buffers r) ≡ true → is_there buffers r ≡ true
  there_of x r lies = sym (has_place buffers r) ∙ some_place x (place_of buffers r) lies

  -- what nodes use lies where the resources of their footprint lie
  pub same_words : (hs : List Held) (x : ℕ) → has (places_of buffers a (put_nodes hs [])) x ≡ has (used_places buffers (nodes_use buffers a hs)) x
  same_words hs x =
      let us : List Use = put_nodes hs [] in
      let any : Resource → Bool = λ r. list_any (λ (h : Held). held_uses a h r) hs in
      both_ways (has (places_of buffers a us) x) (has (used_places buffers (nodes_use buffers a hs)) x)
      (λ h. let q = use_at us x h in
      let there = there_of x q.0 q.1.1 in
      are_places buffers (nodes_use buffers a hs) x q.0
      (and_from (is_there buffers q.0) (any q.0) there (sym (nodes_put a hs [] q.0 (low_number buffers q.0 there)) ∙ q.1.0)) q.1.1)
      (λ h. let q = places_are buffers (nodes_use buffers a hs) x h in
      let both = and_parts (is_there buffers q.0) (any q.0) q.1.0 in
      at_use us x q.0 (nodes_put a hs [] q.0 (low_number buffers q.0 both.0) ∙ both.1) q.1.1)

same_canonical : (es fs : List Extent) → ((x : ℕ) → has es x ≡ has fs x) → canonical es ≡ canonical fs
same_canonical es fs same = unique 0 (canonical es) (canonical fs) (is_canonical es) (is_canonical fs) (λ x. has_canonical es x ∙ same x ∙ sym (has_canonical fs x))

-- the foot of nodes, from the list of what they use
pub foot_by_uses : (buffers : List (Option BufferPlace)) (hs : List Held) (us : List Use) (foot : Reach) → us ≡ put_nodes hs [] →
    foot.reads ≡ canonical (places_of buffers Read us) → foot.writes ≡ canonical (places_of buffers Write us ++ states_of hs) → foot.mixes ≡ canonical (places_of buffers Mix us) → foot ≡ foot_of buffers hs
foot_by_uses buffers hs us foot is reads writes mixes =
    let used : List Use = put_nodes hs [] in
    let all_read : List Extent = used_places buffers (nodes_use buffers Read hs) in
    let all_written : List Extent = used_places buffers (nodes_use buffers Write hs) in
    let all_mixed : List Extent = used_places buffers (nodes_use buffers Mix hs) in
    let read : foot.reads ≡ canonical all_read =
    reads ∙ ap (λ (vs : List Use). canonical (places_of buffers Read vs)) is ∙ same_canonical (places_of buffers Read used) all_read (same_words buffers Read hs) in
    let written : foot.writes ≡ canonical (all_written ++ states_of hs) =
    writes ∙ ap (λ (vs : List Use). canonical (places_of buffers Write vs ++ states_of hs)) is
    ∙ same_canonical (places_of buffers Write used ++ states_of hs) (all_written ++ states_of hs)
    (λ x. has_append (places_of buffers Write used) (states_of hs) x ∙ ap (λ b. b || has (states_of hs) x) (same_words buffers Write hs x) ∙ sym (has_append all_written (states_of hs) x)) in
    let mixed : foot.mixes ≡ canonical all_mixed =
    mixes ∙ ap (λ (vs : List Use). canonical (places_of buffers Mix vs)) is ∙ same_canonical (places_of buffers Mix used) all_mixed (same_words buffers Mix hs) in
    λ i. record { reads = read i; writes = written i; mixes = mixed i }
