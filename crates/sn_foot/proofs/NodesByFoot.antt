-- What a foot that has the words of nodes does for them: it has the foot of each, and lies in the memory; and what the
-- nodes make of words depends on it alone.
use Rattle.std.proofs.Common.{◌≡◌, ◌<◌, ◌⊎◌, inl, inr, ⊎_elim, ℕ, zero, suc, ◌+◌, nat_lt, Bool, true, false, ◌||◌, List, [], ◌∷◌, ◌++◌, length, get_or, ℤ, Option, Some, None, sym, ◌∙◌, arith, All, true≢false}
use Rattle.std.specs.List.{list_any}
use Rattle.std.specs.Prelude.{nat_le}
use Rattle.std.proofs.lemmas.Bool.{and_from, and_parts, or_cases, or_left, or_right, ltb-true}
use Rattle.std.proofs.lemmas.List.Elements.{All-head, All-tail}
use Rattle.sn_mem.specs.declared.extents.Extent.{Extent}
use Rattle.sn_mem.specs.declared.extents.Foot.{Foot}
use Rattle.sn_foot.specs.declared.reach.Reach.{Reach}
use Rattle.sn_mem.specs.declared.buffers.BufferPlace.{BufferPlace}
use Rattle.sn_mem.specs.Buffers.{MayBePlace}
use Rattle.sn_mem.specs.Layout.{audio_place, control_place}
use Rattle.sn_mem.specs.Words.{covers, has, touches}
use Rattle.sn_foot.specs.Reaches.{unmoved}
use Rattle.sn_io.specs.ByFoot.{IsByFoot, IsPart}
use Rattle.sn_io.proofs.ByFoot.{by_foot_none, by_foot_then}
use Rattle.sn_def.specs.Defs.{definition_of}
use Rattle.sn_def.proofs.Forming.{formed}
use Rattle.sn_synth.proofs.ByFoot.{synth_by_foot}
use Rattle.sn_synth.proofs.Widening.{runs_wider}
use Rattle.sn_tree.specs.Trees.{Label}
use Rattle.sn_world.specs.Buffers.{MayBeBuffer, AreEach}
use Rattle.sn_world.specs.Pictures.{held_extents, IsHeld}
use Rattle.sn_world.specs.WalkWords.{held_words, walk_words}
use Rattle.sn_world.specs.declared.stage.Held.{Held}
use Rattle.sn_world.specs.declared.stage.Held.TheVariants as held
use Rattle.sn_world.proofs.BufferLaws.{are_places}
use Rattle.sn_foot.specs.declared.resource.Resource.{Resource}
use Rattle.sn_foot.specs.declared.resource.Resource.TheVariants.{Audio, Control, Buffer}
use Rattle.sn_foot.specs.Footprints.{buffer_words, is_there, place_of, held_mixes, held_reads, held_writes, footprint_of, states_of, lies_in, IsOfUsed, AreItsWords, foot_of}
use Rattle.sn_foot.specs.Suffices.{Suffices, AreOfWorld, held_by}
use Rattle.sn_foot.proofs.Runs.{has_append}
use Rattle.sn_foot.proofs.Containing.{in_range, its_words}
use Rattle.sn_foot.proofs.Sufficing.{any_at, states_at, foot_suffices}

-- ---- the foot of each node

alone : (b : Bool) → (b || false) ≡ true → b ≡ true
alone true h = h
alone false h = h

used_more : (buffers : List (Option BufferPlace)) (few more : Resource → Bool) (x : ℕ) → ((r : Resource) → few r ≡ true → more r ≡ true) → IsOfUsed buffers few x → IsOfUsed buffers more x
used_more buffers few more x h u = (u.0, (h u.0 u.1.0, u.1.1))

module _ (buffers : List (Option BufferPlace)) (hs : List Held) (k : ℕ) (d : Held) (low : k < length hs) where
  own_reads : (r : Resource) → (footprint_of buffers (get_or hs k d ∷ [])).reads r ≡ true → (footprint_of buffers hs).reads r ≡ true
  own_reads r on =
      let p = and_parts (is_there buffers r) (list_any (λ h. held_reads h r) (get_or hs k d ∷ [])) on in
      and_from (is_there buffers r) (list_any (λ h. held_reads h r) hs) p.0 (any_at (λ h. held_reads h r) hs k d low (alone (held_reads (get_or hs k d) r) p.1))

  own_writes : (r : Resource) → (footprint_of buffers (get_or hs k d ∷ [])).writes r ≡ true → (footprint_of buffers hs).writes r ≡ true
  own_writes r on =
      let p = and_parts (is_there buffers r) (list_any (λ h. held_writes h r) (get_or hs k d ∷ [])) on in
      and_from (is_there buffers r) (list_any (λ h. held_writes h r) hs) p.0 (any_at (λ h. held_writes h r) hs k d low (alone (held_writes (get_or hs k d) r) p.1))

  own_mixes : (r : Resource) → (footprint_of buffers (get_or hs k d ∷ [])).mixes r ≡ true → (footprint_of buffers hs).mixes r ≡ true
  own_mixes r on =
      let p = and_parts (is_there buffers r) (list_any (λ h. held_mixes h r) (get_or hs k d ∷ [])) on in
      and_from (is_there buffers r) (list_any (λ h. held_mixes h r) hs) p.0 (any_at (λ h. held_mixes h r) hs k d low (alone (held_mixes (get_or hs k d) r) p.1))

  own_states : (x : ℕ) → has (states_of (get_or hs k d ∷ [])) x ≡ true → has (states_of hs) x ≡ true
  own_states x on = states_at hs k d x low (alone (has (held_extents (get_or hs k d)) x) (sym (has_append (held_extents (get_or hs k d)) [] x) ∙ on))

  own_written : (reach : Reach) (x : ℕ) → AreItsWords buffers hs reach → has (foot_of buffers (get_or hs k d ∷ [])).writes x ≡ true → has reach.writes x ≡ true
  own_written reach x is w = (is.writes x).1 (⊎_elim
      (λ u. inl (used_more buffers (footprint_of buffers (get_or hs k d ∷ [])).writes (footprint_of buffers hs).writes x own_writes u))
      (λ s. inr (own_states x s))
      (((its_words buffers (get_or hs k d ∷ [])).writes x).0 w))

  own_mixed : (reach : Reach) (x : ℕ) → AreItsWords buffers hs reach → has (foot_of buffers (get_or hs k d ∷ [])).mixes x ≡ true → has reach.mixes x ≡ true
  own_mixed reach x is m = (is.mixes x).1 (used_more buffers (footprint_of buffers (get_or hs k d ∷ [])).mixes (footprint_of buffers hs).mixes x own_mixes (((its_words buffers (get_or hs k d ∷ [])).mixes x).0 m))

  own_put : (reach : Reach) (x : ℕ) → AreItsWords buffers hs reach → has (unmoved (foot_of buffers (get_or hs k d ∷ []))).writes x ≡ true → has (unmoved reach).writes x ≡ true
  own_put reach x is w =
      let own : Reach = foot_of buffers (get_or hs k d ∷ []) in
      has_append reach.writes reach.mixes x
      ∙ ⊎_elim
      (λ (a : has own.writes x ≡ true). or_left (has reach.writes x) (has reach.mixes x) (own_written reach x is a))
      (λ (a : has own.mixes x ≡ true). or_right (has reach.writes x) (has reach.mixes x) (own_mixed reach x is a))
      (or_cases (has own.writes x) (has own.mixes x) (sym (has_append own.writes own.mixes x) ∙ w))

  own_part : (reach : Reach) → AreItsWords buffers hs reach → IsPart (unmoved (foot_of buffers (get_or hs k d ∷ []))) (unmoved reach)
  own_part reach is =
      let own : Reach = foot_of buffers (get_or hs k d ∷ []) in record {
        written = λ x w. own_put reach x is w;
        touched = λ x t. ⊎_elim
            (λ (w : has (own.writes ++ own.mixes) x ≡ true). or_left (has (reach.writes ++ reach.mixes) x) (has reach.reads x) (own_put reach x is w))
            (λ (r : has own.reads x ≡ true). or_right (has (reach.writes ++ reach.mixes) x) (has reach.reads x) ((is.reads x).1 (used_more buffers (footprint_of buffers (get_or hs k d ∷ [])).reads (footprint_of buffers hs).reads x own_reads (((its_words buffers (get_or hs k d ∷ [])).reads x).0 r))))
            (or_cases (has (own.writes ++ own.mixes) x) (has own.reads x) t);
      }

pub foot_has_each : (buffers : List (Option BufferPlace)) (hs : List Held) (reach : Reach) → AreItsWords buffers hs reach → All (λ (h : Held). IsPart (unmoved (foot_of buffers (h ∷ []))) (unmoved reach)) hs
foot_has_each buffers hs reach is = λ k d low. own_part buffers hs k d low reach is

-- ---- a wider foot

pub suffices_wider : (part whole : Foot) (buffers : List (Option BufferPlace)) (h : Held) → IsPart part whole → Suffices part buffers h → Suffices whole buffers h
suffices_wider part whole buffers held.Group is may = tt
suffices_wider part whole buffers (held.Synth def controls state) is may = runs_wider part whole buffers controls (definition_of def.value) state is may

-- with its own foot, and so with any foot that has the words of that
pub own_suffices : (rate : ℕ) (region : Extent) (buffers : List (Option BufferPlace)) (foot : Foot) (h : Held) → AreOfWorld rate region buffers (h ∷ []) → IsPart (unmoved (foot_of buffers (h ∷ []))) foot → Suffices foot buffers h
own_suffices rate region buffers foot h world part =
    let own : Reach = foot_of buffers (h ∷ []) in
    suffices_wider (unmoved own) foot buffers h part (All-head (Suffices (unmoved own) buffers) h [] (foot_suffices rate region buffers (h ∷ []) own world (its_words buffers (h ∷ []))))

-- ---- by foot

held_by_foot : (rate b : ℕ) (id : ℤ) (region : Extent) (buffers : List (Option BufferPlace)) (foot : Foot) (h : Held) → All MayBePlace buffers → IsHeld rate region h → Suffices foot buffers h → IsByFoot foot (held_words rate b id buffers h)
held_by_foot rate b id region buffers foot held.Group places is may = by_foot_none foot
held_by_foot rate b id region buffers foot (held.Synth def controls state) places is may =
    synth_by_foot rate b id foot buffers (definition_of def.value) controls state is.each (formed (definition_of def.value) def.value.written).fit places is.size may

walk_by_foot : (rate b : ℕ) (region : Extent) (buffers : List (Option BufferPlace)) (foot : Foot) (ls : List (Label Held)) → All MayBePlace buffers → All (IsHeld rate region) (held_by ls) → All (Suffices foot buffers) (held_by ls) → IsByFoot foot (walk_words rate b buffers ls)
walk_by_foot rate b region buffers foot [] places are may = by_foot_none foot
walk_by_foot rate b region buffers foot (l ∷ ls) places are may =
    by_foot_then foot (held_words rate b l.id buffers l.payload) (walk_words rate b buffers ls)
    (held_by_foot rate b l.id region buffers foot l.payload places (All-head (IsHeld rate region) l.payload (held_by ls) are) (All-head (Suffices foot buffers) l.payload (held_by ls) may))
    (walk_by_foot rate b region buffers foot ls places (All-tail (IsHeld rate region) l.payload (held_by ls) are) (All-tail (Suffices foot buffers) l.payload (held_by ls) may))

pub nodes_by_foot : (rate b : ℕ) (region : Extent) (buffers : List (Option BufferPlace)) (foot : Foot) (ls : List (Label Held)) → AreOfWorld rate region buffers (held_by ls) → All (Suffices foot buffers) (held_by ls) → IsByFoot foot (walk_words rate b buffers ls)
nodes_by_foot rate b region buffers foot ls world may = walk_by_foot rate b region buffers foot ls (are_places region buffers world.base world.each) world.held may

-- ---- inside the memory

covered_below : (e : Extent) (x : ℕ) → covers e x ≡ true → x < e.at + e.len
covered_below e x h = let p = and_parts (nat_le e.at x) (nat_lt x (e.at + e.len)) h in ltb-true x (e.at + e.len) p.1

place_inside : (region : Extent) (q : Option BufferPlace) (x : ℕ) → MayBeBuffer region q → lies_in x (buffer_words q) ≡ true → x < region.at + region.len
place_inside region None x may h = absurd (true≢false (sym h))
place_inside region (Some p) x may h = let within = may.within in omega (arith, within.1, covered_below p.extent x h)

buffer_inside : (region : Extent) (buffers : List (Option BufferPlace)) (n x : ℕ) → AreEach region buffers → lies_in x (buffer_words (get_or buffers n None)) ≡ true → x < region.at + region.len
unfolding AreEach
buffer_inside region [] n x each h = absurd (true≢false (sym h))
buffer_inside region (q ∷ qs) zero x each h = place_inside region q x each.0 h
buffer_inside region (q ∷ qs) (suc n) x each h = buffer_inside region qs n x each.1 h

resource_inside : (region : Extent) (buffers : List (Option BufferPlace)) (r : Resource) (x : ℕ) → region.at ≡ 10368 → AreEach region buffers → lies_in x (place_of buffers r) ≡ true → x < region.at + region.len
resource_inside region buffers (Audio n) x base each h = let (low, lies) = in_range n 128 (Some (audio_place n)) x h in omega (arith, base, low, covered_below (audio_place n) x lies)
resource_inside region buffers (Control n) x base each h = let (low, lies) = in_range n 1024 (Some (control_place n)) x h in omega (arith, base, low, covered_below (control_place n) x lies)
resource_inside region buffers (Buffer n) x base each h = buffer_inside region buffers n x each (in_range n 1024 (buffer_words (get_or buffers n None)) x h).1

own_inside : (rate : ℕ) (region : Extent) (h : Held) (x : ℕ) → IsHeld rate region h → has (held_extents h) x ≡ true → x < region.at + region.len
own_inside rate region held.Group x is h = absurd (true≢false (sym h))
own_inside rate region (held.Synth def controls state) x is h = ⊎_elim
    (λ (c : covers state x ≡ true). let within = is.within in omega (arith, within.1, covered_below state x c))
    (λ (n : false ≡ true). absurd (true≢false (sym n)))
    (or_cases (covers state x) false h)

states_inside : (rate : ℕ) (region : Extent) (hs : List Held) (x : ℕ) → All (IsHeld rate region) hs → has (states_of hs) x ≡ true → x < region.at + region.len
states_inside rate region [] x are h = absurd (true≢false (sym h))
states_inside rate region (g ∷ hs) x are h = ⊎_elim
    (λ (c : has (held_extents g) x ≡ true). own_inside rate region g x (All-head (IsHeld rate region) g hs are) c)
    (λ (c : has (states_of hs) x ≡ true). states_inside rate region hs x (All-tail (IsHeld rate region) g hs are) c)
    (or_cases (has (held_extents g) x) (has (states_of hs) x) (sym (has_append (held_extents g) (states_of hs) x) ∙ h))

pub foot_inside : (rate : ℕ) (region : Extent) (buffers : List (Option BufferPlace)) (hs : List Held) (reach : Reach) (x : ℕ) → AreOfWorld rate region buffers hs → AreItsWords buffers hs reach → touches (unmoved reach) x ≡ true → x < region.at + region.len
foot_inside rate region buffers hs reach x world is t = ⊎_elim
    (λ (p : has (reach.writes ++ reach.mixes) x ≡ true). ⊎_elim
    (λ (w : has reach.writes x ≡ true). ⊎_elim
    (λ u. resource_inside region buffers u.0 x world.base world.each u.1.1)
    (λ s. states_inside rate region hs x world.held s)
    ((is.writes x).0 w))
    (λ (m : has reach.mixes x ≡ true). let u = (is.mixes x).0 m in resource_inside region buffers u.0 x world.base world.each u.1.1)
    (or_cases (has reach.writes x) (has reach.mixes x) (sym (has_append reach.writes reach.mixes x) ∙ p)))
    (λ (r : has reach.reads x ≡ true). let u = (is.reads x).0 r in resource_inside region buffers u.0 x world.base world.each u.1.1)
    (or_cases (has (reach.writes ++ reach.mixes) x) (has reach.reads x) t)
