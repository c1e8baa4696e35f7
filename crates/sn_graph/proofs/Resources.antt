-- Two reaches clash exactly if the footprints that they are of do.
use Rattle.std.proofs.Common.{◌≡◌, ◌≤◌, ◌<◌, ◌⊎◌, inl, inr, ⊎_elim, ℕ, zero, suc, ◌+◌, ◌*◌, Bool, true, false, ◌&&◌, ◌||◌, List, [], ◌∷◌, ◌++◌, Option, Some, None, sym, refl, ap, ◌∙◌, subst, arith, true≢false, if◌then◌else◌}
use Rattle.std.specs.Prelude.{◌↔◌, ◌==◌, slice_index_or, nat_lt, nat_le, is_some}
use Rattle.std.specs.List.{All, list_any}
use Rattle.std.proofs.lemmas.Bool.{or_cases, or_left, or_right, and_parts, and_from, cond-true, lt-ltb, ltb-true, leb-true, le-leb, cases_order}
use Rattle.std.proofs.Math.Bool.{or-false}
use Rattle.sn_mem.specs.declared.extents.Extent.{Extent}
use Rattle.sn_mem.specs.declared.buffers.BufferPlace.{BufferPlace}
use Rattle.sn_mem.specs.Layout.{audio_place, control_place}
use Rattle.sn_foot.specs.declared.reach.Reach.{Reach}
use Rattle.sn_mem.specs.Words.{covers, has, touches}
use Rattle.sn_foot.specs.Reaches.{unmoved, MeetsAt, ReachesClash}
use Rattle.sn_mem.specs.Buffers.{MayBePlace, overlaps, live_places, place_extents}
use Rattle.sn_mem.proofs.BufferWords.{overlaps-append}
use Rattle.sn_def.specs.Defs.{definition_of}
use Rattle.sn_world.specs.declared.stage.Held.{Held}
use Rattle.sn_world.specs.declared.stage.Held.TheVariants as held
use Rattle.sn_world.proofs.Inserting.{has-overlaps}
use Rattle.sn_foot.specs.declared.resource.Resource.{Resource}
use Rattle.sn_foot.specs.declared.resource.Resource.TheVariants.{Audio, Control, Buffer}
use Rattle.sn_foot.specs.Footprints.{Footprint, buffer_words, is_there, meets_on, place_of, lies_in, states_of, IsOfUsed, held_mixes, held_writes, footprint_of, foot_of, users}
use Rattle.sn_foot.specs.Footprints.{Clash as FootprintsClash}
use Rattle.sn_foot.proofs.Runs.{has_append}
use Rattle.sn_foot.proofs.Containing.{its_words, in_range}
use Rattle.sn_foot.proofs.Placing.{has_place}
use Rattle.sn_graph.specs.Disjoint.{AreDisjoint, LieBelow}

-- ---- how often a word is covered

covered_one : (b : Bool) → b ≡ true → ◌≡◌ {A = ℕ} (if b then 1 else 0) 1
covered_one true h = refl
covered_one false h = absurd (true≢false (sym h))

pub overlaps_has : (x : ℕ) (es : List Extent) → has es x ≡ true → 1 ≤ overlaps x es
overlaps_has x es h = let more = ltb-true 0 (overlaps x es) (sym (has-overlaps es x) ∙ h) in omega arith

pub has_of_overlaps : (x : ℕ) (es : List Extent) → 1 ≤ overlaps x es → has es x ≡ true
has_of_overlaps x es l = has-overlaps es x ∙ lt-ltb 0 (overlaps x es) (omega (arith, l))

-- a word of a buffer is one of a place
buffer_overlaps : (x n : ℕ) (ps : List (Option BufferPlace)) → lies_in x (buffer_words (slice_index_or ps n None)) ≡ true → 1 ≤ overlaps x (live_places ps)
unfolding live_places
buffer_overlaps x n [] h = absurd (true≢false (sym h))
buffer_overlaps x zero (None ∷ ps) h = absurd (true≢false (sym h))
buffer_overlaps x zero (Some p ∷ ps) h = let one = covered_one (covers p.extent x) h in omega (arith, one)
buffer_overlaps x (suc n) (p ∷ ps) h = omega (arith, buffer_overlaps x n ps h, overlaps-append x (place_extents p) (live_places ps))

-- and one of two buffers is one of two places
two_buffers : (x n m : ℕ) (ps : List (Option BufferPlace)) → n < m → lies_in x (buffer_words (slice_index_or ps n None)) ≡ true → lies_in x (buffer_words (slice_index_or ps m None)) ≡ true → 2 ≤ overlaps x (live_places ps)
unfolding live_places
two_buffers x n m [] l h k = absurd (true≢false (sym h))
two_buffers x n zero (p ∷ ps) l h k = absurd (omega arith)
two_buffers x zero (suc m) (None ∷ ps) l h k = absurd (true≢false (sym h))
two_buffers x zero (suc m) (Some p ∷ ps) l h k = let one = covered_one (covers p.extent x) h in omega (arith, one, buffer_overlaps x m ps k)
two_buffers x (suc n) (suc m) (p ∷ ps) l h k = omega (arith, two_buffers x n m ps (omega arith) h k, overlaps-append x (place_extents p) (live_places ps))

-- ---- what a word of a resource says

pub covers_from : (e : Extent) (x : ℕ) → covers e x ≡ true → (e.at ≤ x) × (x < e.at + e.len)
covers_from e x h = let p = and_parts (nat_le e.at x) (nat_lt x (e.at + e.len)) h in (leb-true e.at x p.0, ltb-true x (e.at + e.len) p.1)

covers_first : (e : Extent) → 1 ≤ e.len → covers e e.at ≡ true
covers_first e l = and_from (nat_le e.at e.at) (nat_lt e.at (e.at + e.len)) (le-leb e.at e.at (omega arith)) (lt-ltb e.at (e.at + e.len) (omega arith))

may_be : (n : ℕ) (ps : List (Option BufferPlace)) → All MayBePlace ps → MayBePlace (slice_index_or ps n None)
may_be n [] all = tt
may_be zero (p ∷ ps) all = all 0 None (omega arith)
may_be (suc n) (p ∷ ps) all = may_be n ps (λ k d l. all (suc k) d (omega arith))

place_behind : (x : ℕ) (p : Option BufferPlace) → MayBePlace p → lies_in x (buffer_words p) ≡ true → 10368 ≤ x
place_behind x None m h = absurd (true≢false (sym h))
place_behind x (Some p) m h = omega (arith, (covers_from p.extent x h).0, m.behind)

-- if there is an extent, it has a word
abbrev IsLong : Option Extent → Type 0
IsLong None = Unit {0}
IsLong (Some e) = 1 ≤ e.len

long_if : (b : Bool) (p : Option Extent) → IsLong p → IsLong (if b then p else None)
long_if true p l = l
long_if false p l = tt

some_word : (p : Option Extent) → IsLong p → is_some p ≡ true → (x : ℕ) × (lies_in x p ≡ true)
some_word None l k = absurd (true≢false (sym k))
some_word (Some e) l k = (e.at, covers_first e l)

positive : (a b : ℕ) → 1 ≤ a → 1 ≤ b → 1 ≤ a * b
positive zero b l m = absurd (omega arith)
positive (suc a) b l m = grind arith

module _ (buffers : List (Option BufferPlace)) where
  audio_range : (n x : ℕ) → lies_in x (place_of buffers (Audio n)) ≡ true → (n < 128) × ((65 * n ≤ x) × (x < 65 * n + 65))
  audio_range n x h = let p = in_range n 128 (Some (audio_place n)) x h in (p.0, covers_from (audio_place n) x p.1)

  control_range : (n x : ℕ) → lies_in x (place_of buffers (Control n)) ≡ true → (n < 1024) × ((8320 + 2 * n ≤ x) × (x < 8320 + 2 * n + 2))
  control_range n x h = let p = in_range n 1024 (Some (control_place n)) x h in (p.0, covers_from (control_place n) x p.1)

  buffer_range : (n x : ℕ) → lies_in x (place_of buffers (Buffer n)) ≡ true → lies_in x (buffer_words (slice_index_or buffers n None)) ≡ true
  buffer_range n x h = (in_range n 1024 (buffer_words (slice_index_or buffers n None)) x h).1

  module _ (states : List Extent) (is : AreDisjoint buffers states) where
    buffer_behind : (n x : ℕ) → lies_in x (place_of buffers (Buffer n)) ≡ true → 10368 ≤ x
    buffer_behind n x h = place_behind x (slice_index_or buffers n None) (may_be n buffers is.places) (buffer_range n x h)

    -- no two resources share a word
    same_resource : (x : ℕ) (r q : Resource) → lies_in x (place_of buffers r) ≡ true → lies_in x (place_of buffers q) ≡ true → r ≡ q
    same_resource x (Audio n) (Audio m) h k = let a = audio_range n x h in let b = audio_range m x k in let e : n ≡ m = omega (arith, a.1.0, a.1.1, b.1.0, b.1.1) in ap Audio e
    same_resource x (Audio n) (Control m) h k = let a = audio_range n x h in let b = control_range m x k in absurd (omega (arith, a.0, a.1.1, b.1.0))
    same_resource x (Audio n) (Buffer m) h k = let a = audio_range n x h in absurd (omega (arith, a.0, a.1.1, buffer_behind m x k))
    same_resource x (Control n) (Audio m) h k = let a = control_range n x h in let b = audio_range m x k in absurd (omega (arith, b.0, b.1.1, a.1.0))
    same_resource x (Control n) (Control m) h k = let a = control_range n x h in let b = control_range m x k in let e : n ≡ m = omega (arith, a.1.0, a.1.1, b.1.0, b.1.1) in ap Control e
    same_resource x (Control n) (Buffer m) h k = let a = control_range n x h in absurd (omega (arith, a.0, a.1.1, buffer_behind m x k))
    same_resource x (Buffer n) (Audio m) h k = let b = audio_range m x k in absurd (omega (arith, b.0, b.1.1, buffer_behind n x h))
    same_resource x (Buffer n) (Control m) h k = let b = control_range m x k in absurd (omega (arith, b.0, b.1.1, buffer_behind n x h))
    same_resource x (Buffer n) (Buffer m) h k =
        ⊎_elim
        (λ (e : n ≡ m). ap Buffer e)
        (λ (o : (n < m) ⊎ (m < n)). ⊎_elim
        (λ (l : n < m). absurd (omega (arith, is.apart x, two_buffers x n m buffers l (buffer_range n x h) (buffer_range m x k))))
        (λ (l : m < n). absurd (omega (arith, is.apart x, two_buffers x m n buffers l (buffer_range m x k) (buffer_range n x h)))) o)
        (cases_order n m)

    -- nor does a resource share one with a state
    state_apart : (x : ℕ) (r : Resource) → lies_in x (place_of buffers r) ≡ true → has states x ≡ true → ⊥
    state_apart x (Audio n) h s = let a = audio_range n x h in absurd (omega (arith, a.0, a.1.1, is.behind x s))
    state_apart x (Control n) h s = let a = control_range n x h in absurd (omega (arith, a.0, a.1.1, is.behind x s))
    state_apart x (Buffer n) h s = absurd (omega (arith, is.apart x, overlaps_has x states s, buffer_overlaps x n buffers (buffer_range n x h)))

    long_place : (p : Option BufferPlace) → MayBePlace p → IsLong (buffer_words p)
    long_place None m = tt
    long_place (Some p) m = omega (arith, m.size, positive p.frames p.channels m.frames m.channels)

    long : (r : Resource) → IsLong (place_of buffers r)
    long (Audio n) = long_if (nat_lt n 128) (Some (audio_place n)) (omega arith)
    long (Control n) = long_if (nat_lt n 1024) (Some (control_place n)) (omega arith)
    long (Buffer n) = long_if (nat_lt n 1024) (buffer_words (slice_index_or buffers n None)) (long_place (slice_index_or buffers n None) (may_be n buffers is.places))

    -- a resource that is there has a word
    first_word : (r : Resource) → is_some (place_of buffers r) ≡ true → (x : ℕ) × (lies_in x (place_of buffers r) ≡ true)
    first_word r h = some_word (place_of buffers r) (long r) h

-- ---- clashes

both_states : (x : ℕ) (es fs : List Extent) → has es x ≡ true → has fs x ≡ true → 2 ≤ overlaps x (es ++ fs)
both_states x es fs h k = omega (arith, overlaps-append x es fs, overlaps_has x es h, overlaps_has x fs k)

state_left : (x : ℕ) (es fs : List Extent) → has es x ≡ true → has (es ++ fs) x ≡ true
state_left x es fs h = has_append es fs x ∙ or_left (has es x) (has fs x) h

state_right : (x : ℕ) (es fs : List Extent) → has fs x ≡ true → has (es ++ fs) x ≡ true
state_right x es fs h = has_append es fs x ∙ or_right (has es x) (has fs x) h

-- what a footprint reads or writes, and what it uses at all
abbrev pub used_alone : Footprint → Resource → Bool
used_alone f r = f.reads r || f.writes r

abbrev pub used_at_all : Footprint → Resource → Bool
used_at_all f r = (f.reads r || f.writes r) || f.mixes r

module _ (buffers : List (Option BufferPlace)) (ks : List Held) (x : ℕ) where
  wider : (p q : Resource → Bool) → ((r : Resource) → p r ≡ true → q r ≡ true) → IsOfUsed buffers p x → IsOfUsed buffers q x
  wider p q more u = (u.0, (more u.0 u.1.0, u.1.1))

  -- a word that is read or written
  used_by : (has (foot_of buffers ks).writes x || has (foot_of buffers ks).reads x) ≡ true → IsOfUsed buffers (used_alone (footprint_of buffers ks)) x ⊎ (has (states_of ks) x ≡ true)
  used_by t =
      let f : Footprint = footprint_of buffers ks in
      let w = its_words buffers ks in
      ⊎_elim
      (λ (a : has (foot_of buffers ks).writes x ≡ true). ⊎_elim
      (λ (u : IsOfUsed buffers f.writes x). inl (wider f.writes (used_alone f) (λ r e. or_right (f.reads r) (f.writes r) e) u))
      (λ (s : has (states_of ks) x ≡ true). inr s)
      ((w.writes x).0 a))
      (λ (a : has (foot_of buffers ks).reads x ≡ true). inl (wider f.reads (used_alone f) (λ r e. or_left (f.reads r) (f.writes r) e) ((w.reads x).0 a)))
      (or_cases (has (foot_of buffers ks).writes x) (has (foot_of buffers ks).reads x) t)

  by_used : (r : Resource) → lies_in x (place_of buffers r) ≡ true → used_alone (footprint_of buffers ks) r ≡ true → (has (foot_of buffers ks).writes x || has (foot_of buffers ks).reads x) ≡ true
  by_used r l t =
      let f : Footprint = footprint_of buffers ks in
      let g : Reach = foot_of buffers ks in
      let w = its_words buffers ks in
      ⊎_elim
      (λ (u : f.reads r ≡ true). or_right (has g.writes x) (has g.reads x) ((w.reads x).1 (r, (u, l))))
      (λ (u : f.writes r ≡ true). or_left (has g.writes x) (has g.reads x) ((w.writes x).1 (inl (r, (u, l)))))
      (or_cases (f.reads r) (f.writes r) t)

  wider_used : IsOfUsed buffers (used_alone (footprint_of buffers ks)) x ⊎ (has (states_of ks) x ≡ true) → IsOfUsed buffers (used_at_all (footprint_of buffers ks)) x ⊎ (has (states_of ks) x ≡ true)
  wider_used c =
      let f : Footprint = footprint_of buffers ks in
      ⊎_elim
      (λ (u : IsOfUsed buffers (used_alone f) x). inl (wider (used_alone f) (used_at_all f) (λ r e. or_left (used_alone f r) (f.mixes r) e) u))
      (λ (s : has (states_of ks) x ≡ true). inr s)
      c

  -- a word that is read, written or mixed
  touched_by : touches (unmoved (foot_of buffers ks)) x ≡ true → IsOfUsed buffers (used_at_all (footprint_of buffers ks)) x ⊎ (has (states_of ks) x ≡ true)
  touched_by t =
      let f : Footprint = footprint_of buffers ks in
      let g : Reach = foot_of buffers ks in
      let w = its_words buffers ks in
      ⊎_elim
      (λ (a : has (g.writes ++ g.mixes) x ≡ true). ⊎_elim
      (λ (b : has g.writes x ≡ true). wider_used (used_by (or_left (has g.writes x) (has g.reads x) b)))
      (λ (b : has g.mixes x ≡ true). inl (wider f.mixes (used_at_all f) (λ r e. or_right (used_alone f r) (f.mixes r) e) ((w.mixes x).0 b)))
      (or_cases (has g.writes x) (has g.mixes x) (sym (has_append g.writes g.mixes x) ∙ a)))
      (λ (a : has g.reads x ≡ true). wider_used (used_by (or_right (has g.writes x) (has g.reads x) a)))
      (or_cases (has (g.writes ++ g.mixes) x) (has g.reads x) t)

  still_touched : (has (foot_of buffers ks).writes x || has (foot_of buffers ks).reads x) ≡ true → touches (unmoved (foot_of buffers ks)) x ≡ true
  still_touched t =
      let g : Reach = foot_of buffers ks in
      ⊎_elim
      (λ (a : has g.writes x ≡ true). or_left (has (g.writes ++ g.mixes) x) (has g.reads x) (has_append g.writes g.mixes x ∙ or_left (has g.writes x) (has g.mixes x) a))
      (λ (a : has g.reads x ≡ true). or_right (has (g.writes ++ g.mixes) x) (has g.reads x) a)
      (or_cases (has g.writes x) (has g.reads x) t)

  by_touched : (r : Resource) → lies_in x (place_of buffers r) ≡ true → used_at_all (footprint_of buffers ks) r ≡ true → touches (unmoved (foot_of buffers ks)) x ≡ true
  by_touched r l t =
      let f : Footprint = footprint_of buffers ks in
      let g : Reach = foot_of buffers ks in
      let w = its_words buffers ks in
      ⊎_elim
      (λ (u : used_alone f r ≡ true). still_touched (by_used r l u))
      (λ (u : f.mixes r ≡ true). or_left (has (g.writes ++ g.mixes) x) (has g.reads x) (has_append g.writes g.mixes x ∙ or_right (has g.writes x) (has g.mixes x) ((w.mixes x).1 (r, (u, l)))))
      (or_cases (used_alone f r) (f.mixes r) t)

module _ (buffers : List (Option BufferPlace)) (hs ks : List Held) (is : AreDisjoint buffers (states_of hs ++ states_of ks)) where
  -- a word of both is one of a resource that both use
  of_both : (x : ℕ) (p q : Resource → Bool) → IsOfUsed buffers p x ⊎ (has (states_of hs) x ≡ true) → IsOfUsed buffers q x ⊎ (has (states_of ks) x ≡ true) → (r : Resource) × ((p r ≡ true) × (q r ≡ true))
  of_both x p q a b =
      let states = states_of hs ++ states_of ks in
      ⊎_elim
      (λ (u : IsOfUsed buffers p x). ⊎_elim
      (λ (v : IsOfUsed buffers q x).
      let same : v.0 ≡ u.0 = same_resource buffers states is x v.0 u.0 v.1.1 u.1.1 in
      (u.0, (u.1.0, subst (λ (r : Resource). q r ≡ true) same v.1.0)))
      (λ (s : has (states_of ks) x ≡ true). absurd (state_apart buffers states is x u.0 u.1.1 (state_right x (states_of hs) (states_of ks) s)))
      b)
      (λ (s : has (states_of hs) x ≡ true). ⊎_elim
      (λ (v : IsOfUsed buffers q x). absurd (state_apart buffers states is x v.0 v.1.1 (state_left x (states_of hs) (states_of ks) s)))
      (λ (k : has (states_of ks) x ≡ true). absurd (omega (arith, is.apart x, both_states x (states_of hs) (states_of ks) s k)))
      b)
      a

  -- if the words of the first meet those of the second, their footprints meet
  pub shared : (x : ℕ) → MeetsAt (foot_of buffers hs) (foot_of buffers ks) x → (r : Resource) × (meets_on (footprint_of buffers hs) (footprint_of buffers ks) r ≡ true)
  shared x m =
      let f : Footprint = footprint_of buffers hs in
      let g : Footprint = footprint_of buffers ks in
      let w = its_words buffers hs in
      ⊎_elim
      (λ (h : (has (foot_of buffers hs).writes x ≡ true) × (touches (unmoved (foot_of buffers ks)) x ≡ true)).
      let b = of_both x f.writes (used_at_all g) ((w.writes x).0 h.0) (touched_by buffers ks x h.1) in
      (b.0, or_left (f.writes b.0 && used_at_all g b.0) (f.mixes b.0 && used_alone g b.0) (and_from (f.writes b.0) (used_at_all g b.0) b.1.0 b.1.1)))
      (λ (h : (has (foot_of buffers hs).mixes x ≡ true) × ((has (foot_of buffers ks).writes x || has (foot_of buffers ks).reads x) ≡ true)).
      let b = of_both x f.mixes (used_alone g) (inl ((w.mixes x).0 h.0)) (used_by buffers ks x h.1) in
      (b.0, or_right (f.writes b.0 && used_at_all g b.0) (f.mixes b.0 && used_alone g b.0) (and_from (f.mixes b.0) (used_alone g b.0) b.1.0 b.1.1)))
      m

  -- the word of a resource that is there
  its_word : (r : Resource) → is_there buffers r ≡ true → (x : ℕ) × (lies_in x (place_of buffers r) ≡ true)
  its_word r there = first_word buffers (states_of hs ++ states_of ks) is r (has_place buffers r ∙ there)

  -- and the other way round
  pub meeting : (r : Resource) → meets_on (footprint_of buffers hs) (footprint_of buffers ks) r ≡ true → (x : ℕ) × MeetsAt (foot_of buffers hs) (foot_of buffers ks) x
  meeting r t =
      let f : Footprint = footprint_of buffers hs in
      let g : Footprint = footprint_of buffers ks in
      let w = its_words buffers hs in
      ⊎_elim
      (λ (h : (f.writes r && used_at_all g r) ≡ true).
      let p = and_parts (f.writes r) (used_at_all g r) h in
      let word = its_word r (and_parts (is_there buffers r) (list_any (λ k. held_writes k r) hs) p.0).0 in
      (word.0, inl ((w.writes word.0).1 (inl (r, (p.0, word.1))), by_touched buffers ks word.0 r word.1 p.1)))
      (λ (h : (f.mixes r && used_alone g r) ≡ true).
      let p = and_parts (f.mixes r) (used_alone g r) h in
      let word = its_word r (and_parts (is_there buffers r) (list_any (λ k. held_mixes k r) hs) p.0).0 in
      (word.0, inr ((w.mixes word.0).1 (r, (p.0, word.1)), by_used buffers ks word.0 r word.1 p.1)))
      (or_cases (f.writes r && used_at_all g r) (f.mixes r && used_alone g r) t)

turned : (buffers : List (Option BufferPlace)) (es fs : List Extent) → AreDisjoint buffers (es ++ fs) → AreDisjoint buffers (fs ++ es)
turned buffers es fs is = record {
  places = is.places;
  behind = λ x h. is.behind x (⊎_elim (λ (a : has fs x ≡ true). state_right x es fs a) (λ (a : has es x ≡ true). state_left x es fs a) (or_cases (has fs x) (has es x) (sym (has_append fs es x) ∙ h)));
  apart = λ x. omega (arith, is.apart x, overlaps-append x es fs, overlaps-append x fs es);
}

pub clash_agrees : (buffers : List (Option BufferPlace)) (hs ks : List Held) → AreDisjoint buffers (states_of hs ++ states_of ks) → ReachesClash (foot_of buffers hs) (foot_of buffers ks) ↔ FootprintsClash (footprint_of buffers hs) (footprint_of buffers ks)
clash_agrees buffers hs ks is =
    let back = turned buffers (states_of hs) (states_of ks) is in
    let f : Footprint = footprint_of buffers hs in
    let g : Footprint = footprint_of buffers ks in (
      λ (c : ReachesClash (foot_of buffers hs) (foot_of buffers ks)). ⊎_elim
          (λ (h : MeetsAt (foot_of buffers hs) (foot_of buffers ks) c.0). let s = shared buffers hs ks is c.0 h in (s.0, or_left (meets_on f g s.0) (meets_on g f s.0) s.1))
          (λ (h : MeetsAt (foot_of buffers ks) (foot_of buffers hs) c.0). let s = shared buffers ks hs back c.0 h in (s.0, or_right (meets_on f g s.0) (meets_on g f s.0) s.1))
          c.1,
      λ (c : FootprintsClash (footprint_of buffers hs) (footprint_of buffers ks)). ⊎_elim
          (λ (h : meets_on f g c.0 ≡ true). let m = meeting buffers hs ks is c.0 h in (m.0, inl m.1))
          (λ (h : meets_on g f c.0 ≡ true). let m = meeting buffers ks hs back c.0 h in (m.0, inr m.1))
          (or_cases (meets_on f g c.0) (meets_on g f c.0) c.1),
    )

-- ---- what is mixed

none_of : {A : Type 0} (xs : List A) → list_any (λ x. false) xs ≡ false
none_of [] = refl
none_of (x ∷ xs) = none_of xs

mixes_no_control : (h : Held) (n : ℕ) → held_mixes h (Control n) ≡ false
mixes_no_control held.Group n = refl
mixes_no_control (held.Synth def controls state) n = ap (λ b. b && (users controls (definition_of def.value).units (Control n) == 1)) (none_of (definition_of def.value).units)

mixes_no_buffer : (h : Held) (n : ℕ) → held_mixes h (Buffer n) ≡ false
mixes_no_buffer held.Group n = refl
mixes_no_buffer (held.Synth def controls state) n = ap (λ b. b && (users controls (definition_of def.value).units (Buffer n) == 1)) (none_of (definition_of def.value).units)

one_only : (p : Held → Bool) (h : Held) → list_any p (h ∷ []) ≡ true → p h ≡ false → ⊥
one_only p h t f = ⊎_elim (λ (e : p h ≡ true). true≢false (sym e ∙ f)) (λ (e : false ≡ true). true≢false (sym e)) (or_cases (p h) false t)

same_tests : (p q : Bool) → (p ≡ true → q ≡ true) → (q ≡ true → p ≡ true) → p ≡ q
same_tests true q f g = sym (f refl)
same_tests false true f g = g refl
same_tests false false f g = refl

module _ (buffers : List (Option BufferPlace)) (h : Held) where
  -- the word is one of an audio bus that is mixed whole
  abbrev pub IsOfMixed : ℕ → Type 0
  IsOfMixed x = (n : ℕ) × ((n < 128) × (((65 * n ≤ x) × (x < 65 * n + 65)) × (has (foot_of buffers (h ∷ [])).mixes (65 * n) ≡ true)))

  first_of : (n : ℕ) → n < 128 → lies_in (65 * n) (place_of buffers (Audio n)) ≡ true
  first_of n lt =
      ap (λ (p : Option Extent). lies_in (65 * n) p) (cond-true (nat_lt n 128) (Some (audio_place n)) None (lt-ltb n 128 lt))
      ∙ covers_first (audio_place n) (omega arith)

  mixed_of : (x : ℕ) (r : Resource) → (footprint_of buffers (h ∷ [])).mixes r ≡ true → lies_in x (place_of buffers r) ≡ true → IsOfMixed x
  mixed_of x (Audio n) u l =
      let a = audio_range buffers n x l in
      (n, (a.0, ((a.1.0, a.1.1), ((its_words buffers (h ∷ [])).mixes (65 * n)).1 (Audio n, (u, first_of n a.0)))))
  mixed_of x (Control n) u l = absurd (one_only (λ k. held_mixes k (Control n)) h (and_parts (is_there buffers (Control n)) (list_any (λ k. held_mixes k (Control n)) (h ∷ [])) u).1 (mixes_no_control h n))
  mixed_of x (Buffer n) u l = absurd (one_only (λ k. held_mixes k (Buffer n)) h (and_parts (is_there buffers (Buffer n)) (list_any (λ k. held_mixes k (Buffer n)) (h ∷ [])) u).1 (mixes_no_buffer h n))

  pub mixed_bus : (x : ℕ) → has (foot_of buffers (h ∷ [])).mixes x ≡ true → IsOfMixed x
  mixed_bus x m = let u = ((its_words buffers (h ∷ [])).mixes x).0 m in mixed_of x u.0 u.1.0 u.1.1

  of_bus : (n : ℕ) (r : Resource) → (footprint_of buffers (h ∷ [])).mixes r ≡ true → lies_in (65 * n) (place_of buffers r) ≡ true → held_mixes h (Audio n) ≡ true
  of_bus n (Audio m) u l =
      let a = audio_range buffers m (65 * n) l in
      let same : m ≡ n = omega (arith, a.1.0, a.1.1) in
      ap (λ k. held_mixes h (Audio k)) (sym same) ∙ sym (or-false (held_mixes h (Audio m))) ∙ (and_parts (is_there buffers (Audio m)) (list_any (λ k. held_mixes k (Audio m)) (h ∷ [])) u).1
  of_bus n (Control m) u l = absurd (one_only (λ k. held_mixes k (Control m)) h (and_parts (is_there buffers (Control m)) (list_any (λ k. held_mixes k (Control m)) (h ∷ [])) u).1 (mixes_no_control h m))
  of_bus n (Buffer m) u l = absurd (one_only (λ k. held_mixes k (Buffer m)) h (and_parts (is_there buffers (Buffer m)) (list_any (λ k. held_mixes k (Buffer m)) (h ∷ [])) u).1 (mixes_no_buffer h m))

  -- a synth mixes a bus exactly if its words say so
  pub mixes_bus : (n : ℕ) → n < 128 → has (foot_of buffers (h ∷ [])).mixes (65 * n) ≡ held_mixes h (Audio n)
  mixes_bus n lt =
      let w = (its_words buffers (h ∷ [])).mixes (65 * n) in
      same_tests (has (foot_of buffers (h ∷ [])).mixes (65 * n)) (held_mixes h (Audio n))
      (λ t. let u = w.0 t in of_bus n u.0 u.1.0 u.1.1)
      (λ t. w.1 (Audio n, (and_from (is_there buffers (Audio n)) (list_any (λ k. held_mixes k (Audio n)) (h ∷ [])) (lt-ltb n 128 lt) (or_left (held_mixes h (Audio n)) false t), first_of n lt)))

  whole_of : (n x : ℕ) (r : Resource) → n < 128 → (footprint_of buffers (h ∷ [])).mixes r ≡ true → lies_in (65 * n) (place_of buffers r) ≡ true → covers (audio_place n) x ≡ true → has (foot_of buffers (h ∷ [])).mixes x ≡ true
  whole_of n x (Audio m) lt u l c =
      let a = audio_range buffers m (65 * n) l in
      let same : m ≡ n = omega (arith, a.1.0, a.1.1) in
      let here : lies_in x (place_of buffers (Audio n)) ≡ true = ap (λ (p : Option Extent). lies_in x p) (cond-true (nat_lt n 128) (Some (audio_place n)) None (lt-ltb n 128 lt)) ∙ c in
      ((its_words buffers (h ∷ [])).mixes x).1 (Audio n, (subst (λ k. (footprint_of buffers (h ∷ [])).mixes (Audio k) ≡ true) same u, here))
  whole_of n x (Control m) lt u l c = absurd (one_only (λ k. held_mixes k (Control m)) h (and_parts (is_there buffers (Control m)) (list_any (λ k. held_mixes k (Control m)) (h ∷ [])) u).1 (mixes_no_control h m))
  whole_of n x (Buffer m) lt u l c = absurd (one_only (λ k. held_mixes k (Buffer m)) h (and_parts (is_there buffers (Buffer m)) (list_any (λ k. held_mixes k (Buffer m)) (h ∷ [])) u).1 (mixes_no_buffer h m))

  -- a bus is mixed whole
  pub whole_bus : (n x : ℕ) → n < 128 → has (foot_of buffers (h ∷ [])).mixes (65 * n) ≡ true → covers (audio_place n) x ≡ true → has (foot_of buffers (h ∷ [])).mixes x ≡ true
  whole_bus n x lt m c = let u = ((its_words buffers (h ∷ [])).mixes (65 * n)).0 m in whole_of n x u.0 lt u.1.0 u.1.1 c

  resource_below : (first x : ℕ) (states : List Extent) → LieBelow first buffers states → (r : Resource) → lies_in x (place_of buffers r) ≡ true → x < first
  resource_below first x states is (Audio n) l = let a = audio_range buffers n x l in omega (arith, a.0, a.1.1, is.buses)
  resource_below first x states is (Control n) l = let a = control_range buffers n x l in omega (arith, a.0, a.1.1, is.buses)
  resource_below first x states is (Buffer n) l = is.places x (has_of_overlaps x (live_places buffers) (buffer_overlaps x n buffers (buffer_range buffers n x l)))

  -- its words lie below what the buses, the buffers and its state lie below
  pub foot_below : (first x : ℕ) (states : List Extent) → LieBelow first buffers states → ((y : ℕ) → has (states_of (h ∷ [])) y ≡ true → has states y ≡ true) → touches (unmoved (foot_of buffers (h ∷ []))) x ≡ true → x < first
  foot_below first x states is own t = ⊎_elim
      (λ (u : IsOfUsed buffers (used_at_all (footprint_of buffers (h ∷ []))) x). resource_below first x states is u.0 u.1.1)
      (λ (s : has (states_of (h ∷ [])) x ≡ true). is.held x (own x s))
      (touched_by buffers (h ∷ []) x t)
