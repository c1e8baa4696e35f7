-- Extents and the words in them, and what a change of other words leaves of the buffers.
use Rattle.std.proofs.Common.{◌≡◌, ◌≤◌, ◌<◌, ◌+◌, ◌⊎◌, inl, inr, ℕ, ℤ, Bool, true, false, List, [], ◌∷◌, ◌++◌, map, get_or, Option, Some, None, refl, ap, arith, All}
use Rattle.std.specs.Prelude.{if◌then◌else◌}
use Rattle.std.specs.Option.{option_map}
use Rattle.std.proofs.lemmas.Bool.Decides.{leb_tells}
use Rattle.std.proofs.lemmas.List.Elements.{All-head, All-tail}
use Rattle.sn_mem.specs.declared.extents.Extent.{Extent}
use Rattle.sn_mem.specs.declared.buffers.BufferPlace.{BufferPlace}
use Rattle.sn_mem.specs.Words.{covers}
use Rattle.sn_mem.specs.Blocks.{window, sample_in}
use Rattle.sn_mem.specs.Buffers.{Buffer, buffer_of, buffers_of, overlaps, place_extents, live_places, MayBePlace, AreApart}
use Rattle.sn_mem.proofs.Meetings.{covered, before, after}
use Rattle.sn_mem.proofs.Windows.{window_same}

-- ---- extents and the words in them

pub overlaps-append : (x : ℕ) (es fs : List Extent) → overlaps x (es ++ fs) ≡ overlaps x es + overlaps x fs
overlaps-append x [] fs = omega arith
overlaps-append x (e ∷ es) fs = omega (arith, overlaps-append x es fs)

one : (b : Bool) → b ≡ true → ◌≡◌ {A = ℕ} (if b then 1 else 0) 1
one b e = ap (λ (c : Bool). let n : ℕ = if c then 1 else 0 in n) e

none : (b : Bool) → b ≡ false → ◌≡◌ {A = ℕ} (if b then 1 else 0) 0
none b e = ap (λ (c : Bool). let n : ℕ = if c then 1 else 0 in n) e

-- a word in an extent overlaps it
pub in_extent : (e : Extent) (x : ℕ) → e.at ≤ x → x < e.at + e.len → overlaps x (e ∷ []) ≡ 1
in_extent e x from to = omega (arith, one (covers e x) (covered e x from to))

pub outside : (e : Extent) (x : ℕ) → overlaps x (e ∷ []) ≡ 0 → (x < e.at) ⊎ (e.at + e.len ≤ x)
outside e x free = elim (leb_tells e.at x) [
  | inl p ↦ (elim (leb_tells (e.at + e.len) x) [
    | inl q ↦ inr q.1
    | inr q ↦ absurd (omega (arith, free, in_extent e x p.1 q.1))
  ])
  | inr p ↦ inl p.1
]

pub covered_from : (e : Extent) (x : ℕ) → 0 < overlaps x (e ∷ []) → e.at ≤ x
covered_from e x more = elim (leb_tells e.at x) [
  | inl p ↦ p.1
  | inr p ↦ absurd (omega (arith, more, none (covers e x) (before e x p.1)))
]

-- words that agree where the extents overlap
unfoldable pub AgreesOn : List Extent → List ℕ → List ℕ → Type 0
AgreesOn es us ws = (x : ℕ) → 0 < overlaps x es → get_or us x 0 ≡ get_or ws x 0

pub same_window : (e : Extent) (us ws : List ℕ) → AgreesOn (e ∷ []) us ws → window us e.at e.len ≡ window ws e.at e.len
unfolding AgreesOn
same_window e us ws agree = window_same us ws e.at e.len (λ k lt. agree (e.at + k) (omega (arith, in_extent e (e.at + k) (omega arith) (omega arith))))

-- ---- the buffers

pub places-parts : (p : Option BufferPlace) (ps : List (Option BufferPlace)) (x : ℕ) → overlaps x (live_places (p ∷ ps)) ≡ overlaps x (place_extents p) + overlaps x (live_places ps)
unfolding live_places
places-parts p ps x = overlaps-append x (place_extents p) (live_places ps)

pub nothing-overlaps : (x : ℕ) → overlaps x (live_places []) ≡ 0
unfolding live_places
nothing-overlaps x = refl

with_samples : BufferPlace → List ℤ → Option Buffer
with_samples p samples = let b : Buffer = record { frames = p.frames; channels = p.channels; samples = samples; extent = p.extent } in Some b

pub same_buffer : (p : Option BufferPlace) (us ws : List ℕ) → AgreesOn (place_extents p) us ws → option_map (buffer_of us) p ≡ option_map (buffer_of ws) p
unfolding with_samples
same_buffer None us ws agree = refl
same_buffer (Some p) us ws agree = ap (λ (words : List ℕ). with_samples p (map sample_in words)) (same_window p.extent us ws agree)

pub same_buffers : (ps : List (Option BufferPlace)) (us ws : List ℕ) → AgreesOn (live_places ps) us ws → buffers_of us ps ≡ buffers_of ws ps
unfolding AgreesOn buffers_of
same_buffers [] us ws agree = refl
same_buffers (p ∷ ps) us ws agree = λ i.
    same_buffer p us ws (λ x more. agree x (omega (arith, places-parts p ps x, more))) i
    ∷ same_buffers ps us ws (λ x more. agree x (omega (arith, places-parts p ps x, more))) i

own_behind : (p : Option BufferPlace) (x : ℕ) → MayBePlace p → 0 < overlaps x (place_extents p) → 10368 ≤ x
own_behind None x is more = absurd (omega (arith, more))
own_behind (Some p) x is more = omega (arith, is.behind, covered_from p.extent x more)

-- the buffers' words lie after those of the buses
pub places_behind : (ps : List (Option BufferPlace)) (x : ℕ) → All MayBePlace ps → 0 < overlaps x (live_places ps) → 10368 ≤ x
places_behind [] x are more = absurd (omega (arith, more, nothing-overlaps x))
places_behind (p ∷ ps) x are more = elim (leb_tells 1 (overlaps x (place_extents p))) [
  | inl q ↦ own_behind p x (All-head MayBePlace p ps are) q.1
  | inr q ↦ places_behind ps x (All-tail MayBePlace p ps are) (omega (arith, more, places-parts p ps x, q.1))
]

few : (b : Bool) → ◌≤◌ (if b then 1 else 0) 1
few true = omega arith
few false = omega arith

pub covered_to : (e : Extent) (x : ℕ) → 0 < overlaps x (e ∷ []) → x < e.at + e.len
covered_to e x more = elim (leb_tells (e.at + e.len) x) [
  | inl p ↦ absurd (omega (arith, more, none (covers e x) (after e x p.1)))
  | inr p ↦ p.1
]

pub no_overlap : (e : Extent) (x : ℕ) → (x < e.at) ⊎ (e.at + e.len ≤ x) → overlaps x (e ∷ []) ≡ 0
no_overlap e x off = elim off [
  | inl l ↦ omega (arith, none (covers e x) (before e x l))
  | inr r ↦ omega (arith, none (covers e x) (after e x r))
]

part_overlaps : (a b : Extent) (x : ℕ) → a.at ≤ b.at → b.at + b.len ≤ a.at + a.len → overlaps x (b ∷ []) ≤ overlaps x (a ∷ [])
part_overlaps a b x low high = elim (leb_tells 1 (overlaps x (b ∷ []))) [
  | inl q ↦ omega (arith, few (covers b x), in_extent a x (omega (arith, low, covered_from b x q.1)) (omega (arith, high, covered_to b x q.1)))
  | inr q ↦ omega (arith, q.1)
]

-- a part of the state is apart from the buffers
pub part_apart : (a b : Extent) (ps : List (Option BufferPlace)) → a.at ≤ b.at → b.at + b.len ≤ a.at + a.len → AreApart a ps → AreApart b ps
part_apart a b ps low high are = record { each = are.each; apart = λ x. omega (arith, are.apart x, part_overlaps a b x low high) }

-- ---- no buffers
