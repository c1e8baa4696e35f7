-- Buffers, and the words that hold them.
use Rattle.std.proofs.Common.{◌≡◌, ◌≤◌, ◌<◌, ◌+◌, inl, inr, ℕ, zero, suc, List, [], ◌∷◌, ◌++◌, length, replicate, Option, Some, None, refl, ap, sym, subst, ◌∙◌, arith, true, All}
use Rattle.std.proofs.lemmas.List.Elements.{All-nil, All-cons}
use Rattle.sn_mem.specs.declared.extents.Foot.{Foot}
use Rattle.sn_mem.specs.Words.{writes}
use Rattle.sn_io.specs.Conditions.{MayWriteBuffer}
use Rattle.std.specs.Option.{option_map}
use Rattle.std.proofs.lemmas.Bool.Decides.{leb_tells}
use Rattle.std.proofs.lemmas.List.{length-replicate}
use Rattle.sn_mem.specs.declared.extents.Extent.{Extent}
use Rattle.sn_mem.specs.declared.buffers.BufferPlace.{BufferPlace}
use Rattle.sn_pool.specs.Pools.{times}
use Rattle.sn_mem.specs.Buffers.{Buffer, buffer_of, buffers_of, place_extents, live_places, overlaps, MayBePlace}
use Rattle.sn_world.specs.Buffers.{buffer_extents, live_buffers, MayBeBuffer, AreEach, AreBuffers}
use Rattle.sn_mem.proofs.BufferWords.{places-parts, nothing-overlaps, covered_from}

-- ---- their extents

own_extents : (p : Option BufferPlace) (ws : List ℕ) → buffer_extents (option_map (buffer_of ws) p) ≡ place_extents p
own_extents None ws = refl
own_extents (Some p) ws = refl

pub live_buffers-of : (ps : List (Option BufferPlace)) (ws : List ℕ) → live_buffers (buffers_of ws ps) ≡ live_places ps
unfolding live_buffers live_places buffers_of
live_buffers-of [] ws = refl
live_buffers-of (p ∷ ps) ws = λ i. own_extents p ws i ++ live_buffers-of ps ws i

own_from : (region : Extent) (p : Option BufferPlace) (x : ℕ) → MayBeBuffer region p → 0 < overlaps x (place_extents p) → region.at ≤ x
own_from region None x is more = absurd (omega (arith, more))
own_from region (Some p) x is more = omega (arith, is.within.0, covered_from p.extent x more)

-- the buffers' words lie in the region
pub places_from : (region : Extent) (ps : List (Option BufferPlace)) (x : ℕ) → AreEach region ps → 0 < overlaps x (live_places ps) → region.at ≤ x
unfolding AreEach
places_from region [] x are more = absurd (omega (arith, more, nothing-overlaps x))
places_from region (p ∷ ps) x are more = elim (leb_tells 1 (overlaps x (place_extents p))) [
  | inl q ↦ own_from region p x are.0 q.1
  | inr q ↦ places_from region ps x are.1 (omega (arith, more, places-parts p ps x, q.1))
]

-- and so after those of the buses
own_place : (region : Extent) (p : Option BufferPlace) → region.at ≡ 10368 → MayBeBuffer region p → MayBePlace p
own_place region None base is = tt
own_place region (Some p) base is = record { frames = is.frames; short = is.short; channels = is.channels; few = is.few; size = is.size; behind = omega (arith, base, is.within.0) }

pub are_places : (region : Extent) (ps : List (Option BufferPlace)) → region.at ≡ 10368 → AreEach region ps → All MayBePlace ps
unfolding AreEach
are_places region [] base are = All-nil MayBePlace
are_places region (p ∷ ps) base are = All-cons MayBePlace p ps (own_place region p base are.0) (are_places region ps base are.1)

-- they may be written if the region may
own_written : (f : Foot) (region : Extent) (p : Option BufferPlace) → region.at + region.len < 4294967296 → ((k : ℕ) → region.at ≤ k → k < region.at + region.len → writes f k ≡ true) → MayBeBuffer region p → MayWriteBuffer f p
own_written f region None bounded may is = tt
own_written f region (Some p) bounded may is = record {
  below = omega (arith, bounded, is.within.1);
  each = λ i lt. may (p.extent.at + i) (omega (arith, is.within.0)) (omega (arith, lt, is.within.1));
}

pub are_written : (f : Foot) (region : Extent) (ps : List (Option BufferPlace)) → region.at + region.len < 4294967296 → ((k : ℕ) → region.at ≤ k → k < region.at + region.len → writes f k ≡ true) → AreEach region ps → All (MayWriteBuffer f) ps
unfolding AreEach
are_written f region [] bounded may are = All-nil (MayWriteBuffer f)
are_written f region (p ∷ ps) bounded may are = All-cons (MayWriteBuffer f) p ps (own_written f region p bounded may are.0) (are_written f region ps bounded may are.1)

-- ---- no buffers

pub none_are : (region : Extent) (n : ℕ) → AreEach region (replicate n None)
unfolding AreEach
none_are region zero = tt
none_are region (suc n) = (tt, none_are region n)

none_live : (n : ℕ) → live_places (replicate n None) ≡ []
unfolding live_places
none_live zero = refl
none_live (suc n) = none_live n

none_of : (ws : List ℕ) (n : ℕ) → buffers_of ws (replicate n None) ≡ replicate n None
unfolding buffers_of
none_of ws zero = refl
none_of ws (suc n) = ap (λ (bs : List (Option Buffer)). None ∷ bs) (none_of ws n)

pub no-times : (e : Extent) → times e [] ≡ times e [] + times e []
unfolding times
no-times e = refl

pub opening_live : (ps : List (Option BufferPlace)) → ps ≡ replicate 1024 None → live_places ps ≡ []
opening_live ps is = ap live_places is ∙ none_live 1024

pub opening_buffers : (ps : List (Option BufferPlace)) (ws : List ℕ) → ps ≡ replicate 1024 None → buffers_of ws ps ≡ replicate 1024 None
opening_buffers ps ws is = ap (buffers_of ws) is ∙ none_of ws 1024

pub opening_are : (region : Extent) (ps : List (Option BufferPlace)) → ps ≡ replicate 1024 None → AreBuffers region ps
opening_are region ps is = record { number = ap length is ∙ length-replicate {A = Option BufferPlace} 1024 None; each = subst (AreEach region) (sym is) (none_are region 1024) }
