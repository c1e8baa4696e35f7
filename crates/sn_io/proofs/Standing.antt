-- If the state of a unit and the buffers are apart, they stand as the laws of units on buffers ask.
use Rattle.std.proofs.Common.{◌≡◌, ◌≢◌, ◌≤◌, ◌<◌, ◌+◌, ◌*◌, ℕ, zero, suc, Bool, true, false, cond, List, [], ◌∷◌, ℤ, Option, Some, None, get_or, refl, ap, sym, ◌∙◌, subst, arith, All}
use Rattle.std.proofs.lemmas.List.Elements.{All-head, All-tail}
use Rattle.std.proofs.Math.Nat.{mul-le-mul_right}
use Rattle.sn_def.specs.declared.kind.Kind.{Kind}
use Rattle.sn_mem.specs.declared.extents.Extent.{Extent}
use Rattle.sn_mem.specs.declared.extents.Foot.{Foot}
use Rattle.sn_mem.specs.declared.buffers.BufferPlace.{BufferPlace}
use Rattle.sn_mem.specs.Words.{touches}
use Rattle.sn_mem.specs.Buffers.{overlaps, place_extents, live_places, IsPlace, MayBePlace, AreApart}
use Rattle.sn_mem.proofs.BufferWords.{in_extent, places-parts}
use Rattle.sn_mem.proofs.Feet.{may_touch}
use Rattle.sn_io.specs.BufferUnits.{writes_buffer, buffer_number, numbered, chosen}
use Rattle.sn_io.specs.Conditions.{MayWriteBuffer, MayReachBuffer}
use Rattle.sn_io.proofs.BufferMeaning.{IsNoBuffers, Stand, written_by}

-- what is at a number has its words among those of all
place_within : (n : ℕ) (ps : List (Option BufferPlace)) (x : ℕ) → overlaps x (place_extents (get_or ps n None)) ≤ overlaps x (live_places ps)
place_within n [] x = omega arith
place_within zero (p ∷ ps) x = omega (arith, places-parts p ps x)
place_within (suc n) (p ∷ ps) x = omega (arith, places-parts p ps x, place_within n ps x)

-- and so has what is at two numbers
two_within : (m n : ℕ) (ps : List (Option BufferPlace)) (x : ℕ) → m ≢ n → overlaps x (place_extents (get_or ps m None)) + overlaps x (place_extents (get_or ps n None)) ≤ overlaps x (live_places ps)
two_within m n [] x ne = omega arith
two_within zero zero (p ∷ ps) x ne = absurd (ne refl)
two_within zero (suc n) (p ∷ ps) x ne = omega (arith, places-parts p ps x, place_within n ps x)
two_within (suc m) zero (p ∷ ps) x ne = omega (arith, places-parts p ps x, place_within m ps x)
two_within (suc m) (suc n) (p ∷ ps) x ne = omega (arith, places-parts p ps x, two_within m n ps x (λ e. ne (ap suc e)))

-- a word of the buffer at a number
here : (n : ℕ) (ps : List (Option BufferPlace)) (p : BufferPlace) (x : ℕ) → get_or ps n None ≡ Some p → p.extent.at ≤ x → x < p.extent.at + p.extent.len → overlaps x (place_extents (get_or ps n None)) ≡ 1
here n ps p x there low high = ap (λ (o : Option BufferPlace). overlaps x (place_extents o)) there ∙ in_extent p.extent x low high

pub no_buffers : (ps : List (Option BufferPlace)) (j : ℕ) → overlaps j (live_places ps) ≡ 0 → IsNoBuffers ps j
no_buffers ps j free n p there low high = omega (arith, free, place_within n ps j, here n ps p j there low high)

place_at : (n : ℕ) (ps : List (Option BufferPlace)) → All MayBePlace ps → MayBePlace (get_or ps n None)
place_at n [] are = tt
place_at zero (p ∷ ps) are = All-head MayBePlace p ps are
place_at (suc n) (p ∷ ps) are = place_at n ps (All-tail MayBePlace p ps are)

is_place : (n : ℕ) (ps : List (Option BufferPlace)) (p : BufferPlace) → All MayBePlace ps → get_or ps n None ≡ Some p → IsPlace p
is_place n ps p are there = subst MayBePlace there (place_at n ps are)

-- a buffer has a word
lone : (m n : ℕ) → 1 ≤ m → 1 ≤ n → m * n ≢ 0
lone m n a b none = let le : 1 * n ≤ m * n = mul-le-mul_right n a in omega (arith, le, b, none)

-- the buffer that is written lies in the words
written_inside : (f : Foot) (p : BufferPlace) (words : ℕ) → IsPlace p → ((x : ℕ) → touches f x ≡ true → x < words) → MayWriteBuffer f (Some p) → p.extent.at + p.extent.len ≤ words
written_inside f p words is inside may = last p.extent.len refl
  where
    last : (len : ℕ) → p.extent.len ≡ len → p.extent.at + p.extent.len ≤ words
    last zero none = let size : p.extent.len ≡ p.frames * p.channels = is.size in absurd (lone p.frames p.channels is.frames is.channels (sym size ∙ none))
    last (suc n) some = let below : p.extent.at + n < words = inside (p.extent.at + n) (may_touch f f p.extent.at p.extent.len (p.extent.at + n) may refl (omega arith) (omega (arith, some))) in omega (arith, some, below)

number_is : (t : Bool) (o : Option ℕ) (n : ℕ) → cond t o None ≡ Some n → (t ≡ true) × (o ≡ Some n)
number_is true o n e = (refl, e)
number_is false o n e = absurd cc

pub stands : (k : Kind) (f : Foot) (at len words : ℕ) (places : List (Option BufferPlace)) (inputs : List (List ℤ)) → AreApart (record { at = at; len = len }) places → (0 < len → at + len ≤ words) → ((x : ℕ) → touches f x ≡ true → x < words) → MayReachBuffer k f inputs places → Stand at len words places (written_by k inputs)
stands k f at len words places inputs apart inside foot may =
    let state : Extent = record { at = at; len = len } in
    record {
      inside = inside;
      size = λ n p there. (is_place n places p apart.each there).size;
      within = λ n p number there.
          let both = number_is (writes_buffer k) (buffer_number inputs) n number in
          let it : chosen inputs places ≡ Some p = ap (λ (o : Option ℕ). numbered o places) both.1 ∙ there in
          written_inside f p words (is_place n places p apart.each there) foot (subst (MayWriteBuffer f) it (may.writes both.0));
      state = λ n p there x a b c d. omega (arith, apart.apart x, in_extent state x a b, place_within n places x, here n places p x there c d);
      apart = λ m n q p ne one other x a b c d. omega (arith, apart.apart x, two_within m n places x ne, here m places q x one a b, here n places p x other c d);
    }
