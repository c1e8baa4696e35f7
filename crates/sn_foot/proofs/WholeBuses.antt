-- Of an audio bus nodes touch all words or none.
use Rattle.std.proofs.Common.{◌≡◌, ◌≤◌, ◌<◌, ◌⊎◌, inl, inr, ⊎_elim, ℕ, zero, suc, ◌+◌, ◌*◌, nat_lt, Bool, true, false, ◌||◌, List, [], ◌∷◌, ◌++◌, get_or, Option, Some, None, sym, ap, subst, ◌∙◌, arith, All, true≢false}
use Rattle.std.specs.Prelude.{nat_le}
use Rattle.std.proofs.lemmas.Bool.{and_parts, cases_Bool, false_from_ne_true, leb-true, ltb-true, or_cases, or_left, or_right}
use Rattle.std.proofs.lemmas.List.Elements.{All-head, All-tail}
use Rattle.sn_mem.specs.declared.extents.Extent.{Extent}
use Rattle.sn_foot.specs.declared.reach.Reach.{Reach}
use Rattle.sn_mem.specs.declared.buffers.BufferPlace.{BufferPlace}
use Rattle.sn_mem.specs.Layout.{audio_place, control_place}
use Rattle.sn_mem.specs.Words.{covers, has, touches}
use Rattle.sn_foot.specs.Reaches.{unmoved}
use Rattle.sn_mem.proofs.Meetings.{covered}
use Rattle.sn_io.specs.BufferUnits.{numbered}
use Rattle.sn_world.specs.Buffers.{MayBeBuffer, AreEach}
use Rattle.sn_world.specs.Pictures.{held_extents, IsHeld}
use Rattle.sn_world.specs.declared.stage.Held.{Held}
use Rattle.sn_world.specs.declared.stage.Held.TheVariants as held
use Rattle.sn_foot.specs.declared.resource.Resource.{Resource}
use Rattle.sn_foot.specs.declared.resource.Resource.TheVariants.{Audio, Control, Buffer}
use Rattle.sn_foot.specs.Footprints.{buffer_words, place_of, states_of, lies_in, IsOfUsed, AreItsWords}
use Rattle.sn_foot.specs.Suffices.{AreOfWorld}
use Rattle.sn_foot.proofs.Runs.{has_append}
use Rattle.sn_foot.proofs.Containing.{in_range}
use Rattle.sn_foot.proofs.Sufficing.{audio_at}

pub covered_behind : (e : Extent) (x : ℕ) → covers e x ≡ true → e.at ≤ x
covered_behind e x h = let p = and_parts (nat_le e.at x) (nat_lt x (e.at + e.len)) h in leb-true e.at x p.0

place_behind : (region : Extent) (q : Option BufferPlace) (x : ℕ) → MayBeBuffer region q → lies_in x (buffer_words q) ≡ true → region.at ≤ x
place_behind region None x may h = absurd (true≢false (sym h))
place_behind region (Some p) x may h = let within = may.within in omega (arith, within.0, covered_behind p.extent x h)

pub buffer_behind : (region : Extent) (buffers : List (Option BufferPlace)) (n x : ℕ) → AreEach region buffers → lies_in x (buffer_words (get_or buffers n None)) ≡ true → region.at ≤ x
unfolding AreEach
buffer_behind region [] n x each h = absurd (true≢false (sym h))
buffer_behind region (q ∷ qs) zero x each h = place_behind region q x each.0 h
buffer_behind region (q ∷ qs) (suc n) x each h = buffer_behind region qs n x each.1 h

own_behind : (rate : ℕ) (region : Extent) (h : Held) (x : ℕ) → IsHeld rate region h → has (held_extents h) x ≡ true → region.at ≤ x
own_behind rate region held.Group x is h = absurd (true≢false (sym h))
own_behind rate region (held.Synth def controls state) x is h = ⊎_elim
    (λ (c : covers state x ≡ true). let within = is.within in omega (arith, within.0, covered_behind state x c))
    (λ (n : false ≡ true). absurd (true≢false (sym n)))
    (or_cases (covers state x) false h)

states_behind : (rate : ℕ) (region : Extent) (hs : List Held) (x : ℕ) → All (IsHeld rate region) hs → has (states_of hs) x ≡ true → region.at ≤ x
states_behind rate region [] x are h = absurd (true≢false (sym h))
states_behind rate region (g ∷ hs) x are h = ⊎_elim
    (λ (c : has (held_extents g) x ≡ true). own_behind rate region g x (All-head (IsHeld rate region) g hs are) c)
    (λ (c : has (states_of hs) x ≡ true). states_behind rate region hs x (All-tail (IsHeld rate region) g hs are) c)
    (or_cases (has (held_extents g) x) (has (states_of hs) x) (sym (has_append (held_extents g) (states_of hs) x) ∙ h))

module _ (rate : ℕ) (region : Extent) (buffers : List (Option BufferPlace)) (hs : List Held) (reach : Reach) (world : AreOfWorld rate region buffers hs) (is : AreItsWords buffers hs reach) where
  -- two words of one bus
  module _ (n x y : ℕ) (low : n < 128) (from : 65 * n ≤ x) (to : x < 65 * n + 65) (begin : 65 * n ≤ y) (end : y < 65 * n + 65) where
    both_lie : (r : Resource) → lies_in x (place_of buffers r) ≡ true → lies_in y (place_of buffers r) ≡ true
    both_lie (Audio k) h =
        let (few, lies) = in_range k 128 (Some (audio_place k)) x h in
        let p = and_parts (nat_le (65 * k) x) (nat_lt x (65 * k + 65)) lies in
        let same : k ≡ n = omega (arith, from, to, leb-true (65 * k) x p.0, ltb-true x (65 * k + 65) p.1) in
        ap (λ (o : Option Extent). lies_in y o) (audio_at buffers k few) ∙ covered (audio_place k) y (omega (arith, same, begin)) (omega (arith, same, end))
    both_lie (Control k) h =
        let (few, lies) = in_range k 1024 (Some (control_place k)) x h in
        absurd (omega (arith, to, low, covered_behind (control_place k) x lies))
    both_lie (Buffer k) h =
        absurd (omega (arith, to, low, world.base, buffer_behind region buffers k x world.each (in_range k 1024 (buffer_words (get_or buffers k None)) x h).1))

    both_used : (used : Resource → Bool) → IsOfUsed buffers used x → IsOfUsed buffers used y
    both_used used u = (u.0, (u.1.0, both_lie u.0 u.1.1))

    both_touched : touches (unmoved reach) x ≡ true → touches (unmoved reach) y ≡ true
    both_touched t = ⊎_elim
        (λ (p : has (reach.writes ++ reach.mixes) x ≡ true).
        or_left (has (reach.writes ++ reach.mixes) y) (has reach.reads y)
        (has_append reach.writes reach.mixes y
        ∙ ⊎_elim
        (λ (w : has reach.writes x ≡ true). or_left (has reach.writes y) (has reach.mixes y) ((is.writes y).1 (⊎_elim
        (λ u. inl (both_used _ u))
        (λ s. absurd (omega (arith, to, low, world.base, states_behind rate region hs x world.held s)))
        ((is.writes x).0 w))))
        (λ (m : has reach.mixes x ≡ true). or_right (has reach.writes y) (has reach.mixes y) ((is.mixes y).1 (both_used _ ((is.mixes x).0 m))))
        (or_cases (has reach.writes x) (has reach.mixes x) (sym (has_append reach.writes reach.mixes x) ∙ p))))
        (λ (r : has reach.reads x ≡ true). or_right (has (reach.writes ++ reach.mixes) y) (has reach.reads y) ((is.reads y).1 (both_used _ ((is.reads x).0 r))))
        (or_cases (has (reach.writes ++ reach.mixes) x) (has reach.reads x) t)

  pub bus_whole : (n x : ℕ) → n < 128 → 65 * n ≤ x → x < 65 * n + 65 → touches (unmoved reach) x ≡ touches (unmoved reach) (65 * n)
  bus_whole n x low from to = ⊎_elim
      (λ (h : touches (unmoved reach) x ≡ true). h ∙ sym (both_touched n x (65 * n) low from to (omega arith) (omega arith) h))
      (λ (h : touches (unmoved reach) x ≡ false). h ∙ sym (false_from_ne_true (touches (unmoved reach) (65 * n)) (λ t. true≢false (sym (both_touched n (65 * n) x low (omega arith) (omega arith) from to t) ∙ h))))
      (cases_Bool (touches (unmoved reach) x))

-- ---- buffers after the buses

place_at_behind : (region : Extent) (q : Option BufferPlace) (p : BufferPlace) → MayBeBuffer region q → q ≡ Some p → region.at ≤ p.extent.at
place_at_behind region None p may e = absurd cc
place_at_behind region (Some q) p may e = let s : q ≡ p = cc in let within = may.within in subst (λ (r : BufferPlace). region.at ≤ r.extent.at) s within.0

at_behind : (region : Extent) (buffers : List (Option BufferPlace)) (n : ℕ) (p : BufferPlace) → AreEach region buffers → get_or buffers n None ≡ Some p → region.at ≤ p.extent.at
unfolding AreEach
at_behind region [] n p each e = absurd cc
at_behind region (q ∷ qs) zero p each e = place_at_behind region q p each.0 e
at_behind region (q ∷ qs) (suc n) p each e = at_behind region qs n p each.1 e

pub numbered_behind : (region : Extent) (buffers : List (Option BufferPlace)) (o : Option ℕ) (p : BufferPlace) → AreEach region buffers → numbered o buffers ≡ Some p → region.at ≤ p.extent.at
numbered_behind region buffers None p each e = absurd cc
numbered_behind region buffers (Some n) p each e = at_behind region buffers n p each e
