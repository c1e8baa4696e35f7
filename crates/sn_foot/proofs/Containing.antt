-- Which words a foot has.
use Rattle.std.proofs.Common.{◌≡◌, ◌≤◌, ◌<◌, ◌⊎◌, inl, inr, ⊎_elim, ℕ, zero, suc, ◌+◌, Bool, true, false, ◌||◌, List, ◌++◌, Option, Some, None, sym, refl, ap, ◌∙◌, arith, true≢false, if◌then◌else◌}
use Rattle.std.specs.Prelude.{slice_index_or, nat_lt}
use Rattle.std.proofs.lemmas.Bool.{cond-false, or_cases, or_left, or_right, le-ltb, cases_lt, cond-true, lt-ltb}
use Rattle.std.proofs.Math.Bool.{or-false}
use Rattle.sn_mem.specs.declared.extents.Extent.{Extent}
use Rattle.sn_mem.specs.Layout.{audio_place, control_place}
use Rattle.sn_mem.specs.Words.{covers, has}
use Rattle.sn_mem.specs.declared.buffers.BufferPlace.{BufferPlace}
use Rattle.sn_world.specs.declared.stage.Held.{Held}
use Rattle.sn_foot.specs.declared.resource.Resource.{Resource}
use Rattle.sn_foot.specs.declared.resource.Resource.TheVariants.{Audio, Control, Buffer}
use Rattle.sn_foot.specs.Footprints.{buffer_words, place_of, listed, where_used, used_places, states_of, lies_in, IsOfUsed, AreItsWords, footprint_of, foot_of}
use Rattle.sn_foot.proofs.Runs.{has_append, has_canonical}

-- the word is in what one of the first numbers gives
IsListed : (ℕ → List Extent) → ℕ → ℕ → Type 0
IsListed f count x = (n : ℕ) × ((n < count) × (has (f n) x ≡ true))

listed_is : (f : ℕ → List Extent) (count x : ℕ) → has (listed f count) x ≡ true → IsListed f count x
unfolding listed IsListed
listed_is f zero x h = absurd (true≢false (sym h))
listed_is f (suc n) x h =
    ⊎_elim
    (λ (a : has (listed f n) x ≡ true). let r = listed_is f n x a in (r.0, (omega (arith, r.1.0), r.1.1)))
    (λ (b : has (f n) x ≡ true). (n, (omega arith, b)))
    (or_cases (has (listed f n) x) (has (f n) x) (sym (has_append (listed f n) (f n) x) ∙ h))

is_listed : (f : ℕ → List Extent) (count x n : ℕ) → n < count → has (f n) x ≡ true → has (listed f count) x ≡ true
unfolding listed
is_listed f zero x n lt h = absurd (omega arith)
is_listed f (suc k) x n lt h =
    has_append (listed f k) (f k) x
    ∙ ⊎_elim
    (λ (below : n < k). or_left (has (listed f k) x) (has (f k) x) (is_listed f k x n below h))
    (λ (last : k ≤ n). let e : n ≡ k = omega arith in or_right (has (listed f k) x) (has (f k) x) (sym (ap (λ m. has (f m) x) e) ∙ h))
    (cases_lt n k)

pub used_is : (used : Bool) (place : Option Extent) (x : ℕ) → has (where_used used place) x ≡ true → (used ≡ true) × (lies_in x place ≡ true)
used_is used None x h = absurd (true≢false (sym h))
used_is true (Some e) x h = (refl, sym (or-false (covers e x)) ∙ h)
used_is false (Some e) x h = absurd (true≢false (sym h))

pub is_used : (used : Bool) (place : Option Extent) (x : ℕ) → used ≡ true → lies_in x place ≡ true → has (where_used used place) x ≡ true
is_used used None x u h = absurd (true≢false (sym h))
is_used true (Some e) x u h = or-false (covers e x) ∙ h
is_used false (Some e) x u h = absurd (true≢false (sym u))

-- a resource with a word has a number below the count of its sort
pub in_range : (n count : ℕ) (place : Option Extent) (x : ℕ) → lies_in x (if nat_lt n count then place else None) ≡ true → (n < count) × (lies_in x place ≡ true)
in_range n count place x h =
    ⊎_elim
    (λ (lt : n < count). (lt, sym (ap (λ p. lies_in x p) (cond-true (nat_lt n count) place None (lt-ltb n count lt))) ∙ h))
    (λ (ge : count ≤ n). absurd (true≢false (sym h ∙ ap (λ p. lies_in x p) (cond-false (nat_lt n count) place None (le-ltb n count ge)))))
    (cases_lt n count)

module _ (buffers : List (Option BufferPlace)) (used : Resource → Bool) where
  audio : ℕ → List Extent
  audio n = where_used (used (Audio n)) (place_of buffers (Audio n))

  control : ℕ → List Extent
  control n = where_used (used (Control n)) (place_of buffers (Control n))

  buffer : ℕ → List Extent
  buffer n = where_used (used (Buffer n)) (place_of buffers (Buffer n))

  sorts : (x : ℕ) → has (used_places buffers used) x ≡ (has (listed audio 128) x || (has (listed control 1024) x || has (listed buffer 1024) x))
  unfolding audio control buffer
  sorts x = has_append (listed audio 128) (listed control 1024 ++ listed buffer 1024) x ∙ ap (λ b. has (listed audio 128) x || b) (has_append (listed control 1024) (listed buffer 1024) x)

  pub places_are : (x : ℕ) → has (used_places buffers used) x ≡ true → IsOfUsed buffers used x
  unfolding audio control buffer IsListed
  places_are x h =
      ⊎_elim
      (λ (a : has (listed audio 128) x ≡ true). let r = listed_is audio 128 x a in (Audio r.0, used_is (used (Audio r.0)) (place_of buffers (Audio r.0)) x r.1.1))
      (λ (b : (has (listed control 1024) x || has (listed buffer 1024) x) ≡ true). ⊎_elim
      (λ (a : has (listed control 1024) x ≡ true). let r = listed_is control 1024 x a in (Control r.0, used_is (used (Control r.0)) (place_of buffers (Control r.0)) x r.1.1))
      (λ (a : has (listed buffer 1024) x ≡ true). let r = listed_is buffer 1024 x a in (Buffer r.0, used_is (used (Buffer r.0)) (place_of buffers (Buffer r.0)) x r.1.1))
      (or_cases (has (listed control 1024) x) (has (listed buffer 1024) x) b))
      (or_cases (has (listed audio 128) x) (has (listed control 1024) x || has (listed buffer 1024) x) (sym (sorts x) ∙ h))

  pub are_places : (x : ℕ) (r : Resource) → used r ≡ true → lies_in x (place_of buffers r) ≡ true → has (used_places buffers used) x ≡ true
  unfolding audio control buffer
  are_places x (Audio n) u l =
      sorts x ∙ or_left (has (listed audio 128) x) (has (listed control 1024) x || has (listed buffer 1024) x)
      (is_listed audio 128 x n (in_range n 128 (Some (audio_place n)) x l).0 (is_used (used (Audio n)) (place_of buffers (Audio n)) x u l))
  are_places x (Control n) u l =
      sorts x ∙ or_right (has (listed audio 128) x) (has (listed control 1024) x || has (listed buffer 1024) x)
      (or_left (has (listed control 1024) x) (has (listed buffer 1024) x)
      (is_listed control 1024 x n (in_range n 1024 (Some (control_place n)) x l).0 (is_used (used (Control n)) (place_of buffers (Control n)) x u l)))
  are_places x (Buffer n) u l =
      sorts x ∙ or_right (has (listed audio 128) x) (has (listed control 1024) x || has (listed buffer 1024) x)
      (or_right (has (listed control 1024) x) (has (listed buffer 1024) x)
      (is_listed buffer 1024 x n (in_range n 1024 (buffer_words (slice_index_or buffers n None)) x l).0 (is_used (used (Buffer n)) (place_of buffers (Buffer n)) x u l)))

pub its_words : (buffers : List (Option BufferPlace)) (hs : List Held) → AreItsWords buffers hs (foot_of buffers hs)
its_words buffers hs =
    let f = footprint_of buffers hs in
    record {
      reads = λ x. (
        (λ h. places_are buffers f.reads x (sym (has_canonical (used_places buffers f.reads) x) ∙ h)),
        (λ is. has_canonical (used_places buffers f.reads) x ∙ are_places buffers f.reads x is.0 is.1.0 is.1.1),
      );
      writes = λ x. (
        (λ h. ⊎_elim
            (λ (a : has (used_places buffers f.writes) x ≡ true). inl (places_are buffers f.writes x a))
            (λ (b : has (states_of hs) x ≡ true). inr b)
            (or_cases (has (used_places buffers f.writes) x) (has (states_of hs) x) (sym (has_append (used_places buffers f.writes) (states_of hs) x) ∙ sym (has_canonical (used_places buffers f.writes ++ states_of hs) x) ∙ h))),
        (λ is. has_canonical (used_places buffers f.writes ++ states_of hs) x ∙ has_append (used_places buffers f.writes) (states_of hs) x
            ∙ ⊎_elim
            (λ (a : IsOfUsed buffers f.writes x). or_left (has (used_places buffers f.writes) x) (has (states_of hs) x) (are_places buffers f.writes x a.0 a.1.0 a.1.1))
            (λ (b : has (states_of hs) x ≡ true). or_right (has (used_places buffers f.writes) x) (has (states_of hs) x) b)
            is),
      );
      mixes = λ x. (
        (λ h. places_are buffers f.mixes x (sym (has_canonical (used_places buffers f.mixes) x) ∙ h)),
        (λ is. has_canonical (used_places buffers f.mixes) x ∙ are_places buffers f.mixes x is.0 is.1.0 is.1.1),
      );
    }
