-- The places of the resources that nodes use.
use Rattle.std.proofs.Common.{◌≡◌, ℕ, zero, suc, ◌+◌, Bool, true, false, ◌&&◌, List, [], ◌∷◌, ◌++◌, Option, Some, None, refl, arith, ltb, if◌then◌else◌}
use Rattle.std.specs.Prelude.{is_some, nat_lt, slice_index_or}
use Rattle.std.specs.List.{All}
use Rattle.std.proofs.lemmas.Bool.{cond_both, ltb-true}
use Rattle.std.proofs.lemmas.List.Elements.{All-nil, All-cons, All-head, All-append}
use Rattle.sn_mem.specs.declared.extents.Extent.{Extent}
use Rattle.sn_mem.specs.Layout.{audio_place, control_place}
use Rattle.sn_mem.specs.declared.buffers.BufferPlace.{BufferPlace}
use Rattle.sn_mem.specs.Buffers.{live_places, place_extents}
use Rattle.sn_foot.specs.declared.resource.Resource.{Resource}
use Rattle.sn_foot.specs.declared.resource.Resource.TheVariants as resources
use Rattle.sn_foot.specs.declared.uses.Role.{Role}
use Rattle.sn_foot.specs.declared.uses.Use.{Use}
use Rattle.sn_foot.specs.Canonical.{Ends}
use Rattle.sn_foot.specs.Footprints.{buffer_words, is_there, place_of, listed, where_used, used_places}
use Rattle.sn_foot.specs.Uses.{is_role, places_of}
use Rattle.sn_foot.proofs.Finding.{all_parts}

-- ---- lists of what numbers give

all_listed : {A : Type 0} (P : A → Type 0) (f : ℕ → List A) (count : ℕ) → ((n : ℕ) → All P (f n)) → All P (listed f count)
unfolding listed
all_listed P f zero each = All-nil P
all_listed P f (suc n) each = All-append P (listed f n) (f n) (all_listed P f n each) (each n)

-- ---- what is there

some_if : {A : Type 0} (b : Bool) (x : A) → is_some (if b then Some x else None) ≡ b
some_if true x = refl
some_if false x = refl

words_there : (p : Option BufferPlace) → is_some (buffer_words p) ≡ is_some p
words_there None = refl
words_there (Some p) = refl

words_if : (b : Bool) (p : Option BufferPlace) → is_some (if b then buffer_words p else None) ≡ (b && is_some p)
words_if true p = words_there p
words_if false p = refl

-- what is there has a place
pub has_place : (buffers : List (Option BufferPlace)) (r : Resource) → is_some (place_of buffers r) ≡ is_there buffers r
has_place buffers (resources.Audio n) = some_if (nat_lt n 128) (audio_place n)
has_place buffers (resources.Control n) = some_if (nat_lt n 1024) (control_place n)
has_place buffers (resources.Buffer n) = words_if (nat_lt n 1024) (slice_index_or buffers n None)

-- ---- their words have numbers

where_all : (P : Extent → Type 0) (used : Bool) (e : Extent) → P e → All P (if used then e ∷ [] else [])
where_all P true e p = All-cons P e [] p (All-nil P)
where_all P false e p = All-nil P

abbrev IsPlaceOf : (Extent → Type 0) → Option Extent → Type 0
IsPlaceOf P None = Unit {0}
IsPlaceOf P (Some e) = P e

all_used : (P : Extent → Type 0) (used : Bool) (place : Option Extent) → IsPlaceOf P place → All P (where_used used place)
all_used P used None h = All-nil P
all_used P used (Some e) h = where_all P used e h

buffer_ends : (buffers : List (Option BufferPlace)) (n : ℕ) → All Ends (live_places buffers) → IsPlaceOf Ends (buffer_words (slice_index_or buffers n None))
unfolding live_places
buffer_ends [] n all = tt
buffer_ends (None ∷ bs) zero all = tt
buffer_ends (Some p ∷ bs) zero all = All-head Ends p.extent (live_places bs) all
buffer_ends (b ∷ bs) (suc n) all = buffer_ends bs n (all_parts Ends (place_extents b) (live_places bs) all).1

place_ends : (buffers : List (Option BufferPlace)) (r : Resource) → All Ends (live_places buffers) → IsPlaceOf Ends (place_of buffers r)
place_ends buffers (resources.Audio n) all = cond_both (ltb n 128) (Some (audio_place n)) None (λ p. IsPlaceOf Ends p) (λ b. let lt = ltb-true n 128 b in omega arith) (λ b. tt)
place_ends buffers (resources.Control n) all = cond_both (ltb n 1024) (Some (control_place n)) None (λ p. IsPlaceOf Ends p) (λ b. let lt = ltb-true n 1024 b in omega arith) (λ b. tt)
place_ends buffers (resources.Buffer n) all = cond_both (ltb n 1024) (buffer_words (slice_index_or buffers n None)) None (λ p. IsPlaceOf Ends p) (λ b. buffer_ends buffers n all) (λ b. tt)

pub used_ends : (buffers : List (Option BufferPlace)) (used : Resource → Bool) → All Ends (live_places buffers) → All Ends (used_places buffers used)
used_ends buffers used all =
    let audio : ℕ → List Extent = λ n. where_used (used (resources.Audio n)) (place_of buffers (resources.Audio n)) in
    let control : ℕ → List Extent = λ n. where_used (used (resources.Control n)) (place_of buffers (resources.Control n)) in
    let buffer : ℕ → List Extent = λ n. where_used (used (resources.Buffer n)) (place_of buffers (resources.Buffer n)) in
    All-append Ends (listed audio 128) (listed control 1024 ++ listed buffer 1024)
    (all_listed Ends audio 128 (λ n. all_used Ends (used (resources.Audio n)) (place_of buffers (resources.Audio n)) (place_ends buffers (resources.Audio n) all)))
    (All-append Ends (listed control 1024) (listed buffer 1024)
    (all_listed Ends control 1024 (λ n. all_used Ends (used (resources.Control n)) (place_of buffers (resources.Control n)) (place_ends buffers (resources.Control n) all)))
    (all_listed Ends buffer 1024 (λ n. all_used Ends (used (resources.Buffer n)) (place_of buffers (resources.Buffer n)) (place_ends buffers (resources.Buffer n) all))))

-- so have those of what is used
pub places_end : (buffers : List (Option BufferPlace)) (role : Role) (us : List Use) → All Ends (live_places buffers) → All Ends (places_of buffers role us)
places_end buffers role [] all = All-nil Ends
places_end buffers role (u ∷ us) all =
    let place : Option Extent = place_of buffers u.resource in
    All-append Ends (where_used (is_role role u.role) place) (places_of buffers role us)
    (all_used Ends (is_role role u.role) place (place_ends buffers u.resource all))
    (places_end buffers role us all)
