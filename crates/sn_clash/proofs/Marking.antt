-- What is marked is what is used.
use Rattle.std.proofs.Common.{◌≡◌, ◌<◌, ℕ, ◌+◌, ◌*◌, ◌==◌, Bool, true, false, ◌&&◌, ◌||◌, List, [], ◌∷◌, Option, sym, refl, ap, subst, ◌∙◌, ⊎_elim, arith, length}
use Rattle.std.specs.Prelude.{slice_set, slice_index_or}
use Rattle.std.proofs.lemmas.Bool.{cases_eq, eq-eqb, ne_eqb}
use Rattle.std.proofs.Math.Bool.{or_assoc, or-false, or-true, and-false, and-or_distrib_left}
use Rattle.std.proofs.lemmas.List.{length-set, get_or-set_same, get_or-set_other}
use Rattle.sn_mem.specs.declared.buffers.BufferPlace.{BufferPlace}
use Rattle.sn_foot.specs.declared.resource.Resource.{Resource}
use Rattle.sn_foot.specs.declared.resource.Resource.TheVariants.{Audio, Control, Buffer}
use Rattle.sn_foot.specs.Footprints.{Footprint, is_there, number_of}
use Rattle.sn_foot.specs.declared.uses.Role.{Role}
use Rattle.sn_foot.specs.declared.uses.Role.TheVariants.{Read, Write, Mix}
use Rattle.sn_foot.specs.declared.uses.Use.{Use}
use Rattle.sn_foot.proofs.Putting.{low_number}
use Rattle.sn_clash.specs.declared.marks.Mark.{Mark}
use Rattle.sn_foot.specs.Uses.{footprint_in, is_role, is_same, uses_in}
use Rattle.sn_clash.specs.Marking.{is_marked, mark_of, mark_use, mark_uses, marked_in, more, place, unmarked}
use Rattle.sn_clash.specs.Passing.{either, no_use}

pub guarded : (t a b : Bool) → (t ≡ true → a ≡ b) → (t && a) ≡ (t && b)
guarded true a b f = f refl
guarded false a b f = refl

-- ---- places

same_number : (a b m n : ℕ) → (a ≡ b → m ≡ n) → (m ≡ n → a ≡ b) → (a == b) ≡ (m == n)
same_number a b m n f g =
    ⊎_elim
    (λ (e : m ≡ n). eq-eqb a b (g e) ∙ sym (eq-eqb m n e))
    (λ (d : m ≡ n → ⊥). ne_eqb a b (λ e. d (f e)) ∙ sym (ne_eqb m n d))
    (cases_eq m n)

same_place : (q r : Resource) → (place q == place r) ≡ is_same q r
same_place (Audio m) (Audio n) = same_number (3 * m) (3 * n) m n (λ e. omega (arith, e)) (λ e. omega (arith, e))
same_place (Audio m) (Control n) = ne_eqb (3 * m) (3 * n + 1) (λ e. omega (arith, e))
same_place (Audio m) (Buffer n) = ne_eqb (3 * m) (3 * n + 2) (λ e. omega (arith, e))
same_place (Control m) (Audio n) = ne_eqb (3 * m + 1) (3 * n) (λ e. omega (arith, e))
same_place (Control m) (Control n) = same_number (3 * m + 1) (3 * n + 1) m n (λ e. omega (arith, e)) (λ e. omega (arith, e))
same_place (Control m) (Buffer n) = ne_eqb (3 * m + 1) (3 * n + 2) (λ e. omega (arith, e))
same_place (Buffer m) (Audio n) = ne_eqb (3 * m + 2) (3 * n) (λ e. omega (arith, e))
same_place (Buffer m) (Control n) = ne_eqb (3 * m + 2) (3 * n + 1) (λ e. omega (arith, e))
same_place (Buffer m) (Buffer n) = same_number (3 * m + 2) (3 * n + 2) m n (λ e. omega (arith, e)) (λ e. omega (arith, e))

low_place : (r : Resource) → number_of r < 1024 → place r < 3072
low_place (Audio n) h = omega (arith, h)
low_place (Control n) h = omega (arith, h)
low_place (Buffer n) h = omega (arith, h)

-- ---- uses

more_bit : (a b : Role) (m : Mark) → is_marked a (more b m) ≡ (is_marked a m || (is_role a b && true))
more_bit Read Read m = sym (or-true m.read)
more_bit Read Write m = sym (or-false m.read)
more_bit Read Mix m = sym (or-false m.read)
more_bit Write Read m = sym (or-false m.written)
more_bit Write Write m = sym (or-true m.written)
more_bit Write Mix m = sym (or-false m.written)
more_bit Mix Read m = sym (or-false m.mixed)
more_bit Mix Write m = sym (or-false m.mixed)
more_bit Mix Mix m = sym (or-true m.mixed)

pub one_marked : (a : Role) (u : Use) (marks : List Mark) (r : Resource) → place r < length marks →
    is_marked a (mark_of (mark_use u marks) r) ≡ (is_marked a (mark_of marks r) || (is_role a u.role && is_same u.resource r))
one_marked a u marks r lt =
    let old : Bool = is_marked a (mark_of marks r) in
    ⊎_elim
    (λ (e : place u.resource ≡ place r).
    ap (λ (m : Mark). is_marked a m)
    (ap (λ k. slice_index_or (slice_set marks k (more u.role (slice_index_or marks k unmarked))) (place r) unmarked) e
    ∙ get_or-set_same marks (place r) (more u.role (mark_of marks r)) unmarked lt)
    ∙ more_bit a u.role (mark_of marks r)
    ∙ ap (λ b. old || (is_role a u.role && b)) (sym (sym (same_place u.resource r) ∙ eq-eqb (place u.resource) (place r) e)))
    (λ (d : place u.resource ≡ place r → ⊥).
    ap (λ (m : Mark). is_marked a m) (get_or-set_other marks (place u.resource) (place r) (more u.role (mark_of marks u.resource)) unmarked (λ e. d (sym e)))
    ∙ sym (or-false old)
    ∙ ap (λ b. old || b) (sym (and-false (is_role a u.role)) ∙ ap (λ b. is_role a u.role && b) (sym (sym (same_place u.resource r) ∙ ne_eqb (place u.resource) (place r) d))))
    (cases_eq (place u.resource) (place r))

pub long_use : (u : Use) (marks : List Mark) → length (mark_use u marks) ≡ length marks
long_use u marks = length-set marks (place u.resource) (more u.role (mark_of marks u.resource))

pub long_uses : (us : List Use) (marks : List Mark) → length (mark_uses us marks) ≡ length marks
long_uses [] marks = refl
long_uses (u ∷ us) marks = long_uses us (mark_use u marks) ∙ long_use u marks

all_marked : (a : Role) (us : List Use) (marks : List Mark) (r : Resource) → place r < length marks → is_marked a (mark_of (mark_uses us marks) r) ≡ (is_marked a (mark_of marks r) || uses_in a us r)
all_marked a [] marks r lt = sym (or-false (is_marked a (mark_of marks r)))
all_marked a (u ∷ us) marks r lt =
    all_marked a us (mark_use u marks) r (subst (λ k. place r < k) (sym (long_use u marks)) lt)
    ∙ ap (λ b. b || uses_in a us r) (one_marked a u marks r lt)
    ∙ or_assoc (is_marked a (mark_of marks r)) (is_role a u.role && is_same u.resource r) (uses_in a us r)

-- ---- footprints

module _ (buffers : List (Option BufferPlace)) where
  marked_bit : (a : Role) (us : List Use) (marks : List Mark) (r : Resource) → length marks ≡ 3072 →
      (is_there buffers r && is_marked a (mark_of (mark_uses us marks) r)) ≡ ((is_there buffers r && is_marked a (mark_of marks r)) || (is_there buffers r && uses_in a us r))
  marked_bit a us marks r long =
      guarded (is_there buffers r) (is_marked a (mark_of (mark_uses us marks) r)) (is_marked a (mark_of marks r) || uses_in a us r)
      (λ h. all_marked a us marks r (subst (λ k. place r < k) (sym long) (low_place r (low_number buffers r h))))
      ∙ and-or_distrib_left (is_there buffers r) (is_marked a (mark_of marks r)) (uses_in a us r)

  pub together : (us : List Use) (marks : List Mark) → length marks ≡ 3072 →
      marked_in (is_there buffers) (mark_uses us marks) ≡ either (marked_in (is_there buffers) marks) (footprint_in (is_there buffers) us)
  together us marks long = λ i. record { reads = λ r. marked_bit Read us marks r long i; writes = λ r. marked_bit Write us marks r long i; mixes = λ r. marked_bit Mix us marks r long i }

  pub nothing_marked : (marks : List Mark) → ((n : ℕ) → slice_index_or marks n unmarked ≡ unmarked) → marked_in (is_there buffers) marks ≡ no_use
  nothing_marked marks none = λ i. record {
    reads = λ r. (ap (λ (m : Mark). is_there buffers r && m.read) (none (place r)) ∙ and-false (is_there buffers r)) i;
    writes = λ r. (ap (λ (m : Mark). is_there buffers r && m.written) (none (place r)) ∙ and-false (is_there buffers r)) i;
    mixes = λ r. (ap (λ (m : Mark). is_there buffers r && m.mixed) (none (place r)) ∙ and-false (is_there buffers r)) i;
  }

  -- uses are marked if nothing was
  pub uses_marked : (us : List Use) (marks new : List Mark) → length marks ≡ 3072 → ((n : ℕ) → slice_index_or marks n unmarked ≡ unmarked) → new ≡ mark_uses us marks →
      marked_in (is_there buffers) new ≡ footprint_in (is_there buffers) us
  uses_marked us marks new long none e =
      ap (λ (ms : List Mark). marked_in (is_there buffers) ms) e
      ∙ together us marks long
      ∙ ap (λ (f : Footprint). either f (footprint_in (is_there buffers) us)) (nothing_marked marks none)
