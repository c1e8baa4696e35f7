-- The first resource on which uses clash with what is marked.
use Rattle.std.proofs.Common.{◌≡◌, ◌≤◌, ◌<◌, ℕ, ◌==◌, Bool, true, false, ◌&&◌, ◌||◌, ◌⊎◌, List, [], ◌∷◌, Option, Some, None, inl, inr, sym, refl, ap, ◌∙◌, ⊎_elim, arith, take, if◌then◌else◌}
use Rattle.std.specs.Prelude.{nat_lt}
use Rattle.std.specs.List.{filter, list_any}
use Rattle.std.proofs.lemmas.Bool.{and_parts, cases_eq, cases_lt, eq-eqb, eqb-true, ne_eqb, lt-ltb, ltb-true, ltb-false, and_from, or_cases, or_from, or_left, or_parts, or_right}
use Rattle.std.proofs.Math.Bool.{or_assoc, or-false, and-false}
use Rattle.sn_mem.specs.declared.buffers.BufferPlace.{BufferPlace}
use Rattle.sn_foot.specs.declared.resource.Resource.{Resource}
use Rattle.sn_foot.specs.declared.resource.Resource.TheVariants.{Audio, Control, Buffer}
use Rattle.sn_foot.specs.declared.uses.Role.{Role}
use Rattle.sn_foot.specs.declared.uses.Role.TheVariants.{Read, Write, Mix}
use Rattle.sn_foot.specs.declared.uses.Use.{Use}
use Rattle.sn_clash.specs.declared.marks.Mark.{Mark}
use Rattle.sn_foot.specs.Footprints.{Footprint, clash_on, is_there, number_of}
use Rattle.sn_clash.specs.Clashing.{resources}
use Rattle.sn_foot.specs.Uses.{footprint_in, is_role, is_same, uses_in}
use Rattle.sn_clash.specs.Marking.{listed, comes_before, first_hit, first_of, hits, mark_of, marked_in, meets, rank}
use Rattle.sn_clash.proofs.Firsts.{all_none, first_audio, first_buffer, first_control}
use Rattle.sn_clash.proofs.Roles.{clash_bits, clash_is}
use Rattle.sn_foot.proofs.Putting.{low_number}

-- ---- tests

and_second : (a b : Bool) → a ≡ true → (a && b) ≡ false → b ≡ false
and_second true b x y = y
and_second false b x y = absurd (cc)

-- ---- the order of resources

abbrev Before : Resource → Resource → Type 0
Before a b = (rank a < rank b) ⊎ ((rank a ≡ rank b) × (number_of a < number_of b))

before_parts : (a b : Resource) → comes_before a b ≡ true → Before a b
before_parts a b h =
    ⊎_elim
    (λ (x : nat_lt (rank a) (rank b) ≡ true). inl (ltb-true (rank a) (rank b) x))
    (λ (x : ((rank a == rank b) && nat_lt (number_of a) (number_of b)) ≡ true).
    let both = and_parts (rank a == rank b) (nat_lt (number_of a) (number_of b)) x in
    inr (eqb-true (rank a) (rank b) both.0, ltb-true (number_of a) (number_of b) both.1))
    (or_cases (nat_lt (rank a) (rank b)) ((rank a == rank b) && nat_lt (number_of a) (number_of b)) h)

by_rank : (a b : Resource) → rank a < rank b → comes_before a b ≡ true
by_rank a b h = or_left (nat_lt (rank a) (rank b)) ((rank a == rank b) && nat_lt (number_of a) (number_of b)) (lt-ltb (rank a) (rank b) h)

by_number : (a b : Resource) → rank a ≡ rank b → number_of a < number_of b → comes_before a b ≡ true
by_number a b e h =
    or_right (nat_lt (rank a) (rank b)) ((rank a == rank b) && nat_lt (number_of a) (number_of b))
    (and_from (rank a == rank b) (nat_lt (number_of a) (number_of b)) (eq-eqb (rank a) (rank b) e) (lt-ltb (number_of a) (number_of b) h))

passes : (r y x : Resource) → comes_before r y ≡ true → comes_before y x ≡ true → comes_before r x ≡ true
passes r y x h k =
    ⊎_elim
    (λ (a : rank r < rank y).
    ⊎_elim
    (λ (b : rank y < rank x). by_rank r x (omega (arith, a, b)))
    (λ (b : (rank y ≡ rank x) × (number_of y < number_of x)). by_rank r x (omega (arith, a, b.0)))
    (before_parts y x k))
    (λ (a : (rank r ≡ rank y) × (number_of r < number_of y)).
    ⊎_elim
    (λ (b : rank y < rank x). by_rank r x (omega (arith, a.0, b)))
    (λ (b : (rank y ≡ rank x) × (number_of y < number_of x)). by_number r x (a.0 ∙ b.0) (omega (arith, a.1, b.1)))
    (before_parts y x k))
    (before_parts r y h)

-- what comes before one comes before another that doesn't
precedes : (r x y : Resource) → comes_before r x ≡ true → comes_before y x ≡ false → comes_before r y ≡ true
precedes r x y h k =
    let parts = or_parts (nat_lt (rank y) (rank x)) ((rank y == rank x) && nat_lt (number_of y) (number_of x)) k in
    let ranks : rank x ≤ rank y = ltb-false (rank y) (rank x) parts.0 in
    ⊎_elim
    (λ (a : rank r < rank x). by_rank r y (omega (arith, a, ranks)))
    (λ (a : (rank r ≡ rank x) × (number_of r < number_of x)).
    ⊎_elim
    (λ (b : rank r < rank y). by_rank r y b)
    (λ (b : rank y ≤ rank r).
    let same : rank y ≡ rank x = omega (arith, a.0, b, ranks) in
    let numbers : number_of x ≤ number_of y = ltb-false (number_of y) (number_of x) (and_second (rank y == rank x) (nat_lt (number_of y) (number_of x)) (eq-eqb (rank y) (rank x) same) parts.1) in
    by_number r y (a.0 ∙ sym same) (omega (arith, a.1, numbers)))
    (cases_lt (rank r) (rank y)))
    (before_parts r x h)

apart : (x r : Resource) → comes_before r x ≡ true → is_same x r ≡ false
apart (Audio m) (Audio n) h = ne_eqb m n (λ e. omega (arith, ltb-true n m h, e))
apart (Audio m) (Control n) h = refl
apart (Audio m) (Buffer n) h = refl
apart (Control m) (Audio n) h = refl
apart (Control m) (Control n) h = ne_eqb m n (λ e. omega (arith, ltb-true n m h, e))
apart (Control m) (Buffer n) h = refl
apart (Buffer m) (Audio n) h = refl
apart (Buffer m) (Control n) h = refl
apart (Buffer m) (Buffer n) h = ne_eqb m n (λ e. omega (arith, ltb-true n m h, e))

itself : (x : Resource) → is_same x x ≡ true
itself (Audio n) = eq-eqb n n refl
itself (Control n) = eq-eqb n n refl
itself (Buffer n) = eq-eqb n n refl

-- ---- the first at which a test holds

abbrev IsFirst : (Resource → Bool) → Option Resource → Type 0
IsFirst p None = (r : Resource) → p r ≡ false
IsFirst p (Some x) = (p x ≡ true) × ((r : Resource) → comes_before r x ≡ true → p r ≡ false)

abbrev or_one : (Resource → Bool) → Bool → Resource → Resource → Bool
or_one p hit x r = p r || (hit && is_same x r)

is_next : (p : Resource → Bool) (x y : Resource) (before : Bool) → comes_before y x ≡ before → IsFirst p (Some y) → IsFirst (or_one p true x) (Some (if before then y else x))
is_next p x y true e f = (or_left (p y) (is_same x y) f.0, λ r h. or_from (p r) (is_same x r) (f.1 r h) (apart x r (passes r y x h e)))
is_next p x y false e f = (or_right (p x) (is_same x x) (itself x), λ r h. or_from (p r) (is_same x r) (f.1 r (precedes r x y h e)) (apart x r h))

with_one : (p : Resource → Bool) (least : Option Resource) (hit : Bool) (x : Resource) → IsFirst p least → IsFirst (or_one p hit x) (if hit then Some (first_of least x) else least)
with_one p None true x f = (or_right (p x) (is_same x x) (itself x), λ r h. or_from (p r) (is_same x r) (f r) (apart x r h))
with_one p (Some y) true x f = is_next p x y (comes_before y x) refl f
with_one p None false x f = λ r. or_from (p r) false (f r) refl
with_one p (Some y) false x f = (or_left (p y) false f.0, λ r h. or_from (p r) false (f.1 r h) refl)

retold : (p q : Resource → Bool) (least : Option Resource) → ((r : Resource) → p r ≡ q r) → IsFirst p least → IsFirst q least
retold p q None e f = λ r. sym (e r) ∙ f r
retold p q (Some x) e f = (sym (e x) ∙ f.0, λ r h. sym (e r) ∙ f.1 r h)

abbrev hit_on : (Resource → Bool) → List Mark → List Use → Resource → Bool
hit_on there marks us r = list_any (λ (u : Use). hits there marks u && is_same u.resource r) us

first_is : (there : Resource → Bool) (marks : List Mark) (us : List Use) (p : Resource → Bool) (least : Option Resource) → IsFirst p least →
    IsFirst (λ r. p r || hit_on there marks us r) (first_hit there marks us least)
first_is there marks [] p least f = retold p (λ r. p r || false) least (λ r. sym (or-false (p r))) f
first_is there marks (u ∷ us) p least f =
    let hit : Bool = hits there marks u in
    let next : Option Resource = if hit then Some (first_of least u.resource) else least in
    retold (λ r. or_one p hit u.resource r || hit_on there marks us r) (λ r. p r || hit_on there marks (u ∷ us) r) (first_hit there marks us next)
    (λ r. or_assoc (p r) (hit && is_same u.resource r) (hit_on there marks us r))
    (first_is there marks us (or_one p hit u.resource) next (with_one p least hit u.resource f))

-- ---- on which two clash

moved_number : (g : ℕ → Bool) (m n : ℕ) → (g m && (m == n)) ≡ (g n && (m == n))
moved_number g m n =
    ⊎_elim
    (λ (e : m ≡ n). ap (λ k. g k && (m == n)) e)
    (λ (d : m ≡ n → ⊥). ap (λ b. g m && b) (ne_eqb m n d) ∙ and-false (g m) ∙ sym (ap (λ b. g n && b) (ne_eqb m n d) ∙ and-false (g n)))
    (cases_eq m n)

moved_not : (a b : Bool) → (a && false) ≡ (b && false)
moved_not a b = and-false a ∙ sym (and-false b)

moved : (f : Resource → Bool) (q r : Resource) → (f q && is_same q r) ≡ (f r && is_same q r)
moved f (Audio m) (Audio n) = moved_number (λ k. f (Audio k)) m n
moved f (Audio m) (Control n) = moved_not (f (Audio m)) (f (Control n))
moved f (Audio m) (Buffer n) = moved_not (f (Audio m)) (f (Buffer n))
moved f (Control m) (Audio n) = moved_not (f (Control m)) (f (Audio n))
moved f (Control m) (Control n) = moved_number (λ k. f (Control k)) m n
moved f (Control m) (Buffer n) = moved_not (f (Control m)) (f (Buffer n))
moved f (Buffer m) (Audio n) = moved_not (f (Buffer m)) (f (Audio n))
moved f (Buffer m) (Control n) = moved_not (f (Buffer m)) (f (Control n))
moved f (Buffer m) (Buffer n) = moved_number (λ k. f (Buffer k)) m n

-- what is marked as read, written and mixed, and what some use reads, writes and mixes, of a resource that is there or
-- not
abbrev there_bits : Bool → Bool → Bool → Bool → Bool → Bool → Bool → Bool
there_bits t mr mw mm ur uw um = clash_bits (t && mr) (t && mw) (t && mm) (t && ur) (t && uw) (t && um)

no_uses : (t mr mw mm : Bool) → false ≡ there_bits t mr mw mm false false false
no_uses true mr mw mm = refl
no_uses false mr mw mm = refl

one_read : (t s mr mw mm ur uw um : Bool) → ((((mw || mm) && t) && s) || there_bits t mr mw mm ur uw um) ≡ there_bits t mr mw mm (s || ur) uw um
one_read true true mr true mm ur uw um = refl
one_read true true mr false true ur uw um = refl
one_read true true mr false false true uw um = refl
one_read true true mr false false false uw um = refl
one_read true false mr true mm ur uw um = refl
one_read true false mr false true ur uw um = refl
one_read true false mr false false ur uw um = refl
one_read false s mr true mm ur uw um = refl
one_read false s mr false true ur uw um = refl
one_read false s mr false false ur uw um = refl

one_written : (t s mr mw mm ur uw um : Bool) → (((((mr || mw) || mm) && t) && s) || there_bits t mr mw mm ur uw um) ≡ there_bits t mr mw mm ur (s || uw) um
one_written true true true true mm true uw um = refl
one_written true true true false true true uw um = refl
one_written true true true false false true uw um = refl
one_written true true true mw mm false uw um = refl
one_written true true false true mm true uw um = refl
one_written true true false true mm false uw um = refl
one_written true true false false true true uw um = refl
one_written true true false false true false uw um = refl
one_written true true false false false ur true um = refl
one_written true true false false false ur false um = refl
one_written true false true mw mm ur uw um = refl
one_written true false false true mm ur uw um = refl
one_written true false false false true ur uw um = refl
one_written true false false false false ur uw um = refl
one_written false s true mw mm ur uw um = refl
one_written false s false true mm ur uw um = refl
one_written false s false false true ur uw um = refl
one_written false s false false false ur uw um = refl

one_mixed : (t s mr mw mm ur uw um : Bool) → ((((mr || mw) && t) && s) || there_bits t mr mw mm ur uw um) ≡ there_bits t mr mw mm ur uw (s || um)
one_mixed true true true true mm true uw um = refl
one_mixed true true true false true true uw um = refl
one_mixed true true true false false true true um = refl
one_mixed true true true false false true false um = refl
one_mixed true true true mw mm false true um = refl
one_mixed true true true mw mm false false um = refl
one_mixed true true false true mm true uw um = refl
one_mixed true true false true mm false true um = refl
one_mixed true true false true mm false false um = refl
one_mixed true true false false mm ur uw true = refl
one_mixed true true false false mm ur uw false = refl
one_mixed true false true mw mm ur uw um = refl
one_mixed true false false true mm ur uw um = refl
one_mixed true false false false mm ur uw um = refl
one_mixed false s true mw mm ur uw um = refl
one_mixed false s false true mm ur uw um = refl
one_mixed false s false false mm ur uw um = refl

one_more : (a : Role) (t : Bool) (m : Mark) (s ur uw um : Bool) →
    (((meets a m && t) && s) || there_bits t m.read m.written m.mixed ur uw um)
    ≡ there_bits t m.read m.written m.mixed ((is_role Read a && s) || ur) ((is_role Write a && s) || uw) ((is_role Mix a && s) || um)
one_more Read t m s ur uw um = one_read t s m.read m.written m.mixed ur uw um
one_more Write t m s ur uw um = one_written t s m.read m.written m.mixed ur uw um
one_more Mix t m s ur uw um = one_mixed t s m.read m.written m.mixed ur uw um

hit_clash : (there : Resource → Bool) (marks : List Mark) (us : List Use) (r : Resource) →
    hit_on there marks us r ≡ there_bits (there r) (mark_of marks r).read (mark_of marks r).written (mark_of marks r).mixed (uses_in Read us r) (uses_in Write us r) (uses_in Mix us r)
hit_clash there marks [] r = no_uses (there r) (mark_of marks r).read (mark_of marks r).written (mark_of marks r).mixed
hit_clash there marks (u ∷ us) r =
    let m : Mark = mark_of marks r in
    let s : Bool = is_same u.resource r in
    ap (λ b. b || hit_on there marks us r) (moved (λ q. meets u.role (mark_of marks q) && there q) u.resource r)
    ∙ ap (λ b. ((meets u.role m && there r) && s) || b) (hit_clash there marks us r)
    ∙ one_more u.role (there r) m s (uses_in Read us r) (uses_in Write us r) (uses_in Mix us r)

only_there : (t mr mw mm ur uw um : Bool) → there_bits t mr mw mm ur uw um ≡ true → t ≡ true
only_there true mr mw mm ur uw um h = refl
only_there false mr mw mm ur uw um h = h

-- ---- among all resources

of_first : (p : Resource → Bool) → ((r : Resource) → p r ≡ true → number_of r < 1024) → ((n : ℕ) → p (Audio n) ≡ true → n < 128) → (least : Option Resource) → IsFirst p least → listed least ≡ take 1 (filter p resources)
of_first p low audio None f = all_none p (λ n. f (Audio n)) (λ n. f (Control n)) (λ n. f (Buffer n))
of_first p low audio (Some (Audio n)) f = first_audio p n (audio n f.0) f.0 (λ k lt. f.1 (Audio k) (by_number (Audio k) (Audio n) refl lt))
of_first p low audio (Some (Control n)) f =
    first_control p n (low (Control n) f.0) f.0
    (λ k. f.1 (Audio k) (by_rank (Audio k) (Control n) (omega arith)))
    (λ k lt. f.1 (Control k) (by_number (Control k) (Control n) refl lt))
of_first p low audio (Some (Buffer n)) f =
    first_buffer p n (low (Buffer n) f.0) f.0
    (λ k. f.1 (Audio k) (by_rank (Audio k) (Buffer n) (omega arith)))
    (λ k. f.1 (Control k) (by_rank (Control k) (Buffer n) (omega arith)))
    (λ k lt. f.1 (Buffer k) (by_number (Buffer k) (Buffer n) refl lt))

pub first_shared : (buffers : List (Option BufferPlace)) (marks : List Mark) (us : List Use) (found : Option Resource) → found ≡ first_hit (is_there buffers) marks us None →
    listed found ≡ take 1 (filter (clash_on (marked_in (is_there buffers) marks) (footprint_in (is_there buffers) us)) resources)
first_shared buffers marks us found e =
    let a : Footprint = marked_in (is_there buffers) marks in
    let b : Footprint = footprint_in (is_there buffers) us in
    let p : Resource → Bool = clash_on a b in
    let there : (r : Resource) → p r ≡ true → is_there buffers r ≡ true =
    λ r h. only_there (is_there buffers r) (mark_of marks r).read (mark_of marks r).written (mark_of marks r).mixed (uses_in Read us r) (uses_in Write us r) (uses_in Mix us r) (sym (clash_is a b r) ∙ h) in
    ap listed e
    ∙ of_first p (λ r h. low_number buffers r (there r h)) (λ n h. ltb-true n 128 (there (Audio n) h)) (first_hit (is_there buffers) marks us None)
    (retold (λ r. false || hit_on (is_there buffers) marks us r) p (first_hit (is_there buffers) marks us None) (λ r. hit_clash (is_there buffers) marks us r ∙ sym (clash_is a b r))
    (first_is (is_there buffers) marks us (λ r. false) None (λ r. refl)))
