-- What is put for nodes is what they use by themselves.
use Rattle.std.proofs.Common.{◌≡◌, ◌≤◌, ◌<◌, ℕ, zero, suc, ◌+◌, ◌==◌, ℤ, pos, negsuc, ◌+ℤ◌, Bool, true, false, not, ◌&&◌, ◌||◌, if◌then◌else◌, List, [], ◌∷◌, ◌++◌, Option, Some, None, sym, refl, ap, ◌∙◌, ⊎_elim, arith, true≢false}
use Rattle.std.specs.Prelude.{is_some, nat_lt, slice_index_or}
use Rattle.std.specs.List.{list_any}
use Rattle.std.proofs.lemmas.Bool.{and_parts, cases_lt, eqb-true, false_from_ne_true, lt-ltb, le-ltb, ltb-true, ne_eqb, or_cases, or_left, or_right}
use Rattle.std.proofs.lemmas.Int.{ints}
use Rattle.std.proofs.Math.Bool.{or_assoc, or-false, and-false, and-true, and-or_distrib_left}
use Rattle.std.proofs.lemmas.List.Folds.{list_any-append}
use Rattle.sn_mem.specs.declared.buffers.BufferPlace.{BufferPlace}
use Rattle.sn_def.specs.declared.control.Control.{Control as SynthControl}
use Rattle.sn_def.specs.declared.unit.Unit.{Unit as UnitLine}
use Rattle.sn_def.specs.declared.table.Access.{Access}
use Rattle.sn_def.specs.declared.table.Access.TheVariants as accesses
use Rattle.sn_def.specs.declared.table.Bank.{Bank}
use Rattle.sn_def.specs.declared.table.Bank.TheVariants.{Audio, Control, Buffer}
use Rattle.sn_def.specs.declared.table.Use.{Use as RowUse}
use Rattle.sn_def.specs.Units.{row_of}
use Rattle.sn_def.specs.Defs.{definition_of}
use Rattle.sn_def.specs.Facts.{is_access, is_bank, touches, uses_so}
use Rattle.sn_foot.specs.Mixers.{mixes_audio}
use Rattle.sn_synth.specs.Conditions.{index_of}
use Rattle.sn_world.specs.declared.stage.Held.{Held}
use Rattle.sn_world.specs.declared.stage.Held.TheVariants as held
use Rattle.sn_foot.specs.declared.resource.Resource.{Resource}
use Rattle.sn_foot.specs.declared.resource.Resource.TheVariants as resources
use Rattle.sn_foot.specs.declared.uses.Role.{Role}
use Rattle.sn_foot.specs.declared.uses.Role.TheVariants.{Read, Write, Mix}
use Rattle.sn_foot.specs.declared.uses.Use.{Use}
use Rattle.sn_foot.specs.Footprints.{follows, is_among, is_bus, is_number, is_there, number_of, synth_mixes, unit_mixes, unit_reads, unit_writes, users}
use Rattle.sn_foot.specs.Uses.{PutsUses, held_uses, is_role, is_same, uses_in}
use Rattle.sn_foot.specs.Judging.{is_alone, judged, times}
use Rattle.sn_foot.specs.Putting.{number_at, put_controls, put_held, put_nodes, put_number, put_span, put_units, put_used, resource, role_in, span}
use Rattle.sn_foot.proofs.Judged.{mixes_judged, one_if, reads_judged, writes_judged}

-- ---- a loop's steps

pub span_next : (role : Role) (bank : Bank) (first : ℤ) (more : ℕ) (us : List Use) → put_span role bank first (more + 1) us ≡ put_number role bank (number_at (first +ℤ pos more)) (put_span role bank first more us)
unfolding put_span
span_next role bank first more us = let e : more + 1 ≡ suc more = omega arith in ap (λ n. put_span role bank first n us) e

pub span_none : (role : Role) (bank : Bank) (first : ℤ) (us : List Use) → put_span role bank first 0 us ≡ us
unfolding put_span
span_none role bank first us = refl

-- ---- tests

both : (o t a b : Bool) → ((o || (t && a)) || (t && b)) ≡ (o || (t && (a || b)))
both true t a b = refl
both false true a b = refl
both false false a b = refl

-- what is there has a number below 1,024
pub low_number : (buffers : List (Option BufferPlace)) (r : Resource) → is_there buffers r ≡ true → number_of r < 1024
low_number buffers (resources.Audio n) h = omega (arith, ltb-true n 128 h)
low_number buffers (resources.Control n) h = ltb-true n 1024 h
low_number buffers (resources.Buffer n) h = ltb-true n 1024 (and_parts (nat_lt n 1024) (is_some (slice_index_or buffers n None)) h).0

-- ---- numbers of a sort

abbrev bank_of : Resource → Bank
bank_of (resources.Audio n) = Audio
bank_of (resources.Control n) = Control
bank_of (resources.Buffer n) = Buffer

-- a number of a sort is one that a test of the numbers of each sort admits
abbrev in_bank : Bank → (ℕ → Bool) → Resource → Bool
in_bank bank f r = is_bank bank (bank_of r) && f (number_of r)

same_bank : (bank : Bank) (m : ℕ) (r : Resource) → is_same (resource bank m) r ≡ in_bank bank (λ n. m == n) r
same_bank Audio m (resources.Audio n) = refl
same_bank Audio m (resources.Control n) = refl
same_bank Audio m (resources.Buffer n) = refl
same_bank Control m (resources.Audio n) = refl
same_bank Control m (resources.Control n) = refl
same_bank Control m (resources.Buffer n) = refl
same_bank Buffer m (resources.Audio n) = refl
same_bank Buffer m (resources.Control n) = refl
same_bank Buffer m (resources.Buffer n) = refl

no_bank : (bank : Bank) (r : Resource) → false ≡ in_bank bank (λ n. false) r
no_bank bank r = sym (and-false (is_bank bank (bank_of r)))

or_bank : (bank : Bank) (f g : ℕ → Bool) (r : Resource) → (in_bank bank f r || in_bank bank g r) ≡ in_bank bank (λ n. f n || g n) r
or_bank bank f g r = sym (and-or_distrib_left (is_bank bank (bank_of r)) (f (number_of r)) (g (number_of r)))

bank_is : (bank : Bank) (f g : ℕ → Bool) (r : Resource) → number_of r < 1024 → ((n : ℕ) → n < 1024 → f n ≡ g n) → in_bank bank f r ≡ in_bank bank g r
bank_is bank f g r lt e = ap (λ b. is_bank bank (bank_of r) && b) (e (number_of r) lt)

-- ---- a span

pub at_end : (a : Role) (us : List Use) (u : Use) (r : Resource) → uses_in a (us ++ u ∷ []) r ≡ (uses_in a us r || (is_role a u.role && is_same u.resource r))
at_end a us u r =
    list_any-append (λ (v : Use). is_role a v.role && is_same v.resource r) us (u ∷ [])
    ∙ ap (λ b. uses_in a us r || b) (or-false (is_role a u.role && is_same u.resource r))

one_put : (a role : Role) (bank : Bank) (number : Option ℕ) (us : List Use) (r : Resource) → uses_in a (put_number role bank number us) r ≡ (uses_in a us r || (is_role a role && in_bank bank (λ n. is_bus number n) r))
one_put a role bank None us r = sym (or-false (uses_in a us r)) ∙ ap (λ b. uses_in a us r || b) (sym (and-false (is_role a role)) ∙ ap (λ b. is_role a role && b) (no_bank bank r))
one_put a role bank (Some m) us r = at_end a us (record { role = role; resource = resource bank m }) r ∙ ap (λ b. uses_in a us r || (is_role a role && b)) (same_bank bank m r)

number_is : (k : ℤ) (n : ℕ) → n < 1024 → is_bus (number_at k) n ≡ is_number k n
number_is (pos m) n lt =
    ⊎_elim
    (λ (below : m < 1024). ap (λ b. is_bus (if b then Some m else None) n) (lt-ltb m 1024 below))
    (λ (above : 1024 ≤ m). ap (λ b. is_bus (if b then Some m else None) n) (le-ltb m 1024 above) ∙ sym (ne_eqb m n (λ e. omega (arith, e, lt, above))))
    (cases_lt m 1024)
number_is (negsuc m) n lt = refl

span_put : (a role : Role) (bank : Bank) (first : ℤ) (count : ℕ) (us : List Use) (r : Resource) → number_of r < 1024 →
    uses_in a (put_span role bank first count us) r ≡ (uses_in a us r || (is_role a role && in_bank bank (λ n. is_among first count n) r))
unfolding put_span is_among
span_put a role bank first zero us r low = sym (or-false (uses_in a us r)) ∙ ap (λ b. uses_in a us r || b) (sym (and-false (is_role a role)) ∙ ap (λ b. is_role a role && b) (no_bank bank r))
span_put a role bank first (suc i) us r low =
    let old : List Use = put_span role bank first i us in
    let k : ℤ = first +ℤ pos i in
    one_put a role bank (number_at k) old r
    ∙ ap (λ b. uses_in a old r || (is_role a role && b)) (bank_is bank (λ n. is_bus (number_at k) n) (λ n. is_number k n) r low (λ n lt. number_is k n lt))
    ∙ ap (λ b. b || (is_role a role && in_bank bank (λ n. is_number k n) r)) (span_put a role bank first i us r low)
    ∙ both (uses_in a us r) (is_role a role) (in_bank bank (λ n. is_among first i n) r) (in_bank bank (λ n. is_number k n) r)
    ∙ ap (λ b. uses_in a us r || (is_role a role && b)) (or_bank bank (λ n. is_among first i n) (λ n. is_number k n) r)

-- ---- units

-- what a unit does to what it uses in this way
abbrev access_of : Role → Access
access_of Read = accesses.Read
access_of Write = accesses.Write
access_of Mix = accesses.Write

-- of what a unit writes, audio buses are mixed if it adds to them
abbrev fits : Role → Bool → Bank → Bool
fits Read adds bank = true
fits Write adds Audio = not adds
fits Write adds Control = true
fits Write adds Buffer = true
fits Mix adds Audio = adds
fits Mix adds Control = false
fits Mix adds Buffer = false

role_is : (a : Role) (adds : Bool) (access : Access) (bank : Bank) → is_role a (role_in adds access bank) ≡ (is_access (access_of a) access && fits a adds bank)
role_is Read adds accesses.Read bank = refl
role_is Read true accesses.Write Audio = refl
role_is Read false accesses.Write Audio = refl
role_is Read adds accesses.Write Control = refl
role_is Read adds accesses.Write Buffer = refl
role_is Write adds accesses.Read bank = refl
role_is Write true accesses.Write Audio = refl
role_is Write false accesses.Write Audio = refl
role_is Write adds accesses.Write Control = refl
role_is Write adds accesses.Write Buffer = refl
role_is Mix adds accesses.Read bank = refl
role_is Mix true accesses.Write Audio = refl
role_is Mix false accesses.Write Audio = refl
role_is Mix adds accesses.Write Control = refl
role_is Mix adds accesses.Write Buffer = refl

carried : (a t b g : Bool) → ((a && t) && (b && g)) ≡ (a && (b && (t && g)))
carried false t b g = refl
carried true true b g = refl
carried true false true g = refl
carried true false false g = refl

module _ (f : Access → Bank → ℕ → Bool) where
  -- of tests for each access and sort, the one of a sort asks for this sort alone
  bank_alone : (a : Access) (bank : Bank) (r : Resource) → in_bank bank (f a bank) r ≡ (is_bank (bank_of r) bank && f a (bank_of r) (number_of r))
  bank_alone a Audio (resources.Audio n) = refl
  bank_alone a Audio (resources.Control n) = refl
  bank_alone a Audio (resources.Buffer n) = refl
  bank_alone a Control (resources.Audio n) = refl
  bank_alone a Control (resources.Control n) = refl
  bank_alone a Control (resources.Buffer n) = refl
  bank_alone a Buffer (resources.Audio n) = refl
  bank_alone a Buffer (resources.Control n) = refl
  bank_alone a Buffer (resources.Buffer n) = refl

  used_alone : (a access : Access) (bank : Bank) (r : Resource) → (is_access a access && in_bank bank (f access bank) r) ≡ ((is_access a access && is_bank (bank_of r) bank) && f a (bank_of r) (number_of r))
  used_alone accesses.Read accesses.Read bank r = bank_alone accesses.Read bank r
  used_alone accesses.Read accesses.Write bank r = refl
  used_alone accesses.Write accesses.Read bank r = refl
  used_alone accesses.Write accesses.Write bank r = bank_alone accesses.Write bank r

  -- whatever the access, a unit touches what one of the two admits
  either_alone : (access : Access) (bank : Bank) (r : Resource) → in_bank bank (f access bank) r
      ≡ (((is_access accesses.Read access && is_bank (bank_of r) bank) && f accesses.Read (bank_of r) (number_of r)) || ((is_access accesses.Write access && is_bank (bank_of r) bank) && f accesses.Write (bank_of r) (number_of r)))
  either_alone accesses.Read bank r = bank_alone accesses.Read bank r ∙ sym (or-false (is_bank (bank_of r) bank && f accesses.Read (bank_of r) (number_of r)))
  either_alone accesses.Write bank r = bank_alone accesses.Write bank r

-- which numbers a unit may use in this way
abbrev among : List SynthControl → UnitLine → Access → Bank → ℕ → Bool
among controls u access bank n = is_among (index_of controls u) (span access bank u) n

used_put : (a : Role) (adds : Bool) (used : Option RowUse) (controls : List SynthControl) (u : UnitLine) (us : List Use) (r : Resource) → number_of r < 1024 →
    uses_in a (put_used adds used controls u us) r
    ≡ (uses_in a us r || (uses_so (access_of a) (bank_of r) used && (fits a adds (bank_of r) && among controls u (access_of a) (bank_of r) (number_of r))))
used_put a adds None controls u us r low = sym (or-false (uses_in a us r))
used_put a adds (Some used) controls u us r low =
    let test : ℕ → Bool = among controls u used.access used.bank in
    let here : Bool = is_bank used.bank (bank_of r) in
    span_put a (role_in adds used.access used.bank) used.bank (index_of controls u) (span used.access used.bank u) us r low
    ∙ ap (λ b. uses_in a us r || (b && in_bank used.bank test r)) (role_is a adds used.access used.bank)
    ∙ ap (λ b. uses_in a us r || b) (carried (is_access (access_of a) used.access) (fits a adds used.bank) here (test (number_of r)))
    ∙ ap (λ b. uses_in a us r || b) (used_alone (λ access bank n. fits a adds bank && among controls u access bank n) (access_of a) used.access used.bank r)

-- what is put for a unit: of what it writes, what it does not mix is written
abbrev unit_puts : Role → List SynthControl → UnitLine → Resource → Bool
unit_puts Read controls u r = unit_reads controls u r
unit_puts Write controls u r = unit_writes controls u r && not (unit_mixes controls u r)
unit_puts Mix controls u r = unit_mixes controls u r

plain_is : (w m a : Bool) → (w && (not m && a)) ≡ ((w && a) && not (m && (w && a)))
plain_is false true a = refl
plain_is false false a = refl
plain_is true true true = refl
plain_is true true false = refl
plain_is true false true = refl
plain_is true false false = refl

mixed_is : (w m a : Bool) → (w && (m && a)) ≡ (m && (w && a))
mixed_is true m a = refl
mixed_is false true a = refl
mixed_is false false a = refl

unit_is : (a : Role) (controls : List SynthControl) (u : UnitLine) (r : Resource) →
    (touches (access_of a) (bank_of r) u.kind && (fits a (mixes_audio u.kind) (bank_of r) && among controls u (access_of a) (bank_of r) (number_of r))) ≡ unit_puts a controls u r
unit_is Read controls u (resources.Audio n) = refl
unit_is Read controls u (resources.Control n) = refl
unit_is Read controls u (resources.Buffer n) = refl
unit_is Write controls u (resources.Audio n) = plain_is (touches accesses.Write Audio u.kind) (mixes_audio u.kind) (among controls u accesses.Write Audio n)
unit_is Write controls u (resources.Control n) = sym (and-true (unit_writes controls u (resources.Control n)))
unit_is Write controls u (resources.Buffer n) = sym (and-true (unit_writes controls u (resources.Buffer n)))
unit_is Mix controls u (resources.Audio n) = mixed_is (touches accesses.Write Audio u.kind) (mixes_audio u.kind) (among controls u accesses.Write Audio n)
unit_is Mix controls u (resources.Control n) = and-false (touches accesses.Write Control u.kind)
unit_is Mix controls u (resources.Buffer n) = and-false (touches accesses.Write Buffer u.kind)

units_put : (a : Role) (controls : List SynthControl) (units : List UnitLine) (us : List Use) (r : Resource) → number_of r < 1024 →
    uses_in a (put_units controls units us) r ≡ (uses_in a us r || list_any (λ (u : UnitLine). unit_puts a controls u r) units)
units_put a controls [] us r low = sym (or-false (uses_in a us r))
units_put a controls (u ∷ rest) us r low =
    let left : Bool = list_any (λ (v : UnitLine). unit_puts a controls v r) rest in
    units_put a controls rest (put_used (mixes_audio u.kind) (row_of u.kind).uses controls u us) r low
    ∙ ap (λ b. b || left) (used_put a (mixes_audio u.kind) (row_of u.kind).uses controls u us r low ∙ ap (λ b. uses_in a us r || b) (unit_is a controls u r))
    ∙ or_assoc (uses_in a us r) (unit_puts a controls u r) left

-- ---- controls

abbrev control_uses : Role → SynthControl → Resource → Bool
control_uses Read control r = follows control r
control_uses Write control r = false
control_uses Mix control r = false

control_is : (a : Role) (c : SynthControl) (r : Resource) → (is_role a Read && in_bank Control (λ n. is_bus c.bus n) r) ≡ control_uses a c r
control_is Read c (resources.Audio n) = refl
control_is Read c (resources.Control n) = refl
control_is Read c (resources.Buffer n) = refl
control_is Write c r = refl
control_is Mix c r = refl

controls_put : (a : Role) (controls : List SynthControl) (us : List Use) (r : Resource) → uses_in a (put_controls controls us) r ≡ (uses_in a us r || list_any (λ (c : SynthControl). control_uses a c r) controls)
controls_put a [] us r = sym (or-false (uses_in a us r))
controls_put a (c ∷ cs) us r =
    let left : Bool = list_any (λ (d : SynthControl). control_uses a d r) cs in
    controls_put a cs (put_number Read Control c.bus us) r
    ∙ ap (λ b. b || left) (one_put a Read Control c.bus us r ∙ ap (λ b. uses_in a us r || b) (control_is a c r))
    ∙ or_assoc (uses_in a us r) (control_uses a c r) left

none_of : {A : Type 0} (xs : List A) → list_any (λ (x : A). false) xs ≡ false
none_of [] = refl
none_of (x ∷ xs) = none_of xs

-- ---- how often a bus is named

grouped : (a b c : ℕ) → (a + b) + c ≡ a + (b + c)
grouped a b c = omega arith

with_nothing : (a : ℕ) → a ≡ a + 0
with_nothing a = omega arith

before_all : (a : ℕ) → 0 + a ≡ a
before_all a = omega arith

times_append : (us vs : List Use) (r : Resource) → times (us ++ vs) r ≡ times us r + times vs r
times_append [] vs r = sym (before_all (times vs r))
times_append (u ∷ us) vs r =
    let here : ℕ = if is_same u.resource r then 1 else 0 in
    ap (λ k. here + k) (times_append us vs r) ∙ sym (grouped here (times us r) (times vs r))

times_number : (role : Role) (bank : Bank) (number : Option ℕ) (us : List Use) (r : Resource) → times (put_number role bank number us) r ≡ times us r + (if in_bank bank (λ n. is_bus number n) r then 1 else 0)
times_number role bank None us r =
    let nothing : ◌≡◌ {A = ℕ} (if in_bank bank (λ n. false) r then 1 else 0) 0 = ap {B = ℕ} (λ (b : Bool). if b then 1 else 0) (sym (no_bank bank r)) in
    with_nothing (times us r) ∙ ap (λ k. times us r + k) (sym nothing)
times_number role bank (Some m) us r =
    let last : List Use = (record { role = role; resource = resource bank m }) ∷ [] in
    let here : ℕ = if is_same (resource bank m) r then 1 else 0 in
    let same : ◌≡◌ {A = ℕ} (if is_same (resource bank m) r then 1 else 0) (if in_bank bank (λ n. m == n) r then 1 else 0) = ap {B = ℕ} (λ (b : Bool). if b then 1 else 0) (same_bank bank m r) in
    times_append us last r ∙ ap (λ k. times us r + k) (sym (with_nothing here) ∙ same)

at_number : (z : ℤ) (n : ℕ) → is_number z n ≡ true → z ≡ pos n
at_number (pos m) n h = ap pos (eqb-true m n h)
at_number (negsuc m) n h = absurd (true≢false (sym h))

-- numbers before another one are others
not_yet : (first : ℤ) (i j n : ℕ) → i ≤ j → is_number (first +ℤ pos j) n ≡ true → is_among first i n ≡ false
unfolding is_among
not_yet first zero j n le h = refl
not_yet first (suc i) j n le h =
    false_from_ne_true (is_among first i n || is_number (first +ℤ pos i) n)
    (λ t. ⊎_elim
    (λ (a : is_among first i n ≡ true). true≢false (sym a ∙ not_yet first i j n (omega (arith, le)) h))
    (λ (a : is_number (first +ℤ pos i) n ≡ true). let p = at_number (first +ℤ pos i) n a in let q = at_number (first +ℤ pos j) n h in omega (arith, ints, le, p, q))
    (or_cases (is_among first i n) (is_number (first +ℤ pos i) n) t))

-- a number that is among those of one test or is that of another, but never both
counted_apart : (t a b : Bool) → (b ≡ true → a ≡ false) → ◌≡◌ {A = ℕ} ((if t && a then 1 else 0) + (if t && b then 1 else 0)) (if t && (a || b) then 1 else 0)
counted_apart false a b h = refl
counted_apart true false true h = refl
counted_apart true false false h = refl
counted_apart true true false h = refl
counted_apart true true true h = absurd (true≢false (h refl))

times_span : (role : Role) (bank : Bank) (first : ℤ) (count : ℕ) (us : List Use) (r : Resource) → number_of r < 1024 →
    times (put_span role bank first count us) r ≡ times us r + (if in_bank bank (λ n. is_among first count n) r then 1 else 0)
unfolding put_span is_among
times_span role bank first zero us r low =
    let nothing : ◌≡◌ {A = ℕ} (if in_bank bank (λ n. false) r then 1 else 0) 0 = ap {B = ℕ} (λ (b : Bool). if b then 1 else 0) (sym (no_bank bank r)) in
    with_nothing (times us r) ∙ ap (λ k. times us r + k) (sym nothing)
times_span role bank first (suc i) us r low =
    let k : ℤ = first +ℤ pos i in
    let n : ℕ = number_of r in
    let old : List Use = put_span role bank first i us in
    let before : ℕ = if in_bank bank (λ n. is_among first i n) r then 1 else 0 in
    let last : ℕ = if in_bank bank (λ n. is_number k n) r then 1 else 0 in
    let same : ◌≡◌ {A = ℕ} (if in_bank bank (λ n. is_bus (number_at k) n) r then 1 else 0) (if in_bank bank (λ n. is_number k n) r then 1 else 0) =
    ap {B = ℕ} (λ (b : Bool). if b then 1 else 0) (bank_is bank (λ n. is_bus (number_at k) n) (λ n. is_number k n) r low (λ n lt. number_is k n lt)) in
    times_number role bank (number_at k) old r
    ∙ ap (λ j. times old r + j) same
    ∙ ap (λ j. j + last) (times_span role bank first i us r low)
    ∙ grouped (times us r) before last
    ∙ ap (λ j. times us r + j) (counted_apart (is_bank bank (bank_of r)) (is_among first i n) (is_number k n) (λ h. not_yet first i i n (omega arith) h))

times_used : (adds : Bool) (used : Option RowUse) (controls : List SynthControl) (u : UnitLine) (us : List Use) (r : Resource) → number_of r < 1024 →
    times (put_used adds used controls u us) r
    ≡ times us r + (if (uses_so accesses.Read (bank_of r) used && among controls u accesses.Read (bank_of r) (number_of r)) || (uses_so accesses.Write (bank_of r) used && among controls u accesses.Write (bank_of r) (number_of r)) then 1 else 0)
times_used adds None controls u us r low = with_nothing (times us r)
times_used adds (Some used) controls u us r low =
    times_span (role_in adds used.access used.bank) used.bank (index_of controls u) (span used.access used.bank u) us r low
    ∙ ap {B = ℕ} (λ (b : Bool). times us r + (if b then 1 else 0)) (either_alone (among controls u) used.access used.bank r)

module _ (controls : List SynthControl) (n : ℕ) (low : n < 1024) where
  abbrev bus : Resource
  bus = resources.Audio n

  times_units : (units : List UnitLine) (us : List Use) → times (put_units controls units us) bus ≡ times us bus + users controls units bus
  times_units [] us = with_nothing (times us bus)
  times_units (u ∷ rest) us =
      let here : ℕ = if unit_reads controls u bus || unit_writes controls u bus then 1 else 0 in
      times_units rest (put_used (mixes_audio u.kind) (row_of u.kind).uses controls u us)
      ∙ ap (λ j. j + users controls rest bus) (times_used (mixes_audio u.kind) (row_of u.kind).uses controls u us bus low)
      ∙ grouped (times us bus) here (users controls rest bus)

  times_controls : (cs : List SynthControl) (us : List Use) → times (put_controls cs us) bus ≡ times us bus
  times_controls [] us = refl
  times_controls (c ∷ cs) us = times_controls cs (put_number Read Control c.bus us) ∙ times_number Read Control c.bus us bus ∙ sym (with_nothing (times us bus))

  pub times_own : (units : List UnitLine) → times (put_units controls units (put_controls controls [])) bus ≡ users controls units bus
  times_own units =
      times_units units (put_controls controls [])
      ∙ ap (λ j. j + users controls units bus) (times_controls controls [])
      ∙ before_all (users controls units bus)

-- ---- what one unit alone mixes

any_or : {A : Type 0} (p q r : A → Bool) (xs : List A) → ((x : A) → r x ≡ (p x || q x)) → list_any r xs ≡ (list_any p xs || list_any q xs)
any_or p q r [] h = refl
any_or p q r (x ∷ xs) h = ap (λ b. b || list_any r xs) (h x) ∙ ap (λ b. (p x || q x) || b) (any_or p q r xs h) ∙ or_turned (p x) (q x) (list_any p xs) (list_any q xs)
  where
    or_turned : (a b c d : Bool) → ((a || b) || (c || d)) ≡ ((a || c) || (b || d))
    or_turned true b c d = refl
    or_turned false true true d = refl
    or_turned false true false d = refl
    or_turned false false c d = refl

parted : (w m : Bool) → w ≡ ((w && not (m && w)) || (m && w))
parted true true = refl
parted true false = refl
parted false true = refl
parted false false = refl

-- what a unit writes it mixes, or only writes
written_is : (controls : List SynthControl) (u : UnitLine) (r : Resource) → unit_writes controls u r ≡ (unit_puts Write controls u r || unit_mixes controls u r)
written_is controls u (resources.Audio n) = parted (unit_writes controls u (resources.Audio n)) (mixes_audio u.kind)
written_is controls u (resources.Control n) = sym (or-false (unit_writes controls u (resources.Control n) && true) ∙ and-true (unit_writes controls u (resources.Control n)))
written_is controls u (resources.Buffer n) = sym (or-false (unit_writes controls u (resources.Buffer n) && true) ∙ and-true (unit_writes controls u (resources.Buffer n)))

mixed_written : (controls : List SynthControl) (u : UnitLine) (r : Resource) → unit_mixes controls u r ≡ true → unit_writes controls u r ≡ true
mixed_written controls u (resources.Audio n) h = (and_parts (mixes_audio u.kind) (unit_writes controls u (resources.Audio n)) h).1
mixed_written controls u (resources.Control n) h = absurd (true≢false (sym h))
mixed_written controls u (resources.Buffer n) h = absurd (true≢false (sym h))

one_first : (i k : ℕ) → i ≡ 1 → 1 ≤ i + k
one_first i k e = omega (arith, e)

one_later : (i k : ℕ) → 1 ≤ k → 1 ≤ i + k
one_later i k le = omega (arith, le)

one_of_each : (i k : ℕ) → i ≡ 1 → 1 ≤ k → 2 ≤ i + k
one_of_each i k e le = omega (arith, e, le)

two_later : (i k : ℕ) → 2 ≤ k → 2 ≤ i + k
two_later i k le = omega (arith, le)

module _ (controls : List SynthControl) (r : Resource) where
  abbrev plain : UnitLine → Bool
  plain u = unit_puts Write controls u r

  abbrev mixes : UnitLine → Bool
  mixes u = unit_mixes controls u r

  abbrev user : UnitLine → ℕ
  user u = if unit_reads controls u r || unit_writes controls u r then 1 else 0

  writer : (u : UnitLine) → unit_writes controls u r ≡ true → user u ≡ 1
  writer u h = one_if (unit_reads controls u r || unit_writes controls u r) (or_right (unit_reads controls u r) (unit_writes controls u r) h)

  plain_writes : (u : UnitLine) → plain u ≡ true → unit_writes controls u r ≡ true
  plain_writes u h = (and_parts (unit_writes controls u r) (not (mixes u)) h).0

  some_user : (units : List UnitLine) → list_any (λ (u : UnitLine). unit_writes controls u r) units ≡ true → 1 ≤ users controls units r
  some_user [] h = absurd (true≢false (sym h))
  some_user (u ∷ us) h =
      ⊎_elim
      (λ (a : unit_writes controls u r ≡ true). one_first (user u) (users controls us r) (writer u a))
      (λ (a : list_any (λ (v : UnitLine). unit_writes controls v r) us ≡ true). one_later (user u) (users controls us r) (some_user us a))
      (or_cases (unit_writes controls u r) (list_any (λ (v : UnitLine). unit_writes controls v r) us) h)

  weaker : (p : UnitLine → Bool) (units : List UnitLine) → ((u : UnitLine) → p u ≡ true → unit_writes controls u r ≡ true) → list_any p units ≡ true → list_any (λ (u : UnitLine). unit_writes controls u r) units ≡ true
  weaker p [] f h = absurd (true≢false (sym h))
  weaker p (u ∷ us) f h =
      let rest : Bool = list_any (λ (v : UnitLine). unit_writes controls v r) us in
      ⊎_elim
      (λ (a : p u ≡ true). or_left (unit_writes controls u r) rest (f u a))
      (λ (a : list_any p us ≡ true). or_right (unit_writes controls u r) rest (weaker p us f a))
      (or_cases (p u) (list_any p us) h)

  -- a unit that mixes a bus and one that only writes it are two
  two_users : (units : List UnitLine) → list_any mixes units ≡ true → list_any plain units ≡ true → 2 ≤ users controls units r
  two_users [] h k = absurd (true≢false (sym h))
  two_users (u ∷ us) h k =
      ⊎_elim
      (λ (a : mixes u ≡ true). ⊎_elim
      (λ (b : plain u ≡ true). absurd (true≢false (sym (and_parts (unit_writes controls u r) (not (mixes u)) b).1 ∙ ap not a)))
      (λ (b : list_any plain us ≡ true). one_of_each (user u) (users controls us r) (writer u (mixed_written controls u r a)) (some_user us (weaker plain us plain_writes b)))
      (or_cases (plain u) (list_any plain us) k))
      (λ (a : list_any mixes us ≡ true). ⊎_elim
      (λ (b : plain u ≡ true). one_of_each (user u) (users controls us r) (writer u (plain_writes u b)) (some_user us (weaker mixes us (λ v c. mixed_written controls v r c) a)))
      (λ (b : list_any plain us ≡ true). two_later (user u) (users controls us r) (two_users us a b))
      (or_cases (plain u) (list_any plain us) k))
      (or_cases (mixes u) (list_any mixes us) h)

  pub alone_mixes : (units : List UnitLine) → list_any mixes units ≡ true → (users controls units r == 1) ≡ true → list_any plain units ≡ false
  alone_mixes units h k = false_from_ne_true (list_any plain units) (λ t. let e = eqb-true (users controls units r) 1 k in let two = two_users units h t in omega (arith, e, two))

-- ---- synths

-- what is written, what is mixed, whether the list names it once, and whether one unit uses it
judged_is : (w m alone single : Bool) → (m ≡ true → alone ≡ single) → (m ≡ true → single ≡ true → w ≡ false) → (w || (m && not alone)) ≡ ((w || m) && not (m && single))
judged_is w false alone single e f = or-false w ∙ sym (and-true (w || false) ∙ or-false w)
judged_is w true alone single e f = ap (λ b. w || not b) (e refl) ∙ by_single w single (f refl)
  where
    by_single : (w single : Bool) → (single ≡ true → w ≡ false) → (w || not single) ≡ ((w || true) && not single)
    by_single true true f = absurd (true≢false (f refl))
    by_single true false f = refl
    by_single false true f = refl
    by_single false false f = refl

module _ (controls : List SynthControl) (units : List UnitLine) where
  abbrev own : List Use
  own = put_units controls units (put_controls controls [])

  own_puts : (a : Role) (r : Resource) → number_of r < 1024 → uses_in a own r ≡ (list_any (λ (c : SynthControl). control_uses a c r) controls || list_any (λ (u : UnitLine). unit_puts a controls u r) units)
  own_puts a r low =
      units_put a controls units (put_controls controls []) r low
      ∙ ap (λ b. b || list_any (λ (u : UnitLine). unit_puts a controls u r) units) (controls_put a controls [] r)

  own_mixes : (r : Resource) → number_of r < 1024 → uses_in Mix own r ≡ list_any (λ (u : UnitLine). unit_mixes controls u r) units
  own_mixes r low = own_puts Mix r low ∙ ap (λ b. b || list_any (λ (u : UnitLine). unit_mixes controls u r) units) (none_of controls)

  own_writes : (r : Resource) → number_of r < 1024 → uses_in Write own r ≡ list_any (λ (u : UnitLine). unit_puts Write controls u r) units
  own_writes r low = own_puts Write r low ∙ ap (λ b. b || list_any (λ (u : UnitLine). unit_puts Write controls u r) units) (none_of controls)

  -- what is mixed is named once just if one unit uses it
  alone_is : (r : Resource) → number_of r < 1024 → list_any (λ (u : UnitLine). unit_mixes controls u r) units ≡ true → is_alone own r ≡ (users controls units r == 1)
  alone_is (resources.Audio n) low h = ap (λ b. b && (times own (resources.Audio n) == 1)) (lt-ltb n 1024 low) ∙ ap (λ k. k == 1) (times_own controls n low units)
  alone_is (resources.Control n) low h = absurd (true≢false (sym h ∙ none_of units))
  alone_is (resources.Buffer n) low h = absurd (true≢false (sym h ∙ none_of units))

  mixed_too : (m a b : Bool) → (m ≡ true → a ≡ b) → (m && a) ≡ (m && b)
  mixed_too true a b e = e refl
  mixed_too false a b e = refl

  pub synth_puts_mixes : (r : Resource) → number_of r < 1024 → uses_in Mix (judged (is_alone own) own) r ≡ synth_mixes units controls r
  synth_puts_mixes r low =
      mixes_judged (is_alone own) own r
      ∙ ap (λ b. b && is_alone own r) (own_mixes r low)
      ∙ mixed_too (list_any (λ (u : UnitLine). unit_mixes controls u r) units) (is_alone own r) (users controls units r == 1) (alone_is r low)

  pub synth_puts_writes : (r : Resource) → number_of r < 1024 → uses_in Write (judged (is_alone own) own) r ≡ (list_any (λ (u : UnitLine). unit_writes controls u r) units && not (synth_mixes units controls r))
  synth_puts_writes r low =
      let w : Bool = list_any (λ (u : UnitLine). unit_puts Write controls u r) units in
      let m : Bool = list_any (λ (u : UnitLine). unit_mixes controls u r) units in
      writes_judged (is_alone own) own r
      ∙ ap (λ b. b || (uses_in Mix own r && not (is_alone own r))) (own_writes r low)
      ∙ ap (λ b. w || (b && not (is_alone own r))) (own_mixes r low)
      ∙ judged_is w m (is_alone own r) (users controls units r == 1) (alone_is r low) (alone_mixes controls r units)
      ∙ sym (ap (λ b. b && not (synth_mixes units controls r)) (any_or (λ (u : UnitLine). unit_puts Write controls u r) (λ (u : UnitLine). unit_mixes controls u r) (λ (u : UnitLine). unit_writes controls u r) units (λ u. written_is controls u r)))

  pub synth_puts_reads : (r : Resource) → number_of r < 1024 → uses_in Read (judged (is_alone own) own) r ≡ (list_any (λ (c : SynthControl). follows c r) controls || list_any (λ (u : UnitLine). unit_reads controls u r) units)
  synth_puts_reads r low = reads_judged (is_alone own) own r ∙ own_puts Read r low

-- ---- nodes

joined : (a : Role) (us vs : List Use) (r : Resource) → uses_in a (us ++ vs) r ≡ (uses_in a us r || uses_in a vs r)
joined a us vs r = list_any-append (λ (u : Use). is_role a u.role && is_same u.resource r) us vs

held_put : (a : Role) (h : Held) (us : List Use) (r : Resource) → number_of r < 1024 → uses_in a (put_held h us) r ≡ (uses_in a us r || held_uses a h r)
held_put Read held.Group us r low = sym (or-false (uses_in Read us r))
held_put Write held.Group us r low = sym (or-false (uses_in Write us r))
held_put Mix held.Group us r low = sym (or-false (uses_in Mix us r))
held_put Read (held.Synth def controls state) us r low =
    let units : List UnitLine = (definition_of def.value).units in
    let new : List Use = put_units controls units (put_controls controls []) in
    joined Read us (judged (is_alone new) new) r ∙ ap (λ b. uses_in Read us r || b) (synth_puts_reads controls units r low)
held_put Write (held.Synth def controls state) us r low =
    let units : List UnitLine = (definition_of def.value).units in
    let new : List Use = put_units controls units (put_controls controls []) in
    joined Write us (judged (is_alone new) new) r ∙ ap (λ b. uses_in Write us r || b) (synth_puts_writes controls units r low)
held_put Mix (held.Synth def controls state) us r low =
    let units : List UnitLine = (definition_of def.value).units in
    let new : List Use = put_units controls units (put_controls controls []) in
    joined Mix us (judged (is_alone new) new) r ∙ ap (λ b. uses_in Mix us r || b) (synth_puts_mixes controls units r low)

pub puts_uses : (h : Held) (before after : List Use) → after ≡ put_held h before → PutsUses h before after
puts_uses h before after e = λ a r low. ap (λ (us : List Use). uses_in a us r) e ∙ held_put a h before r low

pub nodes_put : (a : Role) (hs : List Held) (us : List Use) (r : Resource) → number_of r < 1024 → uses_in a (put_nodes hs us) r ≡ (uses_in a us r || list_any (λ (h : Held). held_uses a h r) hs)
nodes_put a [] us r low = sym (or-false (uses_in a us r))
nodes_put a (h ∷ hs) us r low =
    let left : Bool = list_any (λ (g : Held). held_uses a g r) hs in
    nodes_put a hs (put_held h us) r low
    ∙ ap (λ b. b || left) (held_put a h us r low)
    ∙ or_assoc (uses_in a us r) (held_uses a h r) left
