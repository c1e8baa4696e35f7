-- What a list of uses says of resources once each use was judged.
use Rattle.std.proofs.Common.{◌≡◌, ◌≤◌, ◌<◌, ⊎_elim, ℕ, zero, suc, ◌+◌, ◌==◌, Bool, true, false, not, ◌&&◌, ◌||◌, if◌then◌else◌, List, [], ◌∷◌, ◌++◌, sym, refl, ap, ◌∙◌, subst, arith, length, get_or, length-set, true≢false}
use Rattle.std.specs.Prelude.{nat_lt, slice_index_or, slice_set}
use Rattle.std.specs.List.{count_by}
use Rattle.std.proofs.lemmas.List.Recursion.{is_sum_by}
use Rattle.std.proofs.lemmas.Bool.{cases_eq, cases_lt, cond-false, cond-true, eq-eqb, le-ltb, lt-ltb, ne_eqb}
use Rattle.std.proofs.lemmas.List.{get_or-set_other, get_or-set_same, get_or_past}
use Rattle.sn_foot.specs.declared.resource.Resource.{Resource}
use Rattle.sn_foot.specs.declared.resource.Resource.TheVariants.{Audio, Control, Buffer}
use Rattle.sn_foot.specs.declared.uses.Role.{Role}
use Rattle.sn_foot.specs.declared.uses.Role.TheVariants.{Read, Write, Mix}
use Rattle.sn_foot.specs.declared.uses.Use.{Use}
use Rattle.sn_foot.specs.Uses.{is_role, is_same, uses_in}
use Rattle.sn_foot.specs.Judging.{counted, counted_all, is_alone, is_counted, judged, judged_one, more, role_if, times}
use Rattle.sn_foot.proofs.Sameness.{at_same}

-- ---- counts up to two

abbrev capped : ℕ → ℕ
capped n = if nat_lt n 2 then n else 2

small : (n : ℕ) → n < 2 → capped n ≡ n
small n lt = cond-true (nat_lt n 2) n 2 (lt-ltb n 2 lt)

large : (n : ℕ) → 2 ≤ n → capped n ≡ 2
large n le = cond-false (nat_lt n 2) n 2 (le-ltb n 2 le)

more_capped : (n : ℕ) → more (capped n) ≡ capped (n + 1)
more_capped n =
    ⊎_elim
    (λ (lt : n < 2).
    ap more (small n lt)
    ∙ cond-true (nat_lt n 2) (n + 1) 2 (lt-ltb n 2 lt)
    ∙ ⊎_elim
    (λ (l : n + 1 < 2). sym (small (n + 1) l))
    (λ (g : 2 ≤ n + 1). let e : n + 1 ≡ 2 = omega (arith, lt, g) in e ∙ sym (large (n + 1) g))
    (cases_lt (n + 1) 2))
    (λ (le : 2 ≤ n). ap more (large n le) ∙ cond-false (nat_lt 2 2) (2 + 1) 2 (le-ltb 2 2 (omega arith)) ∙ sym (large (n + 1) (omega (arith, le))))
    (cases_lt n 2)

one_is : (n : ℕ) → (capped n == 1) ≡ (n == 1)
one_is n =
    ⊎_elim
    (λ (lt : n < 2). ap (λ k. k == 1) (small n lt))
    (λ (le : 2 ≤ n). ap (λ k. k == 1) (large n le) ∙ ne_eqb 2 1 (λ e. omega (arith, e)) ∙ sym (ne_eqb n 1 (λ e. omega (arith, e, le))))
    (cases_lt n 2)

-- one if a test holds, and none if it doesn't
pub one_if : (b : Bool) → b ≡ true → ◌≡◌ {A = ℕ} (if b then 1 else 0) 1
one_if true e = refl
one_if false e = absurd (true≢false (sym e))

pub none_if : (b : Bool) → b ≡ false → ◌≡◌ {A = ℕ} (if b then 1 else 0) 0
none_if true e = absurd (true≢false e)
none_if false e = refl

with_one : (i k : ℕ) → i ≡ 1 → k + 1 ≡ i + k
with_one i k e = omega (arith, e)

with_none : (i k : ℕ) → i ≡ 0 → k ≡ i + k
with_none i k e = omega (arith, e)

passed_on : (t i k : ℕ) → t + (i + k) ≡ (i + t) + k
passed_on t i k = omega arith

counted_at : (q : Resource) (n k : ℕ) (counts : List ℕ) → n < length counts → slice_index_or counts n 0 ≡ capped k → slice_index_or (counted q counts) n 0 ≡ capped ((if is_same q (Audio n) then 1 else 0) + k)
counted_at (Audio m) n k counts lt is =
    ⊎_elim
    (λ (e : m ≡ n).
    let here : k + 1 ≡ (if m == n then 1 else 0) + k = with_one (if m == n then 1 else 0) k (one_if (m == n) (eq-eqb m n e)) in
    ap (λ p. slice_index_or (slice_set counts p (more (slice_index_or counts p 0))) n 0) e
    ∙ get_or-set_same counts n (more (slice_index_or counts n 0)) 0 lt
    ∙ ap more is
    ∙ more_capped k
    ∙ ap capped here)
    (λ (d : m ≡ n → ⊥).
    let here : k ≡ (if m == n then 1 else 0) + k = with_none (if m == n then 1 else 0) k (none_if (m == n) (ne_eqb m n d)) in
    get_or-set_other counts m n (more (slice_index_or counts m 0)) 0 (λ e. d (sym e)) ∙ is ∙ ap capped here)
    (cases_eq m n)
counted_at (Control m) n k counts lt is = is ∙ ap capped (with_none 0 k refl)
counted_at (Buffer m) n k counts lt is = is ∙ ap capped (with_none 0 k refl)

long_counted : (q : Resource) (counts : List ℕ) → length (counted q counts) ≡ length counts
long_counted (Audio m) counts = length-set counts m (more (slice_index_or counts m 0))
long_counted (Control m) counts = refl
long_counted (Buffer m) counts = refl

long_all : (us : List Use) (counts : List ℕ) → length (counted_all us counts) ≡ length counts
long_all [] counts = refl
long_all (u ∷ us) counts = long_all us (counted u.resource counts) ∙ long_counted u.resource counts

all_counted : (us : List Use) (n k : ℕ) (counts : List ℕ) → n < length counts → slice_index_or counts n 0 ≡ capped k → slice_index_or (counted_all us counts) n 0 ≡ capped (times us (Audio n) + k)
all_counted [] n k counts lt is = is ∙ ap capped (with_none 0 k refl)
all_counted (u ∷ us) n k counts lt is =
    let one : ℕ = if is_same u.resource (Audio n) then 1 else 0 in
    all_counted us n (one + k) (counted u.resource counts) (subst (λ l. n < l) (sym (long_counted u.resource counts)) lt) (counted_at u.resource n k counts lt is)
    ∙ ap capped (passed_on (times us (Audio n)) one k)

-- what nothing else names is counted once
pub counted_once : (us : List Use) (counts new : List ℕ) → length counts ≡ 1024 → ((n : ℕ) → slice_index_or counts n 0 ≡ 0) → new ≡ counted_all us counts →
    (n : ℕ) → n < 1024 → (slice_index_or new n 0 == 1) ≡ (times us (Audio n) == 1)
counted_once us counts new long none e n lt =
    let all : times us (Audio n) + 0 ≡ times us (Audio n) = omega arith in
    ap (λ (ks : List ℕ). slice_index_or ks n 0 == 1) e
    ∙ ap (λ k. k == 1) (all_counted us n 0 counts (subst (λ l. n < l) (sym long) lt) (none n ∙ sym (small 0 (omega arith))))
    ∙ one_is (times us (Audio n) + 0)
    ∙ ap (λ k. k == 1) all

pub long_counts : (us : List Use) (counts new : List ℕ) → length counts ≡ 1024 → new ≡ counted_all us counts → length new ≡ 1024
long_counts us counts new long e = ap length e ∙ long_all us counts ∙ long

-- the test by counts is the one by all uses
pub test_is : (own : List Use) (counts : List ℕ) → length counts ≡ 1024 → ((n : ℕ) → n < 1024 → (slice_index_or counts n 0 == 1) ≡ (times own (Audio n) == 1)) → (r : Resource) → is_counted counts r ≡ is_alone own r
test_is own counts long once (Audio n) =
    ⊎_elim
    (λ (lt : n < 1024). once n lt ∙ sym (ap (λ b. b && (times own (Audio n) == 1)) (lt-ltb n 1024 lt)))
    (λ (ge : 1024 ≤ n). ap (λ k. k == 1) (get_or_past counts n 0 (omega (arith, long, ge))) ∙ sym (ap (λ b. b && (times own (Audio n) == 1)) (le-ltb n 1024 ge)))
    (cases_lt n 1024)
test_is own counts long once (Control n) = refl
test_is own counts long once (Buffer n) = refl

pub judged_same : (f g : Resource → Bool) → ((r : Resource) → f r ≡ g r) → (us : List Use) → judged f us ≡ judged g us
judged_same f g same [] = refl
judged_same f g same (u ∷ us) = λ i. (record { role = role_if (same u.resource i) u.role; resource = u.resource }) ∷ judged_same f g same us i

-- how many of some uses name a resource
pub times_counts : (r : Resource) (us : List Use) → times us r ≡ count_by (λ (u : Use). is_same u.resource r) us
times_counts r us = is_sum_by (λ (vs : List Use). times vs r) (λ (u : Use). if is_same u.resource r then 1 else 0) refl (λ u vs. refl) us

-- ---- uses of which the first ones are judged

abbrev pub begun : (Resource → Bool) → ℕ → List Use → List Use
begun f zero us = us
begun f (suc n) [] = []
begun f (suc n) (u ∷ us) = judged_one f u ∷ begun f n us

pub all_begun : (f : Resource → Bool) (n : ℕ) (us : List Use) → length us ≤ n → begun f n us ≡ judged f us
all_begun f zero [] le = refl
all_begun f zero (u ∷ us) le = absurd (omega (arith, le))
all_begun f (suc n) [] le = refl
all_begun f (suc n) (u ∷ us) le = ap (λ (vs : List Use). judged_one f u ∷ vs) (all_begun f n us (omega (arith, le)))

times_begun : (f : Resource → Bool) (n : ℕ) (us : List Use) (r : Resource) → times (begun f n us) r ≡ times us r
times_begun f zero us r = refl
times_begun f (suc n) [] r = refl
times_begun f (suc n) (u ∷ us) r = ap (λ k. (if is_same u.resource r then 1 else 0) + k) (times_begun f n us r)

alone_begun : (f : Resource → Bool) (n : ℕ) (us : List Use) (r : Resource) → is_alone (begun f n us) r ≡ is_alone us r
alone_begun f n us (Audio m) = ap (λ k. nat_lt m 1024 && (k == 1)) (times_begun f n us (Audio m))
alone_begun f n us (Control m) = refl
alone_begun f n us (Buffer m) = refl

set_next : (f : Resource → Bool) (n : ℕ) (us : List Use) (d : Use) → n < length us → slice_set (begun f n us) n (judged_one f (get_or (begun f n us) n d)) ≡ begun f (suc n) us
set_next f n [] d lt = absurd (omega (arith, lt))
set_next f zero (u ∷ us) d lt = refl
set_next f (suc n) (u ∷ us) d lt = ap (λ (vs : List Use). judged_one f u ∷ vs) (set_next f n us d (omega (arith, lt)))

pub next_begun : (us own : List Use) (n : ℕ) (d new : Use) → n < length us → own ≡ begun (is_alone us) n us → new ≡ judged_one (is_alone own) (get_or own n d) → slice_set own n new ≡ begun (is_alone us) (n + 1) us
next_begun us own n d new lt is e =
    let f : Resource → Bool = is_alone us in
    let u : Use = get_or own n d in
    let next : n + 1 ≡ suc n = omega arith in
    let alone : is_alone own u.resource ≡ f u.resource = ap (λ (vs : List Use). is_alone vs u.resource) is ∙ alone_begun f n us u.resource in
    ap (λ (v : Use). slice_set own n v) (e ∙ ap {B = Use} (λ (a : Bool). record { role = role_if a u.role; resource = u.resource }) alone)
    ∙ ap (λ (vs : List Use). slice_set vs n (judged_one f (get_or vs n d))) is
    ∙ set_next f n us d lt
    ∙ ap (λ k. begun f k us) (sym next)

-- ---- a loop's step

pub one_judged : (f : Resource → Bool) (old : List Use) (u : Use) (us : List Use) → (old ++ judged_one f u ∷ []) ++ judged f us ≡ old ++ judged f (u ∷ us)
one_judged f [] u us = refl
one_judged f (o ∷ old) u us = ap (λ (vs : List Use). o ∷ vs) (one_judged f old u us)

-- ---- roles

read_one : (alone : Bool) (role : Role) → is_role Read (role_if alone role) ≡ is_role Read role
read_one alone Read = refl
read_one alone Write = refl
read_one true Mix = refl
read_one false Mix = refl

mix_one : (alone : Bool) (role : Role) → is_role Mix (role_if alone role) ≡ (is_role Mix role && alone)
mix_one alone Read = refl
mix_one alone Write = refl
mix_one true Mix = refl
mix_one false Mix = refl

write_one : (alone : Bool) (role : Role) → is_role Write (role_if alone role) ≡ (is_role Write role || (is_role Mix role && not alone))
write_one alone Read = refl
write_one alone Write = refl
write_one true Mix = refl
write_one false Mix = refl

-- what some use mixes, the test, and what others mix
gathered : (m a s x : Bool) → (((m && a) && s) || (x && a)) ≡ (((m && s) || x) && a)
gathered false a s x = refl
gathered true true true x = refl
gathered true true false x = refl
gathered true false true true = refl
gathered true false true false = refl
gathered true false false x = refl

-- what some use writes or mixes, that the test fails, and what others write and mix
spread : (s w m n y x : Bool) → (((w || (m && n)) && s) || (y || (x && n))) ≡ (((w && s) || y) || (((m && s) || x) && n))
spread false true true n y x = refl
spread false true false n y x = refl
spread false false true true y x = refl
spread false false true false y x = refl
spread false false false n y x = refl
spread true true m n y x = refl
spread true false false n y x = refl
spread true false true true true x = refl
spread true false true true false x = refl
spread true false true false true x = refl
spread true false true false false true = refl
spread true false true false false false = refl

-- ---- what judged uses say

pub reads_judged : (alone : Resource → Bool) (us : List Use) (r : Resource) → uses_in Read (judged alone us) r ≡ uses_in Read us r
reads_judged alone [] r = refl
reads_judged alone (u ∷ us) r =
    let s : Bool = is_same u.resource r in
    ap (λ b. (b && s) || uses_in Read (judged alone us) r) (read_one (alone u.resource) u.role)
    ∙ ap (λ b. (is_role Read u.role && s) || b) (reads_judged alone us r)

pub mixes_judged : (alone : Resource → Bool) (us : List Use) (r : Resource) → uses_in Mix (judged alone us) r ≡ (uses_in Mix us r && alone r)
mixes_judged alone [] r = refl
mixes_judged alone (u ∷ us) r =
    let s : Bool = is_same u.resource r in
    let m : Bool = is_role Mix u.role in
    ap (λ b. (b && s) || uses_in Mix (judged alone us) r) (mix_one (alone u.resource) u.role)
    ∙ ap (λ b. b || uses_in Mix (judged alone us) r) (at_same (λ q. m && alone q) u.resource r)
    ∙ ap (λ b. ((m && alone r) && s) || b) (mixes_judged alone us r)
    ∙ gathered m (alone r) s (uses_in Mix us r)

pub writes_judged : (alone : Resource → Bool) (us : List Use) (r : Resource) → uses_in Write (judged alone us) r ≡ (uses_in Write us r || (uses_in Mix us r && not (alone r)))
writes_judged alone [] r = refl
writes_judged alone (u ∷ us) r =
    let s : Bool = is_same u.resource r in
    let w : Bool = is_role Write u.role in
    let m : Bool = is_role Mix u.role in
    ap (λ b. (b && s) || uses_in Write (judged alone us) r) (write_one (alone u.resource) u.role)
    ∙ ap (λ b. b || uses_in Write (judged alone us) r) (at_same (λ q. w || (m && not (alone q))) u.resource r)
    ∙ ap (λ b. ((w || (m && not (alone r))) && s) || b) (writes_judged alone us r)
    ∙ spread s w m (not (alone r)) (uses_in Write us r) (uses_in Mix us r)
