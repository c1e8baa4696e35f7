-- The first clash of members.
use Rattle.std.proofs.Common.{◌≡◌, ◌≤◌, ◌<◌, ℕ, ◌+◌, ℤ, Bool, true, false, ◌||◌, List, [], ◌∷◌, ◌++◌, Option, Some, None, sym, refl, ap, ◌∙◌, arith, length, take, map, reverse, if◌then◌else◌, true≢false}
use Rattle.std.specs.Prelude.{slice_index_or, is_some}
use Rattle.std.specs.List.{filter, list_any}
use Rattle.std.proofs.Math.Bool.{or_comm}
use Rattle.std.proofs.lemmas.List.{take_more, map-append, reverse-append}
use Rattle.sn_foot.specs.declared.resource.Resource.{Resource}
use Rattle.sn_foot.specs.Footprints.{Footprint, clash_on}
use Rattle.sn_clash.specs.declared.clash.Clash.{Clash}
use Rattle.sn_clash.specs.declared.subtree.Subtree.{Subtree}
use Rattle.sn_clash.specs.declared.marks.Mark.{Mark}
use Rattle.sn_clash.specs.Clashing.{Member, clashes_among, clashes_with, resources}
use Rattle.sn_foot.specs.Uses.{footprint_in}
use Rattle.sn_clash.specs.Marking.{listed, marked_in}
use Rattle.sn_clash.specs.Passing.{either, gathered, no_use, clashes_later, from_first, member_of, members_of}
use Rattle.sn_clash.proofs.Firsts.{first_kept, first_later}
use Rattle.sn_clash.proofs.Roles.{bits_together, clash_bits, clash_is, clash_swapped}

-- ---- whether there is a first one

none_here : {A : Type 0} (b : Bool) (x : A) (rest : List A) (any : Bool) → ([] ≡ take 1 rest → false ≡ any) → [] ≡ take 1 (if b then x ∷ rest else rest) → false ≡ (b || any)
none_here true x rest any f e = absurd (cc)
none_here false x rest any f e = f e

none_any : {A : Type 0} (p : A → Bool) (xs : List A) → [] ≡ take 1 (filter p xs) → false ≡ list_any p xs
none_any p [] e = refl
none_any p (x ∷ xs) e = none_here (p x) x (filter p xs) (list_any p xs) (none_any p xs) e

some_here : {A : Type 0} (b : Bool) (x y : A) (rest : List A) (any : Bool) → (y ∷ [] ≡ take 1 rest → true ≡ any) → y ∷ [] ≡ take 1 (if b then x ∷ rest else rest) → true ≡ (b || any)
some_here true x y rest any f e = refl
some_here false x y rest any f e = f e

some_any : {A : Type 0} (p : A → Bool) (xs : List A) (y : A) → y ∷ [] ≡ take 1 (filter p xs) → true ≡ list_any p xs
some_any p [] y e = absurd (cc)
some_any p (x ∷ xs) y e = some_here (p x) x y (filter p xs) (list_any p xs) (some_any p xs y) e

-- a test holds of some element just if there is a first one of which it holds
pub any_first : {A : Type 0} (p : A → Bool) (xs : List A) (found : Option A) → listed found ≡ take 1 (filter p xs) → is_some found ≡ list_any p xs
any_first p xs None e = none_any p xs e
any_first p xs (Some x) e = some_any p xs x e

-- ---- the members of more nodes

pub one_more : (there : Resource → Bool) (es : List Subtree) (n : ℕ) (d : Subtree) → n < length es → members_of there (take (n + 1) es) ≡ member_of there (slice_index_or es n d) ∷ members_of there (take n es)
one_more there es n d lt =
    let x : Subtree = slice_index_or es n d in
    ap (λ xs. members_of there xs) (take_more es n d lt)
    ∙ ap (λ xs. reverse xs) (map-append (member_of there) (take n es) (x ∷ []))
    ∙ reverse-append (map (member_of there) (take n es)) (member_of there x ∷ [])

pub one_at : (there : Resource → Bool) (es : List Subtree) (n : ℕ) (x : Subtree) → n < length es → x ≡ slice_index_or es n x → members_of there (take (n + 1) es) ≡ member_of there x ∷ members_of there (take n es)
one_at there es n x lt is = one_more there es n x lt ∙ ap (λ e. member_of there e ∷ members_of there (take n es)) (sym is)

choose : (b : Bool) (m n : ℕ) (f : ℕ → List Member) (xs ys : List Member) → f m ≡ xs → f n ≡ ys → f (if b then m else n) ≡ (if b then xs else ys)
choose true m n f xs ys x y = x
choose false m n f xs ys x y = y

-- the first that clashes is sought
pub next_first : (there : Resource → Bool) (es : List Subtree) (n : ℕ) (x : Subtree) (first : ℕ) (clashes : Bool) (later : List Mark) → n < length es → x ≡ slice_index_or es n x →
    members_of there (take first es) ≡ from_first (members_of there (take n es)) →
    marked_in there later ≡ gathered no_use (members_of there (take n es)) →
    clashes ≡ list_any (clash_on (marked_in there later) (footprint_in there x.uses.items)) resources →
    members_of there (take (if clashes then n + 1 else first) es) ≡ from_first (members_of there (take (n + 1) es))
next_first there es n x first clashes later lt at is uses e =
    let ms : List Member = members_of there (take n es) in
    let m : Member = member_of there x in
    let test : clashes ≡ clashes_later m ms =
    e ∙ ap (λ (f : Footprint). list_any (clash_on f m.uses) resources) uses ∙ ap (λ p. list_any p resources) (clash_swapped (gathered no_use ms) m.uses) in
    let more : members_of there (take (n + 1) es) ≡ m ∷ ms = one_at there es n x lt at in
    choose clashes (n + 1) first (λ k. members_of there (take k es)) (m ∷ ms) (from_first ms) more is
    ∙ ap (λ b. if b then m ∷ ms else from_first ms) test
    ∙ sym (ap from_first more)

pub within_next : (clashes : Bool) (n first : ℕ) → first ≤ n → (if clashes then n + 1 else first) ≤ n + 1
within_next true n first le = omega arith
within_next false n first le = omega arith

-- what one more member uses, besides what others use
pub next_gathered : (there : Resource → Bool) (es : List Subtree) (n : ℕ) (x : Subtree) (old new f : Footprint) → n < length es → x ≡ slice_index_or es n x →
    new ≡ either old (footprint_in there x.uses.items) →
    old ≡ gathered f (members_of there (take n es)) →
    new ≡ gathered f (members_of there (take (n + 1) es))
next_gathered there es n x old new f lt at is e =
    is
    ∙ ap (λ (g : Footprint). either g (footprint_in there x.uses.items)) e
    ∙ sym (ap (λ ms. gathered f ms) (one_at there es n x lt at))

-- ---- the second member

abbrev pub clash_at : ℤ → Member → Member → Resource → Clash
clash_at id a b r = record { group = id; first = a.id; second = b.id; resource = r }

first_mapped : {A B : Type 0} (f : A → B) (x : A) (xs : List A) → x ∷ [] ≡ take 1 xs → f x ∷ [] ≡ take 1 (map f xs)
first_mapped f x [] e = absurd (cc)
first_mapped f x (y ∷ ys) e = ap (λ zs. map f zs) e

none_mapped : {A B : Type 0} (f : A → B) (xs : List A) → [] ≡ take 1 xs → [] ≡ take 1 (map f xs)
none_mapped f [] e = refl
none_mapped f (y ∷ ys) e = absurd (cc)

abbrev shared_by : Member → Member → List Resource
shared_by a b = filter (clash_on a.uses b.uses) resources

-- with this member there is none
pub past_member : (there : Resource → Bool) (id : ℤ) (a : Member) (es : List Subtree) (n m : ℕ) (x : Subtree) → n ≡ m + 1 → m < length es → x ≡ slice_index_or es m x →
    [] ≡ take 1 (shared_by a (member_of there x)) →
    take 1 (clashes_with id a (members_of there (take m es))) ≡ take 1 (clashes_with id a (members_of there (take n es)))
past_member there id a es n m x is lt at none =
    let b : Member = member_of there x in
    let rest : List Member = members_of there (take m es) in
    sym (first_later (map (clash_at id a b) (shared_by a b)) (clashes_with id a rest) (none_mapped (clash_at id a b) (shared_by a b) none))
    ∙ sym (ap (λ ms. take 1 (clashes_with id a ms)) (ap (λ k. members_of there (take k es)) is ∙ one_at there es m x lt at))

-- with this member there is one
pub with_member : (there : Resource → Bool) (id : ℤ) (a : Member) (es : List Subtree) (n m : ℕ) (x : Subtree) (r : Resource) → n ≡ m + 1 → m < length es → x ≡ slice_index_or es m x →
    r ∷ [] ≡ take 1 (shared_by a (member_of there x)) →
    clash_at id a (member_of there x) r ∷ [] ≡ take 1 (clashes_with id a (members_of there (take n es)))
with_member there id a es n m x r is lt at one =
    let b : Member = member_of there x in
    let rest : List Member = members_of there (take m es) in
    first_kept (clash_at id a b r) (map (clash_at id a b) (shared_by a b)) (clashes_with id a rest) (first_mapped (clash_at id a b) r (shared_by a b) one)
    ∙ sym (ap (λ ms. take 1 (clashes_with id a ms)) (ap (λ k. members_of there (take k es)) is ∙ one_at there es m x lt at))

-- ---- the first pair

abbrev first_pair : ℤ → List Member → List Clash
first_pair id [] = []
first_pair id (a ∷ bs) = take 1 (clashes_with id a bs)

has_some : {A : Type 0} → List A → Bool
has_some [] = false
has_some (x ∷ xs) = true

some_append : {A : Type 0} (xs ys : List A) → has_some (xs ++ ys) ≡ (has_some xs || has_some ys)
unfolding has_some
some_append [] ys = refl
some_append (x ∷ xs) ys = refl

some_map : {A B : Type 0} (f : A → B) (xs : List A) → has_some (map f xs) ≡ has_some xs
unfolding has_some
some_map f [] = refl
some_map f (x ∷ xs) = refl

some_if : {A : Type 0} (b : Bool) (x : A) (rest : List A) → has_some (if b then x ∷ rest else rest) ≡ (b || has_some rest)
unfolding has_some
some_if true x rest = refl
some_if false x rest = refl

some_filter : {A : Type 0} (p : A → Bool) (xs : List A) → has_some (filter p xs) ≡ list_any p xs
unfolding has_some
some_filter p [] = refl
some_filter p (x ∷ xs) = some_if (p x) x (filter p xs) ∙ ap (λ b. p x || b) (some_filter p xs)

-- of two lists the first has the first element, if it has one
taken : {A : Type 0} (b : Bool) (xs ys : List A) → has_some xs ≡ b → take 1 (xs ++ ys) ≡ (if b then take 1 xs else take 1 ys)
unfolding has_some
taken true [] ys e = absurd (true≢false (sym e))
taken false [] ys e = refl
taken true (x ∷ xs) ys e = refl
taken false (x ∷ xs) ys e = absurd (true≢false e)

or_mixed : (a b c d : Bool) → ((a || b) || (c || d)) ≡ ((a || c) || (b || d))
or_mixed true b c d = refl
or_mixed false true true d = refl
or_mixed false true false d = refl
or_mixed false false c d = refl

any_or : {A : Type 0} (p q : A → Bool) (xs : List A) → list_any (λ x. p x || q x) xs ≡ (list_any p xs || list_any q xs)
any_or p q [] = refl
any_or p q (x ∷ xs) = ap (λ b. (p x || q x) || b) (any_or p q xs) ∙ or_mixed (p x) (q x) (list_any p xs) (list_any q xs)

any_none : {A : Type 0} (xs : List A) → list_any (λ (x : A). false) xs ≡ false
any_none [] = refl
any_none (x ∷ xs) = any_none xs

-- a member clashes with what two footprints use together if it clashes with one of them
split : (a f b : Footprint) (r : Resource) → clash_on a (either f b) r ≡ (clash_on a f r || clash_on a b r)
split a f b r =
    clash_is a (either f b) r
    ∙ bits_together (a.reads r) (a.writes r) (a.mixes r) (f.reads r) (f.writes r) (f.mixes r) (b.reads r) (b.writes r) (b.mixes r)
    ∙ sym (ap (λ x. x || clash_on a b r) (clash_is a f r)
    ∙ ap (λ x. clash_bits (a.reads r) (a.writes r) (a.mixes r) (f.reads r) (f.writes r) (f.mixes r) || x) (clash_is a b r))

apart_none : (a : Footprint) (r : Resource) → clash_on a no_use r ≡ false
apart_none a r = clash_is a no_use r

-- a member clashes with a later one if it clashes with what all later ones use
later_some : (id : ℤ) (a : Member) (bs : List Member) → has_some (clashes_with id a bs) ≡ clashes_later a bs
unfolding has_some
later_some id a [] = sym (ap (λ p. list_any p resources) (λ i r. apart_none a.uses r i) ∙ any_none resources)
later_some id a (b ∷ bs) =
    let f : Footprint = gathered no_use bs in
    some_append (map (clash_at id a b) (shared_by a b)) (clashes_with id a bs)
    ∙ ap (λ c. c || has_some (clashes_with id a bs)) (some_map (clash_at id a b) (shared_by a b) ∙ some_filter (clash_on a.uses b.uses) resources)
    ∙ ap (λ c. list_any (clash_on a.uses b.uses) resources || c) (later_some id a bs)
    ∙ or_comm (list_any (clash_on a.uses b.uses) resources) (list_any (clash_on a.uses f) resources)
    ∙ sym (any_or (clash_on a.uses f) (clash_on a.uses b.uses) resources)
    ∙ sym (ap (λ p. list_any p resources) (λ i r. split a.uses f b.uses r i))

pick : (id : ℤ) (b : Bool) (a : Member) (bs rest : List Member) → (if b then take 1 (clashes_with id a bs) else first_pair id rest) ≡ first_pair id (if b then a ∷ bs else rest)
pick id true a bs rest = refl
pick id false a bs rest = refl

pair_first : (id : ℤ) (ms : List Member) → take 1 (clashes_among id ms) ≡ first_pair id (from_first ms)
pair_first id [] = refl
pair_first id (a ∷ bs) =
    taken (clashes_later a bs) (clashes_with id a bs) (clashes_among id bs) (later_some id a bs)
    ∙ ap (λ xs. if clashes_later a bs then take 1 (clashes_with id a bs) else xs) (pair_first id bs)
    ∙ pick id (clashes_later a bs) a bs (from_first bs)

-- one member clashes with none
pub few_members : (there : Resource → Bool) (id : ℤ) (es : List Subtree) → length es < 2 → [] ≡ take 1 (clashes_among id (members_of there es))
few_members there id [] h = refl
few_members there id (e ∷ []) h = refl
few_members there id (e ∷ (f ∷ es)) h = absurd (omega (arith, h))

pub no_pair : (there : Resource → Bool) (id : ℤ) (es : List Subtree) (n : ℕ) → n ≡ 0 → members_of there (take n es) ≡ from_first (members_of there es) → [] ≡ take 1 (clashes_among id (members_of there es))
no_pair there id es n nothing first =
    sym (pair_first id (members_of there es) ∙ ap (λ ms. first_pair id ms) (sym first ∙ ap (λ k. members_of there (take k es)) nothing))

pub some_pair : (there : Resource → Bool) (id : ℤ) (es : List Subtree) (n m : ℕ) (x : Subtree) → n ≡ m + 1 → m < length es → x ≡ slice_index_or es m x → members_of there (take n es) ≡ from_first (members_of there es) →
    take 1 (clashes_with id (member_of there x) (members_of there (take m es))) ≡ take 1 (clashes_among id (members_of there es))
some_pair there id es n m x is lt at first =
    sym (pair_first id (members_of there es) ∙ ap (λ ms. first_pair id ms) (sym first ∙ ap (λ k. members_of there (take k es)) is ∙ one_at there es m x lt at))
