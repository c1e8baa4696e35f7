-- The first resources at which a test holds.
use Rattle.std.proofs.Common.{◌≡◌, ◌<◌, ℕ, zero, suc, ◌+◌, ◌-◌, Bool, true, false, List, [], ◌∷◌, ◌++◌, sym, ap, ◌∙◌, subst, arith, take, refl}
use Rattle.std.specs.List.{filter}
use Rattle.std.proofs.lemmas.Bool.{cond-true, cond-false}
use Rattle.std.proofs.lemmas.List.Elements.{filter-append}
use Rattle.sn_mem.specs.Blocks.{table}
use Rattle.sn_mem.proofs.Tables.{table_more}
use Rattle.sn_foot.specs.declared.resource.Resource.{Resource}
use Rattle.sn_foot.specs.declared.resource.Resource.TheVariants.{Audio, Control, Buffer}
use Rattle.sn_clash.specs.Clashing.{resources}

-- ---- the first at which a test holds

pub first_none : {A : Type 0} (p : A → Bool) (f : ℕ → A) → filter p (table f 0) ≡ []
unfolding table
first_none p f = refl

past_one : {A : Type 0} (p : A → Bool) (x : A) → p x ≡ false → filter p (x ∷ []) ≡ []
past_one p x fails = cond-false (p x) (x ∷ []) [] fails

at_one : {A : Type 0} (p : A → Bool) (x : A) → p x ≡ true → filter p (x ∷ []) ≡ x ∷ []
at_one p x holds = cond-true (p x) (x ∷ []) [] holds

pub first_past : {A : Type 0} (p : A → Bool) (f : ℕ → A) (n : ℕ) → filter p (table f n) ≡ [] → p (f n) ≡ false → filter p (table f (n + 1)) ≡ []
first_past p f n none fails =
    ap (λ xs. filter p xs) (table_more f n) ∙ filter-append p (table f n) (f n ∷ []) ∙ ap (λ xs. xs ++ filter p (f n ∷ [])) none ∙ past_one p (f n) fails

-- what comes first stays first
pub first_kept : {A : Type 0} (x : A) (xs ys : List A) → x ∷ [] ≡ take 1 xs → x ∷ [] ≡ take 1 (xs ++ ys)
first_kept x [] ys e = absurd (cc)
first_kept x (y ∷ xs) ys e = e

pub first_later : {A : Type 0} (xs ys : List A) → [] ≡ take 1 xs → take 1 (xs ++ ys) ≡ take 1 ys
first_later [] ys e = refl
first_later (x ∷ xs) ys e = absurd (cc)

longer : {A : Type 0} (p : A → Bool) (f : ℕ → A) (x : A) (n more : ℕ) → x ∷ [] ≡ take 1 (filter p (table f n)) → x ∷ [] ≡ take 1 (filter p (table f (n + more)))
longer p f x n zero e = let same : n ≡ n + 0 = omega arith in subst (λ k. x ∷ [] ≡ take 1 (filter p (table f k))) same e
longer p f x n (suc more) e =
    let same : n + more + 1 ≡ n + suc more = omega arith in
    subst (λ k. x ∷ [] ≡ take 1 (filter p (table f k))) same
    (first_kept x (filter p (table f (n + more))) (filter p (f (n + more) ∷ [])) (longer p f x n more e)
    ∙ sym (ap (λ xs. take 1 xs) (ap (λ xs. filter p xs) (table_more f (n + more)) ∙ filter-append p (table f (n + more)) (f (n + more) ∷ []))))

pub first_found : {A : Type 0} (p : A → Bool) (f : ℕ → A) (n count : ℕ) → n < count → filter p (table f n) ≡ [] → p (f n) ≡ true → f n ∷ [] ≡ take 1 (filter p (table f count))
first_found p f n count lt none holds =
    let same : n + 1 + (count - (n + 1)) ≡ count = omega arith in
    subst (λ k. f n ∷ [] ≡ take 1 (filter p (table f k))) same
    (longer p f (f n) (n + 1) (count - (n + 1))
    (sym (ap (λ xs. take 1 xs) (ap (λ xs. filter p xs) (table_more f n) ∙ filter-append p (table f n) (f n ∷ []) ∙ ap (λ xs. xs ++ filter p (f n ∷ [])) none ∙ at_one p (f n) holds))))

pub none_table : {A : Type 0} (p : A → Bool) (f : ℕ → A) (n : ℕ) → ((k : ℕ) → k < n → p (f k) ≡ false) → filter p (table f n) ≡ []
none_table p f zero fails = first_none p f
none_table p f (suc n) fails =
    let same : n + 1 ≡ suc n = omega arith in
    subst (λ k. filter p (table f k) ≡ []) same (first_past p f n (none_table p f n (λ k lt. fails k (omega (arith, lt)))) (fails n (omega arith)))

-- ---- all resources

abbrev buses : List Resource
buses = table Audio 128

abbrev controls : List Resource
controls = table Control 1024

abbrev buffers : List Resource
buffers = table Buffer 1024

apart : (p : Resource → Bool) → filter p buses ++ (filter p controls ++ filter p buffers) ≡ filter p resources
unfolding resources
apart p = ap (λ xs. filter p buses ++ xs) (sym (filter-append p controls buffers)) ∙ sym (filter-append p buses (controls ++ buffers))

no_first : {A : Type 0} (xs : List A) → xs ≡ [] → [] ≡ take 1 xs
no_first xs e = sym (ap (λ ys. take 1 ys) e)

pub all_none : (p : Resource → Bool) → ((n : ℕ) → p (Audio n) ≡ false) → ((n : ℕ) → p (Control n) ≡ false) → ((n : ℕ) → p (Buffer n) ≡ false) → [] ≡ take 1 (filter p resources)
all_none p a c b =
    no_first (filter p buffers) (none_table p Buffer 1024 (λ k lt. b k))
    ∙ sym (first_later (filter p controls) (filter p buffers) (no_first (filter p controls) (none_table p Control 1024 (λ k lt. c k))))
    ∙ sym (first_later (filter p buses) (filter p controls ++ filter p buffers) (no_first (filter p buses) (none_table p Audio 128 (λ k lt. a k))))
    ∙ ap (λ xs. take 1 xs) (apart p)

pub first_audio : (p : Resource → Bool) (n : ℕ) → n < 128 → p (Audio n) ≡ true → ((k : ℕ) → k < n → p (Audio k) ≡ false) → Audio n ∷ [] ≡ take 1 (filter p resources)
first_audio p n lt holds before =
    first_kept (Audio n) (filter p buses) (filter p controls ++ filter p buffers) (first_found p Audio n 128 lt (none_table p Audio n before) holds)
    ∙ ap (λ xs. take 1 xs) (apart p)

pub first_control : (p : Resource → Bool) (n : ℕ) → n < 1024 → p (Control n) ≡ true → ((k : ℕ) → p (Audio k) ≡ false) → ((k : ℕ) → k < n → p (Control k) ≡ false) → Control n ∷ [] ≡ take 1 (filter p resources)
first_control p n lt holds a before =
    first_kept (Control n) (filter p controls) (filter p buffers) (first_found p Control n 1024 lt (none_table p Control n before) holds)
    ∙ sym (first_later (filter p buses) (filter p controls ++ filter p buffers) (no_first (filter p buses) (none_table p Audio 128 (λ k lt. a k))))
    ∙ ap (λ xs. take 1 xs) (apart p)

pub first_buffer : (p : Resource → Bool) (n : ℕ) → n < 1024 → p (Buffer n) ≡ true → ((k : ℕ) → p (Audio k) ≡ false) → ((k : ℕ) → p (Control k) ≡ false) → ((k : ℕ) → k < n → p (Buffer k) ≡ false) → Buffer n ∷ [] ≡ take 1 (filter p resources)
first_buffer p n lt holds a c before =
    first_found p Buffer n 1024 lt (none_table p Buffer n before) holds
    ∙ sym (first_later (filter p controls) (filter p buffers) (no_first (filter p controls) (none_table p Control 1024 (λ k lt. c k))))
    ∙ sym (first_later (filter p buses) (filter p controls ++ filter p buffers) (no_first (filter p buses) (none_table p Audio 128 (λ k lt. a k))))
    ∙ ap (λ xs. take 1 xs) (apart p)
