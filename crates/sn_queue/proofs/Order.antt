-- The order of a waiting list, and what follows from it.
use Rattle.std.proofs.Common.{◌≡◌, ◌≤◌, ◌<◌, ◌+◌, ◌-◌, ℕ, suc, ◌||◌, Bool, true, false, cond, leb, List, [], ◌∷◌, ◌++◌, length, map, Some, None, arith, refl, ap, ⊎_elim}
use Rattle.std.specs.List.{AllByRecursion, filter, list_any}
use Rattle.sn_queue.specs.Waiting.{Waiting, WaitingList, ActsBefore, AllPairwise}
use Rattle.sn_queue.specs.Steps.{due_of, is_due, first, without_first, greatest, insert}
use Rattle.std.proofs.lemmas.Bool.{lt-leb, le-leb, leb-false}
use Rattle.std.specs.Prelude.{unwrap_or, slice_get}
use Rattle.sn_queue.proofs.TimeLaws.{due-monotone}

pub key_le : (a b : Waiting) → ActsBefore a b → a.key ≤ b.key
key_le a b h = ⊎_elim (λ (l : a.key < b.key). omega arith) (λ (e : (a.key ≡ b.key) × (a.number < b.number)). omega arith) h

-- ---- all of a list

pub All-weaker : {X : Type 0} (P Q : X → Type 0) → ((x : X) → P x → Q x) → (xs : List X) → AllByRecursion P xs → AllByRecursion Q xs
All-weaker P Q f [] h = tt
All-weaker P Q f (x ∷ xs) h = (f x h.0, All-weaker P Q f xs h.1)

pub All-front : {X : Type 0} (P : X → Type 0) (xs : List X) (y : X) → AllByRecursion P (xs ++ y ∷ []) → AllByRecursion P xs
All-front P [] y h = tt
All-front P (x ∷ xs) y h = (h.0, All-front P xs y h.1)

pub AllPairwise-front : {X : Type 0} (R : X → X → Type 0) (xs : List X) (y : X) → AllPairwise R (xs ++ y ∷ []) → AllPairwise R xs
AllPairwise-front R [] y h = tt
AllPairwise-front R (x ∷ xs) y h = (All-front (R x) xs y h.0, AllPairwise-front R xs y h.1)

-- ---- an insertion

pub All-insert : (P : Waiting → Type 0) (w : Waiting) → P w → (ws : List Waiting) → AllByRecursion P ws → AllByRecursion P (insert w ws)
All-insert P w here [] h = (here, tt)
All-insert P w here (v ∷ vs) h = elim (leb v.key w.key) as (λ b. AllByRecursion P (cond b (v ∷ insert w vs) (w ∷ v ∷ vs))) [
  | true ↦ (h.0, All-insert P w here vs h.1)
  | false ↦ (here, h)
]

pub length-insert : (w : Waiting) (ws : List Waiting) → length (insert w ws) ≡ length ws + 1
length-insert w [] = refl
length-insert w (v ∷ vs) = elim (leb v.key w.key) as (λ b. length (cond b (v ∷ insert w vs) (w ∷ v ∷ vs)) ≡ length (v ∷ vs) + 1) [
  | true ↦ omega (arith, length-insert w vs)
  | false ↦ omega arith
]

-- ---- the first that is due

pub first-none : {X : Type 0} (test : X → Bool) (xs : List X) → AllByRecursion (λ x. test x ≡ false) xs → first test xs ≡ None
first-none test [] h = refl
first-none test (x ∷ xs) h = rw h.0 (first-none test xs h.1)

pub without_first-none : {X : Type 0} (test : X → Bool) (xs : List X) → AllByRecursion (λ x. test x ≡ false) xs → without_first test xs ≡ xs
without_first-none test [] h = refl
without_first-none test (x ∷ xs) h = rw h.0 (ap (λ ys. x ∷ ys) (without_first-none test xs h.1))

pub first-here : {X : Type 0} (test : X → Bool) (x : X) (xs : List X) → test x ≡ true → first test (x ∷ xs) ≡ Some x
first-here test x xs h = rw h

pub without_first-here : {X : Type 0} (test : X → Bool) (x : X) (xs : List X) → test x ≡ true → without_first test (x ∷ xs) ≡ xs
without_first-here test x xs h = rw h

-- if the first is not due, none is
pub none_due : (q : WaitingList) (now : ℕ) (w : Waiting) (ws : List Waiting) → AllByRecursion (ActsBefore w) ws → now < due_of q w
    → AllByRecursion (λ v. now < due_of q v) (w ∷ ws)
none_due q now w ws after later =
    (later, All-weaker (ActsBefore w) (λ v. now < due_of q v) (λ v h. let up = due-monotone w.key v.key q.base q.rate (key_le w v h) in omega (arith, up, later)) ws after)

pub not_due : (q : WaitingList) (now : ℕ) (ws : List Waiting) → AllByRecursion (λ v. now < due_of q v) ws → AllByRecursion (λ v. is_due q now v ≡ false) ws
not_due q now ws h = All-weaker (λ v. now < due_of q v) (λ v. is_due q now v ≡ false) (λ v l. lt-leb (due_of q v) now l) ws h

-- ---- the last

pub greatest-last : (q : WaitingList) (ws : List Waiting) (w : Waiting) → AllPairwise ActsBefore (ws ++ w ∷ []) → greatest (map (due_of q) (ws ++ w ∷ [])) ≡ Some (due_of q w)
greatest-last q [] w order = ap Some (omega arith)
greatest-last q (v ∷ vs) w order =
    let up = due-monotone v.key w.key q.base q.rate (key_le v w (All-last (ActsBefore v) vs w order.0)) in
    rw (greatest-last q vs w order.1) (ap Some (omega (arith, up))) where
      All-last : {X : Type 0} (P : X → Type 0) (xs : List X) (y : X) → AllByRecursion P (xs ++ y ∷ []) → P y
      All-last P [] y h = h.0
      All-last P (x ∷ xs) y h = All-last P xs y h.1

-- if the greatest due number is not after now, all are due
pub all_due : (q : WaitingList) (now : ℕ) (ws : List Waiting) → unwrap_or (greatest (map (due_of q) ws)) 0 ≤ now → AllByRecursion (λ v. is_due q now v ≡ true) ws
all_due q now [] h = tt
all_due q now (w ∷ ws) h = (le-leb (due_of q w) now (omega (arith, h)), all_due q now ws (omega (arith, h)))

-- ---- what a filter leaves

pub filter-all : {X : Type 0} (test : X → Bool) (xs : List X) → AllByRecursion (λ x. test x ≡ true) xs → filter test xs ≡ xs
filter-all test [] h = refl
filter-all test (x ∷ xs) h = rw h.0 (ap (λ ys. x ∷ ys) (filter-all test xs h.1))

pub filter-front : {X : Type 0} (test : X → Bool) (xs : List X) (y : X) → test y ≡ false → filter test (xs ++ y ∷ []) ≡ filter test xs
filter-front test [] y h = rw h
filter-front test (x ∷ xs) y h = rw (filter-front test xs y h) refl

-- ---- the last of a list

pub split_last : {X : Type 0} (xs : List X) (x : X) → slice_get xs (length xs - 1) ≡ Some x → (front : List X) × (xs ≡ front ++ x ∷ [])
split_last [] x h = absurd (cc)
split_last (y ∷ []) x h = ([], cc)
split_last (y ∷ z ∷ zs) x h =
    let one_less : length (y ∷ z ∷ zs) - 1 ≡ suc (length (z ∷ zs) - 1) = omega arith in
    let there : slice_get (z ∷ zs) (length (z ∷ zs) - 1) ≡ Some x = rw one_less at h in
    let rest = split_last (z ∷ zs) x there in
    (y ∷ rest.0, ap (λ ys. y ∷ ys) rest.1)

-- ---- some entry is due

pub any-none : {X : Type 0} (test : X → Bool) (xs : List X) → AllByRecursion (λ x. test x ≡ false) xs → list_any test xs ≡ false
any-none test [] h = refl
any-none test (x ∷ xs) h = rw h.0 (any-none test xs h.1)

pub none-any : {X : Type 0} (test : X → Bool) (xs : List X) → list_any test xs ≡ false → AllByRecursion (λ x. test x ≡ false) xs
none-any test [] h = tt
none-any test (x ∷ xs) h =
    (elim (test x) as (λ b. test x ≡ b → (b || list_any test xs) ≡ false → AllByRecursion (λ y. test y ≡ false) (x ∷ xs)) [
      | true ↦ λ e g. absurd (cc)
      | false ↦ λ e g. (e, none-any test xs g)
    ]) refl h

-- what is not due is due later
pub later_due : (q : WaitingList) (now : ℕ) (ws : List Waiting) → AllByRecursion (λ v. is_due q now v ≡ false) ws → AllByRecursion (λ v. now < due_of q v) ws
later_due q now ws h = All-weaker (λ v. is_due q now v ≡ false) (λ v. now < due_of q v) (λ v e. leb-false (due_of q v) now e) ws h

-- by the order, the first is due if any is
pub any-first : (q : WaitingList) (now : ℕ) (w : Waiting) (ws : List Waiting) → AllByRecursion (ActsBefore w) ws → list_any (is_due q now) (w ∷ ws) ≡ is_due q now w
any-first q now w ws after =
    (elim (is_due q now w) as (λ b. is_due q now w ≡ b → (b || list_any (is_due q now) ws) ≡ b) [
      | true ↦ λ e. refl
      | false ↦ λ e. any-none (is_due q now) ws ((not_due q now (w ∷ ws) (none_due q now w ws after (leb-false (due_of q w) now e))).1)
    ]) refl
