-- Extents as sets of words, lists that name a job, jobs that are ordered, words that are set one after the other, and
-- debts.
use Rattle.std.proofs.Common.{◌≡◌, ◌≢◌, ◌⊎◌, ⊎_elim, inl, inr, ℕ, zero, suc, ◌+◌, ◌<◌, Bool, true, false, ◌||◌, eqb, nat_le, nat_lt, List, [], ◌∷◌, ◌++◌, length, get_or, set, take, refl, ap, sym, subst, ◌∙◌, arith, true≢false}
use Rattle.std.specs.Prelude.{Contains}
use Rattle.std.specs.List.{list_any, list_all}
use Rattle.std.proofs.lemmas.Bool.{and_parts, or_cases, eqb-true, ltb-true, leb-true}
use Rattle.sn_mem.specs.declared.extents.Extent.{Extent}
use Rattle.sn_mem.specs.declared.extents.Foot.{Foot}
use Rattle.sn_mem.specs.Words.{Clash, covers, has, touches}
use Rattle.sn_round.specs.declared.jobs.Job.{Job}
use Rattle.sn_round.specs.Jobs.{AreJobs, IsRaceFree, Ordered, foot_at}
use Rattle.sn_machine.specs.States.{ENDED}
use Rattle.sn_machine.specs.Steps.{debts_of, ended_front}
use Rattle.sn_machine.specs.Calls.{ends_below}

pub first_holds : (a b r : Bool) → r ≡ a → r ≡ true → r ≡ (a || b)
first_holds a b r e t = t ∙ sym (ap (λ (x : Bool). x || b) (sym e ∙ t))

pub second_holds : (a b r s : Bool) → r ≡ a → r ≡ false → s ≡ b → s ≡ (a || b)
second_holds a b r s e t f = f ∙ sym (ap (λ (x : Bool). x || b) (sym e ∙ t))

below_has : (size : ℕ) (es : List Extent) → list_all (ends_below size) es ≡ true → (x : ℕ) → has es x ≡ true → x < size
below_has size [] all x h = absurd (true≢false (sym h))
below_has size (e ∷ es) all x h =
    let parts = and_parts (ends_below size e) (list_all (ends_below size) es) all in
    ⊎_elim
    (λ (c : covers e x ≡ true). let p = and_parts (nat_le e.at x) (nat_lt x (e.at + e.len)) c in omega (arith, ltb-true x (e.at + e.len) p.1, leb-true (e.at + e.len) size parts.0))
    (λ (c : has es x ≡ true). below_has size es parts.1 x c)
    (or_cases (covers e x) (has es x) h)

pub foot_below : (size : ℕ) (f : Foot) → list_all (ends_below size) f.writes ≡ true → list_all (ends_below size) f.reads ≡ true → (x : ℕ) → touches f x ≡ true → x < size
foot_below size f a b x t = ⊎_elim (λ (c : has f.writes x ≡ true). below_has size f.writes a x c) (λ (c : has f.reads x ≡ true). below_has size f.reads b x c) (or_cases (has f.writes x) (has f.reads x) t)

pub any_named : (xs : List ℕ) (j : ℕ) → list_any (λ x. eqb x j) xs ≡ true → Contains xs j
any_named [] j h = absurd (true≢false (sym h))
any_named (x ∷ xs) j h = ⊎_elim
    (λ (c : eqb x j ≡ true). (0, omega arith, eqb-true x j c))
    (λ (c : list_any (λ y. eqb y j) xs ≡ true). let r = any_named xs j c in (suc r.0, omega (arith, r.1), r.2))
    (or_cases (eqb x j) (list_any (λ y. eqb y j) xs) h)

pub no_jobs_are : (jobs : List Job) → jobs ≡ [] → AreJobs jobs
no_jobs_are jobs none = subst AreJobs (sym none) (record { few = omega arith; lower = λ i j l. absurd (omega arith); once = λ i j l. absurd (omega arith) })

clash_back : (a b : Foot) → Clash a b → Clash b a
clash_back a b (x, inl p) = (x, inr p)
clash_back a b (x, inr p) = (x, inl p)

-- it is enough to know it of the lower and the higher
pub race_free : (jobs : List Job) → ((i j : ℕ) → i < length jobs → i < j → j < length jobs → Clash (foot_at jobs i) (foot_at jobs j) → Ordered jobs i j) → IsRaceFree jobs
race_free jobs h i j l m apart clash = ⊎_elim
    (λ (up : i < j). inl (h i j l up m clash))
    (λ (down : j < i). inr (h j i m down l (clash_back (foot_at jobs i) (foot_at jobs j) clash)))
    (either_way i j apart)
  where
    either_way : (i j : ℕ) → i ≢ j → (i < j) ⊎ (j < i)
    either_way zero zero d = absurd (d refl)
    either_way zero (suc j) d = inl (omega arith)
    either_way (suc i) zero d = inr (omega arith)
    either_way (suc i) (suc j) d = ⊎_elim (λ (a : i < j). inl (omega (arith, a))) (λ (a : j < i). inr (omega (arith, a))) (either_way i j (λ e. d (ap suc e)))

next : (n : ℕ) → suc n ≡ n + 1
next n = omega arith

front_more : (n : ℕ) (counts : List ℕ) → set (ended_front n counts) n ENDED ≡ ended_front (suc n) counts
front_more zero [] = refl
front_more zero (c ∷ counts) = refl
front_more (suc n) [] = refl
front_more (suc n) (c ∷ counts) = ap (λ (cs : List ℕ). ENDED ∷ cs) (front_more n counts)

pub ended_more : (n : ℕ) (counts : List ℕ) → set (ended_front n counts) n ENDED ≡ ended_front (n + 1) counts
ended_more n counts = front_more n counts ∙ ap (λ k. ended_front k counts) (next n)

owed_more : (j : ℕ) (ss : List ℕ) (k : ℕ) → k < length ss → debts_of j (take k ss) ++ (j, get_or ss k 0) ∷ [] ≡ debts_of j (take (suc k) ss)
owed_more j [] k l = absurd (omega arith)
owed_more j (s ∷ ss) zero l = refl
owed_more j (s ∷ ss) (suc k) l = ap (λ (ds : List (ℕ × ℕ)). (j, s) ∷ ds) (owed_more j ss k (omega (arith, l)))

pub debts_more : (j : ℕ) (ss : List ℕ) (k : ℕ) → k < length ss → debts_of j (take k ss) ++ (j, get_or ss k 0) ∷ [] ≡ debts_of j (take (k + 1) ss)
debts_more j ss k l = owed_more j ss k l ∙ ap (λ n. debts_of j (take n ss)) (next k)
