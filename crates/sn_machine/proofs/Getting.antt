-- Each job of a round is got at most once, and after its predecessors ended and paid.
use Rattle.std.proofs.Common.{◌≡◌, ◌⊎◌, ℕ, ◌+◌, ◌-◌, ◌<◌, ◌≤◌, Bool, true, false, ◌&&◌, cond, eqb, List, length, get_or, set, sym, refl, ap, ◌∙◌, subst, ⊎_elim, inl, inr, arith, get_or-set_same}
use Rattle.std.specs.Prelude.{Contains}
use Rattle.std.proofs.lemmas.Bool.{cases_Bool, cases_eq, and_parts, eq-eqb, eqb-true, cond-true, cond-false, false_from_ne_true}
use lib.Seq.{set-get_or}
use Rattle.sn_round.specs.declared.jobs.Job.{Job}
use Rattle.sn_machine.specs.declared.views.View.{View}
use Rattle.sn_machine.specs.declared.views.Main.{Main}
use Rattle.sn_machine.specs.declared.views.Phase.{Phase}
use Rattle.sn_machine.specs.declared.views.Phase.TheVariants.{Idle, Round}
use Rattle.sn_round.specs.Jobs.{predecessors}
use Rattle.sn_machine.specs.States.{State, CLAIMED, ENDED, is_ended, has_begun, At, jobs_in, script_in, crew_in, counts_in}
use Rattle.sn_machine.specs.Steps.{Step, idle_store, arm, idle_load, go, claim, load, store, «end», release, rest, split, join, look, Reaches, none, then, CanClaim, claim_word, set_memory, set_count, rested_view}
use Rattle.sn_machine.specs.Rule.{owing, InRound, Between, RoundHolds}
use Rattle.sn_machine.specs.History.{begins, gets, gots}
use Rattle.sn_machine.proofs.Replaced.{set_here, same_at, total_le}
use Rattle.sn_machine.proofs.Orders.{both_ways, begun_claimed, begun_ended}
use Rattle.sn_machine.proofs.Counts.{begun_else, claimed_is, ended_is, unbegun}
use Rattle.sn_machine.proofs.Waits.{no_run}
use Rattle.sn_machine.proofs.Owing.{contains_tally, middle_none}
use Rattle.sn_machine.proofs.Claims.{idle_dead, ready, free}
use Rattle.sn_machine.proofs.Releases.{unbegun_owed}
use Rattle.sn_machine.proofs.Mainly.{idle_round}
use Rattle.sn_machine.proofs.Reaching.{run_keeps}

-- a job that is got waits for nothing
pub got_ready : (s : State) (id : ℕ) (v : View) (j : ℕ) → RoundHolds s → At s.views id v → CanClaim v j → get_or s.counts j 0 ≡ 0
    → (p : ℕ) → Contains (predecessors v.worker.jobs j) p → (is_ended s.counts p ≡ true) × ((i : ℕ) (u : View) → At s.views i u → Contains u.worker.debts (p, j) → ⊥)
got_ready s id v j h at can word p c = ⊎_elim
    (λ b. absurd (idle_dead s id v b at can.live))
    (λ (r : InRound s). (
      ready s r id v j at can word p (subst (λ (js : List Job). Contains (predecessors js j) p) (r.seats.live id v at can.live).0 c),
      λ i u a d. let some = contains_tally (λ (x : ℕ × ℕ). eqb x.1 j) u.worker.debts (p, j) d (eq-eqb j j refl) in omega (arith, some, total_le (owing j) s.views i u a, (free s r id v j at can word).1),
    ))
    h

-- a round runs or not
apart : (s : State) → Between s → InRound s → ⊥
apart s b r =
    let e : ◌≡◌ {A = Phase} (Idle s.memory s.counts) (Round r.jobs r.script r.crew r.at_go) =
    sym b.phase ∙ (ap (λ (y : Main). y.phase) (sym b.has_main.2) ∙ (ap (λ (y : View). y.main.phase) (same_at s.views 0 b.has_main.0 r.has_main.0 b.has_main.1 r.has_main.1) ∙ (ap (λ (y : Main). y.phase) r.has_main.2 ∙ r.phase))) in
    cc

-- a round runs after a step only if it ran before, or begins
pub ran : {s t : State} → (x : Step s t) → begins x ≡ false → RoundHolds s → InRound t → InRound s
ran (idle_store s m x a at i) n h t = absurd (idle_round _ (set_memory m x a) t (set_here s.views 0 (set_memory m x a) m at) refl)
ran (arm s m j a at i) n h t = absurd (idle_round _ (set_count m j a) t (set_here s.views 0 (set_count m j a) m at) refl)
ran (idle_load s m at i) n h t = t
ran (go s m jobs script at can) n h t = absurd cc
ran (claim s id v j at can) n h t = ⊎_elim (λ b. absurd (idle_dead s id v b at can.live)) (λ r. r) h
ran (load s id v j picture x at can) n h t = t
ran (store s id v j picture x a at can) n h t = ⊎_elim (λ (b : Between s). absurd (no_run v j picture (b.blank id v at).runs can.runs)) (λ r. r) h
ran («end» s id v j picture at can) n h t = ⊎_elim (λ (b : Between s). absurd (no_run v j picture (b.blank id v at).runs can.runs)) (λ r. r) h
ran (release s id v front p q back at owes) n h t = ⊎_elim (λ (b : Between s). absurd (middle_none front (p, q) back (sym owes ∙ (b.blank id v at).debts))) (λ r. r) h
ran (rest s m at can) n h t = absurd (idle_round _ (rested_view m) t (set_here s.views 0 (rested_view m) m at) refl)
ran (split s m at can) n h t = ⊎_elim
    (λ (b : Between s).
    let e : ◌≡◌ {A = Phase} (Idle s.memory s.counts) (Round (jobs_in m.main.phase) (script_in m.main.phase) (crew_in m.main.phase) (counts_in m.main.phase)) =
    sym b.phase ∙ (ap (λ (y : Main). y.phase) (sym b.has_main.2) ∙ (ap (λ (y : View). y.main.phase) (same_at s.views 0 b.has_main.0 m b.has_main.1 at) ∙ can.running)) in
    absurd (cc))
    (λ r. r) h
ran (join s m other v at apart there can) n h t = ⊎_elim (λ b. absurd (idle_dead s other v b there can.live)) (λ r. r) h
ran (look s id v j at live) n h t = ⊎_elim (λ b. absurd (idle_dead s id v b at live)) (λ r. r) h

-- a word that is not 0 stays at a claim
claim_stays : (counts : List ℕ) (j k : ℕ) → has_begun counts k ≡ true → has_begun (set counts j (claim_word (get_or counts j 0))) k ≡ true
claim_stays counts j k h = ⊎_elim
    (λ (e : k ≡ j).
    let word : ℕ = get_or counts j 0 in
    let some : eqb word 0 ≡ false = false_from_ne_true (eqb word 0) (λ z. both_ways (has_begun counts j) (subst (λ m. has_begun counts m ≡ true) e h) (unbegun counts j 0 (eqb-true word 0 z) (omega arith))) in
    let same : set counts j (claim_word word) ≡ counts = ap (set counts j) (cond-false (eqb word 0) CLAIMED word some) ∙ set-get_or counts j 0 in
    ap (λ (cs : List ℕ). has_begun cs k) same ∙ h)
    (λ (d : k ≡ j → ⊥). begun_else counts j (claim_word (get_or counts j 0)) k d ∙ h)
    (cases_eq k j)

end_stays : (counts : List ℕ) (j k : ℕ) → j < length counts → has_begun counts k ≡ true → has_begun (set counts j ENDED) k ≡ true
end_stays counts j k l h = ⊎_elim
    (λ (e : k ≡ j). ap (has_begun (set counts j ENDED)) e ∙ begun_ended (set counts j ENDED) j (ended_is (set counts j ENDED) j ENDED (get_or-set_same counts j ENDED 0 l)))
    (λ (d : k ≡ j → ⊥). begun_else counts j ENDED k d ∙ h)
    (cases_eq k j)

-- a job that has begun has begun after each step of the round
pub begun_stays : {s t : State} → (x : Step s t) → begins x ≡ false → InRound s → InRound t → (k : ℕ) → has_begun s.counts k ≡ true → has_begun t.counts k ≡ true
begun_stays (idle_store s m x a at i) n r t k h = absurd (idle_round s m r at i)
begun_stays (arm s m j a at i) n r t k h = absurd (idle_round s m r at i)
begun_stays (idle_load s m at i) n r t k h = h
begun_stays (go s m jobs script at can) n r t k h = absurd cc
begun_stays (claim s id v j at can) n r t k h = claim_stays s.counts j k h
begun_stays (load s id v j picture x at can) n r t k h = h
begun_stays (store s id v j picture x a at can) n r t k h = h
begun_stays («end» s id v j picture at can) n r t k h = end_stays s.counts j k (let l = (r.claims.runner id v j picture at can.runs).1 in let w = r.plan.roomy in omega (arith, l, w)) h
begun_stays (release s id v front p q back at owes) n r t k h = ⊎_elim
    (λ (e : k ≡ q). absurd (both_ways (has_begun s.counts q) (subst (λ m. has_begun s.counts m ≡ true) e h) (unbegun_owed s id v front p q back r at owes)))
    (λ (d : k ≡ q → ⊥). begun_else s.counts q (get_or s.counts q 0 - 1) k d ∙ h)
    (cases_eq k q)
begun_stays (rest s m at can) n r t k h = absurd (idle_round _ (rested_view m) t (set_here s.views 0 (rested_view m) m at) refl)
begun_stays (split s m at can) n r t k h = h
begun_stays (join s m other v at apart there can) n r t k h = h
begun_stays (look s id v j at live) n r t k h = h

-- a step that gets a job finds that it has not begun, and begins it
abbrev Gets : State → State → ℕ → Type 0
Gets s t k = (has_begun s.counts k ≡ false) × (has_begun t.counts k ≡ true)

got_here : (s : State) (r : InRound s) (id : ℕ) (v : View) (j k : ℕ) → At s.views id v → CanClaim v j → j ≡ k → get_or s.counts j 0 ≡ 0
    → (has_begun s.counts k ≡ false) × (has_begun (set s.counts j (claim_word (get_or s.counts j 0))) k ≡ true)
got_here s r id v j k at can e word =
    let l : j < length s.counts = let a = subst (λ (js : List Job). j < length js) (r.seats.live id v at can.live).0 can.job in let b = r.plan.roomy in omega (arith, a, b) in
    let yes : eqb (get_or s.counts j 0) 0 ≡ true = eq-eqb (get_or s.counts j 0) 0 word in
    let is : claim_word (get_or s.counts j 0) ≡ CLAIMED = cond-true (eqb (get_or s.counts j 0) 0) CLAIMED (get_or s.counts j 0) yes in
    let now : has_begun (set s.counts j CLAIMED) j ≡ true = begun_claimed (set s.counts j CLAIMED) j (claimed_is (set s.counts j CLAIMED) j CLAIMED (get_or-set_same s.counts j CLAIMED 0 l)) in (
      subst (λ m. has_begun s.counts m ≡ false) e (unbegun s.counts j 0 word (omega arith)),
      subst (λ m. has_begun (set s.counts j (claim_word (get_or s.counts j 0))) m ≡ true) e (ap (λ w. has_begun (set s.counts j w) j) is ∙ now),
    )

got_or_not : {s t : State} → (x : Step s t) → InRound s → (k : ℕ) → (gets x k ≡ 0) ⊎ ((gets x k ≡ 1) × Gets s t k)
got_or_not (claim s id v j at can) r k = ⊎_elim
    (λ (yes : (eqb j k && eqb (get_or s.counts j 0) 0) ≡ true).
    let parts = and_parts (eqb j k) (eqb (get_or s.counts j 0) 0) yes in
    inr (ap (λ (b : Bool). cond b 1 0) yes, got_here s r id v j k at can (eqb-true j k parts.0) (eqb-true (get_or s.counts j 0) 0 parts.1)))
    (λ (no : (eqb j k && eqb (get_or s.counts j 0) 0) ≡ false). inl (ap (λ (b : Bool). cond b 1 0) no))
    (cases_Bool (eqb j k && eqb (get_or s.counts j 0) 0))
got_or_not (idle_store s m x a at i) r k = inl refl
got_or_not (arm s m j a at i) r k = inl refl
got_or_not (idle_load s m at i) r k = inl refl
got_or_not (go s m jobs script at can) r k = inl refl
got_or_not (load s id v j picture x at can) r k = inl refl
got_or_not (store s id v j picture x a at can) r k = inl refl
got_or_not («end» s id v j picture at can) r k = inl refl
got_or_not (release s id v front p q back at owes) r k = inl refl
got_or_not (rest s m at can) r k = inl refl
got_or_not (split s m at can) r k = inl refl
got_or_not (join s m other v at apart there can) r k = inl refl
got_or_not (look s id v j at live) r k = inl refl

-- between two rounds nothing is got
not_got : {s t : State} → (x : Step s t) → Between s → (k : ℕ) → gets x k ≡ 0
not_got (claim s id v j at can) b k = absurd (idle_dead s id v b at can.live)
not_got (idle_store s m x a at i) b k = refl
not_got (arm s m j a at i) b k = refl
not_got (idle_load s m at i) b k = refl
not_got (go s m jobs script at can) b k = refl
not_got (load s id v j picture x at can) b k = refl
not_got (store s id v j picture x a at can) b k = refl
not_got («end» s id v j picture at can) b k = refl
not_got (release s id v front p q back at owes) b k = refl
not_got (rest s m at can) b k = refl
not_got (split s m at can) b k = refl
not_got (join s m other v at apart there can) b k = refl
not_got (look s id v j at live) b k = refl

begins_gets : {s t : State} → (x : Step s t) → begins x ≡ true → (k : ℕ) → gets x k ≡ 0
begins_gets (go s m jobs script at can) y k = refl
begins_gets (claim s id v j at can) y k = absurd cc
begins_gets (idle_store s m x a at i) y k = refl
begins_gets (arm s m j a at i) y k = refl
begins_gets (idle_load s m at i) y k = refl
begins_gets (load s id v j picture x at can) y k = refl
begins_gets (store s id v j picture x a at can) y k = refl
begins_gets («end» s id v j picture at can) y k = refl
begins_gets (release s id v front p q back at owes) y k = refl
begins_gets (rest s m at can) y k = refl
begins_gets (split s m at can) y k = refl
begins_gets (join s m other v at apart there can) y k = refl
begins_gets (look s id v j at live) y k = refl

abbrev Once : ℕ → State → ℕ → Type 0
Once n t k = (n ≤ 1) × (InRound t → 0 < n → has_begun t.counts k ≡ true)

once_more : {s t : State} → (x : Step s t) → RoundHolds s → (n k : ℕ) → Once n s k → begins x ≡ false → Once (n + gets x k) t k
once_more {s} {t} x (inl b) n k old still = let z = not_got x b k in (omega (arith, z, old.0), λ r some. absurd (apart s b (ran x still (inl b) r)))
once_more {s} {t} x (inr r) n k old still = ⊎_elim
    (λ (z : gets x k ≡ 0). (omega (arith, z, old.0), λ after some. begun_stays x still r after k (old.1 r (omega (arith, z, some)))))
    (λ (g : (gets x k ≡ 1) × Gets s t k).
    let none : n ≡ 0 = ⊎_elim (λ (z : n ≡ 0). z) (λ (d : n ≡ 0 → ⊥). absurd (both_ways (has_begun s.counts k) (old.1 r (omega (arith, d))) g.1.0)) (cases_eq n 0) in
    (omega (arith, none, g.0), λ after some. g.1.1))
    (got_or_not x r k)

run_once : {s t : State} → (run : Reaches s t) → RoundHolds s → (k : ℕ) → Once (gots run k) t k
run_once (none s) h k = (omega arith, λ r some. absurd (omega (arith, some)))
run_once (then s t u run x) h k = ⊎_elim
    (λ (yes : begins x ≡ true).
    let n : cond (begins x) 0 (gots run k) + gets x k ≡ 0 = let a : cond (begins x) 0 (gots run k) ≡ 0 = cond-true (begins x) 0 (gots run k) yes in omega (arith, a, begins_gets x yes k) in
    (omega (arith, n), λ r some. absurd (omega (arith, n, some))))
    (λ (no : begins x ≡ false). subst (λ n. Once (n + gets x k) u k) (sym (cond-false (begins x) 0 (gots run k) no)) (once_more x (run_keeps run h) (gots run k) k (run_once run h k) no))
    (cases_Bool (begins x))

-- each job is got at most once in a round
pub got_once : {s t : State} → (run : Reaches s t) → RoundHolds s → (k : ℕ) → gots run k ≤ 1
got_once run h k = (run_once run h k).0
