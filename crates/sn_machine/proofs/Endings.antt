-- The end of a job keeps what holds between two steps.
use Rattle.std.proofs.Common.{◌≡◌, ◌≢◌, ℕ, suc, ◌+◌, ◌^◌, ◌<◌, ◌≤◌, Bool, true, false, ◌&&◌, eqb, List, [], ◌∷◌, length, get_or, set, sym, refl, ap, ◌∙◌, subst, ⊎_elim, inl, inr, arith, length-set, get_or-set_same, get_or-set_other}
use Rattle.std.specs.Prelude.{Contains}
use Rattle.std.proofs.lemmas.Bool.{cases_Bool, cases_eq, eq-eqb, ne_eqb, and_parts, and_from, and_left, and_right, false_from_ne_true}
use Rattle.std.proofs.lemmas.List.Elements.{Contains-append_left, Contains-push, Contains-push_cases}
use Rattle.sn_mem.specs.Words.{writes}
use Rattle.sn_round.specs.declared.jobs.Job.{Job}
use Rattle.sn_machine.specs.declared.views.View.{View}
use Rattle.sn_round.specs.Jobs.{foot_at, predecessors, successors}
use Rattle.sn_round.specs.Scripts.{word_at}
use Rattle.sn_machine.specs.States.{State, ENDED, is_claimed, is_ended, has_begun, At, RunsJob}
use Rattle.sn_machine.specs.Steps.{CanEnd, debts_of, ended_view, after_end}
use Rattle.sn_machine.specs.Rule.{tally, total, owing, owing_pair, DebtsHold, ClaimsHold, BegunHold, PicturesHold, level_of, SettledHold, IsBlank, live_of, Knows, ViewsHold, InRound, Between, RoundHolds}
use Rattle.sn_machine.proofs.Forms.{in_order, sound, occurs}
use Rattle.sn_machine.proofs.Sweeps.{sweep_learns}
use Rattle.sn_machine.proofs.Replaced.{first_stays, at_set, set_here, set_else, same_at, each_set, total_set, total_same}
use Rattle.sn_machine.proofs.Levels.{level_is, level_same}
use Rattle.sn_machine.proofs.Orders.{both_ways, begun_claimed, begun_ended, claimed_unended, lower_ended}
use Rattle.sn_machine.proofs.Counts.{claimed_else, ended_else, begun_else, claimed_is, ended_is}
use Rattle.sn_machine.proofs.Waits.{same_job, no_run}
use Rattle.sn_machine.proofs.Claims.{main_stays, known_stays}
use Rattle.sn_machine.proofs.Stores.{touches_written}
use Rattle.sn_machine.proofs.Owing.{contains_tally, tally_zero, times_contains, times_zero, waiting_end, total_zero, times_successors, successors_below, successors_once, owing_all, owing_one, owing_none, contains_pair}

module _ (s : State) (r : InRound s) (id : ℕ) (v : View) (j : ℕ) (picture : List ℕ) (at : At s.views id v) (can : CanEnd v j picture) where
  abbrev pub now : List ℕ
  now = set s.counts j ENDED

  abbrev pub w : View
  w = ended_view v j

  abbrev pub views' : List View
  views' = set s.views id w

  runs_j : (v.worker.live ≡ true) × (j < length r.jobs) × (is_claimed s.counts j ≡ true) × (v.worker.debts ≡ [])
  runs_j = r.claims.runner id v j picture at can.runs

  same_jobs : v.worker.jobs ≡ r.jobs
  same_jobs = (r.seats.live id v at runs_j.0).0

  same_script : v.worker.script ≡ r.script
  same_script = (r.seats.live id v at runs_j.0).1

  has_word : j < length s.counts
  has_word = let a = runs_j.1 in let b = r.plan.roomy in omega arith

  ended_now : is_ended now j ≡ true
  ended_now = ended_is now j ENDED (get_or-set_same s.counts j ENDED 0 has_word)

  unclaimed_now : is_claimed now j ≡ false
  unclaimed_now = claimed_is now j ENDED (get_or-set_same s.counts j ENDED 0 has_word)

  unended : is_ended s.counts j ≡ false
  unended = claimed_unended s.counts j runs_j.2

  more : (k : ℕ) → is_ended s.counts k ≡ true → is_ended now k ≡ true
  more k h = ⊎_elim (λ (e : k ≡ j). ap (is_ended now) e ∙ ended_now) (λ (d : k ≡ j → ⊥). ended_else s.counts j ENDED k d ∙ h) (cases_eq k j)

  -- a job that is claimed afterwards is another, and was claimed
  still : (k : ℕ) → is_claimed now k ≡ true → (k ≢ j) × (is_claimed s.counts k ≡ true)
  still k c = let d : k ≢ j = λ e. both_ways (is_claimed now j) (ap (is_claimed now) (sym e) ∙ c) unclaimed_now in (d, sym (claimed_else s.counts j ENDED k d) ∙ c)

  its_debts : w.worker.debts ≡ debts_of j (successors r.jobs j)
  its_debts = ap (λ (js : List Job). debts_of j (successors js j)) same_jobs

  single : (q : ℕ) → occurs q (successors r.jobs j) ≤ 1
  single q = successors_once r.jobs j q

  old_owing : (q : ℕ) → owing q v ≡ 0
  old_owing q = ap (λ (ds : List (ℕ × ℕ)). tally (λ (d : ℕ × ℕ). eqb d.1 q) ds) runs_j.3

  old_pair : (p q : ℕ) → owing_pair p q v ≡ 0
  old_pair p q = ap (λ (ds : List (ℕ × ℕ)). tally (λ (d : ℕ × ℕ). eqb d.0 p && eqb d.1 q) ds) runs_j.3

  new_owing : (q : ℕ) → q < length r.jobs → owing q w ≡ occurs j (predecessors r.jobs q)
  new_owing q l = ap (λ (ds : List (ℕ × ℕ)). tally (λ (d : ℕ × ℕ). eqb d.1 q) ds) its_debts ∙ (owing_all j q (successors r.jobs j) ∙ times_successors r.jobs j q l (((in_order r.jobs r.plan.order) q l).1 j))

  all_owing : (q : ℕ) → q < length r.jobs → total (owing q) views' ≡ total (owing q) s.views + occurs j (predecessors r.jobs q)
  all_owing q l = omega (arith, total_set (owing q) s.views id v w at, old_owing q, new_owing q l)

  -- nothing is owed of j before it ends
  none_of_j : (p q : ℕ) → p ≡ j → total (owing_pair p q) s.views ≡ 0
  none_of_j p q e = total_zero (owing_pair p q) s.views (λ i u a.
      tally_zero (λ (d : ℕ × ℕ). eqb d.0 p && eqb d.1 q) u.worker.debts (λ d c.
      and_left (eqb d.0 p) (eqb d.1 q) (ne_eqb d.0 p (λ h. both_ways (is_ended s.counts j) (subst (λ k. is_ended s.counts k ≡ true) (h ∙ e) (r.debts.named i u d.0 d.1 a c).1) unended))))

  end_once : (p q : ℕ) → total (owing_pair p q) views' ≤ 1
  end_once p q = ⊎_elim
      (λ (e : j ≡ p).
      let new : owing_pair p q w ≤ occurs q (successors r.jobs j) = subst (λ ds. tally (λ (d : ℕ × ℕ). eqb d.0 p && eqb d.1 q) ds ≤ occurs q (successors r.jobs j)) (sym its_debts) (owing_one j p q (successors r.jobs j)) in
      omega (arith, total_set (owing_pair p q) s.views id v w at, none_of_j p q (sym e), old_pair p q, single q))
      (λ (d : j ≡ p → ⊥).
      let new : owing_pair p q w ≡ 0 = ap (λ (ds : List (ℕ × ℕ)). tally (λ (d : ℕ × ℕ). eqb d.0 p && eqb d.1 q) ds) its_debts ∙ owing_none j p q (successors r.jobs j) d in
      omega (arith, total_set (owing_pair p q) s.views id v w at, old_pair p q, r.debts.once p q))
      (cases_eq j p)

  end_debts : DebtsHold r.jobs now views'
  end_debts = record {
    once = end_once;
    named = λ i u p q a c. each_set (λ i (u : View). Contains u.worker.debts (p, q) → (q < length r.jobs) × (is_ended now p ≡ true) × Contains (predecessors r.jobs q) p) s.views id w
        (λ c. mine p q c) (λ i u n a c. let h = r.debts.named i u p q a c in (h.0, more p h.1, h.2)) i u a c;
    counted = λ q l h.
        let d = other q h in
        let h' = sym (begun_else s.counts j ENDED q d) ∙ h in
        let e = get_or-set_other s.counts j q ENDED 0 d in
        omega (arith, e, r.debts.counted q l h', waiting_end (is_ended s.counts) (is_ended now) j (predecessors r.jobs q) unended ended_now (λ k n. ended_else s.counts j ENDED k n), all_owing q l);
    small = λ q l h. let d = other q h in subst (λ n. n < 2 ^ 32) (sym (get_or-set_other s.counts j q ENDED 0 d)) (r.debts.small q l (sym (begun_else s.counts j ENDED q d) ∙ h));
  }
    where
      other : (q : ℕ) → has_begun now q ≡ false → q ≢ j
      other q h e = both_ways (has_begun now j) (begun_ended now j ended_now) (ap (has_begun now) (sym e) ∙ h)

      mine : (p q : ℕ) → Contains w.worker.debts (p, q) → (q < length r.jobs) × (is_ended now p ≡ true) × Contains (predecessors r.jobs q) p
      mine p q c =
          let h = contains_pair j (successors r.jobs j) (p, q) (subst (λ ds. Contains ds (p, q)) its_debts c) in
          let l = successors_below r.jobs j q h.1 in
          let t = times_successors r.jobs j q l (((in_order r.jobs r.plan.order) q l).1 j) in
          let some = contains_tally (λ y. eqb y q) (successors r.jobs j) q h.1 (eq-eqb q q refl) in
          (l, ap (is_ended now) (sym h.0) ∙ ended_now, subst (λ k. Contains (predecessors r.jobs q) k) h.0 (times_contains (predecessors r.jobs q) j (omega arith)))

  end_claims : ClaimsHold r.jobs now views'
  end_claims = record {
    has_runner = λ k l c.
        let h = r.claims.has_runner k l (still k c).1 in
        let apart : h.0 ≢ id = λ e. (still k c).0 (same_job v.worker.runs k j h.2 picture (ap (λ (y : View). y.worker.runs) (same_at s.views id v h.1 at (subst (λ m. At s.views m h.1) e h.3)) ∙ h.4) can.runs) in
        (h.0, h.1, h.2, set_else s.views id h.0 w apart ∙ h.3, h.4);
    runner = λ i u k p a runs. each_set (λ i (u : View). RunsJob u k p → (u.worker.live ≡ true) × (k < length r.jobs) × (is_claimed now k ≡ true) × (u.worker.debts ≡ [])) s.views id w
        (λ runs. absurd (no_run w k p refl runs))
        (λ i u n a runs.
        let h = r.claims.runner i u k p a runs in
        let d : k ≢ j = λ e. n (r.claims.alone i id k u v p picture a at runs (subst (λ m. RunsJob v m picture) (sym e) can.runs)) in
        (h.0, h.1, claimed_else s.counts j ENDED k d ∙ h.2, h.3))
        i u a runs;
    alone = λ i k m u y p q a b ru ry. r.claims.alone i k m u y p q (was i u m p a ru) (was k y m q b ry) ru ry;
  }
    where
      was : (i : ℕ) (u : View) (m : ℕ) (p : List ℕ) → At views' i u → RunsJob u m p → At s.views i u
      was i u m p a ru = ⊎_elim (λ (t : (i ≡ id) × (w ≡ u)). absurd (no_run w m p refl (ap (λ (y : View). y.worker.runs) t.1 ∙ ru))) (λ (t : (i ≢ id) × At s.views i u). t.1) (at_set s.views id i w u a)

  end_begun : BegunHold r.jobs now views'
  end_begun = record {
    before = λ k p l h c. more p (⊎_elim
        (λ (e : k ≡ j). r.begun.before j p runs_j.1 (begun_claimed s.counts j runs_j.2) (subst (λ m. Contains (predecessors r.jobs m) p) e c))
        (λ (d : k ≡ j → ⊥). r.begun.before k p l (sym (begun_else s.counts j ENDED k d) ∙ h) c)
        (cases_eq k j));
    unowed = λ k l h. ⊎_elim
        (λ (e : k ≡ j).
        let z = times_zero (predecessors r.jobs k) j (λ c. let x : j < k = ((in_order r.jobs r.plan.order) k l).0 j c in omega arith) in
        let o = r.begun.unowed k l (ap (has_begun s.counts) e ∙ begun_claimed s.counts j runs_j.2) in
        omega (arith, all_owing k l))
        (λ (d : k ≡ j → ⊥).
        let old = sym (begun_else s.counts j ENDED k d) ∙ h in
        let z = times_zero (predecessors r.jobs k) j (λ c. both_ways (is_ended s.counts j) (r.begun.before k j l old c) unended) in
        let o = r.begun.unowed k l old in
        omega (arith, all_owing k l))
        (cases_eq k j);
  }

  end_pictures : PicturesHold r.jobs r.script s.memory views'
  end_pictures = record {
    wide = λ i u k p a runs. each_set (λ i (u : View). RunsJob u k p → length p ≡ length s.memory) s.views id w (λ runs. absurd (no_run w k p refl runs)) (λ i u n a runs. r.pictures.wide i u k p a runs) i u a runs;
    inside = λ i u k p x a runs t. each_set (λ i (u : View). RunsJob u k p → get_or p x 0 ≡ get_or s.memory x 0) s.views id w (λ runs. absurd (no_run w k p refl runs)) (λ i u n a runs. r.pictures.inside i u k p x a runs t) i u a runs;
    outside = λ i u k p x a runs t. each_set (λ i (u : View). RunsJob u k p → get_or p x 0 ≡ word_at r.script k x) s.views id w (λ runs. absurd (no_run w k p refl runs)) (λ i u n a runs. r.pictures.outside i u k p x a runs t) i u a runs;
  }

  abbrev last_of : ℕ → ℕ → Bool
  last_of x k = is_ended now k && writes (foot_at r.jobs k) x

  -- no later job that has ended writes a word which j writes
  none_above : (x k : ℕ) → writes (foot_at r.jobs j) x ≡ true → j < k → k < length r.jobs → last_of x k ≡ false
  none_above x k wr a l = false_from_ne_true (last_of x k) (λ both.
      let p = and_parts (is_ended now k) (writes (foot_at r.jobs k) x) both in
      let old = sym (ended_else s.counts j ENDED k (λ e. omega arith)) ∙ p.0 in
      both_ways (is_ended s.counts j) (lower_ended r.jobs s.counts s.views (in_order r.jobs r.plan.order) (sound r.jobs r.plan.order r.plan.free) r.begun j k x a l (inl (wr, touches_written (foot_at r.jobs k) x p.1)) (begun_ended s.counts k old)) unended)

  end_settled : SettledHold r.jobs r.script s.memory now
  end_settled x l h = ⊎_elim
      (λ (wr : writes (foot_at r.jobs j) x ≡ true).
      let top : level_of r.jobs (is_ended now) x ≡ suc j = level_is (last_of x) (length r.jobs) j runs_j.1 (and_from (is_ended now j) (writes (foot_at r.jobs j) x) ended_now wr) (λ k a b. none_above x k wr a b) in
      let next : j + 1 ≡ suc j = omega arith in
      sym (r.pictures.inside id v j picture x at can.runs (touches_written (foot_at r.jobs j) x wr))
      ∙ (can.done x (subst (λ (js : List Job). writes (foot_at js j) x ≡ true) (sym same_jobs) wr)
      ∙ (ap (λ sc. word_at sc (j + 1) x) same_script ∙ ap (λ k. word_at r.script k x) (next ∙ sym top))))
      (λ (no : writes (foot_at r.jobs j) x ≡ false).
      let same : level_of r.jobs (is_ended s.counts) x ≡ level_of r.jobs (is_ended now) x =
      level_same (λ k. is_ended s.counts k && writes (foot_at r.jobs k) x) (last_of x) (length r.jobs) (λ k l. ⊎_elim
      (λ (e : k ≡ j). let n : writes (foot_at r.jobs k) x ≡ false = ap (λ m. writes (foot_at r.jobs m) x) e ∙ no in and_right (is_ended s.counts k) (writes (foot_at r.jobs k) x) n ∙ sym (and_right (is_ended now k) (writes (foot_at r.jobs k) x) n))
      (λ (d : k ≡ j → ⊥). λ i. sym (ended_else s.counts j ENDED k d) i && writes (foot_at r.jobs k) x)
      (cases_eq k j)) in
      r.settled x l (λ k m c. ⊎_elim
      (λ (e : k ≡ j). ap (λ m. writes (foot_at r.jobs m) x) e ∙ no)
      (λ (d : k ≡ j → ⊥). h k m (claimed_else s.counts j ENDED k d ∙ c))
      (cases_eq k j))
      ∙ ap (λ k. word_at r.script k x) same)
      (cases_Bool (writes (foot_at r.jobs j) x))

  end_seats : ViewsHold r.jobs r.script now views' r.main
  end_seats = record {
    live = λ i u a h. each_set (λ i (u : View). u.worker.live ≡ true → (u.worker.jobs ≡ r.jobs) × (u.worker.script ≡ r.script)) s.views id w (λ h. (same_jobs, same_script)) (λ i u n a h. r.seats.live i u a h) i u a h;
    first = first_stays s.views id v w at refl r.seats.first;
    number = total_same live_of s.views id v w at refl ∙ r.seats.number;
    others = λ i u b h. each_set (λ i (u : View). i ≢ 0 → u.main.ended ≡ []) s.views id w (λ h. r.seats.others id v at h) (λ i u n b h. r.seats.others i u b h) i u b h;
    dead = λ i u a h. each_set (λ i (u : View). u.worker.live ≡ false → IsBlank u.worker) s.views id w (λ h. absurd (both_ways v.worker.live runs_j.0 h)) (λ i u n a h. r.seats.dead i u a h) i u a h;
    known = λ k l h. ⊎_elim
        (λ (e : k ≡ j). (id, w, set_here s.views id w v at, inr (subst (λ m. Contains w.worker.ended m) (sym e) (Contains-push v.worker.ended j))))
        (λ (d : k ≡ j → ⊥). known_stays s.views id v w k at (λ x. ⊎_elim (λ a. inl a) (λ b. inr (Contains-append_left v.worker.ended (j ∷ []) k b)) x) (r.seats.known k l (sym (ended_else s.counts j ENDED k d) ∙ h)))
        (cases_eq k j);
    only = λ i u k a h. each_set (λ i (u : View). Knows u k → (k < length r.jobs) × (is_ended now k ≡ true)) s.views id w (λ h. mine k h) (λ i u n a h. let o = r.seats.only i u k a h in (o.0, more k o.1)) i u a h;
  }
    where
      old : (k : ℕ) → Knows v k → (k < length r.jobs) × (is_ended now k ≡ true)
      old k h = let o = r.seats.only id v k at h in (o.0, more k o.1)

      mine : (k : ℕ) → Knows w k → (k < length r.jobs) × (is_ended now k ≡ true)
      mine k (inl a) = old k (inl a)
      mine k (inr b) = ⊎_elim (λ c. old k (inr c)) (λ (e : j ≡ k). (subst (λ m. m < length r.jobs) e runs_j.1, subst (λ m. is_ended now m ≡ true) e ended_now)) (Contains-push_cases v.worker.ended j k b)

  pub end_round : InRound (after_end s id v j)
  end_round = record {
    main = r.main;
    jobs = r.jobs;
    script = r.script;
    crew = r.crew;
    at_go = r.at_go;
    has_main = main_stays s.views id v w r.main at refl r.has_main;
    phase = r.phase;
    debts = end_debts;
    claims = end_claims;
    begun = end_begun;
    pictures = end_pictures;
    settled = end_settled;
    seats = end_seats;
    sweep = sweep_learns r.jobs (is_ended s.counts) (is_ended now) s.views r.main id v w j at runs_j.0 refl refl refl (λ k d. ended_else s.counts j ENDED k d) r.sweep;
    rest = record { as_long = length-set s.counts j ENDED ∙ r.rest.as_long; same = λ k l. get_or-set_other s.counts j k ENDED 0 (λ e. let m = runs_j.1 in omega arith) ∙ r.rest.same k l };
    plan = record {
      order = r.plan.order;
      free = r.plan.free;
      within = r.plan.within;
      roomy = let m = r.plan.roomy in omega (arith, length-set s.counts j ENDED);
      is_script = r.plan.is_script;
    };
  }

-- the end of a job keeps what holds between two steps
pub end_keeps : (s : State) (id : ℕ) (v : View) (j : ℕ) (picture : List ℕ) → RoundHolds s → At s.views id v → CanEnd v j picture → RoundHolds (after_end s id v j)
end_keeps s id v j picture h at can = ⊎_elim
    (λ (b : Between s). absurd (no_run v j picture (b.blank id v at).runs can.runs))
    (λ r. inr (end_round s r id v j picture at can)) h
