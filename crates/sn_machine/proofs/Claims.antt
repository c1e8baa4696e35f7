-- A claim keeps what holds between two steps.
use Rattle.std.proofs.Common.{◌≡◌, ◌≢◌, ◌⊎◌, ℕ, ◌+◌, ◌^◌, ◌<◌, ◌≤◌, Bool, true, false, ◌&&◌, List, [], length, get_or, set, sym, refl, ap, ◌∙◌, subst, ⊎_elim, inl, inr, arith, length-set, get_or-set_same, get_or-set_other}
use Rattle.std.specs.Prelude.{Contains}
use Rattle.std.proofs.lemmas.Bool.{cases_eq, cases_order, or_parts, false_from_ne_true, and_parts, and_from}
use Rattle.sn_mem.specs.Words.{writes, touches}
use Rattle.sn_round.specs.declared.jobs.Job.{Job}
use Rattle.sn_machine.specs.declared.views.View.{View}
use Rattle.sn_machine.specs.declared.views.Main.{Main}
use Rattle.sn_round.specs.Jobs.{foot_at, predecessors}
use Rattle.sn_round.specs.Scripts.{list_at, word_at}
use Rattle.sn_machine.specs.States.{State, CLAIMED, is_claimed, is_ended, has_begun, At, RunsJob}
use Rattle.sn_machine.specs.Steps.{CanClaim, got_view}
use Rattle.sn_machine.specs.Rule.{total, owing, owing_pair, waiting, level, DebtsHold, ClaimsHold, BegunHold, PicturesHold, level_of, SettledHold, IsBlank, live_of, Knows, ViewsHold, SweepHolds, PlanHolds, HasMain, InRound, Between}
use Rattle.sn_machine.proofs.Forms.{in_order, sound}
use Rattle.sn_machine.proofs.Sweeps.{sweep_stays}
use Rattle.sn_machine.proofs.Replaced.{first_stays, at_set, set_here, set_else, same_at, each_set, total_same}
use Rattle.sn_machine.proofs.Levels.{level_bound, level_top, script_still}
use Rattle.sn_machine.proofs.Orders.{begun_claimed, begun_ended, claimed_unended, both_ways, ordered_ready, lower_ended}
use Rattle.sn_machine.proofs.Counts.{claimed_else, begun_else, claimed_is, ended_stays, unbegun}
use Rattle.sn_machine.proofs.Waits.{waiting_none, same_job, same_picture, no_run}

-- main's part stays, if the changed view keeps its own
pub main_stays : (views : List View) (id : ℕ) (v w : View) (main : Main) → At views id v → w.main ≡ v.main → HasMain views main → HasMain (set views id w) main
main_stays views id v w main at same h =
    ⊎_elim
    (λ (e : 0 ≡ id). (w, subst (λ k. At (set views id w) k w) (sym e) (set_here views id w v at), same ∙ ap (λ (y : View). y.main) (same_at views id v h.0 at (subst (λ k. At views k h.0) e h.1)) ∙ h.2))
    (λ (d : 0 ≡ id → ⊥). (h.0, set_else views id 0 w d ∙ h.1, h.2))
    (cases_eq 0 id)

-- a view between two rounds is not live
pub idle_dead : (s : State) (id : ℕ) (v : View) → Between s → At s.views id v → v.worker.live ≡ true → ⊥
idle_dead s id v b at live = both_ways v.worker.live live (b.blank id v at).dead

-- what is known of some view stays known if the changed view knows as much
pub known_stays : (views : List View) (id : ℕ) (v w : View) (j : ℕ) → At views id v → (Knows v j → Knows w j) → (i : ℕ) × (u : View) × At views i u × Knows u j → (i : ℕ) × (u : View) × At (set views id w) i u × Knows u j
known_stays views id v w j at more h =
    ⊎_elim
    (λ (e : h.0 ≡ id). (id, w, set_here views id w v at, more (subst (λ (u : View). Knows u j) (same_at views id h.1 v (subst (λ k. At views k h.1) e h.2) at) h.3)))
    (λ (d : h.0 ≡ id → ⊥). (h.0, h.1, set_else views id h.0 w d ∙ h.2, h.3))
    (cases_eq h.0 id)

module _ (s : State) (r : InRound s) (id : ℕ) (v : View) (j : ℕ) (at : At s.views id v) (can : CanClaim v j) (word : get_or s.counts j 0 ≡ 0) where
  abbrev pub now : List ℕ
  now = set s.counts j CLAIMED

  abbrev pub w : View
  w = got_view v j

  abbrev pub views' : List View
  views' = set s.views id w

  same_jobs : v.worker.jobs ≡ r.jobs
  same_jobs = (r.seats.live id v at can.live).0

  same_script : v.worker.script ≡ r.script
  same_script = (r.seats.live id v at can.live).1

  inside : j < length r.jobs
  inside = subst (λ (js : List Job). j < length js) same_jobs can.job

  has_word : j < length s.counts
  has_word = let a = inside in let b = r.plan.roomy in omega arith

  fresh : has_begun s.counts j ≡ false
  fresh = unbegun s.counts j 0 word (omega arith)

  unended : is_ended s.counts j ≡ false
  unended = (or_parts (is_claimed s.counts j) (is_ended s.counts j) fresh).1

  unclaimed : is_claimed s.counts j ≡ false
  unclaimed = (or_parts (is_claimed s.counts j) (is_ended s.counts j) fresh).0

  same_ended : is_ended now ≡ is_ended s.counts
  same_ended = ended_stays s.counts j CLAIMED has_word unended (λ e. omega arith)

  now_claimed : is_claimed now j ≡ true
  now_claimed = claimed_is now j CLAIMED (get_or-set_same s.counts j CLAIMED 0 has_word)

  -- nothing waits for j
  pub free : (waiting (is_ended s.counts) (predecessors r.jobs j) ≡ 0) × (total (owing j) s.views ≡ 0)
  free = let e = r.debts.counted j inside fresh in (omega arith, omega arith)

  pub ready : (p : ℕ) → Contains (predecessors r.jobs j) p → is_ended s.counts p ≡ true
  ready p c = waiting_none (is_ended s.counts) (predecessors r.jobs j) p free.0 c

  -- the word of another job is as it was
  other : (k : ℕ) → is_claimed s.counts k ≡ true → k ≢ j
  other k c e = both_ways (is_claimed s.counts k) c (ap (is_claimed s.counts) e ∙ unclaimed)

  old_owing : (k : ℕ) → total (owing k) views' ≡ total (owing k) s.views
  old_owing k = total_same (owing k) s.views id v w at refl

  got_debts : DebtsHold r.jobs now views'
  got_debts = record {
    once = λ p q. subst (λ n. n ≤ 1) (sym (total_same (owing_pair p q) s.views id v w at refl)) (r.debts.once p q);
    named = λ i u p q a c. subst (λ (e : ℕ → Bool). (q < length r.jobs) × (e p ≡ true) × Contains (predecessors r.jobs q) p) (sym same_ended)
        (each_set (λ i (u : View). Contains u.worker.debts (p, q) → (q < length r.jobs) × (is_ended s.counts p ≡ true) × Contains (predecessors r.jobs q) p) s.views id w
        (λ c. r.debts.named id v p q at c) (λ i u n e c. r.debts.named i u p q e c) i u a c);
    counted = λ q l h.
        let d : q ≢ j = λ e. both_ways (has_begun now j) (begun_claimed now j now_claimed) (ap (has_begun now) (sym e) ∙ h) in
        get_or-set_other s.counts j q CLAIMED 0 d ∙ r.debts.counted q l (sym (begun_else s.counts j CLAIMED q d) ∙ h)
        ∙ (λ i. waiting (sym same_ended i) (predecessors r.jobs q) + sym (old_owing q) i);
    small = λ q l h.
        let d : q ≢ j = λ e. both_ways (has_begun now j) (begun_claimed now j now_claimed) (ap (has_begun now) (sym e) ∙ h) in
        subst (λ n. n < 2 ^ 32) (sym (get_or-set_other s.counts j q CLAIMED 0 d)) (r.debts.small q l (sym (begun_else s.counts j CLAIMED q d) ∙ h));
  }

  got_runs : RunsJob w j (list_at v.worker.script j)
  got_runs = refl

  got_claims : ClaimsHold r.jobs now views'
  got_claims = record {
    has_runner = λ k l c.
        ⊎_elim
        (λ (e : k ≡ j). (id, w, list_at v.worker.script j, set_here s.views id w v at, subst (λ m. RunsJob w m (list_at v.worker.script j)) (sym e) got_runs))
        (λ (d : k ≡ j → ⊥).
        let h = r.claims.has_runner k l (sym (claimed_else s.counts j CLAIMED k d) ∙ c) in
        let apart : h.0 ≢ id = λ e. no_run v k h.2 can.runs (subst (λ (u : View). RunsJob u k h.2) (same_at s.views id h.1 v (subst (λ m. At s.views m h.1) e h.3) at) h.4) in
        (h.0, h.1, h.2, set_else s.views id h.0 w apart ∙ h.3, h.4))
        (cases_eq k j);
    runner = λ i u k p a runs. each_set (λ i (u : View). RunsJob u k p → (u.worker.live ≡ true) × (k < length r.jobs) × (is_claimed now k ≡ true) × (u.worker.debts ≡ [])) s.views id w
        (λ runs. let e = same_job w.worker.runs j k (list_at v.worker.script j) p got_runs runs in
        (can.live, subst (λ m. m < length r.jobs) e inside, subst (λ m. is_claimed now m ≡ true) e now_claimed, can.debts))
        (λ i u n a runs. let h = r.claims.runner i u k p a runs in (h.0, h.1, claimed_else s.counts j CLAIMED k (other k h.2) ∙ h.2, h.3))
        i u a runs;
    alone = λ i k m u x p q a b ru rx. one i k m u x p q (at_set s.views id i w u a) (at_set s.views id k w x b) ru rx;
  }
    where
      mine : (i m : ℕ) (u : View) (p q : List ℕ) → At s.views i u → RunsJob u m p → RunsJob w m q → ⊥
      mine i m u p q a ru rw' = other m (r.claims.runner i u m p a ru).2 (sym (same_job w.worker.runs j m (list_at v.worker.script j) q got_runs rw'))

      one : (i k m : ℕ) (u x : View) (p q : List ℕ) → ((i ≡ id) × (w ≡ u)) ⊎ ((i ≢ id) × At s.views i u) → ((k ≡ id) × (w ≡ x)) ⊎ ((k ≢ id) × At s.views k x) → RunsJob u m p → RunsJob x m q → i ≡ k
      one i k m u x p q (inl a) (inl b) ru rx = a.0 ∙ sym b.0
      one i k m u x p q (inl a) (inr b) ru rx = absurd (mine k m x q p b.1 rx (subst (λ (y : View). RunsJob y m p) (sym a.1) ru))
      one i k m u x p q (inr a) (inl b) ru rx = absurd (mine i m u p q a.1 ru (subst (λ (y : View). RunsJob y m q) (sym b.1) rx))
      one i k m u x p q (inr a) (inr b) ru rx = r.claims.alone i k m u x p q a.1 b.1 ru rx

  got_begun : BegunHold r.jobs now views'
  got_begun = record {
    before = λ k p l h c. subst (λ (e : ℕ → Bool). e p ≡ true) (sym same_ended)
        (⊎_elim (λ (e : k ≡ j). ready p (subst (λ m. Contains (predecessors r.jobs m) p) e c)) (λ (d : k ≡ j → ⊥). r.begun.before k p l (sym (begun_else s.counts j CLAIMED k d) ∙ h) c) (cases_eq k j));
    unowed = λ k l h. old_owing k ∙ ⊎_elim (λ (e : k ≡ j). ap (λ m. total (owing m) s.views) e ∙ free.1) (λ (d : k ≡ j → ⊥). r.begun.unowed k l (sym (begun_else s.counts j CLAIMED k d) ∙ h)) (cases_eq k j);
  }

  -- who has begun is not a job that waits for j
  not_after : (k x : ℕ) → j < k → k < length r.jobs → has_begun s.counts k ≡ true
      → ((writes (foot_at r.jobs j) x ≡ true) × (touches (foot_at r.jobs k) x ≡ true)) ⊎ ((writes (foot_at r.jobs k) x ≡ true) × (touches (foot_at r.jobs j) x ≡ true)) → ⊥
  not_after k x l m h clash = both_ways (is_ended s.counts j) (lower_ended r.jobs s.counts s.views (in_order r.jobs r.plan.order) (sound r.jobs r.plan.order r.plan.free) r.begun j k x l m clash h) unended

  -- a lower job that clashes has ended
  lower : (k x : ℕ) → k < j
      → ((writes (foot_at r.jobs k) x ≡ true) × (touches (foot_at r.jobs j) x ≡ true)) ⊎ ((writes (foot_at r.jobs j) x ≡ true) × (touches (foot_at r.jobs k) x ≡ true)) → is_ended s.counts k ≡ true
  lower k x l clash = ordered_ready r.jobs s.counts s.views (in_order r.jobs r.plan.order) r.begun ((sound r.jobs r.plan.order r.plan.free) k j l inside (x, clash)) inside ready

  -- no claimed job writes a word that j touches
  unwritten : (x k : ℕ) → touches (foot_at r.jobs j) x ≡ true → k < length r.jobs → is_claimed s.counts k ≡ true → writes (foot_at r.jobs k) x ≡ false
  unwritten x k t l c = false_from_ne_true (writes (foot_at r.jobs k) x) (λ wr.
      ⊎_elim
      (λ (e : k ≡ j). other k c e)
      (λ (o : (k < j) ⊎ (j < k)).
      ⊎_elim
      (λ (a : k < j). both_ways (is_ended s.counts k) (lower k x a (inl (wr, t))) (claimed_unended s.counts k c))
      (λ (b : j < k). not_after k x b l (begun_claimed s.counts k c) (inr (wr, t)))
      o)
      (cases_order k j))

  abbrev last_of : ℕ → ℕ → Bool
  last_of x k = is_ended s.counts k && writes (foot_at r.jobs k) x

  -- no job from j on that has ended writes a word that j touches
  none_above : (x k : ℕ) → touches (foot_at r.jobs j) x ≡ true → j ≤ k → k < length r.jobs → last_of x k ≡ false
  none_above x k t a l = false_from_ne_true (last_of x k) (λ both.
      let p = and_parts (is_ended s.counts k) (writes (foot_at r.jobs k) x) both in
      ⊎_elim
      (λ (e : k ≡ j). both_ways (is_ended s.counts j) (ap (is_ended s.counts) (sym e) ∙ p.0) unended)
      (λ (d : k ≡ j → ⊥). not_after k x (omega arith) l (begun_ended s.counts k p.0) (inr (p.1, t)))
      (cases_eq k j))

  -- each job below j that writes a word which j touches has ended
  none_between : (x k : ℕ) → touches (foot_at r.jobs j) x ≡ true → level (last_of x) (length r.jobs) ≤ k → k < j → writes (foot_at r.jobs k) x ≡ false
  none_between x k t a l = false_from_ne_true (writes (foot_at r.jobs k) x) (λ wr.
      let lt : k < length r.jobs = let m = inside in omega arith in
      both_ways (last_of x k) (and_from (is_ended s.counts k) (writes (foot_at r.jobs k) x) (lower k x l (inl (wr, t))) wr) (level_top (last_of x) (length r.jobs) k a lt))

  -- the words that j touches are those of list j
  shown : (x : ℕ) → touches (foot_at r.jobs j) x ≡ true → word_at r.script j x ≡ get_or s.memory x 0
  shown x t =
      script_still r.jobs (length s.memory) r.script x r.plan.is_script (level (last_of x) (length r.jobs)) j (level_bound (last_of x) (length r.jobs) j (λ k a l. none_above x k t a l)) (let m = inside in omega arith) (λ k a l. none_between x k t a l)
      ∙ sym (r.settled x (r.plan.within j x inside t) (λ k l c. unwritten x k t l c))

  my_list : list_at v.worker.script j ≡ list_at r.script j
  my_list = ap (λ sc. list_at sc j) same_script

  got_pictures : PicturesHold r.jobs r.script s.memory views'
  got_pictures = record {
    wide = λ i u k p a runs. each_set (λ i (u : View). RunsJob u k p → length p ≡ length s.memory) s.views id w
        (λ runs. ap length (sym (mine k p runs).1 ∙ my_list) ∙ r.plan.is_script.wide j (let m = inside in omega arith))
        (λ i u n a runs. r.pictures.wide i u k p a runs) i u a runs;
    inside = λ i u k p x a runs t. each_set (λ i (u : View). RunsJob u k p → touches (foot_at r.jobs k) x ≡ true → get_or p x 0 ≡ get_or s.memory x 0) s.views id w
        (λ runs t. ap (λ (l : List ℕ). get_or l x 0) (sym (mine k p runs).1 ∙ my_list) ∙ shown x (subst (λ m. touches (foot_at r.jobs m) x ≡ true) (sym (mine k p runs).0) t))
        (λ i u n a runs t. r.pictures.inside i u k p x a runs t) i u a runs t;
    outside = λ i u k p x a runs t. each_set (λ i (u : View). RunsJob u k p → writes (foot_at r.jobs k) x ≡ false → get_or p x 0 ≡ word_at r.script k x) s.views id w
        (λ runs t. ap (λ (l : List ℕ). get_or l x 0) (sym (mine k p runs).1 ∙ my_list) ∙ ap (λ m. word_at r.script m x) (mine k p runs).0)
        (λ i u n a runs t. r.pictures.outside i u k p x a runs t) i u a runs t;
  }
    where
      mine : (k : ℕ) (p : List ℕ) → RunsJob w k p → (j ≡ k) × (list_at v.worker.script j ≡ p)
      mine k p runs = (same_job w.worker.runs j k (list_at v.worker.script j) p got_runs runs, same_picture w.worker.runs j k (list_at v.worker.script j) p got_runs runs)

  got_settled : SettledHold r.jobs r.script s.memory now
  got_settled x l h = subst (λ (e : ℕ → Bool). get_or s.memory x 0 ≡ word_at r.script (level_of r.jobs e x) x) (sym same_ended)
      (r.settled x l (λ k m c. h k m (claimed_else s.counts j CLAIMED k (other k c) ∙ c)))

  got_seats : ViewsHold r.jobs r.script now views' r.main
  got_seats = record {
    live = λ i u a h. each_set (λ i (u : View). u.worker.live ≡ true → (u.worker.jobs ≡ r.jobs) × (u.worker.script ≡ r.script)) s.views id w
        (λ h. (same_jobs, same_script)) (λ i u n a h. r.seats.live i u a h) i u a h;
    first = first_stays s.views id v w at refl r.seats.first;
    number = total_same live_of s.views id v w at refl ∙ r.seats.number;
    others = λ i u b h. each_set (λ i (u : View). i ≢ 0 → u.main.ended ≡ []) s.views id w (λ h. r.seats.others id v at h) (λ i u n b h. r.seats.others i u b h) i u b h;
    dead = λ i u a h. each_set (λ i (u : View). u.worker.live ≡ false → IsBlank u.worker) s.views id w (λ h. absurd (both_ways v.worker.live can.live h)) (λ i u n a h. r.seats.dead i u a h) i u a h;
    known = λ k l h. known_stays s.views id v w k at (λ x. x) (r.seats.known k l (ap (λ (e : ℕ → Bool). e k) (sym same_ended) ∙ h));
    only = λ i u k a h. subst (λ (e : ℕ → Bool). (k < length r.jobs) × (e k ≡ true)) (sym same_ended)
        (each_set (λ i (u : View). Knows u k → (k < length r.jobs) × (is_ended s.counts k ≡ true)) s.views id w (λ h. r.seats.only id v k at h) (λ i u n a h. r.seats.only i u k a h) i u a h);
  }

  got_plan : PlanHolds r.jobs r.script s.memory now
  got_plan = record {
    order = r.plan.order;
    free = r.plan.free;
    within = r.plan.within;
    roomy = let m = r.plan.roomy in omega (arith, length-set s.counts j CLAIMED);
    is_script = r.plan.is_script;
  }

  pub got_round : InRound (record { memory = s.memory; counts = now; views = views' })
  got_round = record {
    main = r.main;
    jobs = r.jobs;
    script = r.script;
    crew = r.crew;
    at_go = r.at_go;
    has_main = main_stays s.views id v w r.main at refl r.has_main;
    phase = r.phase;
    debts = got_debts;
    claims = got_claims;
    begun = got_begun;
    pictures = got_pictures;
    settled = got_settled;
    seats = got_seats;
    sweep = subst (λ (e : ℕ → Bool). SweepHolds r.jobs e (set s.views id w) r.main) (sym same_ended) (sweep_stays r.jobs (is_ended s.counts) s.views r.main id v w at refl refl refl r.sweep);
    rest = record { as_long = length-set s.counts j CLAIMED ∙ r.rest.as_long; same = λ k l. get_or-set_other s.counts j k CLAIMED 0 (λ e. let m = inside in omega arith) ∙ r.rest.same k l };
    plan = got_plan;
  }
