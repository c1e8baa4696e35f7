-- A store of a running job keeps what holds between two steps.
use Rattle.std.proofs.Common.{◌≡◌, ◌≢◌, ℕ, ◌+◌, ◌<◌, ◌≤◌, true, false, List, [], length, get_or, set, sym, refl, ap, ◌∙◌, subst, ⊎_elim, inr, length-set, get_or-set_same, get_or-set_other}
use Rattle.std.specs.Prelude.{Contains}
use Rattle.std.proofs.lemmas.Bool.{cases_eq, or_left}
use Rattle.sn_mem.specs.Words.{writes, touches, has}
use Rattle.sn_mem.specs.declared.extents.Foot.{Foot}
use Rattle.sn_round.specs.declared.jobs.Job.{Job}
use Rattle.sn_machine.specs.declared.views.View.{View}
use Rattle.sn_round.specs.Jobs.{foot_at, predecessors, AreWithin}
use Rattle.sn_round.specs.Scripts.{IsScript, word_at}
use Rattle.sn_machine.specs.States.{State, is_claimed, is_ended, At, RunsJob}
use Rattle.sn_machine.specs.Steps.{CanStore, pictured, after_store}
use Rattle.sn_machine.specs.Rule.{owing, owing_pair, waiting, ClaimsHold, PicturesHold, SettledHold, IsBlank, live_of, Knows, InRound, Between, RoundHolds}
use Rattle.sn_machine.proofs.Forms.{in_order, sound}
use Rattle.sn_machine.proofs.Sweeps.{sweep_stays}
use Rattle.sn_machine.proofs.Replaced.{first_stays, at_set, set_here, set_else, same_at, each_set, total_same}
use Rattle.sn_machine.proofs.Orders.{both_ways, claimed_apart}
use Rattle.sn_machine.proofs.Waits.{same_job, same_picture, no_run}
use Rattle.sn_machine.proofs.Claims.{main_stays, known_stays}

pub touches_written : (f : Foot) (x : ℕ) → writes f x ≡ true → touches f x ≡ true
touches_written f x w = or_left (has f.writes x) (has f.reads x) w

module _ (s : State) (r : InRound s) (id : ℕ) (v : View) (j : ℕ) (picture : List ℕ) (x a : ℕ) (at : At s.views id v) (can : CanStore v j picture x) where
  abbrev pub now : List ℕ
  now = set s.memory x a

  abbrev pub drawn : List ℕ
  drawn = set picture x a

  abbrev pub w : View
  w = pictured v j drawn

  abbrev pub views' : List View
  views' = set s.views id w

  runs_j : (v.worker.live ≡ true) × (j < length r.jobs) × (is_claimed s.counts j ≡ true) × (v.worker.debts ≡ [])
  runs_j = r.claims.runner id v j picture at can.runs

  written : writes (foot_at r.jobs j) x ≡ true
  written = subst (λ (js : List Job). writes (foot_at js j) x ≡ true) (r.seats.live id v at runs_j.0).0 can.writes

  in_memory : x < length s.memory
  in_memory = r.plan.within j x runs_j.1 (touches_written (foot_at r.jobs j) x written)

  in_picture : x < length picture
  in_picture = subst (λ n. x < n) (sym (r.pictures.wide id v j picture at can.runs)) in_memory

  drawn_runs : RunsJob w j drawn
  drawn_runs = refl

  -- who runs a job afterwards ran it before
  was : (i : ℕ) (u : View) (k : ℕ) (p : List ℕ) → At views' i u → RunsJob u k p → (y : View) × (q : List ℕ) × At s.views i y × RunsJob y k q
  was i u k p b runs = ⊎_elim
      (λ (t : (i ≡ id) × (w ≡ u)).
      let e = same_job w.worker.runs j k drawn p drawn_runs (ap (λ (y : View). y.worker.runs) t.1 ∙ runs) in
      (v, picture, subst (λ m. At s.views m v) (sym t.0) at, subst (λ m. RunsJob v m picture) e can.runs))
      (λ (t : (i ≢ id) × At s.views i u). (u, p, t.1, runs))
      (at_set s.views id i w u b)

  -- another seat runs another job, which does not touch x
  apart : (i : ℕ) (u : View) (k : ℕ) (p : List ℕ) (y : ℕ) → i ≢ id → At s.views i u → RunsJob u k p → touches (foot_at r.jobs k) y ≡ true → y ≢ x
  apart i u k p y n b runs t e =
      let h = r.claims.runner i u k p b runs in
      let d : j ≢ k = λ e. n (r.claims.alone i id k u v p picture b at runs (subst (λ m. RunsJob v m picture) e can.runs)) in
      both_ways (touches (foot_at r.jobs k) x) (subst (λ m. touches (foot_at r.jobs k) m ≡ true) e t)
      (claimed_apart r.jobs s.counts s.views (in_order r.jobs r.plan.order) (sound r.jobs r.plan.order r.plan.free) r.begun j k x d runs_j.1 h.1 runs_j.2 h.2 written)

  store_pictures : PicturesHold r.jobs r.script now views'
  store_pictures = record {
    wide = λ i u k p b runs. each_set (λ i (u : View). RunsJob u k p → length p ≡ length now) s.views id w
        (λ runs. ap length (sym (mine k p runs).1) ∙ (length-set picture x a ∙ (r.pictures.wide id v j picture at can.runs ∙ sym (length-set s.memory x a))))
        (λ i u n b runs. r.pictures.wide i u k p b runs ∙ sym (length-set s.memory x a)) i u b runs;
    inside = λ i u k p y b runs t. each_set (λ i (u : View). RunsJob u k p → touches (foot_at r.jobs k) y ≡ true → get_or p y 0 ≡ get_or now y 0) s.views id w
        (λ runs t. ap (λ (l : List ℕ). get_or l y 0) (sym (mine k p runs).1) ∙ both y (subst (λ m. touches (foot_at r.jobs m) y ≡ true) (sym (mine k p runs).0) t))
        (λ i u n b runs t. r.pictures.inside i u k p y b runs t ∙ sym (get_or-set_other s.memory x y a 0 (apart i u k p y n b runs t))) i u b runs t;
    outside = λ i u k p y b runs t. each_set (λ i (u : View). RunsJob u k p → writes (foot_at r.jobs k) y ≡ false → get_or p y 0 ≡ word_at r.script k y) s.views id w
        (λ runs t.
        let t' : writes (foot_at r.jobs j) y ≡ false = subst (λ m. writes (foot_at r.jobs m) y ≡ false) (sym (mine k p runs).0) t in
        ap (λ (l : List ℕ). get_or l y 0) (sym (mine k p runs).1)
        ∙ (get_or-set_other picture x y a 0 (λ e. both_ways (writes (foot_at r.jobs j) x) written (subst (λ m. writes (foot_at r.jobs j) m ≡ false) e t'))
        ∙ (r.pictures.outside id v j picture y at can.runs t' ∙ ap (λ m. word_at r.script m y) (mine k p runs).0)))
        (λ i u n b runs t. r.pictures.outside i u k p y b runs t) i u b runs t;
  }
    where
      mine : (k : ℕ) (p : List ℕ) → RunsJob w k p → (j ≡ k) × (drawn ≡ p)
      mine k p runs = (same_job w.worker.runs j k drawn p drawn_runs runs, same_picture w.worker.runs j k drawn p drawn_runs runs)

      both : (y : ℕ) → touches (foot_at r.jobs j) y ≡ true → get_or drawn y 0 ≡ get_or now y 0
      both y t = ⊎_elim
          (λ (e : y ≡ x). ap (λ m. get_or drawn m 0) e ∙ (get_or-set_same picture x a 0 in_picture ∙ (sym (get_or-set_same s.memory x a 0 in_memory) ∙ ap (λ m. get_or now m 0) (sym e))))
          (λ (d : y ≡ x → ⊥). get_or-set_other picture x y a 0 d ∙ (r.pictures.inside id v j picture y at can.runs t ∙ sym (get_or-set_other s.memory x y a 0 d)))
          (cases_eq y x)

  store_claims : ClaimsHold r.jobs s.counts views'
  store_claims = record {
    has_runner = λ k l c.
        let h = r.claims.has_runner k l c in
        ⊎_elim
        (λ (e : h.0 ≡ id).
        let f : k ≡ j = same_job v.worker.runs k j h.2 picture (ap (λ (y : View). y.worker.runs) (same_at s.views id v h.1 at (subst (λ m. At s.views m h.1) e h.3)) ∙ h.4) can.runs in
        (id, w, drawn, set_here s.views id w v at, subst (λ m. RunsJob w m drawn) (sym f) drawn_runs))
        (λ (d : h.0 ≡ id → ⊥). (h.0, h.1, h.2, set_else s.views id h.0 w d ∙ h.3, h.4))
        (cases_eq h.0 id);
    runner = λ i u k p b runs. each_set (λ i (u : View). RunsJob u k p → (u.worker.live ≡ true) × (k < length r.jobs) × (is_claimed s.counts k ≡ true) × (u.worker.debts ≡ [])) s.views id w
        (λ runs. let e = same_job w.worker.runs j k drawn p drawn_runs runs in (runs_j.0, subst (λ m. m < length r.jobs) e runs_j.1, subst (λ m. is_claimed s.counts m ≡ true) e runs_j.2, runs_j.3))
        (λ i u n b runs. r.claims.runner i u k p b runs) i u b runs;
    alone = λ i k m u y p q b c ru ry. let f = was i u m p b ru in let g = was k y m q c ry in r.claims.alone i k m f.0 g.0 f.1 g.1 f.2 g.2 f.3 g.3;
  }

  store_settled : SettledHold r.jobs r.script now s.counts
  store_settled y l h =
      let d : y ≢ x = λ e. both_ways (writes (foot_at r.jobs j) x) written (subst (λ m. writes (foot_at r.jobs j) m ≡ false) e (h j runs_j.1 runs_j.2)) in
      get_or-set_other s.memory x y a 0 d ∙ r.settled y (subst (λ n. y < n) (length-set s.memory x a) l) h

  pub store_round : InRound (after_store s id v j picture x a)
  store_round = record {
    main = r.main;
    jobs = r.jobs;
    script = r.script;
    crew = r.crew;
    at_go = r.at_go;
    has_main = main_stays s.views id v w r.main at refl r.has_main;
    phase = r.phase;
    debts = record {
      once = λ p k. subst (λ n. n ≤ 1) (sym (total_same (owing_pair p k) s.views id v w at refl)) (r.debts.once p k);
      named = λ i u p k b c. each_set (λ i (u : View). Contains u.worker.debts (p, k) → (k < length r.jobs) × (is_ended s.counts p ≡ true) × Contains (predecessors r.jobs k) p) s.views id w
          (λ c. r.debts.named id v p k at c) (λ i u n b c. r.debts.named i u p k b c) i u b c;
      counted = λ k m h. r.debts.counted k m h ∙ ap (λ n. waiting (is_ended s.counts) (predecessors r.jobs k) + n) (sym (total_same (owing k) s.views id v w at refl));
      small = r.debts.small;
    };
    claims = store_claims;
    begun = record { before = r.begun.before; unowed = λ k l h. total_same (owing k) s.views id v w at refl ∙ r.begun.unowed k l h };
    pictures = store_pictures;
    settled = store_settled;
    seats = record {
      live = λ i u b h. each_set (λ i (u : View). u.worker.live ≡ true → (u.worker.jobs ≡ r.jobs) × (u.worker.script ≡ r.script)) s.views id w
          (λ h. r.seats.live id v at h) (λ i u n b h. r.seats.live i u b h) i u b h;
      first = first_stays s.views id v w at refl r.seats.first;
      number = total_same live_of s.views id v w at refl ∙ r.seats.number;
      others = λ i u b h. each_set (λ i (u : View). i ≢ 0 → u.main.ended ≡ []) s.views id w (λ h. r.seats.others id v at h) (λ i u n b h. r.seats.others i u b h) i u b h;
      dead = λ i u b h. each_set (λ i (u : View). u.worker.live ≡ false → IsBlank u.worker) s.views id w (λ h. absurd (both_ways v.worker.live runs_j.0 h)) (λ i u n b h. r.seats.dead i u b h) i u b h;
      known = λ k l h. known_stays s.views id v w k at (λ x. x) (r.seats.known k l h);
      only = λ i u k b h. each_set (λ i (u : View). Knows u k → (k < length r.jobs) × (is_ended s.counts k ≡ true)) s.views id w (λ h. r.seats.only id v k at h) (λ i u n b h. r.seats.only i u k b h) i u b h;
    };
    sweep = sweep_stays r.jobs (is_ended s.counts) s.views r.main id v w at refl refl refl r.sweep;
    rest = r.rest;
    plan = record {
      order = r.plan.order;
      free = r.plan.free;
      within = subst (λ n. AreWithin n r.jobs) (sym (length-set s.memory x a)) r.plan.within;
      roomy = r.plan.roomy;
      is_script = subst (λ n. IsScript r.jobs n r.script) (sym (length-set s.memory x a)) r.plan.is_script;
    };
  }

-- a store keeps what holds between two steps
pub store_keeps : (s : State) (id : ℕ) (v : View) (j : ℕ) (picture : List ℕ) (x a : ℕ) → RoundHolds s → At s.views id v → CanStore v j picture x → RoundHolds (after_store s id v j picture x a)
store_keeps s id v j picture x a h at can = ⊎_elim
    (λ (b : Between s). absurd (no_run v j picture (b.blank id v at).runs can.runs))
    (λ r. inr (store_round s r id v j picture x a at can)) h
