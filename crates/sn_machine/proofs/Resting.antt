-- Rest and join keep what holds between two steps.
use Rattle.std.proofs.Common.{◌≡◌, ◌≢◌, ℕ, zero, suc, ◌+◌, ◌<◌, ◌≤◌, Bool, true, false, ◌&&◌, cond, eqb, List, [], ◌∷◌, length, get_or, set, sym, refl, ap, ◌∙◌, subst, ⊎_elim, inl, inr, arith, true≢false}
use Rattle.std.specs.Prelude.{Contains}
use Rattle.std.proofs.lemmas.List.{ext_get_or}
use Rattle.std.proofs.lemmas.List.Elements.{Contains-append_left, Contains-append_right, Contains-append_cases}
use Rattle.std.proofs.lemmas.Bool.{cases_eq, cases_lt, eqb-true, and_from, false_from_ne_true}
use Rattle.sn_mem.specs.Words.{writes}
use Rattle.sn_round.specs.declared.jobs.Job.{Job}
use Rattle.sn_machine.specs.declared.views.View.{View}
use Rattle.sn_machine.specs.declared.views.Worker.{Worker}
use Rattle.sn_machine.specs.declared.views.Main.{Main}
use Rattle.sn_machine.specs.declared.views.Phase.{Phase}
use Rattle.sn_machine.specs.declared.views.Phase.TheVariants.{Idle, Round}
use Rattle.sn_round.specs.Jobs.{foot_at, predecessors}
use Rattle.sn_round.specs.Scripts.{list_at, word_at}
use Rattle.sn_machine.specs.States.{State, ENDED, is_claimed, is_ended, At, RunsJob, jobs_in, script_in, crew_in, counts_in, spent}
use Rattle.sn_machine.specs.Steps.{CanRest, ended_front, last_list, rested_view, after_rest, CanJoin, join_view, after_join}
use Rattle.sn_machine.specs.Rule.{tally, total, owing, owing_pair, waiting, level, IsBlank, live_of, Knows, InRound, Between, RoundHolds}
use Rattle.sn_machine.proofs.Replaced.{set_here, set_else, same_at, each_set, total_set, total_le}
use Rattle.sn_machine.proofs.Levels.{level_le, level_top, script_still}
use Rattle.sn_machine.proofs.Orders.{both_ways}
use Rattle.sn_machine.proofs.Waits.{no_run}

front_in : (n : ℕ) (counts : List ℕ) (j : ℕ) → j < n → j < length counts → get_or (ended_front n counts) j 0 ≡ ENDED
front_in zero counts j a b = absurd (omega arith)
front_in (suc n) [] j a b = absurd (omega arith)
front_in (suc n) (c ∷ counts) zero a b = refl
front_in (suc n) (c ∷ counts) (suc j) a b = front_in n counts j (omega arith) (omega arith)

front_past : (n : ℕ) (counts : List ℕ) (j : ℕ) → n ≤ j → get_or (ended_front n counts) j 0 ≡ get_or counts j 0
front_past zero counts j a = refl
front_past (suc n) [] j a = refl
front_past (suc n) (c ∷ counts) zero a = absurd (omega arith)
front_past (suc n) (c ∷ counts) (suc j) a = front_past n counts j (omega arith)

front_length : (n : ℕ) (counts : List ℕ) → length (ended_front n counts) ≡ length counts
front_length zero counts = refl
front_length (suc n) [] = refl
front_length (suc n) (c ∷ counts) = ap suc (front_length n counts)

not_live : (u : View) → live_of u ≡ 0 → u.worker.live ≡ false
not_live u e = false_from_ne_true u.worker.live (λ h. let one : ◌≡◌ {A = ℕ} (cond u.worker.live 1 0) 1 = ap (λ (l : Bool). cond l 1 0) h in absurd (omega arith))

main_is : (s : State) (m : View) (r : InRound s) → At s.views 0 m → m.main ≡ r.main
main_is s m r at = ap (λ (y : View). y.main) (same_at s.views 0 m r.has_main.0 at r.has_main.1) ∙ r.has_main.2

abbrev jobs_or : Phase → List Job
jobs_or (Idle a b) = []
jobs_or (Round jobs script crew at_go) = jobs

abbrev script_or : Phase → List (List ℕ)
script_or (Idle a b) = []
script_or (Round jobs script crew at_go) = script

abbrev go_or : Phase → List ℕ
go_or (Idle a b) = []
go_or (Round jobs script crew at_go) = at_go

module _ (s : State) (r : InRound s) (m : View) (at : At s.views 0 m) (can : CanRest m) where
  abbrev w : View
  w = rested_view m

  abbrev jobs : List Job
  jobs = jobs_in m.main.phase

  same : Round r.jobs r.script r.crew r.at_go ≡ Round (jobs_in m.main.phase) (script_in m.main.phase) (crew_in m.main.phase) (counts_in m.main.phase)
  same = sym r.phase ∙ (ap (λ (y : Main). y.phase) (sym (main_is s m r at)) ∙ can.running)

  jobs_is : r.jobs ≡ jobs
  jobs_is = ap jobs_or same

  -- no seat is live
  dead : (i : ℕ) (u : View) → At s.views i u → u.worker.live ≡ false
  dead i u a = not_live u (omega (arith, total_le live_of s.views i u a, r.seats.number, ap (λ (y : Main). y.live) (main_is s m r at), can.none_live))

  blank : (i : ℕ) (u : View) → At s.views i u → IsBlank u.worker
  blank i u a = r.seats.dead i u a (dead i u a)

  all_ended : (j : ℕ) → j < length r.jobs → is_ended s.counts j ≡ true
  all_ended j l = (r.seats.only 0 m j at (inl (can.all_ended j (subst (λ js. j < length js) jobs_is l)))).1

  unclaimed : (j : ℕ) → j < length r.jobs → is_claimed s.counts j ≡ true → ⊥
  unclaimed j l c = let h = r.claims.has_runner j l c in no_run h.1 j h.2 (blank h.0 h.1 h.3).runs h.4

  abbrev last_of : ℕ → ℕ → Bool
  last_of x k = is_ended s.counts k && writes (foot_at r.jobs k) x

  final : (x : ℕ) → x < length s.memory → get_or s.memory x 0 ≡ word_at r.script (length r.jobs) x
  final x l =
      r.settled x l (λ j k c. absurd (unclaimed j k c))
      ∙ sym (script_still r.jobs (length s.memory) r.script x r.plan.is_script (level (last_of x) (length r.jobs)) (length r.jobs) (level_le (last_of x) (length r.jobs)) (omega arith)
      (λ k a b. false_from_ne_true (writes (foot_at r.jobs k) x) (λ wr. both_ways (last_of x k) (and_from (is_ended s.counts k) (writes (foot_at r.jobs k) x) (all_ended k b) wr) (level_top (last_of x) (length r.jobs) k a b))))

  memory_is : s.memory ≡ list_at r.script (length r.jobs)
  memory_is = ext_get_or 0 s.memory (list_at r.script (length r.jobs)) (sym (r.plan.is_script.wide (length r.jobs) (omega arith))) final

  counts_is : s.counts ≡ ended_front (length r.jobs) r.at_go
  counts_is = ext_get_or 0 s.counts (ended_front (length r.jobs) r.at_go) (r.rest.as_long ∙ sym (front_length (length r.jobs) r.at_go)) (λ j l. ⊎_elim
      (λ (a : j < length r.jobs). eqb-true (get_or s.counts j 0) ENDED (all_ended j a) ∙ sym (front_in (length r.jobs) r.at_go j a (subst (λ n. j < n) r.rest.as_long l)))
      (λ (b : length r.jobs ≤ j). r.rest.same j b ∙ sym (front_past (length r.jobs) r.at_go j b))
      (cases_lt j (length r.jobs)))

  pub rest_memory : s.memory ≡ last_list m.main.phase
  rest_memory = memory_is ∙ ap (λ (p : Phase). list_at (script_or p) (length (jobs_or p))) same

  pub rest_between : Between (after_rest s m)
  rest_between = record {
    main = w.main;
    has_main = (w, set_here s.views 0 w m at, refl);
    phase = ap (λ (p : Phase). Idle (list_at (script_or p) (length (jobs_or p))) (ended_front (length (jobs_or p)) (go_or p))) (sym same) ∙ (λ i. Idle (sym memory_is i) (sym counts_is i));
    knows = refl;
    live = can.none_live;
    blank = λ i u a. each_set (λ i (u : View). IsBlank u.worker) s.views 0 w (blank 0 m at) (λ i u n a. blank i u a) i u a;
    others = λ i u a n. each_set (λ i (u : View). i ≢ 0 → u.main.ended ≡ []) s.views 0 w (λ n. absurd (n refl)) (λ i u d a n. r.seats.others i u a n) i u a n;
  }

pub rest_keeps : (s : State) (m : View) → RoundHolds s → At s.views 0 m → CanRest m → RoundHolds (after_rest s m)
rest_keeps s m h at can = ⊎_elim
    (λ (b : Between s).
    let e : ◌≡◌ {A = Phase} (Idle s.memory s.counts) (Round (jobs_in m.main.phase) (script_in m.main.phase) (crew_in m.main.phase) (counts_in m.main.phase)) = sym b.phase ∙ (ap (λ (y : Main). y.phase) (sym b.has_main.2) ∙ (ap (λ (y : View). y.main.phase) (same_at s.views 0 b.has_main.0 m b.has_main.1 at) ∙ can.running)) in
    absurd (cc))
    (λ r. inl (rest_between s r m at can)) h

-- at rest the memory is the last list of the script
pub rest_finds : (s : State) (m : View) → RoundHolds s → At s.views 0 m → CanRest m → s.memory ≡ last_list m.main.phase
rest_finds s m h at can = ⊎_elim
    (λ (b : Between s).
    let e : ◌≡◌ {A = Phase} (Idle s.memory s.counts) (Round (jobs_in m.main.phase) (script_in m.main.phase) (crew_in m.main.phase) (counts_in m.main.phase)) = sym b.phase ∙ (ap (λ (y : Main). y.phase) (sym b.has_main.2) ∙ (ap (λ (y : View). y.main.phase) (same_at s.views 0 b.has_main.0 m b.has_main.1 at) ∙ can.running)) in
    absurd (cc))
    (λ r. rest_memory s r m at can) h

module _ (s : State) (r : InRound s) (m : View) (other : ℕ) (v : View) (at : At s.views 0 m) (apart : other ≢ 0) (there : At s.views other v) (can : CanJoin v) where
  abbrev l : View
  l = join_view m v

  abbrev views' : List View
  views' = set (set s.views 0 l) other spent

  there' : At (set s.views 0 l) other v
  there' = set_else s.views 0 other l apart ∙ there

  each : (P : ℕ → View → Type 0) → P 0 l → P other spent → ((i : ℕ) (u : View) → At s.views i u → P i u) → (i : ℕ) (u : View) → At views' i u → P i u
  each P left gone old i u a = each_set P (set s.views 0 l) other spent gone (λ i u n a. each_set P s.views 0 l left (λ i u n a. old i u a) i u a) i u a

  was : (i : ℕ) (u : View) (k : ℕ) (p : List ℕ) → At views' i u → RunsJob u k p → (x : View) × At s.views i x × RunsJob x k p
  was i u k p a = each (λ i u. RunsJob u k p → (x : View) × At s.views i x × RunsJob x k p) (λ runs. (m, at, runs)) (λ runs. absurd (no_run spent k p refl runs)) (λ i u a runs. (u, a, runs)) i u a

  -- an old view but the joined one stands there with its worker's part
  stays : (i : ℕ) (u : View) → i ≢ other → At s.views i u → (x : View) × At views' i x × (x.worker ≡ u.worker) × ((k : ℕ) → Contains u.main.ended k → Contains x.main.ended k)
  stays i u n a = ⊎_elim
      (λ (e : i ≡ 0). let same : m ≡ u = same_at s.views 0 m u at (subst (λ k. At s.views k u) e a) in (
        l,
        set_else (set s.views 0 l) other i spent n ∙ subst (λ k. At (set s.views 0 l) k l) (sym e) (set_here s.views 0 l m at),
        ap (λ (y : View). y.worker) same,
        λ k c. Contains-append_left m.main.ended v.worker.ended k (subst (λ (y : View). Contains y.main.ended k) (sym same) c),
      ))
      (λ (d : i ≡ 0 → ⊥). (u, set_else (set s.views 0 l) other i spent n ∙ (set_else s.views 0 i l d ∙ a), refl, λ k c. c))
      (cases_eq i 0)

  main_there : At views' 0 l
  main_there = set_else (set s.views 0 l) other 0 spent (λ e. apart (sym e)) ∙ set_here s.views 0 l m at

  same_total : (f : View → ℕ) → f l ≡ f m → f v ≡ f spent → total f views' ≡ total f s.views
  same_total f a b = omega (arith, total_set f (set s.views 0 l) other v spent there', total_set f s.views 0 m l at)

  same_pair : (p q : ℕ) → owing_pair p q v ≡ 0
  same_pair p q = ap (λ (ds : List (ℕ × ℕ)). tally (λ (d : ℕ × ℕ). eqb d.0 p && eqb d.1 q) ds) can.debts

  same_owing : (q : ℕ) → owing q v ≡ 0
  same_owing q = ap (λ (ds : List (ℕ × ℕ)). tally (λ (d : ℕ × ℕ). eqb d.1 q) ds) can.debts

  live_one : ◌≡◌ {A = ℕ} (live_of v) 1
  live_one = ap (λ (b : Bool). cond b 1 0) can.live

  -- a live view was another's than the joined one
  awake : (i : ℕ) (u : View) → At views' i u → u.worker.live ≡ true → (x : View) × At s.views i x × (x.worker ≡ u.worker) × (i ≢ other)
  awake i u a = each_set (λ i (u : View). u.worker.live ≡ true → (x : View) × At s.views i x × (x.worker ≡ u.worker) × (i ≢ other)) (set s.views 0 l) other spent
      (λ h. absurd (true≢false (sym h)))
      (λ i u n a. each_set (λ i (u : View). i ≢ other → u.worker.live ≡ true → (x : View) × At s.views i x × (x.worker ≡ u.worker) × (i ≢ other)) s.views 0 l (λ n h. (m, at, refl, n)) (λ i u d a n h. (u, a, refl, n)) i u a n)
      i u a

  -- no sweep's seat is live while another could be joined
  no_sweep : (i : ℕ) (u : View) → At views' i u → u.worker.live ≡ true → u.worker.sweeps ≡ true → ⊥
  no_sweep i u a lu su = let x = awake i u a lu in x.3 (sym (r.sweep.alone i other x.0 v x.1 (ap (λ (w : Worker). w.live) x.2 ∙ lu) (ap (λ (w : Worker). w.sweeps) x.2 ∙ su) there can.live))

  pub join_round : InRound (after_join s m other v)
  join_round = record {
    main = l.main;
    jobs = r.jobs;
    script = r.script;
    crew = r.crew;
    at_go = r.at_go;
    has_main = (l, main_there, refl);
    phase = ap (λ (y : Main). y.phase) (main_is s m r at) ∙ r.phase;
    debts = record {
      once = λ p q. subst (λ k. k ≤ 1) (sym (same_total (owing_pair p q) refl (same_pair p q))) (r.debts.once p q);
      named = λ i u p q a c. each (λ i (u : View). Contains u.worker.debts (p, q) → (q < length r.jobs) × (is_ended s.counts p ≡ true) × Contains (predecessors r.jobs q) p)
          (λ c. r.debts.named 0 m p q at c) (λ c. absurd (let h : c.0 < 0 = c.1 in omega arith)) (λ i u a c. r.debts.named i u p q a c) i u a c;
      counted = λ q j h. r.debts.counted q j h ∙ ap (λ k. waiting (is_ended s.counts) (predecessors r.jobs q) + k) (sym (same_total (owing q) refl (same_owing q)));
      small = r.debts.small;
    };
    claims = record {
      has_runner = λ k j c.
          let h = r.claims.has_runner k j c in
          let n : h.0 ≢ other = λ e. no_run v k h.2 can.runs (subst (λ (u : View). RunsJob u k h.2) (same_at s.views other h.1 v (subst (λ i. At s.views i h.1) e h.3) there) h.4) in
          let x = stays h.0 h.1 n h.3 in
          (h.0, x.0, h.2, x.1, ap (λ (y : Worker). y.runs) x.2 ∙ h.4);
      runner = λ i u k p a runs. each (λ i (u : View). RunsJob u k p → (u.worker.live ≡ true) × (k < length r.jobs) × (is_claimed s.counts k ≡ true) × (u.worker.debts ≡ []))
          (λ runs. r.claims.runner 0 m k p at runs) (λ runs. absurd (no_run spent k p refl runs)) (λ i u a runs. r.claims.runner i u k p a runs) i u a runs;
      alone = λ i k j u y p q a b ru ry. let f = was i u j p a ru in let g = was k y j q b ry in r.claims.alone i k j f.0 g.0 p q f.1 g.1 f.2 g.2;
    };
    begun = record { before = r.begun.before; unowed = λ k j h. same_total (owing k) refl (same_owing k) ∙ r.begun.unowed k j h };
    pictures = record {
      wide = λ i u k p a runs. let f = was i u k p a runs in r.pictures.wide i f.0 k p f.1 f.2;
      inside = λ i u k p x a runs t. let f = was i u k p a runs in r.pictures.inside i f.0 k p x f.1 f.2 t;
      outside = λ i u k p x a runs t. let f = was i u k p a runs in r.pictures.outside i f.0 k p x f.1 f.2 t;
    };
    settled = r.settled;
    seats = record {
      live = λ i u a h. each (λ i (u : View). u.worker.live ≡ true → (u.worker.jobs ≡ r.jobs) × (u.worker.script ≡ r.script))
          (λ h. r.seats.live 0 m at h) (λ h. absurd (true≢false (sym h))) (λ i u a h. r.seats.live i u a h) i u a h;
      first = λ u a. ap (λ (y : View). y.worker.live) (same_at views' 0 u l a main_there) ∙ r.seats.first m at;
      number = omega (arith, total_set live_of (set s.views 0 l) other v spent there', total_set live_of s.views 0 m l at, live_one, r.seats.number, ap (λ (y : Main). y.live) (main_is s m r at));
      others = λ i u a h. each (λ i (u : View). i ≢ 0 → u.main.ended ≡ []) (λ n. absurd (n refl)) (λ n. refl) (λ i u a h. r.seats.others i u a h) i u a h;
      dead = λ i u a h. each (λ i (u : View). u.worker.live ≡ false → IsBlank u.worker) (λ h. r.seats.dead 0 m at h) (λ h. record { dead = refl; runs = refl; debts = refl; ended = refl }) (λ i u a h. r.seats.dead i u a h) i u a h;
      known = λ k j h.
          let o = r.seats.known k j h in
          ⊎_elim
          (λ (e : o.0 ≡ other).
          let same : o.1 ≡ v = same_at s.views other o.1 v (subst (λ i. At s.views i o.1) e o.2) there in (
            0,
            l,
            main_there,
            ⊎_elim
                (λ (c : Contains o.1.main.ended k). let d = subst (λ (ds : List ℕ). Contains ds k) (r.seats.others o.0 o.1 o.2 (λ z. apart (sym e ∙ z))) c in let h : d.0 < 0 = d.1 in absurd (omega arith))
                (λ (c : Contains o.1.worker.ended k). inl (Contains-append_right m.main.ended v.worker.ended k (subst (λ (y : View). Contains y.worker.ended k) same c)))
                o.3,
          ))
          (λ (n : o.0 ≡ other → ⊥).
          let x = stays o.0 o.1 n o.2 in
          (o.0, x.0, x.1, ⊎_elim (λ c. inl (x.3 k c)) (λ c. inr (subst (λ (w : Worker). Contains w.ended k) (sym x.2) c)) o.3))
          (cases_eq o.0 other);
      only = λ i u k a h. each (λ i (u : View). Knows u k → (k < length r.jobs) × (is_ended s.counts k ≡ true))
          (λ h. ⊎_elim
          (λ (c : Contains l.main.ended k). ⊎_elim (λ d. r.seats.only 0 m k at (inl d)) (λ d. r.seats.only other v k there (inr d)) (Contains-append_cases m.main.ended v.worker.ended k c))
          (λ c. r.seats.only 0 m k at (inr c)) h)
          (λ h. absurd (⊎_elim (λ (c : Contains spent.main.ended k). let h : c.0 < 0 = c.1 in omega arith) (λ (c : Contains spent.worker.ended k). let h : c.0 < 0 = c.1 in omega arith) h))
          (λ i u a h. r.seats.only i u k a h) i u a h;
    };
    sweep = record { alone = λ i k u x a lu su b lx. absurd (no_sweep i u a lu su); knows = λ i u j a lu su l e. absurd (no_sweep i u a lu su); joined = λ i u a lu su. refl };
    rest = r.rest;
    plan = r.plan;
  }

pub join_keeps : (s : State) (m : View) (other : ℕ) (v : View) → RoundHolds s → At s.views 0 m → other ≢ 0 → At s.views other v → CanJoin v → RoundHolds (after_join s m other v)
join_keeps s m other v h at apart there can = ⊎_elim
    (λ (b : Between s). absurd (both_ways v.worker.live can.live (b.blank other v there).dead))
    (λ r. inr (join_round s r m other v at apart there can)) h
