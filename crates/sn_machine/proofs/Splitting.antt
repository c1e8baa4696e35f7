-- A split keeps what holds between two steps.
use Rattle.std.proofs.Common.{◌≡◌, ◌≢◌, ◌⊎◌, ℕ, zero, suc, ◌+◌, ◌<◌, ◌≤◌, Bool, true, false, cond, List, [], ◌∷◌, ◌++◌, length, set, sym, refl, ap, ◌∙◌, subst, ⊎_elim, inl, inr, arith}
use Rattle.std.specs.Prelude.{Contains}
use Rattle.std.proofs.lemmas.Bool.{cases_eq, false_from_ne_true}
use mathlib.Core.Option.{some-injective, some-ne-none}
use Rattle.sn_round.specs.declared.jobs.Job.{Job}
use Rattle.sn_machine.specs.declared.views.View.{View}
use Rattle.sn_machine.specs.declared.views.Main.{Main}
use Rattle.sn_machine.specs.declared.views.Worker.{Worker}
use Rattle.sn_machine.specs.declared.views.Phase.{Phase}
use Rattle.sn_machine.specs.declared.views.Phase.TheVariants.{Idle, Round}
use Rattle.sn_round.specs.Jobs.{predecessors}
use Rattle.sn_machine.specs.States.{State, is_claimed, is_ended, At, RunsJob, jobs_in, script_in, crew_in, counts_in}
use Rattle.sn_machine.specs.Steps.{CanSplit, crewed, split_main, split_worker, after_split}
use Rattle.sn_machine.specs.Rule.{total, owing, owing_pair, waiting, IsBlank, live_of, Knows, SweepHolds, InRound, Between, RoundHolds}
use Rattle.sn_machine.proofs.Replaced.{set_here, set_else, same_at, each_set, total_same, total_le}
use Rattle.sn_machine.proofs.Orders.{both_ways}
use Rattle.sn_machine.proofs.Waits.{no_run}

pub at_front : (l m : List View) (i : ℕ) (a : View) → At l i a → At (l ++ m) i a
at_front [] m i a e = absurd (some-ne-none a (sym e))
at_front (x ∷ xs) m zero a e = e
at_front (x ∷ xs) m (suc i) a e = at_front xs m i a e

pub at_snoc : (l : List View) (a b : View) (j : ℕ) → At (l ++ a ∷ []) j b → At l j b ⊎ ((j ≡ length l) × (a ≡ b))
at_snoc [] a b zero e = inr (refl, some-injective a b e)
at_snoc [] a b (suc j) e = absurd (some-ne-none b (sym e))
at_snoc (x ∷ xs) a b zero e = inl e
at_snoc (x ∷ xs) a b (suc j) e = ⊎_elim (λ h. inl h) (λ (t : (j ≡ length xs) × (a ≡ b)). inr (ap suc t.0, t.1)) (at_snoc xs a b j e)

pub at_end : (l : List View) (a : View) → At (l ++ a ∷ []) (length l) a
at_end [] a = refl
at_end (x ∷ xs) a = at_end xs a

pub total_snoc : (f : View → ℕ) (l : List View) (a : View) → total f (l ++ a ∷ []) ≡ total f l + f a
total_snoc f [] a = omega arith
total_snoc f (x ∷ xs) a = omega (arith, total_snoc f xs a)

choose : (b : Bool) (jobs : List Job) (script : List (List ℕ)) (crew : ℕ) (at_go : List ℕ) → cond b (Round jobs script crew at_go) (crewed (Round jobs script crew at_go)) ≡ Round jobs script (cond b crew (crew + 1)) at_go
choose true jobs script crew at_go = refl
choose false jobs script crew at_go = refl

not_live : (u : View) → live_of u ≡ 0 → u.worker.live ≡ false
not_live u e = false_from_ne_true u.worker.live (λ h. let one : ◌≡◌ {A = ℕ} (cond u.worker.live 1 0) 1 = ap (λ (l : Bool). cond l 1 0) h in absurd (omega arith))

-- if main's number is 0, no seat is live
pub all_dead : (s : State) (r : InRound s) → r.main.live ≡ 0 → (i : ℕ) (u : View) → At s.views i u → u.worker.live ≡ false
all_dead s r none i u a = not_live u (omega (arith, total_le live_of s.views i u a, r.seats.number, none))

module _ (s : State) (r : InRound s) (m : View) (at : At s.views 0 m) (can : CanSplit m) where
  abbrev l : View
  l = split_main m

  abbrev n : View
  n = split_worker m

  abbrev views' : List View
  views' = set s.views 0 l ++ n ∷ []

  main_is : m.main ≡ r.main
  main_is = ap (λ (y : View). y.main) (same_at s.views 0 m r.has_main.0 at r.has_main.1) ∙ r.has_main.2

  phase_is : m.main.phase ≡ Round r.jobs r.script r.crew r.at_go
  phase_is = ap (λ (y : Main). y.phase) main_is ∙ r.phase

  -- each view is as an old one, or the new worker's
  each : (P : ℕ → View → Type 0) → ((i : ℕ) → P i n) → P 0 l → ((i : ℕ) (u : View) → At s.views i u → P i u) → (i : ℕ) (u : View) → At views' i u → P i u
  each P new left old i u a = ⊎_elim
      (λ (h : At (set s.views 0 l) i u). each_set P s.views 0 l left (λ i u d a. old i u a) i u h)
      (λ (t : (i ≡ length (set s.views 0 l)) × (n ≡ u)). subst (P i) t.1 (new i))
      (at_snoc (set s.views 0 l) n u i a)

  -- a view that runs a job is as an old one
  was : (i : ℕ) (u : View) (k : ℕ) (p : List ℕ) → At views' i u → RunsJob u k p → (x : View) × At s.views i x × RunsJob x k p
  was i u k p a = each (λ i u. RunsJob u k p → (x : View) × At s.views i x × RunsJob x k p) (λ i runs. absurd (no_run n k p refl runs)) (λ runs. (m, at, runs)) (λ i u a runs. (u, a, runs)) i u a

  -- and an old view stands there with its worker's part, and what main knew
  stays : (i : ℕ) (u : View) → At s.views i u → (x : View) × At views' i x × (x.worker ≡ u.worker) × (x.main.ended ≡ u.main.ended)
  stays i u a = ⊎_elim
      (λ (e : i ≡ 0). let same : m ≡ u = same_at s.views 0 m u at (subst (λ k. At s.views k u) e a) in
      (l, at_front (set s.views 0 l) (n ∷ []) i l (subst (λ k. At (set s.views 0 l) k l) (sym e) (set_here s.views 0 l m at)), ap (λ (y : View). y.worker) same, ap (λ (y : View). y.main.ended) same))
      (λ (d : i ≡ 0 → ⊥). (u, at_front (set s.views 0 l) (n ∷ []) i u (set_else s.views 0 i l d ∙ a), refl, refl))
      (cases_eq i 0)

  same_total : (f : View → ℕ) → f l ≡ f m → f n ≡ 0 → total f views' ≡ total f s.views
  same_total f a b = omega (arith, total_snoc f (set s.views 0 l) n, total_same f s.views 0 m l at a)

  -- a view of the new list is an old one's worker, or the new one at the end
  whose : (i : ℕ) (u : View) → At views' i u → ((x : View) × At s.views i x × (x.worker ≡ u.worker)) ⊎ ((i ≡ length (set s.views 0 l)) × (n ≡ u))
  whose i u a = ⊎_elim
      (λ (h : At (set s.views 0 l) i u). inl (each_set (λ i (u : View). (x : View) × At s.views i x × (x.worker ≡ u.worker)) s.views 0 l (m, at, refl) (λ i u d a. (u, a, refl)) i u h))
      (λ (t : (i ≡ length (set s.views 0 l)) × (n ≡ u)). inr t)
      (at_snoc (set s.views 0 l) n u i a)

  dead : m.main.joined ≡ true → (i : ℕ) (u : View) → At s.views i u → u.worker.live ≡ false
  dead j = all_dead s r (ap (λ (y : Main). y.live) (sym main_is) ∙ ⊎_elim (λ (f : m.main.joined ≡ false). absurd (both_ways m.main.joined j f)) (λ (z : m.main.live ≡ 0). z) can.turn)

  told : m.main.joined ≡ true → (k : ℕ) → k < length r.jobs → is_ended s.counts k ≡ true → Contains m.main.ended k
  told j k h e =
      let o = r.seats.known k h e in
      ⊎_elim
      (λ (c : Contains o.1.main.ended k). ⊎_elim
      (λ (z : o.0 ≡ 0). subst (λ (y : View). Contains y.main.ended k) (same_at s.views 0 o.1 m (subst (λ i. At s.views i o.1) z o.2) at) c)
      (λ (d : o.0 ≡ 0 → ⊥). let x = subst (λ (es : List ℕ). Contains es k) (r.seats.others o.0 o.1 o.2 d) c in let g : x.0 < 0 = x.1 in absurd (omega arith))
      (cases_eq o.0 0))
      (λ (c : Contains o.1.worker.ended k). let x = subst (λ (es : List ℕ). Contains es k) (r.seats.dead o.0 o.1 o.2 (dead j o.0 o.1 o.2)).ended c in let g : x.0 < 0 = x.1 in absurd (omega arith))
      o.3

  -- an old sweep is over if a new seat may be split
  no_sweep : (i : ℕ) (x : View) → At s.views i x → x.worker.live ≡ true → x.worker.sweeps ≡ true → ⊥
  no_sweep i x a lx sx = both_ways x.worker.live lx (dead (ap (λ (y : Main). y.joined) main_is ∙ r.sweep.joined i x a lx sx) i x a)

  main_there : At views' 0 l
  main_there = at_front (set s.views 0 l) (n ∷ []) 0 l (set_here s.views 0 l m at)

  split_sweep : SweepHolds r.jobs (is_ended s.counts) views' l.main
  split_sweep = record {
    alone = λ i k u y a lu su b ly. ⊎_elim
        (λ (t : (x : View) × At s.views i x × (x.worker ≡ u.worker)). absurd (no_sweep i t.0 t.1 (ap (λ (w : Worker). w.live) t.2 ∙ lu) (ap (λ (w : Worker). w.sweeps) t.2 ∙ su)))
        (λ (t : (i ≡ length (set s.views 0 l)) × (n ≡ u)). ⊎_elim
        (λ (z : (x : View) × At s.views k x × (x.worker ≡ y.worker)). absurd (both_ways z.0.worker.live (ap (λ (w : Worker). w.live) z.2 ∙ ly) (dead (ap (λ (v : View). v.worker.sweeps) t.1 ∙ su) k z.0 z.1)))
        (λ (z : (k ≡ length (set s.views 0 l)) × (n ≡ y)). z.0 ∙ sym t.0)
        (whose k y b))
        (whose i u a);
    knows = λ i u j a lu su h e. ⊎_elim
        (λ (t : (x : View) × At s.views i x × (x.worker ≡ u.worker)). absurd (no_sweep i t.0 t.1 (ap (λ (w : Worker). w.live) t.2 ∙ lu) (ap (λ (w : Worker). w.sweeps) t.2 ∙ su)))
        (λ (t : (i ≡ length (set s.views 0 l)) × (n ≡ u)). subst (λ (v : View). Contains v.worker.ended j) t.1 (told (ap (λ (v : View). v.worker.sweeps) t.1 ∙ su) j h e))
        (whose i u a);
    joined = λ i u a lu su. ⊎_elim
        (λ (t : (x : View) × At s.views i x × (x.worker ≡ u.worker)). absurd (no_sweep i t.0 t.1 (ap (λ (w : Worker). w.live) t.2 ∙ lu) (ap (λ (w : Worker). w.sweeps) t.2 ∙ su)))
        (λ (t : (i ≡ length (set s.views 0 l)) × (n ≡ u)). ap (λ (v : View). v.worker.sweeps) t.1 ∙ su)
        (whose i u a);
  }

  pub split_round : InRound (after_split s m)
  split_round = record {
    main = l.main;
    jobs = r.jobs;
    script = r.script;
    crew = cond m.main.joined r.crew (r.crew + 1);
    at_go = r.at_go;
    has_main = (l, main_there, refl);
    phase = ap (λ (p : Phase). cond m.main.joined p (crewed p)) phase_is ∙ choose m.main.joined r.jobs r.script r.crew r.at_go;
    debts = record {
      once = λ p q. subst (λ k. k ≤ 1) (sym (same_total (owing_pair p q) refl refl)) (r.debts.once p q);
      named = λ i u p q a c. each (λ i (u : View). Contains u.worker.debts (p, q) → (q < length r.jobs) × (is_ended s.counts p ≡ true) × Contains (predecessors r.jobs q) p)
          (λ i c. absurd (let h : c.0 < 0 = c.1 in omega arith)) (λ c. r.debts.named 0 m p q at c) (λ i u a c. r.debts.named i u p q a c) i u a c;
      counted = λ q j h. r.debts.counted q j h ∙ ap (λ k. waiting (is_ended s.counts) (predecessors r.jobs q) + k) (sym (same_total (owing q) refl refl));
      small = r.debts.small;
    };
    claims = record {
      has_runner = λ k j c. let h = r.claims.has_runner k j c in let x = stays h.0 h.1 h.3 in (h.0, x.0, h.2, x.1, ap (λ (y : Worker). y.runs) x.2 ∙ h.4);
      runner = λ i u k p a runs. each (λ i (u : View). RunsJob u k p → (u.worker.live ≡ true) × (k < length r.jobs) × (is_claimed s.counts k ≡ true) × (u.worker.debts ≡ []))
          (λ i runs. absurd (no_run n k p refl runs)) (λ runs. r.claims.runner 0 m k p at runs) (λ i u a runs. r.claims.runner i u k p a runs) i u a runs;
      alone = λ i k j u y p q a b ru ry. let f = was i u j p a ru in let g = was k y j q b ry in r.claims.alone i k j f.0 g.0 p q f.1 g.1 f.2 g.2;
    };
    begun = record { before = r.begun.before; unowed = λ k j h. same_total (owing k) refl refl ∙ r.begun.unowed k j h };
    pictures = record {
      wide = λ i u k p a runs. let f = was i u k p a runs in r.pictures.wide i f.0 k p f.1 f.2;
      inside = λ i u k p x a runs t. let f = was i u k p a runs in r.pictures.inside i f.0 k p x f.1 f.2 t;
      outside = λ i u k p x a runs t. let f = was i u k p a runs in r.pictures.outside i f.0 k p x f.1 f.2 t;
    };
    settled = r.settled;
    seats = record {
      live = λ i u a h. each (λ i (u : View). u.worker.live ≡ true → (u.worker.jobs ≡ r.jobs) × (u.worker.script ≡ r.script))
          (λ i h. (ap jobs_in phase_is, ap script_in phase_is)) (λ h. r.seats.live 0 m at h) (λ i u a h. r.seats.live i u a h) i u a h;
      first = λ u a. ap (λ (y : View). y.worker.live) (same_at views' 0 u l a main_there) ∙ r.seats.first m at;
      number = omega (arith, total_snoc live_of (set s.views 0 l) n, total_same live_of s.views 0 m l at refl, r.seats.number, ap (λ (y : Main). y.live) main_is);
      others = λ i u a h. each (λ i (u : View). i ≢ 0 → u.main.ended ≡ []) (λ i h. refl) (λ h. r.seats.others 0 m at h) (λ i u a h. r.seats.others i u a h) i u a h;
      dead = λ i u a h. each (λ i (u : View). u.worker.live ≡ false → IsBlank u.worker) (λ i h. absurd (cc)) (λ h. r.seats.dead 0 m at h) (λ i u a h. r.seats.dead i u a h) i u a h;
      known = λ k j h.
          let o = r.seats.known k j h in
          let x = stays o.0 o.1 o.2 in
          (o.0, x.0, x.1, ⊎_elim (λ a. inl (subst (λ (e : List ℕ). Contains e k) (sym x.3) a)) (λ b. inr (subst (λ (w : Worker). Contains w.ended k) (sym x.2) b)) o.3);
      only = λ i u k a h. each (λ i (u : View). Knows u k → (k < length r.jobs) × (is_ended s.counts k ≡ true))
          (λ i h. ⊎_elim (λ (c : Contains n.main.ended k). absurd (let g : c.0 < 0 = c.1 in omega arith)) (λ c. r.seats.only 0 m k at (inl c)) h)
          (λ h. r.seats.only 0 m k at h) (λ i u a h. r.seats.only i u k a h) i u a h;
    };
    sweep = split_sweep;
    rest = r.rest;
    plan = r.plan;
  }

pub split_keeps : (s : State) (m : View) → RoundHolds s → At s.views 0 m → CanSplit m → RoundHolds (after_split s m)
split_keeps s m h at can = ⊎_elim
    (λ (b : Between s).
    let e : ◌≡◌ {A = Phase} (Idle s.memory s.counts) (Round (jobs_in m.main.phase) (script_in m.main.phase) (crew_in m.main.phase) (counts_in m.main.phase)) =
    sym b.phase ∙ (ap (λ (y : Main). y.phase) (sym b.has_main.2) ∙ (ap (λ (y : View). y.main.phase) (same_at s.views 0 b.has_main.0 m b.has_main.1 at) ∙ can.running)) in
    absurd (cc))
    (λ r. inr (split_round s r m at can)) h
