-- Idle stores and go keep what holds between two steps.
use Rattle.std.proofs.Common.{◌≡◌, ◌≢◌, ℕ, zero, suc, ◌+◌, ◌^◌, ◌<◌, ◌≤◌, Bool, false, not, ◌&&◌, cond, eqb, List, [], ◌∷◌, length, get_or, set, sym, refl, ap, ◌∙◌, subst, ⊎_elim, inl, inr, arith}
use Rattle.std.specs.Prelude.{Contains}
use Rattle.std.proofs.lemmas.Bool.{cases_eq, eq-eqb, ne_eqb, and_left, or_parts}
use Rattle.sn_mem.specs.Words.{writes}
use Rattle.sn_round.specs.declared.jobs.Job.{Job}
use Rattle.sn_machine.specs.declared.views.View.{View}
use Rattle.sn_machine.specs.declared.views.Main.{Main}
use Rattle.sn_machine.specs.declared.views.Phase.{Phase}
use Rattle.sn_machine.specs.declared.views.Phase.TheVariants.{Idle, Round}
use Rattle.sn_round.specs.Jobs.{foot_at, predecessors, AreWithin}
use Rattle.sn_round.specs.Scripts.{IsScript, word_at}
use Rattle.sn_machine.specs.States.{State, is_claimed, is_ended, has_begun, At, RunsJob, memory_in, counts_in, IsIdle}
use Rattle.sn_machine.specs.Steps.{set_memory, after_memory, set_count, after_count, CanGo, go_view, after_go}
use Rattle.sn_machine.specs.Rule.{tally, total, owing, owing_pair, waiting, level_of, IsBlank, live_of, Knows, InRound, Between, RoundHolds}
use Rattle.sn_machine.proofs.Forms.{occurs, in_order}
use Rattle.sn_machine.proofs.Replaced.{set_here, same_at, each_set}
use Rattle.sn_machine.proofs.Levels.{level_bound}
use Rattle.sn_machine.proofs.Orders.{both_ways}
use Rattle.sn_machine.proofs.Counts.{unbegun}
use Rattle.sn_machine.proofs.Waits.{no_run}
use Rattle.sn_machine.proofs.Owing.{total_zero, one_or}

-- Between two rounds, if main's view changes and its phase shows the words
module _ (s t : State) (m w : View) (b : Between s) (at : At s.views 0 m) (views : t.views ≡ set s.views 0 w) (phase : w.main.phase ≡ Idle t.memory t.counts)
    (ended : w.main.ended ≡ []) (live : w.main.live ≡ m.main.live) (worker : w.worker ≡ m.worker) where
  pub still_between : Between t
  still_between = record {
    main = w.main;
    has_main = (w, subst (λ vs. At vs 0 w) (sym views) (set_here s.views 0 w m at), refl);
    phase = phase;
    knows = ended;
    live = live ∙ (ap (λ (y : Main). y.live) (ap (λ (y : View). y.main) (same_at s.views 0 m b.has_main.0 at b.has_main.1) ∙ b.has_main.2) ∙ b.live);
    blank = λ i u a. each_set (λ i (u : View). IsBlank u.worker) s.views 0 w (subst IsBlank (sym worker) (b.blank 0 m at)) (λ i u n a. b.blank i u a) i u (subst (λ vs. At vs i u) views a);
    others = λ i u a n. each_set (λ i (u : View). i ≢ 0 → u.main.ended ≡ []) s.views 0 w (λ n. absurd (n refl)) (λ i u d a n. b.others i u a n) i u (subst (λ vs. At vs i u) views a) n;
  }

pub main_of : (s : State) (m : View) → (b : Between s) → At s.views 0 m → m.main ≡ b.main
main_of s m b at = ap (λ (y : View). y.main) (same_at s.views 0 m b.has_main.0 at b.has_main.1) ∙ b.has_main.2

pub phase_of : (s : State) (m : View) → (b : Between s) → At s.views 0 m → m.main.phase ≡ Idle s.memory s.counts
phase_of s m b at = ap (λ (y : Main). y.phase) (main_of s m b at) ∙ b.phase

pub idle_round : (s : State) (m : View) → InRound s → At s.views 0 m → IsIdle m → ⊥
idle_round s m r at idle =
    let e : ◌≡◌ {A = Phase} (Idle (memory_in m.main.phase) (counts_in m.main.phase)) (Round r.jobs r.script r.crew r.at_go) =
    sym idle ∙ (ap (λ (y : View). y.main.phase) (same_at s.views 0 m r.has_main.0 at r.has_main.1) ∙ (ap (λ (y : Main). y.phase) r.has_main.2 ∙ r.phase)) in
    cc

pub memory_keeps : (s : State) (m : View) (x a : ℕ) → RoundHolds s → At s.views 0 m → IsIdle m → RoundHolds (after_memory s m x a)
memory_keeps s m x a h at idle = ⊎_elim
    (λ (b : Between s).
    let p = phase_of s m b at in
    inl (still_between s (after_memory s m x a) m (set_memory m x a) b at refl (ap (λ (y : Phase). Idle (set (memory_in y) x a) (counts_in y)) p) (ap (λ (y : Main). y.ended) (main_of s m b at) ∙ b.knows) refl refl))
    (λ r. absurd (idle_round s m r at idle)) h

pub count_keeps : (s : State) (m : View) (j a : ℕ) → RoundHolds s → At s.views 0 m → IsIdle m → RoundHolds (after_count s m j a)
count_keeps s m j a h at idle = ⊎_elim
    (λ (b : Between s).
    let p = phase_of s m b at in
    inl (still_between s (after_count s m j a) m (set_count m j a) b at refl (ap (λ (y : Phase). Idle (memory_in y) (set (counts_in y) j a)) p) (ap (λ (y : Main). y.ended) (main_of s m b at) ∙ b.knows) refl refl))
    (λ r. absurd (idle_round s m r at idle)) h

-- numbers below j that differ are at most j
below_sum : (j : ℕ) → List ℕ → ℕ
below_sum zero xs = 0
below_sum (suc j) xs = occurs j xs + below_sum j xs

sum_none : (j : ℕ) → below_sum j [] ≡ 0
unfolding below_sum
sum_none zero = refl
sum_none (suc j) = omega (arith, sum_none j)

sum_past : (j x : ℕ) (xs : List ℕ) → j ≤ x → below_sum j (x ∷ xs) ≡ below_sum j xs
unfolding below_sum
sum_past zero x xs l = refl
sum_past (suc j) x xs l = let z = one_or (eqb x j) (ne_eqb x j (λ e. omega arith)) in omega (arith, sum_past j x xs (omega arith))

sum_more : (j x : ℕ) (xs : List ℕ) → x < j → below_sum j (x ∷ xs) ≡ suc (below_sum j xs)
unfolding below_sum
sum_more zero x xs l = absurd (omega arith)
sum_more (suc j) x xs l = ⊎_elim
    (λ (e : x ≡ j). let z : ◌≡◌ {A = ℕ} (cond (eqb x j) 1 0) 1 = ap (λ (c : Bool). cond c 1 0) (eq-eqb x j e) in omega (arith, sum_past j x xs (omega arith)))
    (λ (d : x ≡ j → ⊥). let z = one_or (eqb x j) (ne_eqb x j d) in omega (arith, sum_more j x xs (omega arith)))
    (cases_eq x j)

sum_is : (j : ℕ) (xs : List ℕ) → ((x : ℕ) → Contains xs x → x < j) → below_sum j xs ≡ length xs
sum_is j [] h = sum_none j
sum_is j (x ∷ xs) h = omega (arith, sum_more j x xs (h x (0, omega arith, refl)), sum_is j xs (λ y c. h y (suc c.0, omega (arith, c.1), c.2)))

sum_small : (j : ℕ) (xs : List ℕ) → ((x : ℕ) → occurs x xs ≤ 1) → below_sum j xs ≤ j
unfolding below_sum
sum_small zero xs h = omega arith
sum_small (suc j) xs h = omega (arith, h j, sum_small j xs h)

pub pigeons : (j : ℕ) (xs : List ℕ) → ((x : ℕ) → Contains xs x → x < j) → ((x : ℕ) → occurs x xs ≤ 1) → length xs ≤ j
pigeons j xs a b = omega (arith, sum_is j xs a, sum_small j xs b)

-- if none has ended, all wait
pub waiting_all : (ended : ℕ → Bool) (ps : List ℕ) → ((p : ℕ) → Contains ps p → ended p ≡ false) → waiting ended ps ≡ length ps
waiting_all ended [] h = refl
waiting_all ended (p ∷ ps) h =
    let z : ◌≡◌ {A = ℕ} (cond (not (ended p)) 1 0) 1 = ap (λ (b : Bool). cond (not b) 1 0) (h p (0, omega arith, refl)) in
    omega (arith, waiting_all ended ps (λ q c. h q (suc c.0, omega (arith, c.1), c.2)))

module _ (s : State) (b : Between s) (m : View) (jobs : List Job) (script : List (List ℕ)) (at : At s.views 0 m) (can : CanGo m jobs script) where
  abbrev w : View
  w = go_view m jobs script

  abbrev views' : List View
  views' = set s.views 0 w

  phase_is : m.main.phase ≡ Idle s.memory s.counts
  phase_is = phase_of s m b at

  memory_is : memory_in m.main.phase ≡ s.memory
  memory_is = ap memory_in phase_is

  counts_is : counts_in m.main.phase ≡ s.counts
  counts_is = ap counts_in phase_is

  armed : (j : ℕ) → j < length jobs → get_or s.counts j 0 ≡ length (predecessors jobs j)
  armed j l = subst (λ cs. get_or cs j 0 ≡ length (predecessors jobs j)) counts_is (can.armed j l)

  small : (j : ℕ) → j < length jobs → length (predecessors jobs j) < 2 ^ 32
  small j l = let p = pigeons j (predecessors jobs j) (in_order jobs can.order j l).0 (in_order jobs can.order j l).1 in let q = can.order.few in omega arith

  fresh : (j : ℕ) → j < length jobs → has_begun s.counts j ≡ false
  fresh j l = let q = small j l in unbegun s.counts j (length (predecessors jobs j)) (armed j l) (omega arith)

  unended : (j : ℕ) → j < length jobs → is_ended s.counts j ≡ false
  unended j l = (or_parts (is_claimed s.counts j) (is_ended s.counts j) (fresh j l)).1

  unclaimed : (j : ℕ) → j < length jobs → is_claimed s.counts j ≡ false
  unclaimed j l = (or_parts (is_claimed s.counts j) (is_ended s.counts j) (fresh j l)).0

  -- each view has a blank worker's part
  blank : (i : ℕ) (u : View) → At views' i u → IsBlank u.worker
  blank i u a = each_set (λ i (u : View). IsBlank u.worker) s.views 0 w (b.blank 0 m at) (λ i u n a. b.blank i u a) i u a

  idle : (i : ℕ) (u : View) (k : ℕ) (p : List ℕ) → At views' i u → RunsJob u k p → ⊥
  idle i u k p a runs = no_run u k p (blank i u a).runs runs

  none : (f : View → ℕ) → ((u : View) → u.worker.debts ≡ [] → f u ≡ 0) → total f views' ≡ 0
  none f h = total_zero f views' (λ i u a. h u (blank i u a).debts)

  no_debt : (i : ℕ) (u : View) (d : ℕ × ℕ) → At views' i u → Contains u.worker.debts d → ⊥
  no_debt i u d a c = let e = subst (λ (ds : List (ℕ × ℕ)). Contains ds d) (blank i u a).debts c in let l : e.0 < 0 = e.1 in omega arith

  nobody : (i : ℕ) (u : View) (j : ℕ) → At views' i u → Knows u j → ⊥
  nobody i u j a h = ⊎_elim
      (λ (c : Contains u.main.ended j). let e = subst (λ (ds : List ℕ). Contains ds j) (each_set (λ i (u : View). u.main.ended ≡ []) s.views 0 w refl (λ i u n a. b.others i u a n) i u a) c in let l : e.0 < 0 = e.1 in omega arith)
      (λ (c : Contains u.worker.ended j). let e = subst (λ (ds : List ℕ). Contains ds j) (blank i u a).ended c in let l : e.0 < 0 = e.1 in omega arith)
      h

  pub go_round : InRound (after_go s m jobs script)
  go_round = record {
    main = w.main;
    jobs = jobs;
    script = script;
    crew = 0;
    at_go = counts_in m.main.phase;
    has_main = (w, set_here s.views 0 w m at, refl);
    phase = refl;
    debts = record {
      once = λ p q. let z = none (owing_pair p q) (λ u e. ap (λ (ds : List (ℕ × ℕ)). tally (λ (d : ℕ × ℕ). eqb d.0 p && eqb d.1 q) ds) e) in omega arith;
      named = λ i u p q a c. absurd (no_debt i u (p, q) a c);
      counted = λ j l h.
          let z = none (owing j) (λ u e. ap (λ (ds : List (ℕ × ℕ)). tally (λ (d : ℕ × ℕ). eqb d.1 j) ds) e) in
          let y = waiting_all (is_ended s.counts) (predecessors jobs j) (λ p c. unended p (let g : p < j = (in_order jobs can.order j l).0 p c in omega arith)) in
          omega (arith, armed j l);
      small = λ j l h. let q = small j l in omega (arith, armed j l);
    };
    claims = record {
      has_runner = λ j l c. absurd (both_ways (is_claimed s.counts j) c (unclaimed j l));
      runner = λ i u k p a runs. absurd (idle i u k p a runs);
      alone = λ i k j u y p q a c ru ry. absurd (idle i u j p a ru);
    };
    begun = record {
      before = λ j p l h c. absurd (both_ways (has_begun s.counts j) h (fresh j l));
      unowed = λ j l h. absurd (both_ways (has_begun s.counts j) h (fresh j l));
    };
    pictures = record {
      wide = λ i u k p a runs. absurd (idle i u k p a runs);
      inside = λ i u k p x a runs t. absurd (idle i u k p a runs);
      outside = λ i u k p x a runs t. absurd (idle i u k p a runs);
    };
    settled = λ x l h.
        let bound = level_bound (λ j. is_ended s.counts j && writes (foot_at jobs j) x) (length jobs) 0 (λ j g k. and_left (is_ended s.counts j) (writes (foot_at jobs j) x) (unended j k)) in
        let bottom : 0 ≡ level_of jobs (is_ended s.counts) x = omega arith in
        sym (ap (λ (ws : List ℕ). get_or ws x 0) (can.base ∙ memory_is)) ∙ ap (λ k. word_at script k x) bottom;
    seats = record {
      live = λ i u a h. absurd (both_ways u.worker.live h (blank i u a).dead);
      dead = λ i u a h. blank i u a;
      first = λ u a. (blank 0 u a).dead;
      number = total_zero live_of views' (λ i u a. ap (λ (l : Bool). cond l 1 0) (blank i u a).dead);
      others = λ i u a n. each_set (λ i (u : View). u.main.ended ≡ []) s.views 0 w refl (λ i u n a. b.others i u a n) i u a;
      known = λ j l h. absurd (both_ways (is_ended s.counts j) h (unended j l));
      only = λ i u j a h. absurd (nobody i u j a h);
    };
    sweep = record { alone = λ i k v u a lv sv b lu. absurd (both_ways v.worker.live lv (blank i v a).dead); knows = λ i v j a lv sv l e. absurd (both_ways v.worker.live lv (blank i v a).dead); joined = λ i v a lv sv. absurd (both_ways v.worker.live lv (blank i v a).dead) };
    rest = record { as_long = ap length (sym counts_is); same = λ j l. ap (λ (cs : List ℕ). get_or cs j 0) (sym counts_is) };
    plan = record {
      order = can.order;
      free = can.free;
      within = subst (λ ws. AreWithin (length ws) jobs) memory_is can.within;
      roomy = subst (λ cs. length jobs ≤ length cs) counts_is can.roomy;
      is_script = subst (λ ws. IsScript jobs (length ws) script) memory_is can.is_script;
    };
  }

pub go_keeps : (s : State) (m : View) (jobs : List Job) (script : List (List ℕ)) → RoundHolds s → At s.views 0 m → CanGo m jobs script → RoundHolds (after_go s m jobs script)
go_keeps s m jobs script h at can = ⊎_elim (λ b. inr (go_round s b m jobs script at can)) (λ r. absurd (idle_round s m r at can.idle)) h
