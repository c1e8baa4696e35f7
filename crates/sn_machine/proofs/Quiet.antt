-- A step that only reads, and changes the readings of a view.
use Rattle.std.proofs.Common.{◌≡◌, ◌≢◌, ℕ, ◌+◌, ◌<◌, ◌≤◌, Bool, true, false, cond, eqb, List, [], length, get_or, set, sym, refl, ap, ◌∙◌, subst, ⊎_elim, inr}
use Rattle.std.specs.Prelude.{Contains}
use Rattle.std.proofs.lemmas.Bool.{cases_Bool, cases_eq, eqb-true}
use lib.Seq.{set-get_or}
use Rattle.sn_machine.specs.declared.views.View.{View}
use Rattle.sn_round.specs.Jobs.{predecessors}
use Rattle.sn_machine.specs.States.{State, CLAIMED, is_claimed, is_ended, At, RunsJob}
use Rattle.sn_machine.specs.Steps.{CanClaim, read_view, got_view, after_claim}
use Rattle.sn_machine.specs.Rule.{owing, owing_pair, waiting, IsBlank, live_of, Knows, InRound, RoundHolds}
use Rattle.sn_machine.proofs.Sweeps.{sweep_stays}
use Rattle.sn_machine.proofs.Replaced.{first_stays, at_set, set_here, set_else, same_at, each_set, total_same}
use Rattle.sn_machine.proofs.Claims.{main_stays, idle_dead, known_stays, got_round}

module _ (s : State) (r : InRound s) (id : ℕ) (v : View) (at : At s.views id v) (n : ℕ) (l : ℕ × ℕ) where
  abbrev q : View
  q = record v { worker = record v.worker { readings = n; last = l } }

  abbrev views' : List View
  views' = set s.views id q

  was : (i : ℕ) (u : View) → At views' i u → (x : View) × At s.views i x × (x.worker.runs ≡ u.worker.runs)
  was i u a = ⊎_elim (λ (t : (i ≡ id) × (q ≡ u)). (v, subst (λ k. At s.views k v) (sym t.0) at, ap (λ (y : View). y.worker.runs) t.1)) (λ (t : (i ≢ id) × At s.views i u). (u, t.1, refl)) (at_set s.views id i q u a)

  pub read_round : InRound (record { memory = s.memory; counts = s.counts; views = views' })
  read_round = record {
    main = r.main;
    jobs = r.jobs;
    script = r.script;
    crew = r.crew;
    at_go = r.at_go;
    has_main = main_stays s.views id v q r.main at refl r.has_main;
    phase = r.phase;
    debts = record {
      once = λ p j. subst (λ n. n ≤ 1) (sym (total_same (owing_pair p j) s.views id v q at refl)) (r.debts.once p j);
      named = λ i u p j a c. each_set (λ i (u : View). Contains u.worker.debts (p, j) → (j < length r.jobs) × (is_ended s.counts p ≡ true) × Contains (predecessors r.jobs j) p) s.views id q
          (λ c. r.debts.named id v p j at c) (λ i u n e c. r.debts.named i u p j e c) i u a c;
      counted = λ j m h. r.debts.counted j m h ∙ ap (λ n. waiting (is_ended s.counts) (predecessors r.jobs j) + n) (sym (total_same (owing j) s.views id v q at refl));
      small = r.debts.small;
    };
    claims = record {
      has_runner = λ k l c.
          let h = r.claims.has_runner k l c in
          ⊎_elim
          (λ (e : h.0 ≡ id). (id, q, h.2, set_here s.views id q v at, ap (λ (y : View). y.worker.runs) (same_at s.views id v h.1 at (subst (λ m. At s.views m h.1) e h.3)) ∙ h.4))
          (λ (d : h.0 ≡ id → ⊥). (h.0, h.1, h.2, set_else s.views id h.0 q d ∙ h.3, h.4))
          (cases_eq h.0 id);
      runner = λ i u k p a runs. each_set (λ i (u : View). RunsJob u k p → (u.worker.live ≡ true) × (k < length r.jobs) × (is_claimed s.counts k ≡ true) × (u.worker.debts ≡ [])) s.views id q
          (λ runs. r.claims.runner id v k p at runs) (λ i u n a runs. r.claims.runner i u k p a runs) i u a runs;
      alone = λ i k m u x p j a b ru rx. let f = was i u a in let g = was k x b in r.claims.alone i k m f.0 g.0 p j f.1 g.1 (f.2 ∙ ru) (g.2 ∙ rx);
    };
    begun = record { before = r.begun.before; unowed = λ k l h. total_same (owing k) s.views id v q at refl ∙ r.begun.unowed k l h };
    pictures = record {
      wide = λ i u k p a runs. let f = was i u a in r.pictures.wide i f.0 k p f.1 (f.2 ∙ runs);
      inside = λ i u k p x a runs t. let f = was i u a in r.pictures.inside i f.0 k p x f.1 (f.2 ∙ runs) t;
      outside = λ i u k p x a runs t. let f = was i u a in r.pictures.outside i f.0 k p x f.1 (f.2 ∙ runs) t;
    };
    settled = r.settled;
    seats = record {
      live = λ i u a h. each_set (λ i (u : View). u.worker.live ≡ true → (u.worker.jobs ≡ r.jobs) × (u.worker.script ≡ r.script)) s.views id q
          (λ h. r.seats.live id v at h) (λ i u n a h. r.seats.live i u a h) i u a h;
      first = first_stays s.views id v q at refl r.seats.first;
      number = total_same live_of s.views id v q at refl ∙ r.seats.number;
      others = λ i u b h. each_set (λ i (u : View). i ≢ 0 → u.main.ended ≡ []) s.views id q (λ h. r.seats.others id v at h) (λ i u n b h. r.seats.others i u b h) i u b h;
      dead = λ i u a h. each_set (λ i (u : View). u.worker.live ≡ false → IsBlank u.worker) s.views id q (λ h. let b = r.seats.dead id v at h in record { dead = b.dead; runs = b.runs; debts = b.debts; ended = b.ended }) (λ i u n a h. r.seats.dead i u a h) i u a h;
      known = λ k l h. known_stays s.views id v q k at (λ x. x) (r.seats.known k l h);
      only = λ i u k a h. each_set (λ i (u : View). Knows u k → (k < length r.jobs) × (is_ended s.counts k ≡ true)) s.views id q (λ h. r.seats.only id v k at h) (λ i u n a h. r.seats.only i u k a h) i u a h;
    };
    sweep = sweep_stays r.jobs (is_ended s.counts) s.views r.main id v q at refl refl refl r.sweep;
    rest = r.rest;
    plan = r.plan;
  }

claim_in : (s : State) (id : ℕ) (v : View) (j : ℕ) → InRound s → At s.views id v → CanClaim v j → InRound (after_claim s id v j)
claim_in s id v j r at can =
    let word : ℕ = get_or s.counts j 0 in
    let P : Bool → Type 0 = λ b. InRound (record { memory = s.memory; counts = set s.counts j (cond b CLAIMED word); views = set s.views id (cond b (got_view v j) (read_view v j word)) }) in
    ⊎_elim
    (λ (yes : eqb word 0 ≡ true). subst P (sym yes) (got_round s r id v j at can (eqb-true word 0 yes)))
    (λ (no : eqb word 0 ≡ false). subst P (sym no) (subst (λ c. InRound (record { memory = s.memory; counts = c; views = set s.views id (read_view v j word) })) (sym (set-get_or s.counts j 0)) (read_round s r id v at (v.worker.readings + 1) (j, word))))
    (cases_Bool (eqb word 0))

-- a claim keeps what holds between two steps
pub claim_keeps : (s : State) (id : ℕ) (v : View) (j : ℕ) → RoundHolds s → At s.views id v → CanClaim v j → RoundHolds (after_claim s id v j)
claim_keeps s id v j h at can = ⊎_elim (λ b. absurd (idle_dead s id v b at can.live)) (λ r. inr (claim_in s id v j r at can)) h
