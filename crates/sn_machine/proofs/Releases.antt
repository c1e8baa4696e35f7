-- A release keeps what holds between two steps.
use Rattle.std.proofs.Common.{◌≡◌, ◌≢◌, ℕ, ◌+◌, ◌-◌, ◌^◌, ◌<◌, ◌≤◌, Bool, true, false, ◌&&◌, cond, eqb, List, [], ◌++◌, length, get_or, set, sym, refl, ap, ◌∙◌, subst, ⊎_elim, inr, arith, length-set, get_or-set_same, get_or-set_other}
use Rattle.std.specs.Prelude.{Contains}
use Rattle.std.proofs.lemmas.Bool.{cases_eq, or_parts, eq-eqb, ne_eqb, false_from_ne_true}
use Rattle.sn_machine.specs.declared.views.View.{View}
use Rattle.sn_round.specs.Jobs.{predecessors}
use Rattle.sn_round.specs.Scripts.{word_at}
use Rattle.sn_machine.specs.States.{State, is_claimed, is_ended, has_begun, At, RunsJob}
use Rattle.sn_machine.specs.Steps.{Owes, paid_view, after_release}
use Rattle.sn_machine.specs.Rule.{tally, total, owing, owing_pair, waiting, DebtsHold, ClaimsHold, level_of, IsBlank, live_of, Knows, SweepHolds, InRound, Between, RoundHolds}
use Rattle.sn_machine.proofs.Sweeps.{sweep_stays}
use Rattle.sn_machine.proofs.Replaced.{first_stays, at_set, set_else, same_at, each_set, total_set, total_le, total_same}
use Rattle.sn_machine.proofs.Counts.{claimed_else, begun_else, ended_stays, unbegun}
use Rattle.sn_machine.proofs.Owing.{tally_middle, contains_middle, contains_else, middle_none}
use Rattle.sn_machine.proofs.Claims.{main_stays, known_stays}

module _ (s : State) (r : InRound s) (id : ℕ) (v : View) (front : List (ℕ × ℕ)) (p q : ℕ) (back : List (ℕ × ℕ)) (at : At s.views id v) (owes : Owes v front p q back) where
  abbrev word : ℕ
  word = get_or s.counts q 0

  abbrev pub now : List ℕ
  now = set s.counts q (word - 1)

  abbrev pub w : View
  w = paid_view v q (front ++ back) (word - 1)

  abbrev pub views' : List View
  views' = set s.views id w

  about : (q < length r.jobs) × (is_ended s.counts p ≡ true) × Contains (predecessors r.jobs q) p
  about = r.debts.named id v p q at (subst (λ ds. Contains ds (p, q)) (sym owes) (contains_middle front (p, q) back))

  has_word : q < length s.counts
  has_word = let a = about.0 in let b = r.plan.roomy in omega arith

  old_owing : (k : ℕ) → owing k v ≡ cond (eqb q k) 1 0 + owing k w
  old_owing k = ap (λ (ds : List (ℕ × ℕ)). tally (λ (d : ℕ × ℕ). eqb d.1 k) ds) owes ∙ tally_middle (λ (d : ℕ × ℕ). eqb d.1 k) front (p, q) back

  old_pair : (a b : ℕ) → owing_pair a b v ≡ cond (eqb p a && eqb q b) 1 0 + owing_pair a b w
  old_pair a b = ap (λ (ds : List (ℕ × ℕ)). tally (λ (d : ℕ × ℕ). eqb d.0 a && eqb d.1 b) ds) owes ∙ tally_middle (λ (d : ℕ × ℕ). eqb d.0 a && eqb d.1 b) front (p, q) back

  one_here : ◌≡◌ {A = ℕ} (cond (eqb q q) 1 0) 1
  one_here = ap (λ (b : Bool). cond b 1 0) (eq-eqb q q refl)

  some_owed : 0 < total (owing q) s.views
  some_owed = omega (arith, total_le (owing q) s.views id v at, old_owing q, one_here)

  fresh : has_begun s.counts q ≡ false
  fresh = false_from_ne_true (has_begun s.counts q) (λ h. let z = r.begun.unowed q about.0 h in let o = some_owed in absurd (omega arith))

  count : word ≡ waiting (is_ended s.counts) (predecessors r.jobs q) + total (owing q) s.views
  count = r.debts.counted q about.0 fresh

  little : word < 2 ^ 32
  little = r.debts.small q about.0 fresh

  now_word : get_or now q 0 ≡ word - 1
  now_word = get_or-set_same s.counts q (word - 1) 0 has_word

  now_fresh : has_begun now q ≡ false
  now_fresh = unbegun now q (word - 1) now_word (let l = little in omega arith)

  same_ended : is_ended now ≡ is_ended s.counts
  same_ended = ended_stays s.counts q (word - 1) has_word (or_parts (is_claimed s.counts q) (is_ended s.counts q) fresh).1 (λ e. let l = little in omega arith)

  same_begun : (k : ℕ) → has_begun now k ≡ has_begun s.counts k
  same_begun k = ⊎_elim (λ (e : k ≡ q). ap (has_begun now) e ∙ (now_fresh ∙ (sym fresh ∙ ap (has_begun s.counts) (sym e)))) (λ (d : k ≡ q → ⊥). begun_else s.counts q (word - 1) k d) (cases_eq k q)

  same_claimed : (k : ℕ) → is_claimed now k ≡ is_claimed s.counts k
  same_claimed k = ⊎_elim
      (λ (e : k ≡ q). ap (is_claimed now) e ∙ ((or_parts (is_claimed now q) (is_ended now q) now_fresh).0 ∙ (sym (or_parts (is_claimed s.counts q) (is_ended s.counts q) fresh).0 ∙ ap (is_claimed s.counts) (sym e))))
      (λ (d : k ≡ q → ⊥). claimed_else s.counts q (word - 1) k d) (cases_eq k q)

  less : (k : ℕ) → total (owing k) views' ≤ total (owing k) s.views
  less k = omega (arith, total_set (owing k) s.views id v w at, old_owing k)

  idle : (k : ℕ) (x : List ℕ) → RunsJob v k x → ⊥
  idle k x runs = middle_none front (p, q) back (sym owes ∙ (r.claims.runner id v k x at runs).3)

  was : (i : ℕ) (u : View) → At views' i u → (x : View) × At s.views i x × (x.worker.runs ≡ u.worker.runs)
  was i u a = ⊎_elim (λ (t : (i ≡ id) × (w ≡ u)). (v, subst (λ k. At s.views k v) (sym t.0) at, ap (λ (y : View). y.worker.runs) t.1)) (λ (t : (i ≢ id) × At s.views i u). (u, t.1, refl)) (at_set s.views id i w u a)

  paid_debts : DebtsHold r.jobs now views'
  paid_debts = record {
    once = λ a b. omega (arith, total_set (owing_pair a b) s.views id v w at, old_pair a b, r.debts.once a b);
    named = λ i u a b g c. subst (λ (e : ℕ → Bool). (b < length r.jobs) × (e a ≡ true) × Contains (predecessors r.jobs b) a) (sym same_ended)
        (each_set (λ i (u : View). Contains u.worker.debts (a, b) → (b < length r.jobs) × (is_ended s.counts a ≡ true) × Contains (predecessors r.jobs b) a) s.views id w
        (λ c. r.debts.named id v a b at (subst (λ ds. Contains ds (a, b)) (sym owes) (contains_else front (p, q) back (a, b) c))) (λ i u n g c. r.debts.named i u a b g c) i u g c);
    counted = λ k l h.
        let old = sym (same_begun k) ∙ h in
        ⊎_elim
        (λ (e : k ≡ q).
        let here : total (owing q) views' + 1 ≡ total (owing q) s.views = omega (arith, total_set (owing q) s.views id v w at, old_owing q, one_here) in
        let fine : get_or now q 0 ≡ waiting (is_ended s.counts) (predecessors r.jobs q) + total (owing q) views' = omega (arith, now_word, count) in
        subst (λ (m : ℕ × (ℕ → Bool)). get_or now m.0 0 ≡ waiting m.1 (predecessors r.jobs m.0) + total (owing m.0) views') (λ i. (sym e i, sym same_ended i)) fine)
        (λ (d : k ≡ q → ⊥).
        let z : ◌≡◌ {A = ℕ} (cond (eqb q k) 1 0) 0 = ap (λ (b : Bool). cond b 1 0) (ne_eqb q k (λ x. d (sym x))) in
        let same : total (owing k) s.views ≡ total (owing k) views' = omega (arith, total_set (owing k) s.views id v w at, old_owing k) in
        get_or-set_other s.counts q k (word - 1) 0 d ∙ (r.debts.counted k l old ∙ (λ i. waiting (sym same_ended i) (predecessors r.jobs k) + same i)))
        (cases_eq k q);
    small = λ k l h. ⊎_elim
        (λ (e : k ≡ q). subst (λ m. get_or now m 0 < 2 ^ 32) (sym e) (let l = little in omega (arith, now_word)))
        (λ (d : k ≡ q → ⊥). subst (λ n. n < 2 ^ 32) (sym (get_or-set_other s.counts q k (word - 1) 0 d)) (r.debts.small k l (sym (same_begun k) ∙ h)))
        (cases_eq k q);
  }

  paid_claims : ClaimsHold r.jobs now views'
  paid_claims = record {
    has_runner = λ k l c.
        let h = r.claims.has_runner k l (sym (same_claimed k) ∙ c) in
        let apart : h.0 ≢ id = λ e. idle k h.2 (subst (λ (u : View). RunsJob u k h.2) (same_at s.views id h.1 v (subst (λ m. At s.views m h.1) e h.3) at) h.4) in
        (h.0, h.1, h.2, set_else s.views id h.0 w apart ∙ h.3, h.4);
    runner = λ i u k x a runs. each_set (λ i (u : View). RunsJob u k x → (u.worker.live ≡ true) × (k < length r.jobs) × (is_claimed now k ≡ true) × (u.worker.debts ≡ [])) s.views id w
        (λ runs. absurd (idle k x runs)) (λ i u n a runs. let h = r.claims.runner i u k x a runs in (h.0, h.1, same_claimed k ∙ h.2, h.3)) i u a runs;
    alone = λ i k m u y a b g h ru ry. let f = was i u g in let z = was k y h in r.claims.alone i k m f.0 z.0 a b f.1 z.1 (f.2 ∙ ru) (z.2 ∙ ry);
  }

  pub release_round : InRound (after_release s id v q (front ++ back))
  release_round = record {
    main = r.main;
    jobs = r.jobs;
    script = r.script;
    crew = r.crew;
    at_go = r.at_go;
    has_main = main_stays s.views id v w r.main at refl r.has_main;
    phase = r.phase;
    debts = paid_debts;
    claims = paid_claims;
    begun = record {
      before = λ k a l h c. subst (λ (e : ℕ → Bool). e a ≡ true) (sym same_ended) (r.begun.before k a l (sym (same_begun k) ∙ h) c);
      unowed = λ k l h. let z = r.begun.unowed k l (sym (same_begun k) ∙ h) in omega (arith, less k);
    };
    pictures = record {
      wide = λ i u k x a runs. let f = was i u a in r.pictures.wide i f.0 k x f.1 (f.2 ∙ runs);
      inside = λ i u k x y a runs t. let f = was i u a in r.pictures.inside i f.0 k x y f.1 (f.2 ∙ runs) t;
      outside = λ i u k x y a runs t. let f = was i u a in r.pictures.outside i f.0 k x y f.1 (f.2 ∙ runs) t;
    };
    settled = λ x l h. subst (λ (e : ℕ → Bool). get_or s.memory x 0 ≡ word_at r.script (level_of r.jobs e x) x) (sym same_ended) (r.settled x l (λ k m c. h k m (same_claimed k ∙ c)));
    seats = record {
      live = λ i u a h. each_set (λ i (u : View). u.worker.live ≡ true → (u.worker.jobs ≡ r.jobs) × (u.worker.script ≡ r.script)) s.views id w
          (λ h. r.seats.live id v at h) (λ i u n a h. r.seats.live i u a h) i u a h;
      first = first_stays s.views id v w at refl r.seats.first;
      number = total_same live_of s.views id v w at refl ∙ r.seats.number;
      others = λ i u b h. each_set (λ i (u : View). i ≢ 0 → u.main.ended ≡ []) s.views id w (λ h. r.seats.others id v at h) (λ i u n b h. r.seats.others i u b h) i u b h;
      dead = λ i u a h. each_set (λ i (u : View). u.worker.live ≡ false → IsBlank u.worker) s.views id w (λ h. absurd (middle_none front (p, q) back (sym owes ∙ (r.seats.dead id v at h).debts))) (λ i u n a h. r.seats.dead i u a h) i u a h;
      known = λ k l h. known_stays s.views id v w k at (λ x. x) (r.seats.known k l (ap (λ (e : ℕ → Bool). e k) (sym same_ended) ∙ h));
      only = λ i u k a h. subst (λ (e : ℕ → Bool). (k < length r.jobs) × (e k ≡ true)) (sym same_ended)
          (each_set (λ i (u : View). Knows u k → (k < length r.jobs) × (is_ended s.counts k ≡ true)) s.views id w (λ h. r.seats.only id v k at h) (λ i u n a h. r.seats.only i u k a h) i u a h);
    };
    sweep = subst (λ (e : ℕ → Bool). SweepHolds r.jobs e (set s.views id w) r.main) (sym same_ended) (sweep_stays r.jobs (is_ended s.counts) s.views r.main id v w at refl refl refl r.sweep);
    rest = record { as_long = length-set s.counts q (word - 1) ∙ r.rest.as_long; same = λ k l. get_or-set_other s.counts q k (word - 1) 0 (λ e. let m = about.0 in omega arith) ∙ r.rest.same k l };
    plan = record {
      order = r.plan.order;
      free = r.plan.free;
      within = r.plan.within;
      roomy = let m = r.plan.roomy in omega (arith, length-set s.counts q (word - 1));
      is_script = r.plan.is_script;
    };
  }

-- a job that is owed has not begun
pub unbegun_owed : (s : State) (id : ℕ) (v : View) (front : List (ℕ × ℕ)) (p q : ℕ) (back : List (ℕ × ℕ)) → InRound s → At s.views id v → Owes v front p q back → has_begun s.counts q ≡ false
unbegun_owed s id v front p q back r at owes = fresh s r id v front p q back at owes

-- what a release finds: the word is a count of at least 1
pub release_word : (s : State) (id : ℕ) (v : View) (front : List (ℕ × ℕ)) (p q : ℕ) (back : List (ℕ × ℕ)) → InRound s → At s.views id v → Owes v front p q back → (0 < get_or s.counts q 0) × (get_or s.counts q 0 < 2 ^ 32)
release_word s id v front p q back r at owes = let c = count s r id v front p q back at owes in let o = some_owed s r id v front p q back at owes in (omega arith, little s r id v front p q back at owes)

-- a release keeps what holds between two steps
pub release_keeps : (s : State) (id : ℕ) (v : View) (front : List (ℕ × ℕ)) (p q : ℕ) (back : List (ℕ × ℕ)) → RoundHolds s → At s.views id v → Owes v front p q back → RoundHolds (after_release s id v q (front ++ back))
release_keeps s id v front p q back h at owes = ⊎_elim
    (λ (b : Between s). absurd (middle_none front (p, q) back (sym owes ∙ (b.blank id v at).debts)))
    (λ r. inr (release_round s r id v front p q back at owes)) h

pub release_finds : (s : State) (id : ℕ) (v : View) (front : List (ℕ × ℕ)) (p q : ℕ) (back : List (ℕ × ℕ)) → RoundHolds s → At s.views id v → Owes v front p q back → (0 < get_or s.counts q 0) × (get_or s.counts q 0 < 2 ^ 32)
release_finds s id v front p q back h at owes = ⊎_elim
    (λ (b : Between s). absurd (middle_none front (p, q) back (sym owes ∙ (b.blank id v at).debts)))
    (λ r. release_word s id v front p q back r at owes) h
