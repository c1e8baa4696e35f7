-- The crew of a round is the number of seats that were split in it before the first join.
use Rattle.std.proofs.Common.{◌≡◌, ◌≢◌, ℕ, ◌+◌, ◌-◌, Bool, true, false, not, ◌&&◌, ◌||◌, cond, eqb, List, [], ◌∷◌, ◌++◌, length, get_or, set, sym, refl, ap, ◌∙◌, subst, ⊎_elim}
use Rattle.sn_round.specs.declared.jobs.Job.{Job}
use Rattle.sn_machine.specs.declared.views.View.{View}
use Rattle.sn_machine.specs.declared.views.Main.{Main}
use Rattle.sn_machine.specs.declared.views.Phase.{Phase}
use Rattle.sn_machine.specs.declared.views.Phase.TheVariants.{Idle, Round}
use Rattle.sn_machine.specs.States.{State, At, IsInRound, memory_in, counts_in, jobs_in, script_in, crew_in, spent}
use Rattle.sn_machine.specs.Steps.{set_memory, set_count, go_view, claim_view, read_view, got_view, pictured, ended_view, paid_view, ended_front, last_list, rested_view, crewed, split_main, split_worker, join_view, Step, idle_store, arm, idle_load, go, claim, load, store, «end», release, rest, split, join, look, Reaches, none, then}
use Rattle.sn_machine.specs.History.{begins, splits, joins, has_joined, crew_of}
use Rattle.sn_machine.proofs.Replaced.{at_set, set_here, set_else, same_at}
use Rattle.sn_machine.proofs.Splitting.{at_front}

-- what the history says of main, if it is in a round
abbrev Counted : Bool → ℕ → List View → Type 0
Counted joined crew views = (m : View) → At views 0 m → IsInRound m → (m.main.joined ≡ joined) × (crew_in m.main.phase ≡ crew)

idle_no : (m : View) (a b : List ℕ) → m.main.phase ≡ Idle a b → IsInRound m → ⊥
idle_no m a b idle running =
    let e : ◌≡◌ {A = Phase} (Idle a b) (Round (jobs_in m.main.phase) (script_in m.main.phase) (crew_in m.main.phase) (counts_in m.main.phase)) = sym idle ∙ running in
    cc

-- main's seat is put at rest or stays so
idles : (views : List View) (old w : View) (a b : List ℕ) (joined : Bool) (crew : ℕ) → At views 0 old → w.main.phase ≡ Idle a b → Counted joined crew (set views 0 w)
idles views old w a b joined crew at idle m here running =
    let same : w ≡ m = same_at (set views 0 w) 0 w m (set_here views 0 w old at) here in
    absurd (idle_no m a b (subst (λ (y : View). y.main.phase ≡ Idle a b) same idle) running)

-- a seat changes, and not in what main knows
stays : (views : List View) (id : ℕ) (v w : View) (joined : Bool) (crew : ℕ) → At views id v → w.main ≡ v.main → Counted joined crew views → Counted joined crew (set views id w)
stays views id v w joined crew at same h m here running = ⊎_elim
    (λ (t : (0 ≡ id) × (w ≡ m)).
    let main : v.main ≡ m.main = sym same ∙ ap (λ (y : View). y.main) t.1 in
    let there : At views 0 v = subst (λ k. At views k v) (sym t.0) at in
    subst (λ (y : Main). (y.joined ≡ joined) × (crew_in y.phase ≡ crew)) main (h v there (subst (λ (y : Main). y.phase ≡ Round (jobs_in y.phase) (script_in y.phase) (crew_in y.phase) (counts_in y.phase)) (sym main) running)))
    (λ (t : (0 ≢ id) × At views 0 m). h m t.1 running)
    (at_set views id 0 w m here)

claimed_main : (v : View) (j word : ℕ) → (claim_view v j word).main ≡ v.main
claimed_main v j word = either_main v j word (eqb word 0)
  where
    either_main : (v : View) (j word : ℕ) (b : Bool) → (cond b (got_view v j) (read_view v j word)).main ≡ v.main
    either_main v j word true = refl
    either_main v j word false = refl

crew_cond : (b : Bool) (jobs : List Job) (script : List (List ℕ)) (crew : ℕ) (at_go : List ℕ) → crew_in (cond b (Round jobs script crew at_go) (crewed (Round jobs script crew at_go))) ≡ cond (not b) (crew + 1) crew
crew_cond true jobs script crew at_go = refl
crew_cond false jobs script crew at_go = refl

crew_split : (m : View) → IsInRound m → crew_in (split_main m).main.phase ≡ cond (not m.main.joined) (crew_in m.main.phase + 1) (crew_in m.main.phase)
crew_split m running =
    ap (λ (p : Phase). crew_in (cond m.main.joined p (crewed p))) running
    ∙ crew_cond m.main.joined (jobs_in m.main.phase) (script_in m.main.phase) (crew_in m.main.phase) (counts_in m.main.phase)

counted_next : {s t : State} → (x : Step s t) → (joined : Bool) (crew : ℕ) → Counted joined crew s.views → Counted (not (begins x) && (joins x || joined)) (cond (begins x) 0 (cond (splits x && not joined) (crew + 1) crew)) t.views
counted_next (idle_store s m x a at i) joined crew h = idles s.views m (set_memory m x a) (set (memory_in m.main.phase) x a) (counts_in m.main.phase) joined crew at refl
counted_next (arm s m j a at i) joined crew h = idles s.views m (set_count m j a) (memory_in m.main.phase) (set (counts_in m.main.phase) j a) joined crew at refl
counted_next (idle_load s m at i) joined crew h = h
counted_next (go s m jobs script at can) joined crew h = λ w here running.
    let same : go_view m jobs script ≡ w = same_at (set s.views 0 (go_view m jobs script)) 0 (go_view m jobs script) w (set_here s.views 0 (go_view m jobs script) m at) here in
    subst (λ (y : View). (y.main.joined ≡ false) × (crew_in y.main.phase ≡ 0)) same (refl, refl)
counted_next (claim s id v j at can) joined crew h = stays s.views id v (claim_view v j (get_or s.counts j 0)) joined crew at (claimed_main v j (get_or s.counts j 0)) h
counted_next (load s id v j picture x at can) joined crew h = h
counted_next (store s id v j picture x a at can) joined crew h = stays s.views id v (pictured v j (set picture x a)) joined crew at refl h
counted_next («end» s id v j picture at can) joined crew h = stays s.views id v (ended_view v j) joined crew at refl h
counted_next (release s id v front p q back at owes) joined crew h = stays s.views id v (paid_view v q (front ++ back) (get_or s.counts q 0 - 1)) joined crew at refl h
counted_next (rest s m at can) joined crew h = idles s.views m (rested_view m) (last_list m.main.phase) (ended_front (length (jobs_in m.main.phase)) (counts_in m.main.phase)) joined crew at refl
counted_next (split s m at can) joined crew h = λ w here running.
    let same : split_main m ≡ w = same_at (set s.views 0 (split_main m) ++ split_worker m ∷ []) 0 (split_main m) w (at_front (set s.views 0 (split_main m)) (split_worker m ∷ []) 0 (split_main m) (set_here s.views 0 (split_main m) m at)) here in
    let old = h m at can.running in
    subst (λ (y : View). (y.main.joined ≡ joined) × (crew_in y.main.phase ≡ cond (not joined) (crew + 1) crew)) same
    (old.0, crew_split m can.running ∙ (λ i. cond (not (old.0 i)) (old.1 i + 1) (old.1 i)))
counted_next (join s m other v at apart there can) joined crew h = λ w here running.
    let same : join_view m v ≡ w = same_at (set (set s.views 0 (join_view m v)) other spent) 0 (join_view m v) w (set_else (set s.views 0 (join_view m v)) other 0 spent (λ e. apart (sym e)) ∙ set_here s.views 0 (join_view m v) m at) here in
    let round : IsInRound m = subst (λ (y : View). IsInRound y) (sym same) running in
    let old = h m at round in
    subst (λ (y : View). (y.main.joined ≡ true) × (crew_in y.main.phase ≡ crew)) same (refl, old.1)
counted_next (look s id v j at live) joined crew h = stays s.views id v (read_view v j (get_or s.counts j 0)) joined crew at refl h

counted : {s t : State} → (run : Reaches s t) → ((m : View) → At s.views 0 m → IsInRound m → ⊥) → Counted (has_joined run) (crew_of run) t.views
counted (none s) idle = λ m at running. absurd (idle m at running)
counted (then s t u run x) idle = counted_next x (has_joined run) (crew_of run) (counted run idle)

-- the crew in main's view, in a round
pub crew_counted : {s t : State} → (run : Reaches s t) → ((m : View) → At s.views 0 m → IsInRound m → ⊥) → (m : View) → At t.views 0 m → IsInRound m → crew_in m.main.phase ≡ crew_of run
crew_counted run idle m at running = (counted run idle m at running).1
