-- Main's view over the steps of a round.
use Rattle.std.proofs.Common.{◌≡◌, ◌∙◌, ℕ, ◌+◌, ◌-◌, ◌<◌, Bool, true, false, cond, List, length, sym, ap, subst, inl, inr}
use Rattle.std.specs.Prelude.{Contains}
use Rattle.std.proofs.lemmas.List.Elements.{Contains-append_right}
use Rattle.sn_mem.specs.declared.extents.Foot.{Foot}
use Rattle.sn_round.specs.declared.jobs.Job.{Job}
use Rattle.sn_machine.specs.declared.views.View.{View}
use Rattle.sn_machine.specs.declared.views.Phase.{Phase}
use Rattle.sn_machine.specs.declared.views.Phase.TheVariants.{Round}
use Rattle.sn_machine.specs.States.{IsInRound, jobs_in, script_in, crew_in, counts_in}
use Rattle.sn_machine.specs.Steps.{CanRest, CanSplit, crewed, go_view, join_view, split_main, split_worker}
use Rattle.sn_round.specs.Scripts.{sequential}
use Rattle.sn_round.proofs.Scripting.{sequential_step}
use Rattle.sn_table.specs.Rounds.{IsWorkOf}
use Rattle.sn_table.specs.Sweeps.{Serves, IsDone}
use Rattle.sn_table.specs.Seats.{Stands}

pub jobs_stay : (v w : View) (c n : ℕ) → Stands v c n w → jobs_in w.main.phase ≡ jobs_in v.main.phase
jobs_stay v w c n s = ap jobs_in s.phase

pub script_stays : (v w : View) (c n : ℕ) → Stands v c n w → script_in w.main.phase ≡ script_in v.main.phase
script_stays v w c n s = ap script_in s.phase

-- a split after a join
pub split_late : (v w : View) (c n : ℕ) → Stands v c n w → w.main.joined ≡ true → Stands v c (n + 1) (split_main w)
split_late v w c n s all = record {
  phase = ap (λ (b : Bool). cond b w.main.phase (crewed w.main.phase)) all ∙ s.phase;
  live_are = ap (λ (k : ℕ). k + 1) s.live_are;
  rested = s.rested;
  stores = s.stores;
}

pub join_on : (v w u : View) (c n : ℕ) → Stands v c n w → Stands v c (n - 1) (join_view w u)
join_on v w u c n s = record { phase = s.phase; live_are = ap (λ (k : ℕ). k - 1) s.live_are; rested = s.rested; stores = s.stores }

pub serves_as : (number : ℕ) (feet : ℕ → Foot) (f : ℕ → List ℕ → List ℕ) (a b : View) → b.worker.jobs ≡ a.worker.jobs → b.worker.script ≡ a.worker.script → Serves number feet f a → Serves number feet f b
serves_as number feet f a b j s h = subst (λ (x : List Job × List (List ℕ)). Serves number feet f (record b { worker = record b.worker { jobs = x.0; script = x.1 } })) (λ i. (sym j i, sym s i))
    (record { number = h.number; feet = h.feet; steps = h.steps })

-- the work serves each seat that main splits
pub serves_on : (number : ℕ) (feet : ℕ → Foot) (f : ℕ → List ℕ → List ℕ) (v w : View) (c n : ℕ) → Stands v c n w → Serves number feet f (split_worker v) → Serves number feet f (split_worker w)
serves_on number feet f v w c n s h = serves_as number feet f (split_worker v) (split_worker w) (jobs_stay v w c n s) (script_stays v w c n s) h

pub serves_gone : (number : ℕ) (feet : ℕ → Foot) (f : ℕ → List ℕ → List ℕ) (m : View) (jobs : List Job) (ws : List ℕ) → IsWorkOf number feet jobs → Serves number feet f (split_worker (go_view m jobs (sequential f (length jobs) ws)))
serves_gone number feet f m jobs ws w = record { number = w.0; feet = w.1; steps = λ j l. sequential_step f (length jobs) j ws l }

in_round : (v w : View) (c n : ℕ) → Stands v c n w → IsInRound w
in_round v w c n s = s.phase ∙ sym (ap (λ (p : Phase). Round (jobs_in p) (script_in p) (crew_in p) (counts_in p)) s.phase)

-- before the first join, and after the last
pub can_split_first : (v w : View) (c n : ℕ) → Stands v c n w → w.main.joined ≡ false → CanSplit w
can_split_first v w c n s none = record { running = in_round v w c n s; turn = inl none }

pub can_split_last : (v w : View) (c : ℕ) → Stands v c 0 w → CanSplit w
can_split_last v w c s = record { running = in_round v w c 0 s; turn = inr s.live_are }

pub can_rest : (v w : View) (c : ℕ) → Stands v c 0 w → ((j : ℕ) → j < length (jobs_in v.main.phase) → Contains w.main.ended j) → CanRest w
can_rest v w c s done = record {
  running = in_round v w c 0 s;
  none_live = s.live_are;
  all_ended = λ j l. done j (subst (λ (js : List Job). j < length js) (jobs_stay v w c 0 s) l);
}

pub knows_all : (v w : View) (jobs : List Job) → IsDone w (length jobs) → (j : ℕ) → j < length jobs → Contains (join_view v w).main.ended j
knows_all v w jobs done j l = Contains-append_right v.main.ended w.worker.ended j (done j l)
