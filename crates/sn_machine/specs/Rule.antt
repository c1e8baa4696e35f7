-- The rule: what holds between any two steps.
use Rattle.std.specs.Prelude.{◌≡◌, ◌≢◌, ◌⊎◌, ℕ, zero, suc, ◌+◌, ◌^◌, ◌<◌, ◌≤◌, Bool, true, false, not, ◌&&◌, ◌==◌, cond, List, [], ◌∷◌, length, slice_index, Contains, None}
use Rattle.sn_mem.specs.Words.{writes, touches}
use Rattle.sn_round.specs.declared.jobs.Job.{Job}
use Rattle.sn_round.specs.Jobs.{AreJobs, IsRaceFree, AreWithin, foot_at, predecessors}
use Rattle.sn_round.specs.Scripts.{IsScript, word_at}
use Rattle.sn_machine.specs.declared.views.View.{View}
use Rattle.sn_machine.specs.declared.views.Main.{Main}
use Rattle.sn_machine.specs.declared.views.Worker.{Worker}
use Rattle.sn_machine.specs.declared.views.Phase.TheVariants.{Idle, Round}
use Rattle.sn_machine.specs.States.{State, At, RunsJob, is_claimed, is_ended, has_begun}

-- how many pass
abbrev pub tally : {A : Type 0} → (A → Bool) → List A → ℕ
tally p [] = 0
tally p (x ∷ xs) = cond (p x) 1 0 + tally p xs

-- the sum of f over the views
abbrev pub total : (View → ℕ) → List View → ℕ
total f [] = 0
total f (v ∷ vs) = f v + total f vs

-- how many debts of the view name the job s
abbrev pub owing : ℕ → View → ℕ
owing s v = tally (λ d. d.1 == s) v.worker.debts

-- how often the view owes the pair
abbrev pub owing_pair : ℕ → ℕ → View → ℕ
owing_pair p s v = tally (λ d. (d.0 == p) && (d.1 == s)) v.worker.debts

-- how many of these jobs have not ended
abbrev pub waiting : (ℕ → Bool) → List ℕ → ℕ
waiting ended ps = tally (λ p. not (ended p)) ps

-- 1 more than the last number below n that passes, or 0
abbrev pub level : (ℕ → Bool) → ℕ → ℕ
level p zero = zero
level p (suc n) = cond (p n) (suc n) (level p n)

-- (a) No debt is owed twice, each names an ended job and its successor, and the word of a job that has not begun is
--   what it waits for.
pub record DebtsHold (jobs : List Job) (counts : List ℕ) (views : List View) : Type 0 where
  pub once : (p s : ℕ) → total (owing_pair p s) views ≤ 1
  pub named : (i : ℕ) (v : View) (p s : ℕ) → At views i v → Contains v.worker.debts (p, s) → (s < length jobs) × (is_ended counts p ≡ true) × Contains (predecessors jobs s) p
  pub counted : (s : ℕ) → s < length jobs → has_begun counts s ≡ false → slice_index counts s ≡ waiting (is_ended counts) (predecessors jobs s) + total (owing s) views
  pub small : (s : ℕ) → s < length jobs → has_begun counts s ≡ false → slice_index counts s < 2 ^ 32

-- (b) A word is CLAIMED exactly if one live worker runs the job. A worker that runs a job owes nothing.
pub record ClaimsHold (jobs : List Job) (counts : List ℕ) (views : List View) : Type 0 where
  pub has_runner : (j : ℕ) → j < length jobs → is_claimed counts j ≡ true → (i : ℕ) × (v : View) × (picture : List ℕ) × At views i v × RunsJob v j picture
  pub runner : (i : ℕ) (v : View) (j : ℕ) (picture : List ℕ) → At views i v → RunsJob v j picture → (v.worker.live ≡ true) × (j < length jobs) × (is_claimed counts j ≡ true) × (v.worker.debts ≡ [])
  pub alone : (i k j : ℕ) (v w : View) (p q : List ℕ) → At views i v → At views k w → RunsJob v j p → RunsJob w j q → i ≡ k

-- (c) The predecessors of a job that has begun have ended, and no debt names it.
pub record BegunHold (jobs : List Job) (counts : List ℕ) (views : List View) : Type 0 where
  pub before : (j p : ℕ) → j < length jobs → has_begun counts j ≡ true → Contains (predecessors jobs j) p → is_ended counts p ≡ true
  pub unowed : (j : ℕ) → j < length jobs → has_begun counts j ≡ true → total (owing j) views ≡ 0

-- (d) The picture of a running job is the words on its foot, and the list of the script outside its writes.
pub record PicturesHold (jobs : List Job) (script : List (List ℕ)) (memory : List ℕ) (views : List View) : Type 0 where
  pub wide : (i : ℕ) (v : View) (j : ℕ) (picture : List ℕ) → At views i v → RunsJob v j picture → length picture ≡ length memory
  pub inside : (i : ℕ) (v : View) (j : ℕ) (picture : List ℕ) (x : ℕ) → At views i v → RunsJob v j picture → touches (foot_at jobs j) x ≡ true → slice_index picture x ≡ slice_index memory x
  pub outside : (i : ℕ) (v : View) (j : ℕ) (picture : List ℕ) (x : ℕ) → At views i v → RunsJob v j picture → writes (foot_at jobs j) x ≡ false → slice_index picture x ≡ word_at script j x

-- the list of the script after the last ended job that writes the word x, or the first list
abbrev pub level_of : List Job → (ℕ → Bool) → ℕ → ℕ
level_of jobs ended x = level (λ j. ended j && writes (foot_at jobs j) x) (length jobs)

-- (e) A word that no running job writes is that of the list after the last ended job that writes it.
abbrev pub SettledHold : List Job → List (List ℕ) → List ℕ → List ℕ → Type 0
SettledHold jobs script memory counts = (x : ℕ) → x < length memory → ((j : ℕ) → j < length jobs → is_claimed counts j ≡ true → writes (foot_at jobs j) x ≡ false)
    → slice_index memory x ≡ word_at script (level_of jobs (is_ended counts) x) x

-- a worker's part that runs nothing, owes nothing and knows nothing
pub record IsBlank (w : Worker) : Type 0 where
  pub dead : w.live ≡ false
  pub runs : w.runs ≡ None
  pub debts : w.debts ≡ []
  pub ended : w.ended ≡ []

abbrev pub live_of : View → ℕ
live_of v = cond v.worker.live 1 0

abbrev pub Knows : View → ℕ → Type 0
Knows v j = Contains v.main.ended j ⊎ Contains v.worker.ended j

-- (f) The live views carry main's jobs and script. Main's number is the number of live worker seats. The ended jobs are
--   those that main or a live view knows.
pub record ViewsHold (jobs : List Job) (script : List (List ℕ)) (counts : List ℕ) (views : List View) (main : Main) : Type 0 where
  pub live : (i : ℕ) (v : View) → At views i v → v.worker.live ≡ true → (v.worker.jobs ≡ jobs) × (v.worker.script ≡ script)
  pub dead : (i : ℕ) (v : View) → At views i v → v.worker.live ≡ false → IsBlank v.worker
  pub first : (v : View) → At views 0 v → v.worker.live ≡ false
  pub others : (i : ℕ) (v : View) → At views i v → i ≢ 0 → v.main.ended ≡ []
  pub number : total live_of views ≡ main.live
  pub known : (j : ℕ) → j < length jobs → is_ended counts j ≡ true → (i : ℕ) × (v : View) × At views i v × Knows v j
  pub only : (i : ℕ) (v : View) (j : ℕ) → At views i v → Knows v j → (j < length jobs) × (is_ended counts j ≡ true)

-- If the sweep's seat is live, no other seat is, its view has every ended job, and a seat was joined.
pub record SweepHolds (jobs : List Job) (ended : ℕ → Bool) (views : List View) (main : Main) : Type 0 where
  pub alone : (i k : ℕ) (v u : View) → At views i v → v.worker.live ≡ true → v.worker.sweeps ≡ true → At views k u → u.worker.live ≡ true → k ≡ i
  pub knows : (i : ℕ) (v : View) (j : ℕ) → At views i v → v.worker.live ≡ true → v.worker.sweeps ≡ true → j < length jobs → ended j ≡ true → Contains v.worker.ended j
  pub joined : (i : ℕ) (v : View) → At views i v → v.worker.live ≡ true → v.worker.sweeps ≡ true → main.joined ≡ true

-- (g) The job words past those of the round's jobs are those at go.
pub record RestHolds (jobs : List Job) (counts at_go : List ℕ) : Type 0 where
  pub as_long : length counts ≡ length at_go
  pub same : (j : ℕ) → length jobs ≤ j → slice_index counts j ≡ slice_index at_go j

-- (h) The jobs are free of races, with a word for each, and lie in the memory, and the script is one for them.
pub record PlanHolds (jobs : List Job) (script : List (List ℕ)) (memory counts : List ℕ) : Type 0 where
  pub order : AreJobs jobs
  pub free : IsRaceFree jobs
  pub within : AreWithin (length memory) jobs
  pub roomy : length jobs ≤ length counts
  pub is_script : IsScript jobs (length memory) script

-- the first seat is main's
abbrev pub HasMain : List View → Main → Type 0
HasMain views main = (m : View) × At views 0 m × (m.main ≡ main)

-- what holds in a round
pub record InRound (s : State) : Type 0 where
  pub main : Main
  pub jobs : List Job
  pub script : List (List ℕ)
  pub crew : ℕ
  pub at_go : List ℕ
  pub has_main : HasMain s.views main
  pub phase : main.phase ≡ Round jobs script crew at_go
  pub debts : DebtsHold jobs s.counts s.views
  pub claims : ClaimsHold jobs s.counts s.views
  pub begun : BegunHold jobs s.counts s.views
  pub pictures : PicturesHold jobs script s.memory s.views
  pub settled : SettledHold jobs script s.memory s.counts
  pub seats : ViewsHold jobs script s.counts s.views main
  pub sweep : SweepHolds jobs (is_ended s.counts) s.views main
  pub rest : RestHolds jobs s.counts at_go
  pub plan : PlanHolds jobs script s.memory s.counts

-- what holds between two rounds: no worker seat is live, and main's lists are the words
pub record Between (s : State) : Type 0 where
  pub main : Main
  pub has_main : HasMain s.views main
  pub phase : main.phase ≡ Idle s.memory s.counts
  pub knows : main.ended ≡ []
  pub live : main.live ≡ 0
  pub blank : (i : ℕ) (v : View) → At s.views i v → IsBlank v.worker
  pub others : (i : ℕ) (v : View) → At s.views i v → i ≢ 0 → v.main.ended ≡ []

abbrev pub RoundHolds : State → Type 0
RoundHolds s = Between s ⊎ InRound s
