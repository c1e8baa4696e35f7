-- The kinds of step: for each, whether it is allowed, the view after it, and the state after it. `Step` lists them all.
use Rattle.std.specs.Prelude.{◌≡◌, ◌≢◌, ◌⊎◌, ℕ, zero, suc, ◌+◌, ◌-◌, ◌<◌, ◌≤◌, ◌==◌, true, false, cond, List, [], ◌∷◌, ◌++◌, length, slice_index, slice_set, Contains, Some, None}
use Rattle.sn_mem.specs.Words.{writes, touches}
use Rattle.sn_round.specs.declared.jobs.Job.{Job}
use Rattle.sn_round.specs.Jobs.{AreJobs, IsRaceFree, AreWithin, foot_at, predecessors, successors}
use Rattle.sn_round.specs.Scripts.{IsScript, list_at, word_at}
use Rattle.sn_machine.specs.declared.views.View.{View}
use Rattle.sn_machine.specs.declared.views.Phase.{Phase}
use Rattle.sn_machine.specs.declared.views.Phase.TheVariants.{Idle, Round}
use Rattle.sn_machine.specs.States.{State, At, CLAIMED, ENDED, RunsJob, IsIdle, IsInRound, memory_in, counts_in, jobs_in, script_in, crew_in, no_main, spent}

-- Idle store, by main, of a memory word or a job word. Allowed while no round runs.
-- The word changes, and the list of main's that has it. For a memory word the number of these stores grows.
abbrev pub set_memory : View → ℕ → ℕ → View
set_memory v x a = record v { main = record v.main { phase = Idle (slice_set (memory_in v.main.phase) x a) (counts_in v.main.phase); stores = v.main.stores + 1 } }

abbrev pub after_memory : State → View → ℕ → ℕ → State
after_memory s v x a = record { memory = slice_set s.memory x a; counts = s.counts; views = slice_set s.views 0 (set_memory v x a) }

abbrev pub set_count : View → ℕ → ℕ → View
set_count v j a = record v { main = record v.main { phase = Idle (memory_in v.main.phase) (slice_set (counts_in v.main.phase) j a) } }

abbrev pub after_count : State → View → ℕ → ℕ → State
after_count s v j a = record { memory = s.memory; counts = slice_set s.counts j a; views = slice_set s.views 0 (set_count v j a) }

-- Go, by main, which reads a word. Allowed while no round runs, if three conditions hold. The script begins with main's
-- memory list. Main's job list has each job's number of predecessors. The jobs are free of races and lie in the memory.
-- Main is then in a round, in which no seat was joined and no job is known to have ended.
pub record CanGo (v : View) (jobs : List Job) (script : List (List ℕ)) : Type 0 where
  pub idle : IsIdle v
  pub base : list_at script 0 ≡ memory_in v.main.phase
  pub armed : (j : ℕ) → j < length jobs → slice_index (counts_in v.main.phase) j ≡ length (predecessors jobs j)
  pub order : AreJobs jobs
  pub free : IsRaceFree jobs
  pub within : AreWithin (length (memory_in v.main.phase)) jobs
  pub roomy : length jobs ≤ length (counts_in v.main.phase)
  pub is_script : IsScript jobs (length (memory_in v.main.phase)) script

abbrev pub go_view : View → List Job → List (List ℕ) → View
go_view v jobs script = record v { main = record v.main { phase = Round jobs script 0 (counts_in v.main.phase); live = 0; joined = false; ended = [] } }

abbrev pub after_go : State → View → List Job → List (List ℕ) → State
after_go s v jobs script = record { memory = s.memory; counts = s.counts; views = slice_set s.views 0 (go_view v jobs script) }

-- Claim, by a worker, of a job's word. Allowed if it runs nothing and owes nothing, and the job is one of the round's.
-- If the word is 0, it becomes CLAIMED, and the worker runs the job j with list j of the script as its picture; else
-- nothing changes. Either way it has one more reading.
pub record CanClaim (v : View) (j : ℕ) : Type 0 where
  pub live : v.worker.live ≡ true
  pub runs : v.worker.runs ≡ None
  pub debts : v.worker.debts ≡ []
  pub job : j < length v.worker.jobs

abbrev pub read_view : View → ℕ → ℕ → View
read_view v j word = record v { worker = record v.worker { readings = v.worker.readings + 1; last = (j, word) } }

abbrev pub got_view : View → ℕ → View
got_view v j = record v { worker = record v.worker { readings = v.worker.readings + 1; last = (j, 0); runs = Some (record { job = j; picture = list_at v.worker.script j }) } }

abbrev pub claim_view : View → ℕ → ℕ → View
claim_view v j word = cond (word == 0) (got_view v j) (read_view v j word)

abbrev pub claim_word : ℕ → ℕ
claim_word word = cond (word == 0) CLAIMED word

abbrev pub after_claim : State → ℕ → View → ℕ → State
after_claim s id v j = record { memory = s.memory; counts = slice_set s.counts j (claim_word (slice_index s.counts j)); views = slice_set s.views id (claim_view v j (slice_index s.counts j)) }

-- Load, by a worker, of a memory word. Allowed if it runs a job, and the word is in its foot. Nothing changes. Main may
-- load any word while no round runs.
pub record CanLoad (v : View) (j : ℕ) (picture : List ℕ) (x : ℕ) : Type 0 where
  pub runs : RunsJob v j picture
  pub touches : touches (foot_at v.worker.jobs j) x ≡ true

-- Store, by a worker, of a memory word. Allowed if it runs a job that may write the word. The word changes, and the
-- picture.
pub record CanStore (v : View) (j : ℕ) (picture : List ℕ) (x : ℕ) : Type 0 where
  pub runs : RunsJob v j picture
  pub writes : writes (foot_at v.worker.jobs j) x ≡ true

abbrev pub pictured : View → ℕ → List ℕ → View
pictured v j picture = record v { worker = record v.worker { runs = Some (record { job = j; picture = picture }) } }

abbrev pub after_store : State → ℕ → View → ℕ → List ℕ → ℕ → ℕ → State
after_store s id v j picture x a = record { memory = slice_set s.memory x a; counts = s.counts; views = slice_set s.views id (pictured v j (slice_set picture x a)) }

-- End, by a worker, of a job's word. Allowed if its picture is list j + 1 of the script on what the job j may write.
-- The word becomes ENDED. The worker runs nothing, knows that j has ended, and owes each successor once.
pub record CanEnd (v : View) (j : ℕ) (picture : List ℕ) : Type 0 where
  pub runs : RunsJob v j picture
  pub done : (x : ℕ) → writes (foot_at v.worker.jobs j) x ≡ true → slice_index picture x ≡ word_at v.worker.script (j + 1) x

-- what is owed of the job j to these
abbrev pub debts_of : ℕ → List ℕ → List (ℕ × ℕ)
debts_of j [] = []
debts_of j (s ∷ ss) = (j, s) ∷ debts_of j ss

abbrev pub ended_view : View → ℕ → View
ended_view v j = record v { worker = record v.worker { runs = None; ended = v.worker.ended ++ j ∷ []; debts = debts_of j (successors v.worker.jobs j) } }

abbrev pub after_end : State → ℕ → View → ℕ → State
after_end s id v j = record { memory = s.memory; counts = slice_set s.counts j ENDED; views = slice_set s.views id (ended_view v j) }

-- Release, by a worker, of a successor's word. Allowed if it owes that. The word falls by 1, the debt goes, and it has
-- one more reading, of the word left.
abbrev pub Owes : View → List (ℕ × ℕ) → ℕ → ℕ → List (ℕ × ℕ) → Type 0
Owes v front p q back = v.worker.debts ≡ front ++ (p, q) ∷ back

abbrev pub paid_view : View → ℕ → List (ℕ × ℕ) → ℕ → View
paid_view v q debts left = record v { worker = record v.worker { debts = debts; readings = v.worker.readings + 1; last = (q, left) } }

abbrev pub after_release : State → ℕ → View → ℕ → List (ℕ × ℕ) → State
after_release s id v q debts = record { memory = s.memory; counts = slice_set s.counts q (slice_index s.counts q - 1); views = slice_set s.views id (paid_view v q debts (slice_index s.counts q - 1)) }

-- Rest, by main, which reads a word. Allowed in a round, if no seat is live and each job is known to have ended. Main
-- is idle. Its memory list is the script's last, and its job list has ENDED for each job of the round, and else the
-- words at go. The round is one more of its rested ones.
pub record CanRest (v : View) : Type 0 where
  pub running : IsInRound v
  pub none_live : v.main.live ≡ 0
  pub all_ended : (j : ℕ) → j < length (jobs_in v.main.phase) → Contains v.main.ended j

-- ENDED in each of the first n places
abbrev pub ended_front : ℕ → List ℕ → List ℕ
ended_front zero counts = counts
ended_front (suc n) [] = []
ended_front (suc n) (c ∷ counts) = ENDED ∷ ended_front n counts

abbrev pub last_list : Phase → List ℕ
last_list phase = list_at (script_in phase) (length (jobs_in phase))

abbrev pub rested_view : View → View
rested_view v = record v { main = record v.main { phase = Idle (last_list v.main.phase) (ended_front (length (jobs_in v.main.phase)) (counts_in v.main.phase)); ended = []; rested = v.main.rested ++ record { jobs = jobs_in v.main.phase; crew = crew_in v.main.phase } ∷ [] } }

abbrev pub after_rest : State → View → State
after_rest s v = record { memory = s.memory; counts = s.counts; views = slice_set s.views 0 (rested_view v) }

-- Split, by main, which reads a word. Allowed in a round, if no seat was joined yet, or none is live. There is one more
-- live seat, which knows what main knows. It is the sweep's if a seat was joined before; else the crew is one more.
pub record CanSplit (v : View) : Type 0 where
  pub running : IsInRound v
  pub turn : (v.main.joined ≡ false) ⊎ (v.main.live ≡ 0)

abbrev pub crewed : Phase → Phase
crewed (Idle memory counts) = Idle memory counts
crewed (Round jobs script crew at_go) = Round jobs script (crew + 1) at_go

abbrev pub split_main : View → View
split_main v = record v { main = record v.main { live = v.main.live + 1; phase = cond v.main.joined v.main.phase (crewed v.main.phase) } }

abbrev pub split_worker : View → View
split_worker v = record { size = v.size; room = v.room; main = no_main; worker = record { live = true; sweeps = v.main.joined; jobs = jobs_in v.main.phase; script = script_in v.main.phase; runs = None; debts = []; ended = v.main.ended; readings = 0; last = (0, 0) } }

abbrev pub after_split : State → View → State
after_split s v = record { memory = s.memory; counts = s.counts; views = slice_set s.views 0 (split_main v) ++ split_worker v ∷ [] }

-- Join, by main and a worker, which reads a word. Allowed if the worker runs nothing and owes nothing. Main knows what
-- the worker knew to have ended, one live seat less, and that a seat was joined. The worker's view is spent.
pub record CanJoin (w : View) : Type 0 where
  pub live : w.worker.live ≡ true
  pub runs : w.worker.runs ≡ None
  pub debts : w.worker.debts ≡ []

abbrev pub join_view : View → View → View
join_view v w = record v { main = record v.main { live = v.main.live - 1; joined = true; ended = v.main.ended ++ w.worker.ended } }

abbrev pub after_join : State → View → ℕ → View → State
after_join s v other w = record { memory = s.memory; counts = s.counts; views = slice_set (slice_set s.views 0 (join_view v w)) other spent }

-- Look, by a worker, at any job word. Allowed in a round. It has one more reading, of the word.
abbrev pub after_look : State → ℕ → View → ℕ → State
after_look s id v j = record { memory = s.memory; counts = s.counts; views = slice_set s.views id (read_view v j (slice_index s.counts j)) }

-- One step: by which seat, of which view, whether it is allowed, and the state after it.
pub data Step : State → State → Type 0 where
  -- main, a memory word
  idle_store : (s : State) (m : View) (x a : ℕ) → At s.views 0 m → IsIdle m → Step s (after_memory s m x a)
  -- main, a job word
  arm : (s : State) (m : View) (j a : ℕ) → At s.views 0 m → IsIdle m → Step s (after_count s m j a)
  -- main, any word, which is read
  idle_load : (s : State) (m : View) → At s.views 0 m → IsIdle m → Step s s
  -- main, a word that is read
  go : (s : State) (m : View) (jobs : List Job) (script : List (List ℕ)) → At s.views 0 m → CanGo m jobs script → Step s (after_go s m jobs script)
  -- a worker, the job's word
  claim : (s : State) (id : ℕ) (v : View) (j : ℕ) → At s.views id v → CanClaim v j → Step s (after_claim s id v j)
  -- a worker, a memory word, which is read
  load : (s : State) (id : ℕ) (v : View) (j : ℕ) (picture : List ℕ) (x : ℕ) → At s.views id v → CanLoad v j picture x → Step s s
  -- a worker, a memory word
  store : (s : State) (id : ℕ) (v : View) (j : ℕ) (picture : List ℕ) (x a : ℕ) → At s.views id v → CanStore v j picture x → Step s (after_store s id v j picture x a)
  -- a worker, the job's word
  end : (s : State) (id : ℕ) (v : View) (j : ℕ) (picture : List ℕ) → At s.views id v → CanEnd v j picture → Step s (after_end s id v j)
  -- a worker, the successor's word
  release : (s : State) (id : ℕ) (v : View) (front : List (ℕ × ℕ)) (p q : ℕ) (back : List (ℕ × ℕ)) → At s.views id v → Owes v front p q back → Step s (after_release s id v q (front ++ back))
  -- main, a word that is read
  rest : (s : State) (m : View) → At s.views 0 m → CanRest m → Step s (after_rest s m)
  -- main, a word that is read
  split : (s : State) (m : View) → At s.views 0 m → CanSplit m → Step s (after_split s m)
  -- main and a worker, a word that is read
  join : (s : State) (m : View) (other : ℕ) (v : View) → At s.views 0 m → other ≢ 0 → At s.views other v → CanJoin v → Step s (after_join s m other v)
  -- a worker, a job word, which is read
  look : (s : State) (id : ℕ) (v : View) (j : ℕ) → At s.views id v → v.worker.live ≡ true → Step s (after_look s id v j)

-- A list of steps, by any seats.
pub data Reaches : State → State → Type 0 where
  none : (s : State) → Reaches s s
  then : (s t u : State) → Reaches s t → Step t u → Reaches s u
