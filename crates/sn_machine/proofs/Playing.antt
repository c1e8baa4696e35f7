-- A round of one job, from the beginning to rest: the conditions of the steps can be met.
use Rattle.std.proofs.Common.{◌≡◌, ℕ, zero, suc, ◌+◌, ◌<◌, ◌≤◌, true, List, [], ◌∷◌, length, get_or, refl, sym, inl, arith, true≢false}
use Rattle.std.specs.Prelude.{Contains}
use Rattle.sn_mem.specs.Words.{touches}
use Rattle.sn_round.specs.declared.jobs.Job.{Job}
use Rattle.sn_round.specs.Jobs.{AreJobs, foot_at, no_job, predecessors, times}
use Rattle.sn_round.specs.Scripts.{IsScript, list_at, word_at}
use Rattle.sn_round.proofs.Orders.{nothing_in}
use Rattle.sn_machine.specs.declared.views.View.{View}
use Rattle.sn_machine.specs.States.{State, opening, opening_view}
use Rattle.sn_machine.specs.Steps.{CanGo, go_view, after_go, claim_view, after_claim, CanEnd, ended_view, after_end, CanRest, rested_view, after_rest, split_main, split_worker, after_split, join_view, after_join, go, claim, «end», rest, split, join, Reaches, none, then}

module _ (x : ℕ) where
  abbrev words : List ℕ
  words = x ∷ []

  abbrev jobs : List Job
  jobs = no_job ∷ []

  abbrev script : List (List ℕ)
  script = words ∷ words ∷ []

  abbrev pub begin : State
  begin = opening words (0 ∷ [])

  abbrev m0 : View
  m0 = opening_view words (0 ∷ [])

  abbrev m1 : View
  m1 = go_view m0 jobs script

  abbrev m2 : View
  m2 = split_main m1

  abbrev w2 : View
  w2 = split_worker m1

  abbrev w3 : View
  w3 = claim_view w2 0 0

  abbrev w4 : View
  w4 = ended_view w3 0

  abbrev m5 : View
  m5 = join_view m2 w4

  abbrev pub m6 : View
  m6 = rested_view m5

  abbrev s1 : State
  s1 = after_go begin m0 jobs script

  abbrev s2 : State
  s2 = after_split s1 m1

  abbrev s3 : State
  s3 = after_claim s2 1 w2 0

  abbrev s4 : State
  s4 = after_end s3 1 w3 0

  abbrev s5 : State
  s5 = after_join s4 m2 1 w4

  abbrev pub last : State
  last = after_rest s5 m5

  nothing_touched : (j y : ℕ) → touches (foot_at jobs j) y ≡ true → ⊥
  nothing_touched zero y t = true≢false (sym t)
  nothing_touched (suc j) y t = true≢false (sym t)

  are_jobs : AreJobs jobs
  are_jobs = record {
    few = omega arith;
    lower = λ i j l c. one_of j i c;
    once = λ i j l. none_of j i;
  }
    where
      one_of : (j i : ℕ) → Contains (predecessors jobs j) i → i < j
      one_of zero i c = absurd (nothing_in i c)
      one_of (suc j) i c = absurd (nothing_in i c)

      none_of : (j i : ℕ) → times i (predecessors jobs j) ≤ 1
      none_of zero i = omega arith
      none_of (suc j) i = omega arith

  is_script : IsScript jobs 1 script
  is_script = record { whole = refl; wide = wide; still = λ i y l w. still i y l }
    where
      wide : (i : ℕ) → i ≤ 1 → length (list_at script i) ≡ 1
      wide zero l = refl
      wide (suc zero) l = refl
      wide (suc (suc i)) l = absurd (omega arith)

      still : (i y : ℕ) → i < 1 → word_at script (i + 1) y ≡ word_at script i y
      still zero y l = refl
      still (suc i) y l = absurd (omega arith)

  can_go : CanGo m0 jobs script
  can_go = record {
    idle = refl;
    base = refl;
    armed = armed;
    order = are_jobs;
    free = λ i j l m d. absurd (d (omega arith));
    within = λ j y l t. absurd (nothing_touched j y t);
    roomy = omega arith;
    is_script = is_script;
  }
    where
      armed : (j : ℕ) → j < 1 → get_or (0 ∷ []) j 0 ≡ length (predecessors jobs j)
      armed zero l = refl
      armed (suc j) l = absurd (omega arith)

  can_end : CanEnd w3 0 words
  can_end = record { runs = refl; done = λ y w. absurd (true≢false (sym w)) }

  can_rest : CanRest m5
  can_rest = record { running = refl; none_live = refl; all_ended = ended }
    where
      ended : (j : ℕ) → j < 1 → Contains m5.main.ended j
      ended zero l = (0, omega arith, refl)
      ended (suc j) l = absurd (omega arith)

  -- a seat is split, claims the job, ends it and is joined, and main rests
  pub played : Reaches begin last
  played =
      then begin s5 last
      (then begin s4 s5
      (then begin s3 s4
      (then begin s2 s3
      (then begin s1 s2 (then begin begin s1 (none begin) (go begin m0 jobs script refl can_go)) (split s1 m1 refl (record { running = refl; turn = inl refl })))
      (claim s2 1 w2 0 refl (record { live = refl; runs = refl; debts = refl; job = omega arith })))
      («end» s3 1 w3 0 words refl can_end))
      (join s4 m2 1 w4 refl (λ e. omega arith) refl (record { live = refl; runs = refl; debts = refl })))
      (rest s5 m5 refl can_rest)
