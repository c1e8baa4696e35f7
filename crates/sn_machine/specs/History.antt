-- What a list of steps did since the last go.
use Rattle.std.specs.Prelude.{ℕ, ◌+◌, Bool, true, false, not, ◌&&◌, ◌||◌, ◌==◌, cond, slice_index}
use Rattle.sn_machine.specs.States.{State}
use Rattle.sn_machine.specs.Steps.{Step, go, claim, split, join, Reaches, none, then}

-- the step begins a round
abbrev pub begins : {s t : State} → Step s t → Bool
begins (go s m jobs script at can) = true
begins _ = false

-- 1 if the step is a claim that got the job k
abbrev pub gets : {s t : State} → Step s t → ℕ → ℕ
gets (claim s id v j at can) k = cond ((j == k) && (slice_index s.counts j == 0)) 1 0
gets _ k = 0

-- how often the steps since the last go got the job k
abbrev pub gots : {s t : State} → Reaches s t → ℕ → ℕ
gots (none s) k = 0
gots (then s t u run step) k = cond (begins step) 0 (gots run k) + gets step k

-- the step splits a seat, or joins one
abbrev pub splits : {s t : State} → Step s t → Bool
splits (split s m at can) = true
splits _ = false

abbrev pub joins : {s t : State} → Step s t → Bool
joins (join s m other v at apart there can) = true
joins _ = false

-- a step since the last go joined a seat
abbrev pub has_joined : {s t : State} → Reaches s t → Bool
has_joined (none s) = false
has_joined (then s t u run step) = not (begins step) && (joins step || has_joined run)

-- how many steps since the last go, and before the first join after it, split a seat
abbrev pub crew_of : {s t : State} → Reaches s t → ℕ
crew_of (none s) = 0
crew_of (then s t u run step) = cond (begins step) 0 (cond (splits step && not (has_joined run)) (crew_of run + 1) (crew_of run))
