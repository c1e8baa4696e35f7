-- What a load finds, and a look keeps what holds between two steps.
use Rattle.std.proofs.Common.{◌≡◌, ℕ, ◌+◌, ◌<◌, true, List, length, get_or, sym, ap, subst, ⊎_elim, inr}
use Rattle.sn_mem.specs.Words.{touches}
use Rattle.sn_round.specs.declared.jobs.Job.{Job}
use Rattle.sn_machine.specs.declared.views.View.{View}
use Rattle.sn_machine.specs.declared.views.Phase.{Phase}
use Rattle.sn_round.specs.Jobs.{foot_at}
use Rattle.sn_machine.specs.States.{State, At, IsIdle, memory_in, counts_in}
use Rattle.sn_machine.specs.Steps.{CanLoad, after_look}
use Rattle.sn_machine.specs.Rule.{InRound, Between, RoundHolds}
use Rattle.sn_machine.proofs.Waits.{no_run}
use Rattle.sn_machine.proofs.Claims.{idle_dead}
use Rattle.sn_machine.proofs.Quiet.{read_round}
use Rattle.sn_machine.proofs.Mainly.{phase_of, idle_round}

load_in : (s : State) (r : InRound s) (id : ℕ) (v : View) (j : ℕ) (picture : List ℕ) (x : ℕ) → At s.views id v → CanLoad v j picture x → (x < length s.memory) × (get_or s.memory x 0 ≡ get_or picture x 0)
load_in s r id v j picture x at can =
    let its = r.claims.runner id v j picture at can.runs in
    let touched : touches (foot_at r.jobs j) x ≡ true = subst (λ (js : List Job). touches (foot_at js j) x ≡ true) (r.seats.live id v at its.0).0 can.touches in
    (r.plan.within j x its.1 touched, sym (r.pictures.inside id v j picture x at can.runs touched))

-- a running job finds the words of its picture
pub load_finds : (s : State) (id : ℕ) (v : View) (j : ℕ) (picture : List ℕ) (x : ℕ) → RoundHolds s → At s.views id v → CanLoad v j picture x → (x < length s.memory) × (get_or s.memory x 0 ≡ get_or picture x 0)
load_finds s id v j picture x h at can = ⊎_elim
    (λ (b : Between s). absurd (no_run v j picture (b.blank id v at).runs can.runs))
    (λ r. load_in s r id v j picture x at can) h

-- an idle main finds the words of its lists
pub idle_finds : (s : State) (m : View) → RoundHolds s → At s.views 0 m → IsIdle m → (s.memory ≡ memory_in m.main.phase) × (s.counts ≡ counts_in m.main.phase)
idle_finds s m h at idle = ⊎_elim
    (λ (b : Between s). let p = phase_of s m b at in (ap (λ (y : Phase). memory_in y) (sym p), ap (λ (y : Phase). counts_in y) (sym p)))
    (λ r. absurd (idle_round s m r at idle)) h

pub look_keeps : (s : State) (id : ℕ) (v : View) (j : ℕ) → RoundHolds s → At s.views id v → v.worker.live ≡ true → RoundHolds (after_look s id v j)
look_keeps s id v j h at live = ⊎_elim (λ b. absurd (idle_dead s id v b at live)) (λ r. inr (read_round s r id v at (v.worker.readings + 1) (j, get_or s.counts j 0))) h
