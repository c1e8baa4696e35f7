-- Each list of steps keeps what holds between two steps.
use Rattle.sn_machine.specs.States.{State}
use Rattle.sn_machine.specs.Steps.{Step, idle_store, arm, idle_load, go, claim, load, store, «end», release, rest, split, join, look, Reaches, none, then}
use Rattle.sn_machine.specs.Rule.{RoundHolds}
use Rattle.sn_machine.proofs.Quiet.{claim_keeps}
use Rattle.sn_machine.proofs.Stores.{store_keeps}
use Rattle.sn_machine.proofs.Endings.{end_keeps}
use Rattle.sn_machine.proofs.Releases.{release_keeps}
use Rattle.sn_machine.proofs.Splitting.{split_keeps}
use Rattle.sn_machine.proofs.Mainly.{memory_keeps, count_keeps, go_keeps}
use Rattle.sn_machine.proofs.Resting.{rest_keeps, join_keeps}
use Rattle.sn_machine.proofs.Loads.{look_keeps}

pub step_keeps : {s t : State} → Step s t → RoundHolds s → RoundHolds t
step_keeps (idle_store s m x a at i) h = memory_keeps s m x a h at i
step_keeps (arm s m j a at i) h = count_keeps s m j a h at i
step_keeps (idle_load s m at i) h = h
step_keeps (go s m jobs script at can) h = go_keeps s m jobs script h at can
step_keeps (claim s id v j at can) h = claim_keeps s id v j h at can
step_keeps (load s id v j picture x at can) h = h
step_keeps (store s id v j picture x a at can) h = store_keeps s id v j picture x a h at can
step_keeps («end» s id v j picture at can) h = end_keeps s id v j picture h at can
step_keeps (release s id v front p q back at owes) h = release_keeps s id v front p q back h at owes
step_keeps (rest s m at can) h = rest_keeps s m h at can
step_keeps (split s m at can) h = split_keeps s m h at can
step_keeps (join s m other v at apart there can) h = join_keeps s m other v h at apart there can
step_keeps (look s id v j at live) h = look_keeps s id v j h at live

pub run_keeps : {s t : State} → Reaches s t → RoundHolds s → RoundHolds t
run_keeps (none s) h = h
run_keeps (then s t u run step) h = step_keeps step (run_keeps run h)
