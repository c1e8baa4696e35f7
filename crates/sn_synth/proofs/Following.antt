-- What a control follows.
use Rattle.std.proofs.Common.{◌≡◌, ◌<◌, ◌*◌, ◌+◌, ℕ, ℤ, List, get_or, ap, sym, ◌∙◌}
use Rattle.sn_mem.specs.Blocks.{sample_in}
use Rattle.sn_mem.specs.Buses.{ControlBus, control_buses, resting}
use Rattle.sn_mem.proofs.BusLaws.{control_at}

pub value_at : (ws : List ℕ) (n w : ℕ) (x : ℤ) → n < 1024 → x ≡ sample_in w → w ≡ get_or ws (8320 + 2 * n + 1) 0 → x ≡ (get_or (control_buses ws) n resting).value
value_at ws n w x low e f = e ∙ (ap sample_in f ∙ ap (λ (b : ControlBus). b.value) (sym (control_at ws n resting low)))
