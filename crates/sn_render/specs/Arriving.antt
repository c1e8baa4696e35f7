-- Packets whose entries can be put and answered.
use Rattle.std.specs.Prelude.{◌≡◌, ◌≤◌, ◌+◌, ℕ, List, [], ◌∷◌, length}
use Rattle.sn_ports.specs.Limits.{most_count}
use Rattle.sn_osc.specs.Shape.{Shape}
use Rattle.sn_engine.specs.Arriving.{IsSpelled}
use Rattle.sn_engine.specs.Running.{Running}
use Rattle.sn_engine.specs.declared.standing.Standing.TheVariants.{Settled}
use Rattle.sn_engine.specs.Entries.{entries_of}

-- each is spelled, and with so many entries put before, no count wraps
abbrev pub ArePut : List Shape → ℕ → Type 0
ArePut [] puts = Unit {0}
ArePut (x ∷ xs) puts = IsSpelled x × (puts + length (entries_of x) ≤ most_count) × ArePut xs (puts + length (entries_of x))

-- an engine at boundary 0
pub record IsBegun (r : Running) : Type 0 where
  pub block : r.block ≡ 0
  pub standing : r.standing ≡ Settled
