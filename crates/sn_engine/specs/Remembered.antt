-- What the memory holds between two rounds.
use Rattle.std.specs.Prelude.{ℕ, List}
use Rattle.sn_machine.specs.declared.views.Rested.{Rested}

-- the words; the rounds that were rested, each with its jobs and how many workers it had; and how often a word was
-- stored to while no round ran
pub record Remembered : Type 0 where
  pub words : List ℕ
  pub rounds : List Rested
  pub stores : ℕ
