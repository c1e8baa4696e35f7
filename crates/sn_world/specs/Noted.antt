-- Endings that are noted, and room for more.
use Rattle.std.specs.Prelude.{ℕ, List}
use Rattle.sn_world.specs.declared.endings.Ending.{Ending}

pub record Noted : Type 0 where
  pub items : List Ending
  pub spare : ℕ
