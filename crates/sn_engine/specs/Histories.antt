-- Whole runs of an engine.
use Rattle.std.specs.Prelude.{◌≡◌, ◌⊎◌, List, [], ◌∷◌}
use Rattle.sn_engine.specs.Running.{Running, at_boundary, with_block, with_settled}

-- what an engine becomes next: by a boundary, a block or a settling, or by what leaves its world unchanged, as an
-- arrival
abbrev pub Follows : Running → Running → Type 0
Follows before after = (after ≡ at_boundary before) ⊎ ((after ≡ with_block before) ⊎ ((after ≡ with_settled before) ⊎ (after.world ≡ before.world)))

-- what it becomes step by step
abbrev pub AreSteps : Running → List Running → Type 0
AreSteps before [] = Unit {0}
AreSteps before (after ∷ rest) = Follows before after × AreSteps after rest
