-- Clashes that are kept from one boundary to the next.
use Rattle.std.specs.Prelude.{◌≡◌, ℕ, Bool, true, List}
use Rattle.sn_world.specs.declared.stage.Stage.{Stage}
use Rattle.sn_world.specs.World.{World, world_of}
use Rattle.sn_clash.specs.declared.clash.Clash.{Clash}
use Rattle.sn_clash.specs.Clashing.{clashes_of}
use Rattle.sn_layout.specs.Layout.{layout_of}

-- clashes are those of each world that a stage stands for
abbrev pub AreClashesOf : Stage → List Clash → Type 0
AreClashesOf stage clashes = (words : List ℕ) → clashes ≡ clashes_of (world_of stage words)

-- they are, if nothing is said to have changed since they were taken
abbrev pub StillHold : Bool → Stage → List Clash → Type 0
StillHold hold stage clashes = hold ≡ true → AreClashesOf stage clashes

-- if it is told that the layout stays, it was told so before, and a world has the layout of the one before
abbrev pub LayoutStays : Bool → Bool → World → World → Type 0
LayoutStays before now old new = now ≡ true → (before ≡ true) × (layout_of new ≡ layout_of old)
