-- Runs that arguments say, of which none sets a control that the layout has.
use Rattle.std.specs.Prelude.{◌≡◌, ℕ, false, List, Option, Some, None}
use Rattle.sn_osc.specs.Shape.{Argument}
use Rattle.sn_tree.specs.Trees.{Nodes}
use Rattle.sn_world.specs.declared.stage.Held.{Held}
use Rattle.sn_world.specs.ControlRuns.{ControlRun, repeated}
use Rattle.sn_layout.specs.Leaving.{holds_laid, runs_laid}

-- runs, if there are some, set no control that is laid in one of these nodes
abbrev pub MayBePlain : Nodes Held → Option (List ControlRun) → Type 0
MayBePlain reached None = Unit {0}
MayBePlain reached (Some rs) = runs_laid holds_laid reached rs ≡ false

-- the same of what is read from arguments, of any number of runs
abbrev pub ArePlain : Nodes Held → (List Argument → Option (ControlRun × List Argument)) → List Argument → Type 0
ArePlain reached read xs = (n : ℕ) → MayBePlain reached (repeated read n xs)
