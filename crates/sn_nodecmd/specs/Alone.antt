-- One repetition, if the arguments are no more than that.
use Rattle.std.specs.Prelude.{List, [], ◌∷◌, Option, None}
use Rattle.sn_osc.specs.Shape.{Argument}

abbrev pub single : {R : Type 0} → (Argument → Option R) → List Argument → Option R
single p (x ∷ []) = p x
single p _ = None

abbrev pub pair : {R : Type 0} → (Argument → Argument → Option R) → List Argument → Option R
pair p (x ∷ y ∷ []) = p x y
pair p _ = None
