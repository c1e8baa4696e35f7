-- `/d_free`: definitions are forgotten.
use Rattle.std.specs.Prelude.{ℕ, Bool, true, ◌&&◌, not, List, [], ◌∷◌, Option, Some, None, Result, is_some}
use Rattle.std.specs.FinMap as finite
use Rattle.sn_osc.specs.Shape.{Argument, int, string, blob}
use Rattle.sn_reply.specs.declared.reason.Reason.{Reason}
use Rattle.sn_reply.specs.declared.reason.Reason.TheVariants.{NoSuchDefinition}
use Rattle.sn_world.specs.Definitions.{Definitions}
use Rattle.sn_world.specs.World.{World, Turn}
use Rattle.sn_world.specs.Rows.{first_of, row, singles, some_of}

abbrev pub name_of : Argument → Option (List ℕ)
name_of (string name) = Some name
name_of (int n) = None
name_of (blob b) = None

abbrev pub judge_forget : World → List ℕ → Option Reason
judge_forget w name = first_of ((not (is_some (finite.get w.definitions name)), NoSuchDefinition) ∷ [])

-- Synths keep the definition that they began with.
abbrev pub act_forget : List ℕ → Turn → Turn
act_forget name t = record t { world = record t.world { definitions = finite.remove t.world.definitions name } }

-- `/d_free` name..
abbrev pub forget_row : ℕ → List Argument → Turn → Result Turn Reason
forget_row from xs = row judge_forget act_forget (some_of (singles name_of xs))

-- ---- all names of a message

-- each has a definition after the earlier ones were forgotten
abbrev pub are_known : List (List ℕ) → Definitions → Bool
are_known [] ds = true
are_known (name ∷ names) ds = is_some (finite.get ds name) && are_known names (finite.remove ds name)

abbrev pub without_names : List (List ℕ) → Definitions → Definitions
without_names [] ds = ds
without_names (name ∷ names) ds = without_names names (finite.remove ds name)
