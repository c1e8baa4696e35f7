-- Definitions by their names.
use Rattle.std.specs.Prelude.{map}
use Rattle.std.specs.Ordering.{nat_cmp}
use Rattle.std.specs.Cmp.Lexicographic.{slice_cmp}
use Rattle.std.specs.FinMap as finite
use Rattle.sn_def.specs.Definition.{Definition}
use Rattle.sn_def.specs.Defs.{definition_of}
use Rattle.sn_world.specs.declared.defs.Defs.{Defs}

abbrev pub Definitions : Type 0
Definitions = finite.FinMap (slice_cmp nat_cmp) Definition

-- the definitions that the program holds
abbrev pub definitions_of : Defs → Definitions
definitions_of d = finite.from_entries (map (λ e. (e.0.items, definition_of e.1.value)) d.items.entries)
