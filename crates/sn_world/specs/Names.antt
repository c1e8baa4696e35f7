-- Sets of names.
use Rattle.std.specs.Prelude.{map}
use Rattle.std.specs.Ordering.{nat_cmp}
use Rattle.std.specs.Cmp.Lexicographic.{slice_cmp}
use Rattle.std.specs.FinMap as finite
use Rattle.sn_world.specs.declared.names.Names.{Names}

abbrev pub NameSet : Type 0
NameSet = finite.FinMap (slice_cmp nat_cmp) (Unit {0})

-- the names that the program holds
abbrev pub names_in : Names → NameSet
names_in n = finite.from_entries (map (λ e. (e.0.items, e.1)) n.items.entries)
