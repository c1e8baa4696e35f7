-- What the row of a kind says of its units.
use Rattle.std.specs.Prelude.{ℤ, Bool, true, false, ◌&&◌, List, Option, Some, None, slice_get}
use Rattle.sn_def.specs.declared.kind.Kind.{Kind}
use Rattle.sn_def.specs.declared.table.Family.{Family}
use Rattle.sn_def.specs.declared.table.Family.TheVariants as families
use Rattle.sn_def.specs.declared.table.Access.{Access}
use Rattle.sn_def.specs.declared.table.Access.TheVariants as accesses
use Rattle.sn_def.specs.declared.table.Bank.{Bank}
use Rattle.sn_def.specs.declared.table.Bank.TheVariants as banks
use Rattle.sn_def.specs.declared.table.Use.{Use}
use Rattle.sn_def.specs.declared.table.Ends.{Ends}
use Rattle.sn_def.specs.declared.table.Ends.TheVariants as ends
use Rattle.sn_def.specs.declared.unit.Input.{Input}
use Rattle.sn_def.specs.Units.{row_of}
use Rattle.sn_def.specs.StateWords.{literal_value}

-- ---- families

abbrev pub is_family : Family → Family → Bool
is_family families.Generator families.Generator = true
is_family families.Arithmetic families.Arithmetic = true
is_family families.Filter families.Filter = true
is_family families.Bus families.Bus = true
is_family families.Trigger families.Trigger = true
is_family families.Buffer families.Buffer = true
is_family _ _ = false

-- a unit of this kind is of this family
abbrev pub is_of : Family → Kind → Bool
is_of family kind = is_family family (row_of kind).family

-- ---- what units use

abbrev pub is_access : Access → Access → Bool
is_access accesses.Read accesses.Read = true
is_access accesses.Write accesses.Write = true
is_access _ _ = false

abbrev pub is_bank : Bank → Bank → Bool
is_bank banks.Audio banks.Audio = true
is_bank banks.Control banks.Control = true
is_bank banks.Buffer banks.Buffer = true
is_bank _ _ = false

abbrev pub uses_so : Access → Bank → Option Use → Bool
uses_so access bank None = false
uses_so access bank (Some u) = is_access access u.access && is_bank bank u.bank

-- units of this kind read, or write, buses or buffers of this sort
abbrev pub touches : Access → Bank → Kind → Bool
touches access bank kind = uses_so access bank (row_of kind).uses

-- ---- what is settled after a block

-- units of this kind send triggers
abbrev pub sends : Kind → Bool
sends kind = (row_of kind).sends

abbrev pub action_of : Ends → List Input → Option ℤ
action_of ends.Never inputs = None
action_of (ends.Input i) inputs = Some (literal_value (slice_get inputs i))
action_of (ends.Always action) inputs = Some action

-- what a unit of this kind does when it ends, if it is one that ends
abbrev pub done_action : Kind → List Input → Option ℤ
done_action kind inputs = action_of (row_of kind).ends inputs
