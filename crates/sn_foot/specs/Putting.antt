-- The uses of nodes by themselves, appended to others.
use Rattle.std.specs.Prelude.{ℕ, zero, suc, ◌-◌, nat_lt, ℤ, pos, negsuc, ◌+ℤ◌, Bool, if◌then◌else◌, List, [], ◌∷◌, ◌++◌, length, Option, Some, None}
use Rattle.sn_ports.specs.Limits.{control_bus_count}
use Rattle.sn_def.specs.declared.control.Control.{Control as SynthControl}
use Rattle.sn_def.specs.declared.unit.Unit.{Unit as UnitLine}
use Rattle.sn_def.specs.declared.table.Access.{Access}
use Rattle.sn_def.specs.declared.table.Access.TheVariants as accesses
use Rattle.sn_def.specs.declared.table.Bank.{Bank}
use Rattle.sn_def.specs.declared.table.Bank.TheVariants.{Audio, Control, Buffer}
use Rattle.sn_def.specs.declared.table.Use.{Use as RowUse}
use Rattle.sn_def.specs.Units.{row_of}
use Rattle.sn_def.specs.Defs.{definition_of}
use Rattle.sn_foot.specs.Mixers.{mixes_audio}
use Rattle.sn_synth.specs.Conditions.{index_of}
use Rattle.sn_world.specs.declared.stage.Held.{Held}
use Rattle.sn_world.specs.declared.stage.Held.TheVariants as held
use Rattle.sn_foot.specs.declared.resource.Resource.{Resource}
use Rattle.sn_foot.specs.declared.resource.Resource.TheVariants as resources
use Rattle.sn_foot.specs.declared.uses.Role.{Role}
use Rattle.sn_foot.specs.declared.uses.Role.TheVariants.{Read, Write, Mix}
use Rattle.sn_foot.specs.declared.uses.Use.{Use}
use Rattle.sn_foot.specs.Judging.{is_alone, judged}

abbrev pub resource : Bank → ℕ → Resource
resource Audio n = resources.Audio n
resource Control n = resources.Control n
resource Buffer n = resources.Buffer n

-- a number, if it is below 1,024
abbrev pub number_at : ℤ → Option ℕ
number_at (pos n) = if nat_lt n control_bus_count then Some n else None
number_at (negsuc n) = None

abbrev pub put_number : Role → Bank → Option ℕ → List Use → List Use
put_number role bank None us = us
put_number role bank (Some n) us = us ++ (record { role = role; resource = resource bank n }) ∷ []

-- so many numbers from a first one on
unfoldable pub put_span : Role → Bank → ℤ → ℕ → List Use → List Use
put_span role bank first zero us = us
put_span role bank first (suc i) us = put_number role bank (number_at (first +ℤ pos i)) (put_span role bank first i us)

-- ---- units

-- how many buses or buffers a unit uses in this way, from its index on
abbrev pub span : Access → Bank → UnitLine → ℕ
span accesses.Read Audio u = u.outputs
span accesses.Read Control u = u.outputs
span accesses.Read Buffer u = 1
span accesses.Write Audio u = length u.inputs - 1
span accesses.Write Control u = length u.inputs - 1
span accesses.Write Buffer u = 1

-- how a unit uses them, which either adds to what audio buses hold or doesn't
abbrev pub role_in : Bool → Access → Bank → Role
role_in adds accesses.Read bank = Read
role_in adds accesses.Write Audio = if adds then Mix else Write
role_in adds accesses.Write Control = Write
role_in adds accesses.Write Buffer = Write

-- those of a unit whose row says that it uses this
abbrev pub put_used : Bool → Option RowUse → List SynthControl → UnitLine → List Use → List Use
put_used adds None controls u us = us
put_used adds (Some used) controls u us = put_span (role_in adds used.access used.bank) used.bank (index_of controls u) (span used.access used.bank u) us

abbrev pub put_units : List SynthControl → List UnitLine → List Use → List Use
put_units controls [] us = us
put_units controls (u ∷ rest) us = put_units controls rest (put_used (mixes_audio u.kind) (row_of u.kind).uses controls u us)

-- ---- nodes

abbrev pub put_controls : List SynthControl → List Use → List Use
put_controls [] us = us
put_controls (c ∷ cs) us = put_controls cs (put_number Read Control c.bus us)

abbrev pub put_held : Held → List Use → List Use
put_held held.Group us = us
put_held (held.Synth def controls state) us =
    let own = put_units controls (definition_of def.value).units (put_controls controls []) in
    us ++ judged (is_alone own) own

abbrev pub put_nodes : List Held → List Use → List Use
put_nodes [] us = us
put_nodes (h ∷ hs) us = put_nodes hs (put_held h us)
