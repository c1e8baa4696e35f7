-- Runs of controls as they are read, without where they lie in memory.
use Rattle.std.specs.Prelude.{ℤ, pos, Bool, true, false, List, map, replicate, Option}
use Rattle.sn_osc.specs.Shape.{Argument, int, string, blob, argument_of}
use Rattle.sn_world.specs.NewSynth.{ControlName, numbered, named}
use Rattle.sn_world.specs.ControlRuns.{ControlRun, value_run, values_run, fill_run}
use Rattle.sn_nodecmd.specs.declared.names.NamedControl.{NamedControl}
use Rattle.sn_nodecmd.specs.declared.names.NamedControl.TheVariants as names
use Rattle.sn_nodecmd.specs.declared.runs.RunValues.{RunValues}
use Rattle.sn_nodecmd.specs.declared.runs.RunValues.TheVariants.{Each, Same}
use Rattle.sn_nodecmd.specs.declared.runs.Run.{Run}
use Rattle.sn_nodecmd.specs.declared.runs.ReadRun.{ReadRun}
use Rattle.sn_nodecmd.specs.declared.runs.RunForm.{RunForm}
use Rattle.sn_nodecmd.specs.declared.runs.RunForm.TheVariants as forms

abbrev pub name_of : NamedControl → ControlName
name_of (names.Numbered n) = numbered n
name_of (names.Named name) = named name.now

-- the number of an argument that is one
abbrev pub value_in : Argument → ℤ
value_in (int v) = v
value_in (string s) = pos 0
value_in (blob b) = pos 0

abbrev pub is_int : Argument → Bool
is_int (int v) = true
is_int (string s) = false
is_int (blob b) = false

abbrev pub values_of : RunValues → List ℤ
values_of (Each args) = map value_in (map argument_of args.now)
values_of (Same value count) = replicate count value

abbrev pub run_of : Run → ControlRun
run_of r = record { control = name_of r.control; values = values_of r.values }

-- a run, and the arguments after it
abbrev pub read_of : ReadRun → ControlRun × List Argument
read_of r = (run_of r.run, map argument_of r.rest.now)

-- how a run is read
abbrev pub reader : RunForm → List Argument → Option (ControlRun × List Argument)
reader forms.Value = value_run
reader forms.Values = values_run
reader forms.Fill = fill_run
