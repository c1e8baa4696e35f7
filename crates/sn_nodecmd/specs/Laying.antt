-- Numbers that runs give a field of controls.
use Rattle.std.specs.Prelude.{◌+◌, ℕ, ℤ, List, [], ◌∷◌, slice_index_or, slice_set, Option, Some, None}
use Rattle.sn_def.specs.declared.control.Control.{Control}
use Rattle.sn_def.specs.Definition.{Definition}
use Rattle.sn_synth.specs.Conditions.{no_control}
use Rattle.sn_world.specs.NewSynth.{control_of}
use Rattle.sn_world.specs.ControlRuns.{ControlRun}
use Rattle.sn_world.specs.Mappings.{followed_bus}
use Rattle.sn_nodecmd.specs.declared.laying.Field.{Field}
use Rattle.sn_nodecmd.specs.declared.laying.Field.TheVariants as fields

-- a control whose field is given a number
abbrev pub with_number : Field → ℤ → Control → Control
with_number fields.Value v c = record { value = v; bus = None }
with_number fields.Bus bus c = record { value = c.value; bus = followed_bus bus }

module _ (field : Field) where
  -- the control with a number, if there is one, may be given a number
  abbrev pub laid_at : Option ℤ → ℕ → List Control → List Control
  laid_at None k controls = controls
  laid_at (Some v) k controls = slice_set controls k (with_number field v (slice_index_or controls k no_control))

  -- ---- run by run

  -- numbers from the control with a number on; those past the last control are ignored
  abbrev pub laid_from : ℕ → List ℤ → List Control → List Control
  laid_from k [] controls = controls
  laid_from k (v ∷ vs) controls = laid_from (k + 1) vs (laid_at (Some v) k controls)

  -- A run that begins at none of the definition's controls is ignored.
  abbrev pub laid_run : Option ℕ → List ℤ → List Control → List Control
  laid_run None vs controls = controls
  laid_run (Some k) vs controls = laid_from k vs controls

  abbrev pub laid_runs : List ControlRun → Definition → List Control → List Control
  laid_runs [] d controls = controls
  laid_runs (r ∷ rs) d controls = laid_runs rs d (laid_run (control_of d r.control) r.values controls)

  -- ---- control by control

  -- a control with its last number, if it has one
  abbrev pub with_last : Option ℤ → Control → Control
  with_last None c = c
  with_last (Some v) c = with_number field v c

  abbrev pub laid : List (Option ℤ) → List Control → List Control
  laid [] controls = controls
  laid (n ∷ ns) [] = []
  laid (n ∷ ns) (c ∷ cs) = with_last n c ∷ laid ns cs
