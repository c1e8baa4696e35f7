-- Runs of controls, resolved for a definition: the last number that they give each of its controls.
use Rattle.std.specs.Prelude.{◌≡◌, ◌+◌, ℕ, ℤ, List, [], ◌∷◌, length, replicate, slice_set, Option, Some, None}
use Rattle.sn_def.specs.Definition.{Definition}
use Rattle.sn_def.specs.Defs.{definition_of}
use Rattle.sn_world.specs.NewSynth.{control_of}
use Rattle.sn_world.specs.ControlRuns.{ControlRun}
use Rattle.sn_nodecmd.specs.declared.resolved.ForDef.{ForDef}

-- numbers from the control with a number on; those past the last control are ignored
abbrev pub entered_from : ℕ → List ℤ → List (Option ℤ) → List (Option ℤ)
entered_from k [] last = last
entered_from k (v ∷ vs) last = entered_from (k + 1) vs (slice_set last k (Some v))

-- A run that begins at none of the definition's controls is ignored.
abbrev pub entered_at : Option ℕ → List ℤ → List (Option ℤ) → List (Option ℤ)
entered_at None vs last = last
entered_at (Some k) vs last = entered_from k vs last

abbrev pub entered : List ControlRun → Definition → List (Option ℤ) → List (Option ℤ)
entered [] d last = last
entered (r ∷ rs) d last = entered rs d (entered_at (control_of d r.control) r.values last)

-- the last number of each control of the definition, if a run reaches it
abbrev pub last_of : List ControlRun → Definition → List (Option ℤ)
last_of rs d = entered rs d (replicate (length d.controls) None)

-- what is kept for a definition are the last numbers of its controls
abbrev pub IsResolved : List ControlRun → ForDef → Type 0
IsResolved rs found = found.last.items ≡ last_of rs (definition_of found.def.value)
