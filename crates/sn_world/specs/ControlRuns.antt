-- `/n_set`, `/n_setn` and `/n_fill`: controls of synths are set.
use Rattle.std.specs.Prelude.{ℕ, zero, suc, ◌+◌, ℤ, pos, negsuc, nat_le, if◌then◌else◌, List, [], ◌∷◌, ◌++◌, length, map, take, drop, replicate, Option, Some, None, Result, Ok, Err}
use Rattle.sn_osc.specs.Shape.{Argument, int, string, blob}
use Rattle.sn_def.specs.declared.control.Control.{Control}
use Rattle.sn_def.specs.Definition.{Definition}
use Rattle.sn_reply.specs.declared.reason.Reason.{Reason}
use Rattle.sn_reply.specs.declared.reason.Reason.TheVariants as Reasons
use Rattle.sn_tree.specs.Reworking.{reworked}
use Rattle.sn_tree.specs.Faults.{is_missing}
use Rattle.sn_world.specs.Nodes.{Content, group, synth}
use Rattle.sn_world.specs.World.{World, Turn}
use Rattle.sn_world.specs.Rows.{first_of, unless, another, some_of}
use Rattle.sn_world.specs.Runs.{number}
use Rattle.sn_world.specs.NewSynth.{ControlName, control_name, name_argument, control_of, with_value}

-- a control, and values for it and the controls that follow it
pub record ControlRun : Type 0 where
  pub control : ControlName
  pub values : List ℤ

-- what is asked of a node
pub record ForNode (R : Type 0) : Type 0 where
  pub id : ℤ
  pub all : List R

-- ---- the arguments

-- a count is 0 or more
abbrev pub count_of : Argument → Option ℕ
count_of (int (pos n)) = Some n
count_of (int (negsuc n)) = None
count_of (string s) = None
count_of (blob b) = None

-- arguments that are all numbers
abbrev pub ints : List Argument → Option (List ℤ)
ints [] = Some []
ints (x ∷ xs) = another (number x) (ints xs)

-- one number, the first numbers of some arguments, or one number so often
abbrev pub one_value : Option ℤ → Option (List ℤ)
one_value None = None
one_value (Some v) = Some (v ∷ [])

abbrev pub first_values : Option ℕ → List Argument → Option (List ℤ)
first_values None xs = None
first_values (Some n) xs = if nat_le n (length xs) then ints (take n xs) else None

abbrev pub same_values : Option ℕ → Option ℤ → Option (List ℤ)
same_values None v = None
same_values (Some n) None = None
same_values (Some n) (Some v) = Some (replicate n v)

-- what is left after so many arguments
abbrev pub left_after : Option ℕ → List Argument → List Argument
left_after None xs = []
left_after (Some n) xs = drop n xs

-- a run, and the arguments that are left after it
abbrev pub run_with : Option ControlName → Option (List ℤ) → List Argument → Option (ControlRun × List Argument)
run_with None vs rest = None
run_with (Some c) None rest = None
run_with (Some c) (Some vs) rest = Some (record { control = c; values = vs }, rest)

-- control value
abbrev pub value_run : List Argument → Option (ControlRun × List Argument)
value_run (c ∷ v ∷ rest) = run_with (control_name c) (one_value (number v)) rest
value_run _ = None

-- control count value..
abbrev pub values_run : List Argument → Option (ControlRun × List Argument)
values_run (c ∷ n ∷ rest) = run_with (control_name c) (first_values (count_of n) rest) (left_after (count_of n) rest)
values_run _ = None

-- control count value
abbrev pub fill_run : List Argument → Option (ControlRun × List Argument)
fill_run (c ∷ n ∷ v ∷ rest) = run_with (control_name c) (same_values (count_of n) (number v)) rest
fill_run _ = None

-- repetitions that are read one after the other, at most so many
abbrev pub and_more : {R : Type 0} → Option (R × List Argument) → (List Argument → Option (List R)) → Option (List R)
and_more None next = None
and_more (Some p) next = another (Some p.0) (next p.1)

abbrev pub repeated : {R : Type 0} → (List Argument → Option (R × List Argument)) → ℕ → List Argument → Option (List R)
repeated read zero [] = Some []
repeated read zero (x ∷ xs) = None
repeated read (suc n) [] = Some []
repeated read (suc n) (x ∷ xs) = and_more (read (x ∷ xs)) (λ rest. repeated read n rest)

-- the arguments that say runs: of each its control, how many values it has, and the values
abbrev pub control_run_arguments : List ControlRun → List Argument
control_run_arguments [] = []
control_run_arguments (r ∷ rs) = name_argument r.control ∷ int (pos (length r.values)) ∷ map int r.values ++ control_run_arguments rs

abbrev pub for_node : {R : Type 0} → Option ℤ → Option (List R) → Option (ForNode R)
for_node None all = None
for_node (Some id) None = None
for_node (Some id) (Some all) = Some (record { id = id; all = all })

-- a node, and at least one repetition
abbrev pub asked_of : {R : Type 0} → (List Argument → Option (List R)) → List Argument → Option (ForNode R)
asked_of read [] = None
asked_of read (x ∷ xs) = for_node (number x) (some_of (read xs))

abbrev pub asked_runs : (List Argument → Option (ControlRun × List Argument)) → List Argument → Option (ForNode ControlRun)
asked_runs read xs = asked_of (λ ys. repeated read (length ys) ys) xs

-- ---- the controls of a synth

-- values from the control with a number on; those past the last control are ignored
abbrev pub with_values_from : ℕ → List ℤ → List Control → List Control
with_values_from k [] controls = controls
with_values_from k (v ∷ vs) controls = with_values_from (k + 1) vs (with_value (Some k) v controls)

-- A run that begins at none of the definition's controls is ignored.
abbrev pub with_run : Option ℕ → List ℤ → List Control → List Control
with_run None vs controls = controls
with_run (Some k) vs controls = with_values_from k vs controls

abbrev pub with_runs : List ControlRun → Definition → List Control → List Control
with_runs [] d controls = controls
with_runs (r ∷ rs) d controls = with_runs rs d (with_run (control_of d r.control) r.values controls)

-- the controls of what a node holds, changed by its definition
abbrev pub in_synth : (Definition → List Control → List Control) → Content → Content
in_synth change group = group
in_synth change (synth s) = synth (record s { controls = change s.definition s.controls })

-- ---- what is against it

abbrev pub judge_node : World → ℤ → Option Reason
judge_node w id = first_of ((is_missing id w.nodes, Reasons.NoSuchNode) ∷ [])

-- ---- the rows

-- A value that is set is followed, in a node and in all nodes below it.
abbrev pub set_controls : ForNode ControlRun → World → World
set_controls r w = record w { nodes = reworked (in_synth (with_runs r.all)) r.id w.nodes }

abbrev pub set_outcome : Option (ForNode ControlRun) → Turn → Result Turn Reason
set_outcome None t = Err Reasons.Arguments
set_outcome (Some r) t = unless (judge_node t.world r.id) (Ok (record t { world = set_controls r t.world }))

-- `/n_set` id (control value)..
abbrev pub set_controls_row : ℕ → List Argument → Turn → Result Turn Reason
set_controls_row from xs t = set_outcome (asked_runs value_run xs) t

-- `/n_setn` id (control count value..)..
abbrev pub set_runs_row : ℕ → List Argument → Turn → Result Turn Reason
set_runs_row from xs t = set_outcome (asked_runs values_run xs) t

-- `/n_fill` id (control count value)..
abbrev pub fill_runs_row : ℕ → List Argument → Turn → Result Turn Reason
fill_runs_row from xs t = set_outcome (asked_runs fill_run xs) t
