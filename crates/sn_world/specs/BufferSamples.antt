-- `/b_set`, `/b_setn`, `/b_fill`, `/b_get` and `/b_getn`.
use Rattle.std.specs.Prelude.{ℕ, zero, suc, ◌+◌, ◌*◌, ℤ, pos, negsuc, nat_abs, Bool, true, false, not, ◌&&◌, nat_lt, nat_le, if◌then◌else◌, List, [], ◌∷◌, ◌++◌, length, replicate, slice_index_or, slice_set, Option, Some, None, Result, Ok, Err, codes}
use Rattle.sn_ports.specs.Limits.{most_values}
use Rattle.sn_osc.specs.Shape.{Argument, int, arguments, MessageShape}
use Rattle.sn_reply.specs.declared.reason.Reason.{Reason}
use Rattle.sn_reply.specs.declared.reason.Reason.TheVariants as Reasons
use Rattle.sn_world.specs.declared.buffer_repetition.SampleIndex.{SampleIndex}
use Rattle.sn_world.specs.declared.buffer_repetition.SampleValue.{SampleValue}
use Rattle.sn_world.specs.declared.buffer_repetition.SampleRun.{SampleRun}
use Rattle.sn_world.specs.declared.buffer_repetition.SampleFill.{SampleFill}
use Rattle.sn_mem.specs.Buffers.{Buffer}
use Rattle.sn_world.specs.BufferNumbers.{at_number, set_from, buffer_refusal, with_samples}
use Rattle.sn_world.specs.Runs.{ValuesAt, number, value_runs, total_of}
use Rattle.sn_world.specs.World.{Turn, replied}
use Rattle.sn_world.specs.Rows.{first_of, unless, first_refusal, singles, pairs, triples, some_of}

-- ---- the arguments: a number, and at least one repetition

abbrev pub with_asked : {R : Type 0} → (ℤ → List R → Turn → Result Turn Reason) → Option ℤ → Option (List R) → Turn → Result Turn Reason
with_asked run None all t = Err Reasons.Arguments
with_asked run (Some n) None t = Err Reasons.Arguments
with_asked run (Some n) (Some all) t = run n all t

abbrev pub of_buffer : {R : Type 0} → (List Argument → Option (List R)) → (ℤ → List R → Turn → Result Turn Reason) → List Argument → Turn → Result Turn Reason
of_buffer read run [] t = Err Reasons.Arguments
of_buffer read run (x ∷ xs) t = with_asked run (number x) (some_of (read xs)) t

-- ---- what is against a repetition, by the number of samples

abbrev pub is_sample : ℕ → ℤ → Bool
is_sample size (pos i) = nat_lt i size
is_sample size (negsuc i) = false

-- A run begins at a sample, even if it is empty, and does not go on past the last one.
abbrev pub is_run : ℕ → ℤ → ℕ → Bool
is_run size (pos i) count = nat_lt i size && nat_le (i + count) size
is_run size (negsuc i) count = false

abbrev pub sample_refusal : ℕ → ℤ → Option Reason
sample_refusal size i = first_of ((not (is_sample size i), Reasons.SampleIndex) ∷ [])

abbrev pub run_refusal : ℕ → ℤ → ℕ → Option Reason
run_refusal size first count = first_of ((not (is_run size first count), Reasons.SampleIndex) ∷ [])

abbrev pub size_of : Option Buffer → ℕ
size_of None = 0
size_of (Some b) = b.frames * b.channels

abbrev pub samples_in : Option Buffer → List ℤ
samples_in None = []
samples_in (Some b) = b.samples

-- ---- rows

-- the samples after all repetitions
abbrev pub change_all : {R : Type 0} → (R → List ℤ → List ℤ) → List R → List ℤ → List ℤ
change_all change [] samples = samples
change_all change (r ∷ rs) samples = change_all change rs (change r samples)

-- Repetitions leave the number of samples as it is: each is judged by it, and then all change samples, one after the
-- other.
abbrev pub changing : {R : Type 0} → (ℕ → R → Option Reason) → (R → List ℤ → List ℤ) → ℤ → List R → Turn → Result Turn Reason
changing refusal change n all t =
    unless (buffer_refusal n t.world) (unless (first_refusal (refusal (size_of (at_number t.world.buffers n))) all)
    (Ok (record t { world = with_samples n (change_all change all) t.world })))

-- One reply answers all repetitions: the number of the buffer, and what each asks for.
abbrev pub answers : {R : Type 0} → (List ℤ → R → List Argument) → List ℤ → List R → List Argument
answers answer samples [] = []
answers answer samples (r ∷ rs) = answer samples r ++ answers answer samples rs

abbrev pub answered_with : List ℕ → ℤ → List Argument → MessageShape
answered_with address n xs = record { address = address; body = arguments (int n ∷ xs) }

abbrev pub asking : {R : Type 0} → (ℕ → R → Option Reason) → (List ℤ → R → List Argument) → List ℕ → ℕ → ℤ → List R → Turn → Result Turn Reason
asking refusal answer address from n all t =
    unless (buffer_refusal n t.world) (unless (first_refusal (refusal (size_of (at_number t.world.buffers n))) all)
    (Ok (replied from (answered_with address n (answers answer (samples_in (at_number t.world.buffers n)) all)) t)))

-- ---- `/b_set` number (index value)..

abbrev pub sample_value : Argument → Argument → Option SampleValue
sample_value (int (pos i)) (int v) = Some (record { index = pos i; value = v })
sample_value _ _ = None

abbrev pub value_refusal : ℕ → SampleValue → Option Reason
value_refusal size r = sample_refusal size r.index

abbrev pub set_value : SampleValue → List ℤ → List ℤ
set_value r samples = slice_set samples (nat_abs r.index) r.value

abbrev pub set_row : ℕ → List Argument → Turn → Result Turn Reason
set_row from = of_buffer (pairs sample_value) (changing value_refusal set_value)

-- ---- `/b_setn` number (index count value..)..

-- runs of which none begins below 0
abbrev pub is_index : ℤ → Bool
is_index (pos i) = true
is_index (negsuc i) = false

abbrev pub begin_right : List ValuesAt → Bool
begin_right [] = true
begin_right (r ∷ rs) = is_index r.first && begin_right rs

abbrev pub right_runs : Option (List ValuesAt) → Option (List ValuesAt)
right_runs None = None
right_runs (Some rs) = if begin_right rs then Some rs else None

abbrev pub values_refusal : ℕ → ValuesAt → Option Reason
values_refusal size r = run_refusal size r.first (length r.values)

abbrev pub set_values : ValuesAt → List ℤ → List ℤ
set_values r samples = set_from (nat_abs r.first) r.values samples

abbrev pub setn_row : ℕ → List Argument → Turn → Result Turn Reason
setn_row from = of_buffer (λ ys. right_runs (value_runs ys)) (changing values_refusal set_values)

-- ---- `/b_fill` number (index count value)..

abbrev pub sample_fill : Argument → Argument → Argument → Option SampleFill
sample_fill (int (pos i)) (int (pos count)) (int v) = Some (record { first = pos i; count = count; value = v })
sample_fill _ _ _ = None

abbrev pub fill_refusal : ℕ → SampleFill → Option Reason
fill_refusal size r = run_refusal size r.first r.count

abbrev pub fill_values : SampleFill → List ℤ → List ℤ
fill_values r samples = set_from (nat_abs r.first) (replicate r.count r.value) samples

abbrev pub fill_row : ℕ → List Argument → Turn → Result Turn Reason
fill_row from = of_buffer (triples sample_fill) (changing fill_refusal fill_values)

-- ---- `/b_get` number index..

abbrev pub sample_index : Argument → Option SampleIndex
sample_index (int (pos i)) = Some (record { index = pos i })
sample_index _ = None

abbrev pub index_refusal : ℕ → SampleIndex → Option Reason
index_refusal size r = sample_refusal size r.index

-- an index, and the sample there
abbrev pub index_and_value : List ℤ → SampleIndex → List Argument
index_and_value samples r = int r.index ∷ int (slice_index_or samples (nat_abs r.index) (pos 0)) ∷ []

-- `/b_set` number (index value)..
abbrev pub get_row : ℕ → List Argument → Turn → Result Turn Reason
get_row from = of_buffer (singles sample_index) (asking index_refusal index_and_value (codes "/b_set") from)

-- ---- `/b_getn` number (index count)..

abbrev pub sample_run : Argument → Argument → Option SampleRun
sample_run (int (pos i)) (int (pos count)) = Some (record { first = pos i; count = count })
sample_run _ _ = None

abbrev pub samples_asked : List SampleRun → ℕ
samples_asked rs = total_of (λ r. r.count) rs

abbrev pub few_asked : Option (List SampleRun) → Option (List SampleRun)
few_asked None = None
few_asked (Some rs) = if nat_le (samples_asked rs) most_values then Some rs else None

abbrev pub place_refusal : ℕ → SampleRun → Option Reason
place_refusal size r = run_refusal size r.first r.count

-- so many samples from one on
abbrev pub values_from : List ℤ → ℕ → ℕ → List Argument
values_from samples i zero = []
values_from samples i (suc count) = int (slice_index_or samples i (pos 0)) ∷ values_from samples (i + 1) count

abbrev pub run_and_values : List ℤ → SampleRun → List Argument
run_and_values samples r = int r.first ∷ int (pos r.count) ∷ values_from samples (nat_abs r.first) r.count

-- `/b_setn` number (index count value..)..
abbrev pub getn_row : ℕ → List Argument → Turn → Result Turn Reason
getn_row from = of_buffer (λ ys. few_asked (pairs sample_run ys)) (asking place_refusal run_and_values (codes "/b_setn") from)
