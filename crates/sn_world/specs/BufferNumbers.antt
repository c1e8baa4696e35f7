-- Buffers by the numbers that commands name.
use Rattle.std.specs.Prelude.{ℕ, ◌+◌, ℤ, pos, negsuc, Bool, false, not, is_none, nat_lt, List, [], ◌∷◌, Option, Some, None, slice_index_or, slice_set, codes}
use Rattle.sn_ports.specs.Limits.{buffer_count}
use Rattle.sn_osc.specs.Shape.{int, string, arguments, MessageShape}
use Rattle.sn_reply.specs.declared.reason.Reason.{Reason}
use Rattle.sn_reply.specs.declared.reason.Reason.TheVariants as Reasons
use Rattle.sn_mem.specs.Buffers.{Buffer}
use Rattle.sn_world.specs.World.{World}
use Rattle.sn_world.specs.Rows.{first_of}

-- There are 1,024 numbers of buffers.
abbrev pub is_number : ℤ → Bool
is_number (pos n) = nat_lt n buffer_count
is_number (negsuc n) = false

-- what is at a number, if anything is
abbrev pub at_number : {A : Type 0} → List (Option A) → ℤ → Option A
at_number xs (pos n) = slice_index_or xs n None
at_number xs (negsuc n) = None

-- with something else at a number, or nothing
abbrev pub put_at : {A : Type 0} → ℤ → Option A → List (Option A) → List (Option A)
put_at (pos n) x xs = slice_set xs n x
put_at (negsuc n) x xs = xs

-- samples set from one on, one after the other
abbrev pub set_from : ℕ → List ℤ → List ℤ → List ℤ
set_from i [] samples = samples
set_from i (v ∷ vs) samples = set_from (i + 1) vs (slice_set samples i v)

-- a buffer, if there is one, with its samples changed
abbrev pub resampled : (List ℤ → List ℤ) → Option Buffer → Option Buffer
resampled f None = None
resampled f (Some b) = Some (record b { samples = f b.samples })

-- the world with the samples of a buffer changed
abbrev pub with_samples : ℤ → (List ℤ → List ℤ) → World → World
with_samples n f w = record w { buffers = put_at n (resampled f (at_number w.buffers n)) w.buffers }

-- the reason against a number, and against one at which a buffer is to be
abbrev pub number_refusal : ℤ → Option Reason
number_refusal n = first_of ((not (is_number n), Reasons.Buffer) ∷ [])

abbrev pub buffer_refusal : ℤ → World → Option Reason
buffer_refusal n w = first_of ((is_none (at_number w.buffers n), Reasons.Buffer) ∷ [])

-- `/done` with the address of a command and the number of a buffer
abbrev pub done_message : List ℕ → ℤ → MessageShape
done_message address n = record { address = codes "/done"; body = arguments (string address ∷ int n ∷ []) }
