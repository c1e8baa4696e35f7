-- Samples, written as a definition text writes its literals: "0.5" is half of 1.0, and "5" the raw number 5.
use Prim.Native.String.{String}
use Rattle.std.specs.Prelude.{List, [], ℤ, pos, Result, Ok, Err, codes, replicate, slice_index_or}
use Rattle.sn_ports.specs.Limits.{block_frames}
use Rattle.sn_def.specs.declared.fault.DefKind.{DefKind}
use Rattle.sn_def.specs.Reading.{pieces, defaults_at}

abbrev pub values_in : Result (List ℤ) DefKind → List ℤ
values_in (Ok values) = values
values_in (Err kind) = []

-- the literals between spaces
abbrev pub samples : String → List ℤ
samples line = values_in (defaults_at (pieces 32 (codes line)))

-- a block in which each sample is that of one literal
abbrev pub steady : String → List ℤ
steady value = replicate block_frames (slice_index_or (samples value) 0 (pos 0))
