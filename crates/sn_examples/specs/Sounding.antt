-- The first samples of a unit's outputs, in block 0 at 48,000 frames a second. Its words of state are 0 before that.
use Rattle.std.specs.Prelude.{ℕ, List, ℤ, pos, map, replicate, take}
use Rattle.sn_def.specs.declared.kind.Kind.{Kind}
use Rattle.sn_def.specs.declared.control.Now.{Now}
use Rattle.sn_def.specs.Units.{row_of}
use Rattle.sn_def.specs.StateWords.{words_of}
use Rattle.sn_gen.specs.Generators.{generator}
use Rattle.sn_filt.specs.Rings.{most_frames}
use Rattle.sn_filt.specs.Filters.{filter}

-- the first unit of node 1000
abbrev pub now : Now
now = record { rate = 48000; block = 0; node = pos 1000; unit = 0 }

-- as many words of state as its row says; only a delay line's depend on an input
abbrev pub fresh : Kind → List (List ℤ) → List ℕ
fresh kind inputs = replicate (words_of (row_of kind).words (most_frames now.rate inputs)) 0

-- the first n samples of each output
abbrev pub first : ℕ → List (List ℤ) → List (List ℤ)
first n outputs = map (take n) outputs

-- of a generator
abbrev pub generated : Kind → List (List ℤ) → ℕ → List (List ℤ)
generated kind inputs n = first n (generator kind now (fresh kind inputs) inputs).1

-- of a unit of arithmetic or a filter
abbrev pub filtered : Kind → List (List ℤ) → ℕ → List (List ℤ)
filtered kind inputs n = first n (filter kind now (fresh kind inputs) inputs).1
