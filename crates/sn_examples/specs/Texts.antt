-- Texts of lines.
use Prim.Native.String.{String}
use Rattle.std.specs.Prelude.{ℕ, List, [], ◌∷◌, ◌++◌, Result, Ok, Err, codes}
use Rattle.sn_def.specs.declared.fault.DefFault.{DefFault}
use Rattle.sn_def.specs.Definition.{Definition}
use Rattle.sn_def.specs.Reading.{text_at}
use Rattle.sn_def.specs.Printing.{print_of}

-- each line ends in a line feed
abbrev pub lines : List String → List ℕ
lines [] = []
lines (line ∷ more) = codes line ++ 10 ∷ lines more

abbrev pub printed_if : Result Definition DefFault → List ℕ
printed_if (Ok d) = print_of d
printed_if (Err e) = []

-- what is printed of the definition that a text is read as
abbrev pub printed : List ℕ → List ℕ
printed text = printed_if (text_at text)
