-- Two proofs that a text has a definition are one.
use Rattle.std.proofs.Common.{◌≡◌, ℕ, List, Ok}
use Rattle.std.proofs.Props.{props}
use Rattle.std.proofs.Math.Logic.{∥∥₁_elim}
use Rattle.sn_def.specs.Definition.{Definition}
use Rattle.sn_def.specs.Reading.{text_at, IsWritten}
use Rattle.sn_def.specs.Printing.{print_of}
use Rattle.sn_def.proofs.Complete.{Bytes}
use Rattle.sn_def.proofs.Printed.{Digits, print_reads}

one_reading : (text : List ℕ) (d : Definition) → IsProp (text_at text ≡ Ok d)
one_reading text d = hlevel props

-- what is printed of what some text defines reads back
pub printed_back : Digits → Bytes → (d : Definition) → ∥ IsWritten d ∥₁ → text_at (print_of d) ≡ Ok d
printed_back digits bytes d w = ∥∥₁_elim w (one_reading (print_of d) d) (print_reads digits bytes d)
