use Rattle.std.proofs.Common.{◌≡◌, ◌++◌, ◌∷◌, drop, flat_map}
use Rattle.std.specs.Fmt.{signed_decimal}
use Rattle.sn_def.proofs.printing.print_values.Given as goal

abbrev pub invariant-loop-control : goal.invariant-loop-control
invariant-loop-control l =
    l.text.bytes ++ flat_map (λ c. 32 ∷ signed_decimal c.default) (drop l.control-index l.controls) ≡ l.fn.text.bytes ++ flat_map (λ c. 32 ∷ signed_decimal c.default) l.controls
