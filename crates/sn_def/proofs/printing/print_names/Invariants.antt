use Rattle.std.proofs.Common.{◌≡◌, ◌++◌, ◌∷◌, [], drop, flat_map}
use Rattle.sn_ports.specs.Octets.{Octets}
use Rattle.sn_def.proofs.printing.print_names.Given as goal

abbrev pub invariant-loop-name : goal.invariant-loop-name
invariant-loop-name l =
    l.text.bytes ++ flat_map (λ (n : Octets). n.bytes ++ 32 ∷ []) (drop l.name-index l.names) ≡ l.fn.text.bytes ++ flat_map (λ (n : Octets). n.bytes ++ 32 ∷ []) l.names
