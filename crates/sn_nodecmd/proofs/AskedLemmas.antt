-- The arguments of `/s_new`, read one after the other.
use Rattle.std.proofs.Common.{◌≡◌, ◌≤◌, ◌-◌, ℕ, true, is_some, unwrap_or, List, [], ◌∷◌, length, map, take, drop, get_or, Option, Some, None, refl, sym, ◌∙◌, arith}
use Rattle.std.proofs.lemmas.List.{take_all}
use Rattle.sn_osc.specs.declared.packet.Arg.{Arg}
use Rattle.sn_osc.specs.Shape.{argument_of}
use Rattle.sn_world.specs.Rows.{pairs}
use Rattle.sn_world.specs.NewSynth.{ControlValue, control_value, text_of, asked_with, new_synth}
use Rattle.sn_world.specs.NewNodes.{new_node}
use Rattle.sn_world.specs.declared.repetition.NewNode.{NewNode}

pub new_synth-step : (args : List Arg) (a b c d : Arg) → 4 ≤ length args → a ≡ get_or args 0 a → b ≡ get_or args 1 b → c ≡ get_or args 2 c → d ≡ get_or args 3 d
    → new_synth (map argument_of args) ≡ asked_with (text_of (argument_of a)) (new_node (argument_of b) (argument_of c) (argument_of d)) (pairs control_value (map argument_of (take (length args - 4) (drop 4 args))))
new_synth-step [] a b c d four is-a is-b is-c is-d = absurd (omega arith)
new_synth-step (p ∷ []) a b c d four is-a is-b is-c is-d = absurd (omega arith)
new_synth-step (p ∷ q ∷ []) a b c d four is-a is-b is-c is-d = absurd (omega arith)
new_synth-step (p ∷ q ∷ r ∷ []) a b c d four is-a is-b is-c is-d = absurd (omega arith)
new_synth-step (p ∷ q ∷ r ∷ s ∷ rest) a b c d four is-a is-b is-c is-d =
    let whole : take (length (p ∷ q ∷ r ∷ s ∷ rest) - 4) rest ≡ rest = take_all _ rest (omega arith) in
    rw (whole, ← is-a, ← is-b, ← is-c, ← is-d) refl

pub asked-made : (args : List Arg) (a b c d : Arg) (name : List ℕ) (n : NewNode) → 4 ≤ length args → a ≡ get_or args 0 a → b ≡ get_or args 1 b → c ≡ get_or args 2 c → d ≡ get_or args 3 d
    → Some name ≡ text_of (argument_of a) → Some n ≡ new_node (argument_of b) (argument_of c) (argument_of d)
    → is_some (pairs control_value (map argument_of (take (length args - 4) (drop 4 args)))) ≡ true
    → Some (record { name = name; node = n; values = unwrap_or (pairs control_value (map argument_of (take (length args - 4) (drop 4 args)))) [] }) ≡ new_synth (map argument_of args)
asked-made args a b c d name n four is-a is-b is-c is-d e-name e-node valid =
    let values = pairs control_value (map argument_of (take (length args - 4) (drop 4 args))) in
    sym (new_synth-step args a b c d four is-a is-b is-c is-d ∙ (λ i. asked_with (sym e-name i) (sym e-node i) values) ∙ at values valid)
  where
    at : (o : Option (List ControlValue)) → is_some o ≡ true → asked_with (Some name) (Some n) o ≡ Some (record { name = name; node = n; values = unwrap_or o [] })
    at None valid = absurd cc
    at (Some vs) valid = refl
