-- Pieces that are put one after the other.
use Rattle.std.proofs.Common.{of_z, to_z, ◌≡◌, ℕ, ℤ, List, [], ◌++◌, ap, sym, ◌∙◌, append_assoc}
use Rattle.std.specs.Prelude.{FitsSigned}
use Rattle.std.specs.Int.{w32}
use Rattle.std.proofs.lemmas.Int.{to_z-of_z}
use Rattle.std.proofs.lemmas.List.{append-nil}
use Rattle.sn_osc.specs.Bytes.{int_bytes, arguments_bytes}
use Rattle.sn_reply.specs.Events.{trigger_arguments}

-- a number that was put is in the range of 32 bits
pub was_put : (n : ℤ) (x y : List ℕ) → FitsSigned w32 n → y ≡ x ++ int_bytes (to_z w32 (of_z w32 n)) → y ≡ x ++ int_bytes n
was_put n x y fits put = put ∙ ap (λ m. x ++ int_bytes m) (to_z-of_z w32 n fits)

next : (old front piece x y : List ℕ) → x ≡ old ++ front → y ≡ x ++ piece → y ≡ old ++ (front ++ piece)
next old front piece x y e put = put ∙ ap (λ xs. xs ++ piece) e ∙ append_assoc old front piece

pub three : (old head a b c w x y z : List ℕ) → w ≡ old ++ head → x ≡ w ++ a → y ≡ x ++ b → z ≡ y ++ c → z ≡ old ++ (head ++ (a ++ (b ++ (c ++ []))))
three old head a b c w x y z e f g h =
    next old ((head ++ a) ++ b) c y z (next old (head ++ a) b x y (next old head a w x e f) g) h
    ∙ ap (λ xs. old ++ xs) (append_assoc (head ++ a) b c ∙ append_assoc head a (b ++ c) ∙ ap (λ xs. head ++ (a ++ (b ++ xs))) (sym (append-nil c)))

pub five : (old head a b c d e v w x y z u : List ℕ) → v ≡ old ++ head → w ≡ v ++ a → x ≡ w ++ b → y ≡ x ++ c → z ≡ y ++ d → u ≡ z ++ e → u ≡ old ++ (head ++ (a ++ (b ++ (c ++ (d ++ (e ++ []))))))
five old head a b c d e v w x y z u p q r s t last =
    three old ((head ++ a) ++ b) c d e x y z u (next old (head ++ a) b w x (next old head a v w p q) r) s t last
    ∙ ap (λ xs. old ++ xs) (append_assoc (head ++ a) b (c ++ (d ++ (e ++ []))) ∙ append_assoc head a (b ++ (c ++ (d ++ (e ++ [])))))

pub trigger_put : (node id value : ℤ) (head x y : List ℕ) → FitsSigned w32 node → FitsSigned w32 id → FitsSigned w32 value
    → y ≡ x ++ (head ++ arguments_bytes (trigger_arguments (to_z w32 (of_z w32 node)) (to_z w32 (of_z w32 id)) (to_z w32 (of_z w32 value)))) → y ≡ x ++ (head ++ arguments_bytes (trigger_arguments node id value))
trigger_put node id value head x y f g h put =
    put
    ∙ ap (λ n. x ++ (head ++ arguments_bytes (trigger_arguments n (to_z w32 (of_z w32 id)) (to_z w32 (of_z w32 value))))) (to_z-of_z w32 node f)
    ∙ ap (λ n. x ++ (head ++ arguments_bytes (trigger_arguments node n (to_z w32 (of_z w32 value))))) (to_z-of_z w32 id g)
    ∙ ap (λ n. x ++ (head ++ arguments_bytes (trigger_arguments node id n))) (to_z-of_z w32 value h)
