use Rattle.std.proofs.Common.{◌≡◌, ℤ, pos, negsuc, ◌+ℤ◌, SFits, ap, ◌∙◌, arith}
use Rattle.std.specs.Int.{w32, w64, int_min, int_max, saturate_signed}
use Rattle.std.proofs.lemmas.Int.{to_z-of_z, ints, clamps}
use Rattle.sn_io.proofs.placing.next_place.Goals as goal

sum_at : (p s x y : ℤ) → x ≡ p → y ≡ s → x +ℤ y ≡ p +ℤ s
sum_at p s x y e f = ap (λ (z : ℤ). z +ℤ y) e ∙ ap (λ (z : ℤ). p +ℤ z) f

-- what saturates first is clipped to the same
clip_same : (z : ℤ) → int_max (int_min (saturate_signed w64 z) (pos 4611686018427387904)) (negsuc 4611686018427387903) ≡ int_max (negsuc 4611686018427387903) (int_min (pos 4611686018427387904) z)
clip_same (pos n) = omega (arith, ints, clamps)
clip_same (negsuc n) = omega (arith, ints, clamps)

pub returns : goal.returns
returns c =
    let highest : ℤ = pos 4611686018427387904 in
    let lowest : ℤ = negsuc 4611686018427387903 in
    let wide : SFits w64 c.from.result = record { sfits = c.from.type_inv } in
    let added : SFits w64 c.saturating_add-next.result = record { sfits = c.saturating_add-next.type_inv } in
    let low : SFits w64 c.min.result = record { sfits = c.min.type_inv } in
    let high : SFits w64 c.max.result = record { sfits = c.max.type_inv } in
    let sum = sum_at c.args.place c.args.step _ _ (to_z-of_z w64 c.args.place c.ranges.place) (to_z-of_z w64 c.from.result wide ∙ (c.from.ensures ∙ to_z-of_z w32 c.args.step c.ranges.step)) in
    to_z-of_z w64 c.max.result high
    ∙ (c.max.ensures.value
    ∙ (ap (λ (y : ℤ). int_max y lowest) (to_z-of_z w64 c.min.result low ∙ (c.min.ensures.value ∙ ap (λ (y : ℤ). int_min y highest) (to_z-of_z w64 c.saturating_add-next.result added ∙ (c.saturating_add-next.ensures ∙ ap (saturate_signed w64) sum))))
    ∙ clip_same (c.args.place +ℤ c.args.step)))
