use Rattle.std.proofs.Common.{◌≡◌, ◌≤◌, ℤ, ◌+ℤ◌, ◌-ℤ◌, unsigned_abs, SFits, FitsSigned, to_z, of_z, subst, sym, ap, arith, ◌∙◌}
use Rattle.std.specs.Int.{w64, w128}
use Rattle.std.proofs.lemmas.Int.{to_z-of_z}
use Rattle.sn_fixed.specs.Lines.{IsBetween}
use Rattle.sn_filt.proofs.Ways.{place_fits, way_small}
use Rattle.sn_filt.proofs.followers.place_after.Goals as goal

-- x is the way d as the code has it
between_at : (d x y : ℤ) → x ≡ d → IsBetween y x → IsBetween y d
between_at d x y same b = let P : ℤ → Type 0 = λ z. IsBetween y z in subst P same b

difference_at : (g p x y : ℤ) → x ≡ p → y ≡ g → x -ℤ y ≡ p -ℤ g
difference_at g p x y e f = ap (λ (z : ℤ). z -ℤ y) e ∙ ap (λ (z : ℤ). p -ℤ z) f

sum_at : (g d x y : ℤ) → x ≡ g → y ≡ d → x +ℤ y ≡ g +ℤ d
sum_at g d x y e f = ap (λ (z : ℤ). z +ℤ y) e ∙ ap (λ (z : ℤ). g +ℤ z) f

pub moved-requires-clause-way : goal.moved-requires-clause-way
moved-requires-clause-way c =
    let P : ℤ → Type 0 = λ y. unsigned_abs y ≤ 18446744073709551616 in
    let fits : SFits w128 c.part.result = record { sfits = c.part.type_inv } in
    let way : SFits w128 c.way-way.result = record { sfits = c.way-way.type_inv } in
    let between = between_at c.way-way.result (to_z w128 (of_z w128 c.way-way.result)) c.part.result (to_z-of_z w128 c.way-way.result way) c.part.ensures.between in
    subst P (sym (to_z-of_z w128 c.part.result fits)) (way_small c.way-way.result c.part.result c.way-way.ensures.bound between)

pub moved-requires-clause-fits : goal.moved-requires-clause-fits
moved-requires-clause-fits c =
    let P : ℤ → Type 0 = λ z. FitsSigned w64 z in
    let fits : SFits w128 c.part.result = record { sfits = c.part.type_inv } in
    let way : SFits w128 c.way-way.result = record { sfits = c.way-way.type_inv } in
    let between = between_at c.way-way.result (to_z w128 (of_z w128 c.way-way.result)) c.part.result (to_z-of_z w128 c.way-way.result way) c.part.ensures.between in
    let goal_is : to_z w64 (of_z w64 c.args.goal) ≡ c.args.goal = to_z-of_z w64 c.args.goal c.ranges.goal in
    let place_is : to_z w64 (of_z w64 c.args.place) ≡ c.args.place = to_z-of_z w64 c.args.place c.ranges.place in
    let value = c.way-way.ensures.value ∙ difference_at c.args.goal c.args.place (to_z w64 (of_z w64 c.args.place)) (to_z w64 (of_z w64 c.args.goal)) place_is goal_is in
    let same = sum_at c.args.goal c.part.result (to_z w64 (of_z w64 c.args.goal)) (to_z w128 (of_z w128 c.part.result)) goal_is (to_z-of_z w128 c.part.result fits) in
    subst P (sym same) (place_fits c.args.goal c.args.place c.way-way.result c.part.result c.ranges.goal c.ranges.place value between)
