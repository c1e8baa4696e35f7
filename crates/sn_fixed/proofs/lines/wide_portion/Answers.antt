use Rattle.std.proofs.Common.{◌≡◌, ◌≤◌, ◌<◌, ℕ, ℤ, pos, ◌*ℤ◌, SFits, to_z, of_z, subst, sym, arith, ◌∙◌}
use Rattle.std.specs.Int.{w128}
use Rattle.std.proofs.lemmas.Int.{to_z-of_z}
use Rattle.sn_fixed.specs.Fixed.{floor}
use Rattle.sn_fixed.specs.Lines.{IsBetween}
use Rattle.sn_fixed.proofs.Portions.{portion_between}
use Rattle.sn_fixed.proofs.lines.wide_portion.Goals as goal

-- x is the code's value, in whole numbers
between_at : (whole r x : ℤ) (k n : ℕ) → r ≡ floor (whole *ℤ pos k) n → x ≡ r → k ≤ n → 0 < n → IsBetween x whole
between_at whole r x k n value same part some = let P : ℤ → Type 0 = λ y. IsBetween y whole in subst P (sym (same ∙ value)) (portion_between whole k n part some)

pub returns-clause-between : goal.returns-clause-between
returns-clause-between c =
    let fits : SFits w128 c.quotient.result = record { sfits = c.quotient.type_inv } in
    let value : c.quotient.result ≡ floor (c.args.whole *ℤ pos c.args.k) c.args.n = grind (arith, to_z-of_z) in
    between_at c.args.whole c.quotient.result (to_z w128 (of_z w128 c.quotient.result)) c.args.k c.args.n value (to_z-of_z w128 c.quotient.result fits) c.requires.part c.requires.some
