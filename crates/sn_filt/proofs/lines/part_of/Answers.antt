use Rattle.std.proofs.Common.{◌≡◌, ◌≤◌, ◌<◌, ℕ, ℤ, pos, ◌*ℤ◌, SFits, to_z, of_z, subst, sym, arith, ◌∙◌}
use Rattle.std.specs.Int.{w64}
use Rattle.std.proofs.lemmas.Int.{to_z-of_z}
use Rattle.sn_fixed.specs.Fixed.{floor}
use Rattle.sn_fixed.specs.Lines.{IsBetween}
use Rattle.sn_fixed.proofs.Portions.{portion_between}
use Rattle.sn_filt.proofs.lines.part_of.Goals as goal

-- x is the code's value, in whole numbers
between_at : (way r x : ℤ) (k n : ℕ) → r ≡ floor (way *ℤ pos k) n → x ≡ r → k ≤ n → 0 < n → IsBetween x way
between_at way r x k n value same part some = let P : ℤ → Type 0 = λ y. IsBetween y way in subst P (sym (same ∙ value)) (portion_between way k n part some)

pub returns-clause-between : goal.returns-clause-between
returns-clause-between c =
    let fits : SFits w64 c.scaled.result = record { sfits = c.scaled.type_inv } in
    let value : c.scaled.result ≡ floor (c.args.way *ℤ pos c.args.part) 16777216 = grind (arith, to_z-of_z) in
    between_at c.args.way c.scaled.result (to_z w64 (of_z w64 c.scaled.result)) c.args.part 16777216 value (to_z-of_z w64 c.scaled.result fits) (omega arith) (omega arith)
