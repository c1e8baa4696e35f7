use Rattle.std.proofs.Common.{refl, sym, ◌∙◌}
use Rattle.sn_score.proofs.laws.one_text.Goals as goal

pub returns-clause-has : goal.returns-clause-has
returns-clause-has c = λ packets fit. record { fit = fit; written = refl }

pub returns-clause-one : goal.returns-clause-one
returns-clause-one c = λ packets a b x y. x.written ∙ sym y.written
