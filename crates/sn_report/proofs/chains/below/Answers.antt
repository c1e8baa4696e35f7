use Rattle.std.proofs.Common.{◌≡◌, ◌∙◌, ◌∷◌, ◌++◌, ◌-◌, [], ℕ, List, ap, append_assoc, append-nil, arith, sym}
use Rattle.sn_report.specs.Certificates.{below}
use Rattle.sn_report.proofs.LevelLemmas.{below_next}
use Rattle.sn_report.proofs.chains.below.Goals as goal

pub loop-left-preserved : goal.loop-left-preserved
loop-left-preserved c =
    let n = c.loop-left.left in
    ap (λ (l : List ℕ). l ++ below (n - 1)) c.in_ok-push.ensures.items
    ∙ append_assoc c.loop-left.all.items ((n - 1) ∷ []) (below (n - 1))
    ∙ ap (λ (l : List ℕ). c.loop-left.all.items ++ l) (sym (below_next n c.loop-left-test.true))
    ∙ c.loop-left.invariant

pub returns : goal.returns
returns c =
    let none : c.loop-left.left ≡ 0 = omega (arith, c.loop-left-test.false) in
    sym (append-nil c.loop-left.all.items) ∙ (ap (λ (n : ℕ). c.loop-left.all.items ++ below n) (sym none) ∙ c.loop-left.invariant)
