use Rattle.std.proofs.Common.{List, ℤ, ◌∷◌, [], ◌++◌, ap, sym, ◌∙◌}
use Rattle.sn_gen.specs.declared.line.Sweep.{Sweep}
use Rattle.sn_gen.proofs.Passing.{within}
use Rattle.sn_gen.proofs.line.along.Goals as goal

pub returns-clause-sweep : goal.returns-clause-sweep
returns-clause-sweep c =
    let s = c.args.sweep in
    λ rate inputs. c.run_course-after.ensures.line
    ∙ ap (λ (r : Sweep × List ℤ). r.0) (sym (within rate inputs s.done s.frame s.frames s.start s.end c.requires.begun c.requires.within))

pub returns-clause-outputs : goal.returns-clause-outputs
returns-clause-outputs c =
    let s = c.args.sweep in
    λ rate inputs. c.push.ensures
    ∙ (ap (λ (bs : List (List ℤ)). bs ++ c.run_course-after.new.samples ∷ []) c.clear.ensures
    ∙ (ap (λ (ys : List ℤ). ys ∷ []) c.run_course-after.ensures.samples
    ∙ ap (λ (r : Sweep × List ℤ). r.1 ∷ []) (sym (within rate inputs s.done s.frame s.frames s.start s.end c.requires.begun c.requires.within))))
