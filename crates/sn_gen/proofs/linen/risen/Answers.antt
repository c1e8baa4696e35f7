use Rattle.std.proofs.Common.{◌≡◌, ◌+◌, List, ℤ, pos, ◌∷◌, [], ◌++◌, get_or, SFits, w32, to_z, of_z, rules, ap, sym, ◌∙◌}
use Rattle.std.proofs.lemmas.Int.{to_z-of_z}
use Rattle.sn_fixed.specs.Lines.{line_at}
use Rattle.sn_mem.specs.Blocks.{table}
use Rattle.sn_gen.specs.declared.line.Sweep.{Sweep}
use Rattle.sn_gen.specs.declared.linen.Envelope.{Envelope}
use Rattle.sn_gen.proofs.Resting.{rises, last_sample, same_rise}
use Rattle.sn_gen.proofs.linen.risen.Goals as goal

pub returns-clause-envelope : goal.returns-clause-envelope
returns-clause-envelope c =
    let e = c.args.envelope in
    let level : SFits w32 c.args.envelope.level = search rules in
    let top : SFits w32 c.args.envelope.top = search rules in
    let made : c.run_course-after.new.samples ≡ table (λ k. line_at (pos 0) e.level (e.frame + k) e.frames) 64 =
    c.run_course-after.ensures.samples ∙ ap (λ (l : ℤ). table (λ k. line_at (pos 0) l (e.frame + k) e.frames) 64) (to_z-of_z w32 e.level level) in
    let fits : SFits w32 (get_or c.run_course-after.new.samples 63 (pos 0)) = search rules in
    λ rate inputs leaves. same_rise e.segment e.frames e.done c.run_course-after.result.frame (e.frame + 64) (to_z w32 (of_z w32 e.level)) e.level (to_z w32 (of_z w32 e.top)) e.top
    (to_z w32 (of_z w32 (get_or c.run_course-after.new.samples 63 (pos 0)))) (line_at (pos 0) e.level (e.frame + 63) e.frames)
    (ap (λ (s : Sweep). s.frame) c.run_course-after.ensures.line) (to_z-of_z w32 e.level level) (to_z-of_z w32 e.top top)
    (to_z-of_z w32 (get_or c.run_course-after.new.samples 63 (pos 0)) fits ∙ last_sample (λ k. line_at (pos 0) e.level (e.frame + k) e.frames) c.run_course-after.new.samples made)
    ∙ ap (λ (r : Envelope × List ℤ). r.0) (sym (rises rate inputs e c.requires.open c.requires.within leaves))

pub returns-clause-outputs : goal.returns-clause-outputs
returns-clause-outputs c =
    let e = c.args.envelope in
    let level : SFits w32 c.args.envelope.level = search rules in
    let made : c.run_course-after.new.samples ≡ table (λ k. line_at (pos 0) e.level (e.frame + k) e.frames) 64 =
    c.run_course-after.ensures.samples ∙ ap (λ (l : ℤ). table (λ k. line_at (pos 0) l (e.frame + k) e.frames) 64) (to_z-of_z w32 e.level level) in
    λ rate inputs leaves. c.push.ensures
    ∙ (ap (λ (bs : List (List ℤ)). bs ++ c.run_course-after.new.samples ∷ []) c.clear.ensures
    ∙ (ap (λ (ys : List ℤ). ys ∷ []) made
    ∙ ap (λ (r : Envelope × List ℤ). r.1 ∷ []) (sym (rises rate inputs e c.requires.open c.requires.within leaves))))
