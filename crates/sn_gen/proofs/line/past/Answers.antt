use Rattle.std.proofs.Common.{List, ℤ, ◌∷◌, [], ◌++◌, replicate, SFits, w32, to_z, of_z, rules, ap, sym, ◌∙◌}
use Rattle.std.proofs.lemmas.Int.{to_z-of_z}
use Rattle.sn_mem.specs.Done.{ended}
use Rattle.sn_gen.specs.declared.line.Sweep.{Sweep}
use Rattle.sn_gen.proofs.Passing.{behind, same_line}
use Rattle.sn_gen.proofs.line.past.Goals as goal

pub returns-clause-sweep : goal.returns-clause-sweep
returns-clause-sweep c =
    let s = c.args.sweep in
    let start : SFits w32 c.args.sweep.start = search rules in
    let end : SFits w32 c.args.sweep.end = search rules in
    λ rate inputs. same_line c.ended-done.result (ended s.done) s.frame s.frames (to_z w32 (of_z w32 s.start)) s.start (to_z w32 (of_z w32 s.end)) s.end c.ended-done.ensures (to_z-of_z w32 s.start start) (to_z-of_z w32 s.end end)
    ∙ ap (λ (r : Sweep × List ℤ). r.0) (sym (behind rate inputs s.done s.frame s.frames s.start s.end c.requires.begun c.requires.over))

pub returns-clause-outputs : goal.returns-clause-outputs
returns-clause-outputs c =
    let s = c.args.sweep in
    let end : SFits w32 c.args.sweep.end = search rules in
    λ rate inputs. c.push_equal.ensures
    ∙ (ap (λ (bs : List (List ℤ)). bs ++ replicate 64 (to_z w32 (of_z w32 s.end)) ∷ []) c.clear.ensures
    ∙ (ap (λ (y : ℤ). replicate 64 y ∷ []) (to_z-of_z w32 s.end end)
    ∙ ap (λ (r : Sweep × List ℤ). r.1 ∷ []) (sym (behind rate inputs s.done s.frame s.frames s.start s.end c.requires.begun c.requires.over))))
