use Rattle.std.proofs.Common.{◌≡◌, List, ℤ, ◌∷◌, [], ◌++◌, replicate, SFits, w32, to_z, of_z, rules, ap, sym, ◌∙◌}
use Rattle.std.proofs.lemmas.Int.{to_z-of_z}
use Rattle.sn_gen.specs.declared.linen.Envelope.{Envelope}
use Rattle.sn_gen.specs.Linen.{height, done_at}
use Rattle.sn_gen.proofs.Resting.{rests, same_envelope}
use Rattle.sn_gen.proofs.linen.rested.Goals as goal

pub returns-clause-envelope : goal.returns-clause-envelope
returns-clause-envelope c =
    let e = c.args.envelope in
    let level : SFits w32 c.args.envelope.level = search rules in
    let top : SFits w32 c.args.envelope.top = search rules in
    let fits : SFits w32 c.height-sample.result = search rules in
    let done : c.done_at.result ≡ done_at e.segment e = search rules in
    let sample : c.height-sample.result ≡ height e = search rules in
    λ rate inputs leaves. same_envelope e.segment e.frame e.frames c.done_at.result (done_at e.segment e) (to_z w32 (of_z w32 e.level)) e.level (to_z w32 (of_z w32 e.top)) e.top (to_z w32 (of_z w32 c.height-sample.result)) (height e)
    done (to_z-of_z w32 e.level level) (to_z-of_z w32 e.top top) (to_z-of_z w32 c.height-sample.result fits ∙ sample)
    ∙ ap (λ (r : Envelope × List ℤ). r.0) (sym (rests rate inputs e c.requires leaves))

pub returns-clause-outputs : goal.returns-clause-outputs
returns-clause-outputs c =
    let e = c.args.envelope in
    let fits : SFits w32 c.height-sample.result = search rules in
    let sample : c.height-sample.result ≡ height e = search rules in
    λ rate inputs leaves. c.push_equal.ensures
    ∙ (ap (λ (bs : List (List ℤ)). bs ++ replicate 64 (to_z w32 (of_z w32 c.height-sample.result)) ∷ []) c.clear.ensures
    ∙ (ap (λ (y : ℤ). replicate 64 y ∷ []) (to_z-of_z w32 c.height-sample.result fits ∙ sample)
    ∙ ap (λ (r : Envelope × List ℤ). r.1 ∷ []) (sym (rests rate inputs e c.requires leaves))))
