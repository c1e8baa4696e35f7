use Rattle.std.proofs.Common.{◌+◌, ◌-◌, ◌++◌, ◌∷◌, ℕ, ℤ, pos, List, get_or, to_z, of_z, sym, ap, ◌∙◌, rules}
use Rattle.std.specs.Prelude.{FitsSigned}
use Rattle.std.specs.Int.{w32}
use Rattle.std.proofs.lemmas.Int.{to_z-of_z}
use Rattle.sn_osc.specs.Shape.{Argument, int}
use Rattle.sn_mem.specs.Buffers.{samples_of}
use Rattle.sn_world.specs.BufferSamples.{values_from}
use Rattle.sn_buscmd.proofs.SampleAnswerLemmas.{values-more, one-behind}
use Rattle.sn_buscmd.proofs.sample_questions.push_samples.Goals as goal

pub loop-index-preserved : goal.loop-index-preserved
loop-index-preserved g c =
    let samples : List ℤ = samples_of (g.P.Port.words c.args.port.now) c.args.words in
    let found : List Argument = c.loop-index.found in
    let index : ℕ = c.loop-index.index in
    let end : ℕ = c.args.first + c.args.count in
    let rest : List Argument = values_from samples (index + 1) (end - (index + 1)) in
    let fits : FitsSigned w32 c.sample_at.result = search rules in
    record {
      left =
          ap (λ (xs : List Argument). xs ++ rest) c.in_ok-push_int.ensures.ok
          ∙ one-behind found (int (to_z w32 (of_z w32 c.sample_at.result))) rest
          ∙ ap (λ (v : ℤ). found ++ int v ∷ rest) (to_z-of_z w32 c.sample_at.result fits ∙ c.sample_at.ensures.value ∙ ap (λ (ws : List ℕ). get_or (samples_of ws c.args.words) index (pos 0)) c.loop-index.invariant.words)
          ∙ sym (ap (λ (xs : List Argument). found ++ xs) (values-more samples index end c.loop-index-test.true))
          ∙ c.loop-index.invariant.left;
      words = c.sample_at.ensures.words ∙ c.loop-index.invariant.words;
      foot = c.sample_at.ensures.port.0 ∙ c.loop-index.invariant.foot;
      rest = c.sample_at.ensures.port.1 ∙ c.loop-index.invariant.rest;
    }
