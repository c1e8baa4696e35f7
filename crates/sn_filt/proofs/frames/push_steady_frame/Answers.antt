use Rattle.std.proofs.Common.{◌≡◌, ◌++◌, ◌∷◌, [], ℕ, ℤ, List, SFits, w32, to_z, of_z, rules, ap, sym, ◌∙◌}
use Rattle.std.proofs.lemmas.Int.{to_z-of_z}
use Rattle.sn_filt.proofs.SteadyFrames.{as_first, steady_table}
use Rattle.sn_filt.proofs.frames.push_steady_frame.Goals as goal

pub returns : goal.returns
returns g c =
    let f : ℕ → ℤ = g.U.Framewise.value c.args.unit.now c.args.inputs.now in
    let fits : SFits w32 c.sample.result = search rules in
    let y : ℤ = to_z w32 (of_z w32 c.sample.result) in
    let first : y ≡ f 0 = to_z-of_z w32 c.sample.result fits ∙ c.sample.ensures in
    c.push_equal.ensures
    ∙ ap (λ (xs : List ℤ). c.args.outputs.now ++ xs ∷ []) (sym (steady_table f y 64 (λ k lt.
    g.met.U.Framewise.steady c.args.unit.now c.args.inputs.now k (as_first c.args.inputs.now k lt c.requires.steady) ∙ sym first)))
