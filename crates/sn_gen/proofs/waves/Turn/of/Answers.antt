use Rattle.std.proofs.Common.{◌≡◌, ℤ, SFits, w32, to_z, of_z, replicate, rules, ap, ◌∙◌}
use Rattle.std.proofs.lemmas.Int.{to_z-of_z}
use Rattle.sn_fixed.specs.Fixed.{step_of}
use Rattle.sn_mem.specs.Blocks.{block}
use Rattle.sn_gen.specs.declared.waves.Turn.{Turn}
use Rattle.sn_gen.proofs.Turning.{steady_of}
use Rattle.sn_gen.proofs.waves.Turn.of.Goals as goal

pub returns-in-Some-Some : goal.returns-in-Some-Some
returns-in-Some-Some c =
    let freq : ℤ = c.in-Some-Some.freq in
    let offset : ℤ = c.in-Some-Some.offset in
    let low : SFits w32 c.in-Some-Some.freq = search rules in
    let fits : SFits w32 c.in-Some-Some.offset = search rules in
    let same : block c.args.inputs.now 0 ≡ replicate 64 c.in-Some-Some.freq = search rules in
    let same' : block c.args.inputs.now 1 ≡ replicate 64 c.in-Some-Some.offset = search rules in
    let turn : Turn = record { step = c.step_of.result; offset = to_z w32 (of_z w32 offset) } in
    steady_of c.args.rate c.args.inputs.now freq offset turn same same'
    (c.step_of.ensures ∙ ap (λ x. step_of x c.args.rate) (to_z-of_z w32 freq low)) (to_z-of_z w32 offset fits)
