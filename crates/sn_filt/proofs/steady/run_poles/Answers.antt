use Rattle.std.proofs.Common.{◌≡◌, ◌<◌, take, length, get_or, SFits, w32, to_z, of_z, rules, arith, sym, ap, ◌∙◌, ℤ, pos}
use Rattle.std.proofs.lemmas.Int.{to_z-of_z}
use Rattle.sn_mem.specs.Blocks.{scan}
use Rattle.sn_mem.proofs.Steps.{scan_none, scan_step, length-set_at, state_of, samples_of}
use Rattle.sn_filt.specs.Poles.{pole, one_pole}
use Rattle.sn_filt.proofs.SteadyPoles.{pole_frame}
use Rattle.sn_filt.proofs.steady.run_poles.Goals as goal

pub loop-frame-init : goal.loop-frame-init
loop-frame-init c = record { long = search rules; made = λ weight inputs is x w. sym (scan_none one_pole (to_z w32 (of_z w32 c.args.begin)) inputs) }

pub loop-frame-preserved : goal.loop-frame-preserved
loop-frame-preserved c =
    let i = c.loop-frame.invariant in
    let k = c.loop-frame.frame in
    let before : ℤ = to_z w32 c.loop-frame.last-bits in
    let weight_c : ℤ = to_z w32 (of_z w32 c.args.c) in
    let y : ℤ = c.unlimited_pole-last.result in
    let input : ℤ = get_or c.args.x.now k (pos 0) in
    let fits : SFits w32 c.unlimited_pole-last.result = search rules in
    let input_fits : SFits w32 (get_or c.args.x.now c.loop-frame.frame (pos 0)) = search rules in
    let lt : c.loop-frame.frame < length c.loop-frame.samples = omega arith in
    let inside : c.loop-frame.frame < 64 = omega arith in
    let is_pole : to_z w32 (of_z w32 y) ≡ pole before input weight_c = to_z-of_z w32 y fits ∙ (c.unlimited_pole-last.ensures ∙ ap (λ (z : ℤ). pole before z weight_c) (to_z-of_z w32 input input_fits)) in
    record {
      long = length-set_at c.loop-frame.samples k (to_z w32 (of_z w32 y)) 64 i.long;
      made = λ weight inputs is x w. scan_step one_pole (to_z w32 (of_z w32 c.args.begin)) before (to_z w32 (of_z w32 y)) (to_z w32 (of_z w32 y)) inputs k c.loop-frame.samples lt (i.made weight inputs is x w)
          (pole_frame before (to_z w32 (of_z w32 y)) weight_c weight c.args.x.now inputs k inside is x w is_pole);
    }

pub returns-clause-last : goal.returns-clause-last
returns-clause-last c =
    let all : c.loop-frame.frame ≡ 64 = omega arith in
    let same_c : to_z w32 (of_z w32 c.args.c) ≡ c.args.c = to_z-of_z w32 c.args.c c.ranges.c in
    let same_begin : to_z w32 (of_z w32 c.args.begin) ≡ c.args.begin = to_z-of_z w32 c.args.begin c.ranges.begin in
    λ weight inputs is x w. state_of (scan one_pole (to_z w32 (of_z w32 c.args.begin)) inputs) c.loop-frame.frame 64 (to_z w32 c.loop-frame.last-bits) (take c.loop-frame.frame c.loop-frame.samples) all (c.loop-frame.invariant.made weight inputs (same_c ∙ is) x w)
    ∙ ap (λ (b : ℤ). (scan one_pole b inputs 64).0) same_begin

pub returns-clause-samples : goal.returns-clause-samples
returns-clause-samples c =
    let all : c.loop-frame.frame ≡ 64 = omega arith in
    let same_c : to_z w32 (of_z w32 c.args.c) ≡ c.args.c = to_z-of_z w32 c.args.c c.ranges.c in
    let same_begin : to_z w32 (of_z w32 c.args.begin) ≡ c.args.begin = to_z-of_z w32 c.args.begin c.ranges.begin in
    λ weight inputs is x w. samples_of (scan one_pole (to_z w32 (of_z w32 c.args.begin)) inputs) c.loop-frame.frame 64 (to_z w32 c.loop-frame.last-bits) c.loop-frame.samples all c.loop-frame.invariant.long (c.loop-frame.invariant.made weight inputs (same_c ∙ is) x w)
    ∙ ap (λ (b : ℤ). (scan one_pole b inputs 64).1) same_begin
