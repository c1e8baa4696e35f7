use Rattle.std.proofs.Common.{◌≡◌, ◌<◌, ℤ, take, length, SFits, w32, to_z, of_z, rules, arith, sym, ap, ◌∙◌}
use Rattle.std.proofs.lemmas.Int.{to_z-of_z}
use Rattle.sn_mem.specs.Blocks.{scan}
use Rattle.sn_mem.proofs.Steps.{scan_none, scan_step, length-set_at, state_of, samples_of}
use Rattle.sn_gen.specs.Pink.{pink_noise}
use Rattle.sn_gen.proofs.pink.run_frames.Goals as goal

pub loop-frame-init : goal.loop-frame-init
loop-frame-init c = (search rules, λ inputs. sym (scan_none (pink_noise c.args.first) c.args.begin inputs))

pub loop-frame-preserved : goal.loop-frame-preserved
loop-frame-preserved c =
    let i = c.loop-frame.invariant in
    let y = c.rolled-sample.result.1 in
    let fits : SFits w32 c.rolled-sample.result.1 = search rules in
    let lt : c.loop-frame.frame < length c.loop-frame.samples = omega arith in (
      length-set_at c.loop-frame.samples c.loop-frame.frame (to_z w32 (of_z w32 y)) 64 i.0,
      λ inputs. scan_step (pink_noise c.args.first) c.args.begin c.loop-frame.state c.rolled-sample.result.0 (to_z w32 (of_z w32 y)) inputs c.loop-frame.frame c.loop-frame.samples lt (i.1 inputs)
          (ap (λ (y : ℤ). (c.rolled-sample.result.0, y)) (to_z-of_z w32 y fits) ∙ c.rolled-sample.ensures),
    )

pub returns-clause-state : goal.returns-clause-state
returns-clause-state c =
    let all : c.loop-frame.frame ≡ 64 = omega arith in
    λ inputs. state_of (scan (pink_noise c.args.first) c.args.begin inputs) c.loop-frame.frame 64 c.loop-frame.state (take c.loop-frame.frame c.loop-frame.samples) all (c.loop-frame.invariant.1 inputs)

pub returns-clause-samples : goal.returns-clause-samples
returns-clause-samples c =
    let all : c.loop-frame.frame ≡ 64 = omega arith in
    λ inputs. samples_of (scan (pink_noise c.args.first) c.args.begin inputs) c.loop-frame.frame 64 c.loop-frame.state c.loop-frame.samples all c.loop-frame.invariant.0 (c.loop-frame.invariant.1 inputs)
