use Rattle.std.proofs.Common.{◌≡◌, ◌<◌, take, length, SFits, w32, to_z, of_z, rules, refl, arith, sym, ap, ◌∙◌, ℤ}
use Rattle.std.proofs.lemmas.Int.{to_z-of_z}
use Rattle.sn_mem.specs.Blocks.{scan}
use Rattle.sn_mem.proofs.Steps.{scan_none, scan_step, length-set_at, same_step, state_of, samples_of}
use Rattle.sn_mem.proofs.recurrence.run_frames.Goals as goal

pub loop-frame-init : goal.loop-frame-init
loop-frame-init g c = (search rules, sym (scan_none (g.U.Recurrence.step c.args.unit.now) c.args.begin c.args.inputs.now), refl, refl)

pub loop-frame-preserved : goal.loop-frame-preserved
loop-frame-preserved g c =
    let i = c.loop-frame.invariant in
    let fits : SFits w32 c.next-after.result.1 = search rules in
    let lt : c.loop-frame.frame < length c.loop-frame.samples = omega arith in (
      length-set_at c.loop-frame.samples c.loop-frame.frame (to_z w32 (of_z w32 c.next-after.result.1)) 64 i.0,
      scan_step (g.U.Recurrence.step c.args.unit.now) c.args.begin c.loop-frame.state c.next-after.result.0 (to_z w32 (of_z w32 c.next-after.result.1)) c.args.inputs.now c.loop-frame.frame c.loop-frame.samples lt i.1
          (ap (λ (y : ℤ). (c.next-after.result.0, y)) (to_z-of_z w32 c.next-after.result.1 fits)
          ∙ (c.next-after.ensures.value ∙ same_step (g.U.Recurrence.step c.loop-frame.running) (g.U.Recurrence.step c.args.unit.now) c.loop-frame.state c.args.inputs.now c.loop-frame.frame i.2)),
      c.next-after.ensures.step ∙ i.2,
      c.next-after.ensures.arity ∙ i.3,
    )

pub returns-clause-state : goal.returns-clause-state
returns-clause-state g c =
    let all : c.loop-frame.frame ≡ 64 = omega arith in
    state_of (scan (g.U.Recurrence.step c.args.unit.now) c.args.begin c.args.inputs.now) c.loop-frame.frame 64 c.loop-frame.state (take c.loop-frame.frame c.loop-frame.samples) all c.loop-frame.invariant.1

pub returns-clause-samples : goal.returns-clause-samples
returns-clause-samples g c =
    let all : c.loop-frame.frame ≡ 64 = omega arith in
    samples_of (scan (g.U.Recurrence.step c.args.unit.now) c.args.begin c.args.inputs.now) c.loop-frame.frame 64 c.loop-frame.state c.loop-frame.samples all c.loop-frame.invariant.0 c.loop-frame.invariant.1
