use Rattle.std.proofs.Common.{◌≡◌, ◌<◌, ℕ, List, take, length, SFits, w32, to_z, of_z, set, rules, refl, arith, sym, ap, ◌∙◌, ℤ, ◌+◌}
use Rattle.std.proofs.lemmas.Int.{to_z-of_z}
use Rattle.sn_mem.specs.Blocks.{scan}
use Rattle.sn_mem.proofs.Steps.{scan_none, scan_step, length-set_at, state_of, samples_of}
use Rattle.sn_filt.specs.StateVariable.{svf, svf_at}
use Rattle.sn_filt.specs.declared.state_variable.Bands.{Bands}
use Rattle.sn_filt.specs.declared.state_variable.Integrators.{Integrators}
use Rattle.sn_filt.proofs.state_variable.run_frames.Invariants.{IsHeard}
use Rattle.sn_filt.proofs.state_variable.run_frames.Goals as goal

-- an output, one frame later
heard_more : (output : Bands → ℤ) (rate : ℕ) (begin state : Integrators) (r : Integrators × Bands) (inputs : List (List ℤ)) (frame : ℕ) (samples : List ℤ) → frame < 64 → SFits w32 (output r.1)
    → r ≡ svf rate state inputs frame
    → IsHeard output rate begin inputs frame state samples
    → IsHeard output rate begin inputs (frame + 1) r.0 (set samples frame (to_z w32 (of_z w32 (output r.1))))
heard_more output rate begin state r inputs frame samples lt fits e h =
    let long : frame < length samples = omega (arith, lt, h.0) in (
      length-set_at samples frame (to_z w32 (of_z w32 (output r.1))) 64 h.0,
      scan_step (svf_at output rate) begin state r.0 (to_z w32 (of_z w32 (output r.1))) inputs frame samples long h.1
          (ap (λ (y : ℤ). (r.0, y)) (to_z-of_z w32 (output r.1) fits) ∙ ap (λ (q : Integrators × Bands). (q.0, output q.1)) e),
    )

pub loop-frame-init : goal.loop-frame-init
loop-frame-init c = (
  (search rules, sym (scan_none (svf_at (λ y. y.low) c.args.tuning.rate) c.args.begin c.args.inputs.now)),
  (search rules, sym (scan_none (svf_at (λ y. y.band) c.args.tuning.rate) c.args.begin c.args.inputs.now)),
  (search rules, sym (scan_none (svf_at (λ y. y.high) c.args.tuning.rate) c.args.begin c.args.inputs.now)),
  refl,
)

pub loop-frame-preserved : goal.loop-frame-preserved
loop-frame-preserved c =
    let i = c.loop-frame.invariant in
    let r : Integrators × Bands = c.next.result in
    let lt : c.loop-frame.frame < 64 = omega arith in
    let low : SFits w32 r.1.low = search rules in
    let band : SFits w32 r.1.band = search rules in
    let high : SFits w32 r.1.high = search rules in
    let rate : c.loop-frame.tuning.rate ≡ c.args.tuning.rate = i.3 in
    let step : r ≡ svf c.args.tuning.rate c.loop-frame.state c.args.inputs.now c.loop-frame.frame =
    c.next.ensures.value ∙ ap (λ (n : ℕ). svf n c.loop-frame.state c.args.inputs.now c.loop-frame.frame) rate in (
      heard_more (λ y. y.low) c.args.tuning.rate c.args.begin c.loop-frame.state r c.args.inputs.now c.loop-frame.frame c.loop-frame.low lt low step i.0,
      heard_more (λ y. y.band) c.args.tuning.rate c.args.begin c.loop-frame.state r c.args.inputs.now c.loop-frame.frame c.loop-frame.band lt band step i.1,
      heard_more (λ y. y.high) c.args.tuning.rate c.args.begin c.loop-frame.state r c.args.inputs.now c.loop-frame.frame c.loop-frame.high lt high step i.2,
      c.next.ensures.rate ∙ rate,
    )
