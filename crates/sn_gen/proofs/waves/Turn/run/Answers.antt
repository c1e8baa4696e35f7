use Rattle.std.proofs.Common.{◌≡◌, ◌<◌, ◌+◌, ◌%◌, take, length, SFits, w32, to_z, of_z, rules, arith, sym, ap, ◌∙◌, ℕ, ℤ, List, []}
use Rattle.std.proofs.lemmas.Int.{to_z-of_z}
use Rattle.sn_mem.specs.Blocks.{scan}
use Rattle.sn_mem.proofs.Steps.{scan_none, scan_step, length-set_at, state_of, samples_of}
use Rattle.sn_gen.specs.Phases.{moved}
use Rattle.sn_gen.proofs.Turning.{turned, turned_wave}
use Rattle.sn_gen.proofs.waves.Turn.run.Goals as goal

pub loop-frame-init : goal.loop-frame-init
loop-frame-init g c = (search rules, sym (scan_none (turned (g.W.Wave.shape c.args.shape.now) c.args.self) c.args.begin []))

pub loop-frame-preserved : goal.loop-frame-preserved
loop-frame-preserved g c =
    let i = c.loop-frame.invariant in
    let fits : SFits w32 c.sample.result = search rules in
    let lt : c.loop-frame.frame < length c.loop-frame.samples = omega arith in
    let offset : SFits w32 c.args.self.offset = search rules in
    let y : ℤ = to_z w32 (of_z w32 c.sample.result) in (
      length-set_at c.loop-frame.samples c.loop-frame.frame y 64 i.0,
      scan_step (turned (g.W.Wave.shape c.args.shape.now) c.args.self) c.args.begin c.loop-frame.phase ((c.loop-frame.phase + c.args.self.step) % 4294967296) y [] c.loop-frame.frame c.loop-frame.samples lt i.1
          (ap (λ (y : ℤ). let r : ℕ × ℤ = ((c.loop-frame.phase + c.args.self.step) % 4294967296, y) in r) (to_z-of_z w32 c.sample.result fits ∙ (c.sample.ensures ∙ (ap (g.W.Wave.shape c.args.shape.now) c.moved.ensures
          ∙ ap (λ x. g.W.Wave.shape c.args.shape.now (moved c.loop-frame.phase x)) (to_z-of_z w32 c.args.self.offset offset))))),
    )

pub returns-clause-phase : goal.returns-clause-phase
returns-clause-phase g c =
    let all : c.loop-frame.frame ≡ 64 = omega arith in
    λ rate inputs steady.
    state_of (scan (turned (g.W.Wave.shape c.args.shape.now) c.args.self) c.args.begin []) c.loop-frame.frame 64 c.loop-frame.phase (take c.loop-frame.frame c.loop-frame.samples) all c.loop-frame.invariant.1
    ∙ ap (λ (r : ℕ × List ℤ). r.0) (turned_wave (g.W.Wave.shape c.args.shape.now) c.args.self rate c.args.begin inputs steady)

pub returns-clause-samples : goal.returns-clause-samples
returns-clause-samples g c =
    let all : c.loop-frame.frame ≡ 64 = omega arith in
    λ rate inputs steady.
    samples_of (scan (turned (g.W.Wave.shape c.args.shape.now) c.args.self) c.args.begin []) c.loop-frame.frame 64 c.loop-frame.phase c.loop-frame.samples all c.loop-frame.invariant.0 c.loop-frame.invariant.1
    ∙ ap (λ (r : ℕ × List ℤ). r.1) (turned_wave (g.W.Wave.shape c.args.shape.now) c.args.self rate c.args.begin inputs steady)
