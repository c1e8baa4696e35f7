use Rattle.std.proofs.Common.{◌≡◌, rules, ◌+◌, ◌∙◌, ◌<◌, ℕ, length, ap, sym, subst, List}
use Rattle.std.specs.Prelude.{Contains}
use Rattle.sn_machine.specs.States.{ENDED}
use Rattle.sn_round.specs.declared.jobs.Job.{Job}
use Rattle.sn_round.specs.Jobs.{predecessors}
use Rattle.sn_table.specs.declared.seats.WorkerSeat.{WorkerSeat}
use Rattle.sn_table.specs.Answers.{view, IsSeatOf}
use Rattle.sn_table.specs.Sweeps.{SweepsWell, IsDone}
use Rattle.sn_table.proofs.Paying.{looked_well, swept_busy, swept_ended, swept_got}
use Rattle.sn_table.proofs.sweeps.sweep.Goals.{in-Got, in-Busy}
use Rattle.sn_table.proofs.sweeps.sweep.Goals as goal

pub loop-job-preserved-then-look : goal.loop-job-preserved-then-look
loop-job-preserved-then-look g c =
    let i = c.loop-job.invariant in
    let v = view c.loop-job.seat in
    let is_ended : c.look.result ≡ ENDED = search rules in
    let h = swept_ended v (view c.look.new.seat) c.loop-job.job _ i.well i.done c.look.ensures.step (c.look.ensures.sweep i.well.sweeps is_ended) in
    record { seat = c.look.ensures.seat; well = h.0; jobs = h.1 ∙ i.jobs; script = h.2 ∙ i.script; done = h.3 }

pub loop-job-preserved : goal.loop-job-preserved
loop-job-preserved g c =
    let i = c.loop-job.invariant in
    let v = view c.look.new.seat in
    let j = c.loop-job.job in
    let k = looked_well (view c.loop-job.seat) v j _ i.well i.done c.look.ensures.step in
    elim c.match-claim.branch [
      | in-Got w ↦
          (let h = swept_got v (view c.claim.new.seat) (view w.run_one.new.seat) j k.0 k.3 w.in-Got.ensures.step w.run_one.ensures.ran in
          let s = w.seat-is in
          record {
            seat = subst (IsSeatOf c.args.shared.now) (sym s) w.run_one.ensures.seat;
            well = subst (λ (x : WorkerSeat). SweepsWell (view x)) (sym s) h.0;
            jobs = ap (λ (x : WorkerSeat). (view x).worker.jobs) s ∙ (h.1 ∙ (k.1 ∙ i.jobs));
            script = ap (λ (x : WorkerSeat). (view x).worker.script) s ∙ (h.2 ∙ (k.2 ∙ i.script));
            done = subst (λ (x : WorkerSeat). IsDone (view x) (j + 1)) (sym s) h.3;
          })
      | in-Busy w ↦
          (let l : j < length c.args.plan.now = search rules in
          let order = λ (p : ℕ) (b : Contains (predecessors v.worker.jobs j) p). c.is_well_formed.ensures.lower p j l (subst (λ (js : List Job). Contains (predecessors js j) p) (k.1 ∙ (i.jobs ∙ sym c.requires.plan)) b) in
          let e = w.in-Busy.ensures in
          let h = swept_busy v (view c.claim.new.seat) j _ k.0 k.3 e.step.1 (e.sweep k.0.sweeps).0 order in
          let s = w.seat-is in
          record {
            seat = subst (IsSeatOf c.args.shared.now) (sym s) c.claim.ensures.seat;
            well = subst (λ (x : WorkerSeat). SweepsWell (view x)) (sym s) h.0;
            jobs = ap (λ (x : WorkerSeat). (view x).worker.jobs) s ∙ (h.1 ∙ (k.1 ∙ i.jobs));
            script = ap (λ (x : WorkerSeat). (view x).worker.script) s ∙ (h.2 ∙ (k.2 ∙ i.script));
            done = subst (λ (x : WorkerSeat). IsDone (view x) (j + 1)) (sym s) h.3;
          })
    ]
