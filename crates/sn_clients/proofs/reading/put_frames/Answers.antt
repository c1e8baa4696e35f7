use Rattle.std.proofs.Common.{◌≡◌, ◌∙◌, ℕ, ℤ, to_z, of_z, List, Ok, Err, Option, true, refl, sym, ap, subst, inr, arith, rules}
use Rattle.std.specs.Prelude.{FitsSigned}
use Rattle.std.specs.Int.{w32}
use Rattle.std.proofs.lemmas.Int.{to_z-of_z}
use Rattle.sn_osc.specs.Framed.{Next}
use Rattle.sn_osc.specs.Frames.{bad_size, first_frame}
use Rattle.sn_osc.specs.declared.frame.Unframed.{Unframed}
use Rattle.sn_osc.specs.declared.frame.Frame.{Frame}
use Rattle.sn_clients.specs.declared.clients.ClientEnd.TheVariants as client_ends
use Rattle.sn_clients.specs.declared.ends.Sender.{Sender}
use Rattle.sn_clients.specs.Answers.{has_found, sender_of}
use Rattle.sn_clients.specs.Reading.{HasRead, IsReading, ReadsOn}
use Rattle.sn_clients.proofs.ReadLemmas.{ended, ends_here, puts_frame}
use Rattle.sn_clients.proofs.reading.put_frames.Goals as goal

pub loop-framer-init : goal.loop-framer-init
loop-framer-init g c = record { inlet = c.requires.inlet; client = refl; read = λ first left h. h }

pub loop-framer-preserved : goal.loop-framer-preserved
loop-framer-preserved g c =
    let i = c.loop-framer.invariant in
    let frame = c.in-Ok-Some.frame in
    let given = subst (λ (o : Option Frame). Next c.loop-framer.framer c.next.new.self (Ok o)) c.in-Ok-Some.field-0-is c.in-Ok-Some.ensures in
    let e = c.in_ok-put_frame-in-Ok-Some.ensures in
    record {
      inlet = c.put_frame.ensures.inlet;
      client = ap (λ (s : Sender). s.client) e.put ∙ i.client;
      read = λ first left h. subst (λ (ps : List (List ℕ)). IsReading first left ps c.next.new.self) (sym (ap (λ (s : Sender). s.frames) e.put))
          (puts_frame first left (sender_of c.loop-framer.inlet).frames c.loop-framer.framer c.next.new.self frame given (i.read first left h));
    }

pub returns-then-count-eq-MOST_FRAMES-clause-read : goal.returns-then-count-eq-MOST_FRAMES-clause-read
returns-then-count-eq-MOST_FRAMES-clause-read g c = λ first left h.
    let inlet = c.loop-framer.inlet in
    ends_here first left ⊥ (has_found inlet ≡ true) (sender_of inlet).frames c.loop-framer.framer client_ends.Worn (c.loop-framer.invariant.read first left h) (inr (omega (arith, c.count.ensures, c.if-count-eq-MOST_FRAMES.true)))

pub returns-in_err-put_frame-in-Ok-Some-clause-read : goal.returns-in_err-put_frame-in-Ok-Some-clause-read
returns-in_err-put_frame-in-Ok-Some-clause-read g c = λ first left h.
    let new = c.put_frame.new.inlet in
    let found = has_found new ≡ true in
    let e = c.in_err-put_frame-in-Ok-Some.ensures in
    let packets = (sender_of c.loop-framer.inlet).frames in
    let end = c.in_err-put_frame-in-Ok-Some.field-0.0 in
    let so : HasRead first left ⊥ found packets client_ends.Stopped = ends_here first left ⊥ found packets c.loop-framer.framer client_ends.Stopped (c.loop-framer.invariant.read first left h) e.stopped.1 in
    subst (λ (ps : List (List ℕ)). ReadsOn first left ⊥ found ps c.next.new.self c.from_residual.result) (ap (λ (s : Sender). s.frames) (sym e.same))
    (ended first left ⊥ found packets c.next.new.self c.from_residual.result end c.from_residual.ensures.1 (subst (HasRead first left ⊥ found packets) (sym e.stopped.0) so))

pub returns-in-Err-Bad-clause-read : goal.returns-in-Err-Bad-clause-read
returns-in-Err-Bad-clause-read g c = λ first left h.
    let inlet = c.loop-framer.inlet in
    let size : ℤ = c.in-Err-Bad.size in
    let fits : FitsSigned w32 size = search rules in
    let given = subst (λ (u : Unframed). Next c.loop-framer.framer c.next.new.self (Err u)) c.in-Err-Bad.field-0-is c.in-Err-Bad.ensures in
    let bad : first_frame c.loop-framer.framer.kept ≡ bad_size (to_z w32 (of_z w32 size)) = given.0 ∙ ap bad_size (sym (to_z-of_z w32 size fits)) in
    ends_here first left ⊥ (has_found inlet ≡ true) (sender_of inlet).frames c.loop-framer.framer (client_ends.BadFrame (to_z w32 (of_z w32 size))) (c.loop-framer.invariant.read first left h) bad

pub returns-in-Err-NoMemory-clause-read : goal.returns-in-Err-NoMemory-clause-read
returns-in-Err-NoMemory-clause-read g c = λ first left h.
    let inlet = c.loop-framer.inlet in
    ends_here first left ⊥ (has_found inlet ≡ true) (sender_of inlet).frames c.loop-framer.framer client_ends.NoMemory (c.loop-framer.invariant.read first left h) tt
