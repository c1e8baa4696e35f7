use Rattle.std.proofs.Common.{◌≡◌, ℕ, List, true, sym, ap, subst}
use Rattle.sn_ports.specs.Causes.{Rose}
use Rattle.sn_clients.specs.declared.ends.Sender.{Sender}
use Rattle.sn_clients.specs.Answers.{has_found, sender_of}
use Rattle.sn_clients.specs.Reading.{IsReading, ReadsOn}
use Rattle.sn_clients.proofs.FaultLemmas.{stays_at, stays_so}
use Rattle.sn_clients.proofs.ReadLemmas.{ended, ends_weaker, on_weaker}
use Rattle.sn_clients.proofs.reading.read_on.Goals as goal

pub returns-in_err-read_piece-clause-read : goal.returns-in_err-read_piece-clause-read
returns-in_err-read_piece-clause-read g c = λ first h.
    let next = g.S.Source.left c.read_piece.new.source in
    let faulted = Rose (g.S.Source.faults c.args.source.now) (g.S.Source.faults c.read_piece.new.source) in
    let found = has_found c.stopped.new.inlet ≡ true in
    let packets = (sender_of c.args.inlet.now).frames in
    let end = c.in_err-read_piece.field-0.0 in
    subst (λ (ps : List (List ℕ)). ReadsOn first next faulted found ps c.read_piece.new.framer c.from_residual.result) (ap (λ (s : Sender). s.frames) (sym c.stopped.ensures.same))
    (ended first next faulted found packets c.read_piece.new.framer c.from_residual.result end c.from_residual.ensures.1
    (ends_weaker first next faulted faulted ⊥ found packets end (λ f. f) (λ b. absurd b) (c.in_err-read_piece.ensures.read first packets h)))

pub returns-clause-read : goal.returns-clause-read
returns-clause-read g c = λ first h.
    let next = g.S.Source.left c.read_piece.new.source in
    let faulted = Rose (g.S.Source.faults c.args.source.now) (g.S.Source.faults c.read_piece.new.source) in
    let found = has_found c.put_frames.new.inlet ≡ true in
    let packets = (sender_of c.args.inlet.now).frames in
    let reading = subst (λ (ps : List (List ℕ)). IsReading first next ps c.read_piece.new.framer) (ap (λ (s : Sender). s.frames) (sym c.stopped.ensures.same)) (c.in_ok-read_piece.ensures.read first packets h) in
    on_weaker first next ⊥ faulted found found (sender_of c.put_frames.new.inlet).frames c.put_frames.new.framer c.put_frames.result (λ b. absurd b) (λ f. f) (c.put_frames.ensures.read first next reading)

pub returns-in_err-read_piece-clause-only : goal.returns-in_err-read_piece-clause-only
returns-in_err-read_piece-clause-only g c =
    let same = g.S.Source.faults c.read_piece.new.source ≡ g.S.Source.faults c.args.source.now in
    stays_so c.from_residual.result c.in_err-read_piece.field-0.0 same c.from_residual.ensures.1 c.in_err-read_piece.ensures.only

pub returns-clause-only : goal.returns-clause-only
returns-clause-only g c = stays_at c.put_frames.result (g.S.Source.faults c.read_piece.new.source ≡ g.S.Source.faults c.args.source.now) c.in_ok-read_piece.ensures.unfailed
