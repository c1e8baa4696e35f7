use Rattle.std.proofs.Common.{◌≡◌, ◌∙◌, ℕ, List, true, refl, sym, ap, subst, arith}
use Rattle.sn_ports.specs.Causes.{Rose}
use Rattle.sn_osc.specs.Frames.{first_frame}
use Rattle.sn_osc.specs.Framing.{Framing}
use Rattle.sn_clients.specs.Answers.{has_found, sender_of}
use Rattle.sn_clients.specs.Reading.{HasRead, IsReading}
use Rattle.sn_clients.proofs.FaultLemmas.{stays_from}
use Rattle.sn_clients.proofs.ReadLemmas.{starts}
use Rattle.sn_clients.proofs.reading.read_through.Goals as goal

pub loop-init : goal.loop-init
loop-init g c =
    let left = g.S.Source.left c.args.source.now in
    record {
      inlet = c.requires.inlet;
      client = refl;
      read = subst (λ (p : List (List ℕ) × Framing). IsReading left left p.0 p.1) (λ k. (sym c.requires.nothing k, sym c.requires.unfed k)) (starts left);
      whole = ap (λ (f : Framing). first_frame f.kept) c.requires.unfed;
      piece = c.requires.piece;
      faults = refl;
    }

pub loop-preserved : goal.loop-preserved
loop-preserved g c =
    let i = c.loop.invariant in
    let e = c.in-Ok.ensures in
    record {
      inlet = e.inlet;
      client = e.client ∙ i.client;
      read = e.read (g.S.Source.left c.args.source.now) i.read;
      whole = e.whole;
      piece = (omega (arith, i.piece.0, c.read_on.auto.piece), omega (arith, i.piece.1, c.read_on.auto.piece));
      faults = e.unfailed ∙ i.faults;
    }

pub returns-in-Err-clause-client : goal.returns-in-Err-clause-client
returns-in-Err-clause-client g c = c.read_on.ensures.client ∙ c.loop.invariant.client

pub returns-in-Err-clause-read : goal.returns-in-Err-clause-read
returns-in-Err-clause-read g c =
    let first = g.S.Source.left c.args.source.now in
    let new = c.read_on.new in
    subst (λ (n : ℕ). HasRead first (g.S.Source.left new.source) (Rose n (g.S.Source.faults new.source)) (has_found new.inlet ≡ true) (sender_of new.inlet).frames c.in-Err.end) c.loop.invariant.faults
    (c.in-Err.ensures.read first c.loop.invariant.read)

pub returns-in-Err-clause-later : goal.returns-in-Err-clause-later
returns-in-Err-clause-later g c = omega (arith, c.read_on.ensures.later, c.loop.invariant.faults)

pub returns-in-Err-clause-unfailed : goal.returns-in-Err-clause-unfailed
returns-in-Err-clause-unfailed g c =
    stays_from c.in-Err.end (g.S.Source.faults c.args.source.now) (g.S.Source.faults c.loop.source) (g.S.Source.faults c.read_on.new.source) c.loop.invariant.faults c.in-Err.ensures.only
