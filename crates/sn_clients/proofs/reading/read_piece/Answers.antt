use Rattle.std.proofs.Common.{◌≡◌, inl, refl}
use Rattle.sn_clients.specs.declared.clients.ClientEnd.TheVariants as client_ends
use Rattle.sn_ports.specs.Causes.{Rose}
use Rattle.sn_clients.proofs.FaultLemmas.{stays_at}
use Rattle.sn_clients.proofs.ReadLemmas.{ended, ends_here, kept_on, loses}
use Rattle.sn_clients.proofs.reading.read_piece.Goals as goal

pub returns-in_err-feed-in-Ok-clause-read : goal.returns-in_err-feed-in-Ok-clause-read
returns-in_err-feed-in-Ok-clause-read g c = λ first packets h.
    let left = g.S.Source.left c.args.source.now in
    let next = g.S.Source.left c.read.new.self in
    let faulted = Rose (g.S.Source.faults c.args.source.now) (g.S.Source.faults c.read.new.self) in
    ended first next faulted ⊥ packets c.feed.new.self c.from_residual.result client_ends.NoMemory c.from_residual.ensures.1 (loses first left next faulted ⊥ packets c.args.framer.now _ c.in-Ok.ensures.bytes.0 h)

pub returns-in-Err-clause-read : goal.returns-in-Err-clause-read
returns-in-Err-clause-read g c = λ first packets h.
    let left = g.S.Source.left c.args.source.now in
    let next = g.S.Source.left c.read.new.self in
    let faulted = Rose (g.S.Source.faults c.args.source.now) (g.S.Source.faults c.read.new.self) in
    let kept = kept_on first left next packets c.args.framer.now c.in-Err.ensures.bytes h in
    ends_here first next faulted ⊥ packets c.args.framer.now client_ends.ReadFault kept (c.in-Err.ensures.cause.failed, c.requires.cut)

pub returns-in_err-feed-in-Ok-clause-only : goal.returns-in_err-feed-in-Ok-clause-only
returns-in_err-feed-in-Ok-clause-only g c = stays_at c.from_residual.result (g.S.Source.faults c.read.new.self ≡ g.S.Source.faults c.args.source.now) c.in-Ok.ensures.unfailed

pub returns-in-Err-clause-only : goal.returns-in-Err-clause-only
returns-in-Err-clause-only g c = inl refl
