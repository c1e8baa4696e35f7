-- What the synths so far have left, and what is left to look at.
use Rattle.std.proofs.Common.{◌≡◌, drop, map}
use Rattle.sn_settle.specs.Eventful.{synth_at, all_triggers, all_endings, AreWithin}
use Rattle.sn_settle.proofs.Sending.{IsUnderway}
use Rattle.sn_settle.proofs.looking.look_at_synths.Given as goal

abbrev pub invariant-loop-synth : goal.invariant-loop-synth
invariant-loop-synth g l =
    let ws = g.P.Port.words l.fn.port in
    let all = map synth_at l.synths in
    let left = map synth_at (drop l.synth-index l.synths) in
    record {
      underway : IsUnderway l.stage.notify (all_triggers l.stage.rate l.block all ws) (all_triggers l.stage.rate l.block left ws) (all_endings l.stage.rate all ws) (all_endings l.stage.rate left ws) l.fn.outs l.outs l.fn.endings l.endings;
      within : AreWithin l.stage.rate l.stage.pool.region left;
      words : g.P.Port.words l.port ≡ ws;
      foot : g.P.Port.foot l.port ≡ g.P.Port.foot l.fn.port;
      rest : g.P.Port.rest l.port ≡ g.P.Port.rest l.fn.port;
    }
