-- The synths so far are settled, and what is left of them makes of the words what all of them make of the first.
use Rattle.std.proofs.Common.{◌≡◌, drop, map}
use Rattle.sn_settle.specs.Eventful.{synth_at, all_settled, AreWithin}
use Rattle.sn_settle.proofs.words.settle_synths.Given as goal

abbrev pub invariant-loop-synth : goal.invariant-loop-synth
invariant-loop-synth g l =
    let left = map synth_at (drop l.synth-index l.synths) in
    record {
      words : all_settled l.stage.rate left (g.P.Port.words l.port) ≡ all_settled l.stage.rate (map synth_at l.synths) (g.P.Port.words l.fn.port);
      within : AreWithin l.stage.rate l.stage.pool.region left;
      foot : g.P.Port.foot l.port ≡ g.P.Port.foot l.fn.port;
      rest : g.P.Port.rest l.port ≡ g.P.Port.rest l.fn.port;
    }
