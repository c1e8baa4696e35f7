use Rattle.std.proofs.Common.{◌<◌, ◌++◌, arith, length, rules, take}
use Rattle.std.proofs.KnownBytes.{Appends-trans}
use Rattle.sn_ports.proofs.Fronts.{moves_front, none_left}
use Rattle.sn_ports.proofs.LinkLemmas.{keeps_events-trans}
use Rattle.sn_ports.proofs.sending.send_all.Goals as goal

pub loop-rest-preserved : goal.loop-rest-preserved
loop-rest-preserved g c =
    let i = c.loop-rest.invariant in
    let rest = c.loop-rest.rest.now in
    let n = c.in_ok-count.count in
    let some : 0 < length rest = search rules in
    record {
      done = i.done ++ take n rest;
      parts = moves_front _ i.done rest n i.parts;
      taken = Appends-trans _ _ _ _ _ i.taken c.in_ok-count.ensures.bytes;
      events = keeps_events-trans _ _ _ i.events c.send.ensures.events;
      later = omega (arith, i.later, c.send.ensures.cause.later);
      still = search rules;
      unasked = λ none. absurd (none_left _ i.done rest i.parts some none);
    }
