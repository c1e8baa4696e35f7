use Rattle.std.proofs.Common.{rules, ◌≡◌, ◌≤◌, ◌<◌, ◌||◌, true, false, length, arith}
use Rattle.sn_shelf.specs.Waves.{is_named}
use Rattle.sn_shelf.proofs.WaveLemmas.{none_named, passes, stops}
use Rattle.sn_shelf.proofs.waves.first_named.Goals as goal

pub returns-then-has_name-clause-found : goal.returns-then-has_name-clause-found
returns-then-has_name-clause-found c =
    let rest = c.loop-rest.rest.now in
    let long : 8 ≤ length rest = search rules in
    let named : (is_named c.args.one.now rest || is_named c.args.other.now rest) ≡ true = search rules in
    stops c.args.one.now c.args.other.now c.args.chunks.now rest (length c.args.chunks.now) long named c.loop-rest.invariant.first

pub loop-rest-preserved : goal.loop-rest-preserved
loop-rest-preserved c =
    let rest = c.loop-rest.rest.now in
    let long : 8 ≤ length rest = search rules in
    let neither : (is_named c.args.one.now rest || is_named c.args.other.now rest) ≡ false = search rules in
    let shorter : length c.behind-rest.result.now ≤ length c.args.chunks.now = omega (arith, c.behind-rest.ensures.shorter, c.loop-rest.invariant.shorter) in
    record {
      first = passes c.args.one.now c.args.other.now c.args.chunks.now rest c.behind-rest.result.now (length c.args.chunks.now) long neither c.behind-rest.ensures.value c.behind-rest.ensures.shorter c.loop-rest.invariant.first;
      shorter = shorter;
    }

pub returns-clause-none : goal.returns-clause-none
returns-clause-none c =
    let short : length c.loop-rest.rest.now < 8 = search rules in
    none_named c.args.one.now c.args.other.now c.args.chunks.now c.loop-rest.rest.now (length c.args.chunks.now) short c.loop-rest.invariant.first
