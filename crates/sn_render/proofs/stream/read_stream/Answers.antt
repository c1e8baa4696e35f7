use Rattle.std.proofs.Common.{rules, arith, ◌≡◌, ◌≤◌, ◌<◌, ◌+◌, List, length, ◌++◌, ap}
use Rattle.std.proofs.KnownBytes.{Consumes-trans}
use Rattle.std.proofs.lemmas.List.{length-append}
use Rattle.sn_render.proofs.stream.read_stream.Goals as goal

pub returns-in_default-read_piece-clause-some : goal.returns-in_default-read_piece-clause-some
returns-in_default-read_piece-clause-some g c = λ _.
    let read = c.loop-bytes.bytes.bytes in
    let given = c.in_default-read_piece.ensures.some.0 in
    let few : length read + length given ≤ 16777216 = search rules in
    (read ++ given, Consumes-trans _ _ _ _ _ c.loop-bytes.invariant.read c.in_default-read_piece.ensures.some.1, omega (arith, few, length-append read given))

pub returns-then-not-is_full-clause-size : goal.returns-then-not-is_full-clause-size
returns-then-not-is_full-clause-size g c =
    let read = c.loop-bytes.bytes.bytes in
    let p = c.in-Ok-read_piece.ensures.read in
    let few : length read + length p.given ≤ 16777216 = search rules in
    let same : length c.into_vec.result.items ≡ length (read ++ p.given) = search rules in
    omega (arith, few, same, length-append read p.given)
