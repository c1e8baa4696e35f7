use Rattle.std.proofs.Common.{◌≡◌, length, map, ap, arith, rules}
use Rattle.std.proofs.lemmas.Int.{ints}
use Rattle.std.proofs.lemmas.List.{length-map}
use Rattle.sn_osc.specs.Shape.{shape}
use Rattle.sn_score.proofs.Streaming.{few_written}
use Rattle.sn_top.proofs.converting.scored.Goals as goal

pub overflow_cast-result : goal.overflow_cast-result
overflow_cast-result g c =
    let items = c.in-Ok-read_score.packets.items in
    let len : length items ≡ c.len.result = search rules in
    let few = few_written c.deref.result.now (map shape items) c.in-Ok-read_score.ensures.found in
    omega (arith, ints, len, few, length-map items shape, ap length c.deref.ensures.value, c.in-Ok.ensures.size)
