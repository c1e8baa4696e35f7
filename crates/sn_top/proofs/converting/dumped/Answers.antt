use Rattle.std.proofs.Common.{◌≡◌, List, length, map, sym, subst, arith, rules}
use Rattle.std.proofs.lemmas.Int.{ints}
use Rattle.std.proofs.lemmas.List.{length-map}
use Rattle.sn_osc.proofs.Octets.{octets_from}
use Rattle.sn_osc.specs.Shape.{shape}
use Rattle.sn_osc.specs.declared.packet.Packet.{Packet}
use Rattle.sn_score.specs.Score.{AllFit}
use Rattle.sn_score.proofs.Streaming.{frames_fit, few_frames}
use Rattle.sn_top.proofs.converting.dumped.Goals as goal

pub write_score-requires : goal.write_score-requires
write_score-requires g c =
    let (bytes, small, frames) = c.in-Ok.ensures.framed in
    subst (λ (xs : List Packet). AllFit (map shape xs)) (sym c.deref.ensures.value) (frames_fit (map shape c.in-Ok.packets.items) bytes (octets_from bytes small) frames)

pub overflow_cast-result : goal.overflow_cast-result
overflow_cast-result g c =
    let p = c.in-Ok.ensures.packets in
    let items = c.in-Ok.packets.items in
    let len : length items ≡ c.len.result = search rules in
    omega (arith, ints, len, few_frames (map shape items) p.bytes p.frames, length-map items shape, p.size)
