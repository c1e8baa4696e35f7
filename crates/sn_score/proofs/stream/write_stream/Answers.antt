use Rattle.std.proofs.Common.{◌++◌, ℕ, List, map, ap, sym, subst, ◌∙◌}
use Rattle.sn_osc.specs.Frames.{Frames}
use Rattle.sn_osc.specs.Shape.{shape}
use Rattle.sn_score.proofs.Streaming.{framed, stream_bytes}
use Rattle.sn_score.proofs.stream.write_stream.Goals as goal

pub returns : goal.returns
returns c =
    let packets = map shape c.args.packets.now in
    subst (Frames packets) (sym (c.in_ok-put_frames.ensures ∙ ap (λ (t : List ℕ). t ++ stream_bytes packets) c.new-out.ensures)) (framed packets c.requires)
