use Rattle.std.proofs.Common.{◌++◌, ℕ, List, map, flat_map, ap, ◌∙◌}
use Rattle.sn_osc.specs.Shape.{shape}
use Rattle.sn_score.specs.Lines.{packet_text}
use Rattle.sn_score.specs.Score.{score_text}
use Rattle.sn_score.proofs.lines.write_score.Goals as goal

pub returns : goal.returns
unfolding score_text
returns c = record {
  fit = c.requires;
  written = c.in_ok-put_packets.ensures ∙ ap (λ (t : List ℕ). t ++ flat_map packet_text (map shape c.args.packets.now)) c.new-out.ensures;
}
