use Rattle.std.proofs.Common.{ap, ◌∙◌, [], map}
use Rattle.sn_ports.specs.Octets.{bytes_of}
use Rattle.sn_reply.specs.Frames.{with_frames}
use Rattle.sn_world.specs.Settling.{settled}
use Rattle.sn_world.specs.World.{turn_of}
use Rattle.sn_engine.proofs.SettleLemmas.{each_room, all_sent}
use Rattle.sn_engine.proofs.settling.settle_before.Goals as goal

pub settle-requires-clause-bytes : goal.settle-requires-clause-bytes
settle-requires-clause-bytes g c = each_room _ c.args.replies.now c.requires.room.replies

pub returns-clause-sent : goal.returns-clause-sent
returns-clause-sent g c =
    all_sent _ c.args.replies.now c.settle.new.outs c.settle.ensures.sent
    ∙ ap (λ b. with_frames 0 (settled b (turn_of c.args.stage.now (g.P.Port.words c.args.port.now) [])).replies (map bytes_of c.args.replies.now)) c.saturating_sub.ensures
