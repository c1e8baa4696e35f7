use Rattle.std.proofs.Common.{refl, sym, ◌∙◌}
use Rattle.sn_io.specs.OverWords.{onto_audio_channel}
use Rattle.sn_io.proofs.OneMore.{channels_none, audio_more}
use Rattle.sn_io.proofs.outputs.write_audio.Goals as goal

pub loop-channel-init : goal.loop-channel-init
loop-channel-init g c = record { words = sym (channels_none (onto_audio_channel c.args.adds c.args.block c.args.inputs.now) c.args.inputs.now (g.P.Port.words c.args.port.now)); foot = refl; rest = refl }

pub loop-channel-preserved : goal.loop-channel-preserved
loop-channel-preserved g c = record {
  words = audio_more c.args.adds c.args.block c.args.inputs.now (g.P.Port.words c.args.port.now) (g.P.Port.words c.loop-channel.port) (g.P.Port.words c.put_audio.new.port) c.loop-channel.channel c.audio_channel.result c.block.result.now c.loop-channel.invariant.words c.audio_channel.ensures.number c.block.ensures c.put_audio.ensures.words;
  foot = c.put_audio.ensures.port.0 ∙ c.loop-channel.invariant.foot;
  rest = c.put_audio.ensures.port.1 ∙ c.loop-channel.invariant.rest;
}
