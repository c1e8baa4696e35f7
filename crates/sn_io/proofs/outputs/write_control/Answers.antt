use Rattle.std.proofs.Common.{refl, sym, ◌∙◌}
use Rattle.sn_io.specs.OverWords.{onto_control_channel}
use Rattle.sn_io.proofs.OneMore.{channels_none, control_more}
use Rattle.sn_io.proofs.outputs.write_control.Goals as goal

pub loop-channel-init : goal.loop-channel-init
loop-channel-init g c = record { words = sym (channels_none (onto_control_channel c.args.block c.args.inputs.now) c.args.inputs.now (g.P.Port.words c.args.port.now)); foot = refl; rest = refl }

pub loop-channel-preserved : goal.loop-channel-preserved
loop-channel-preserved g c = record {
  words = control_more c.args.block c.args.inputs.now (g.P.Port.words c.args.port.now) (g.P.Port.words c.loop-channel.port) (g.P.Port.words c.put_control.new.port) c.loop-channel.channel c.control_channel.result c.block.result.now c.loop-channel.invariant.words c.control_channel.ensures.number c.block.ensures c.put_control.ensures.words;
  foot = c.put_control.ensures.port.0 ∙ c.loop-channel.invariant.foot;
  rest = c.put_control.ensures.port.1 ∙ c.loop-channel.invariant.rest;
}
