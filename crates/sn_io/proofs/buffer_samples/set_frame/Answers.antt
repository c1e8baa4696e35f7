use Rattle.std.proofs.Common.{◌*◌, SFits, w32, rules, refl, sym, ap, ◌∙◌}
use Rattle.std.proofs.lemmas.Int.{to_z-of_z}
use Rattle.sn_mem.specs.Blocks.{word_for}
use Rattle.sn_io.specs.BuffersOverWords.{set_word}
use Rattle.sn_io.proofs.Walking.{frame_none}
use Rattle.sn_io.proofs.BufferWords.{frame_step}
use Rattle.sn_io.proofs.buffer_samples.set_frame.Goals as goal

pub loop-channel-init : goal.loop-channel-init
loop-channel-init g c = record { words = sym (frame_none (set_word c.args.place.extent.at) c.args.inputs.now c.args.first c.args.at (c.args.frame * c.args.place.channels) (g.P.Port.words c.args.port.now)); foot = refl; rest = refl }

pub loop-channel-preserved : goal.loop-channel-preserved
loop-channel-preserved g c =
    let fits : SFits w32 c.at-x.result = search rules in record {
      words = frame_step c.args.place.extent.at c.args.inputs.now c.args.first c.args.at (c.args.frame * c.args.place.channels) c.loop-channel.channel (g.P.Port.words c.args.port.now) (g.P.Port.words c.loop-channel.port) (g.P.Port.words c.store.new.self) c.word_at.result c.word_of.result c.at-x.result
          c.loop-channel.invariant.words c.word_at.ensures.value (c.word_of.ensures.value ∙ ap word_for (to_z-of_z w32 c.at-x.result fits)) c.at-x.ensures fits c.store.ensures.changed;
      foot = c.store.ensures.foot ∙ c.loop-channel.invariant.foot;
      rest = c.store.ensures.rest ∙ c.loop-channel.invariant.rest;
    }
