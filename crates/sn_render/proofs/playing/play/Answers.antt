use Rattle.std.proofs.Common.{inr, map, refl}
use Rattle.sn_osc.specs.Shape.{shape}
use Rattle.sn_render.proofs.OutcomeLemmas.{end_complete}
use Rattle.sn_render.proofs.playing.play.Goals as goal

pub returns-clause-complete : goal.returns-clause-complete
returns-clause-complete g c = λ outcome has sound replies.
    end_complete c.args.settings.now (map shape c.args.packets.items) c.played.result outcome c.played.ensures.end has (λ e. sound (c.played.ensures.sound e)) (λ e. replies (c.played.ensures.reply e))

pub returns-in_default-clause-complete : goal.returns-in_default-clause-complete
returns-in_default-clause-complete g c = λ outcome has sound replies. inr refl
