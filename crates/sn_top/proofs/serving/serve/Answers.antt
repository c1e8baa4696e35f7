use Rattle.std.proofs.Common.{◌≡◌, inr, refl}
use Rattle.sn_pcm.specs.declared.settings.Settings.{Settings}
use Rattle.sn_server.specs.Served.{AtClose, GivesEnd}
use Rattle.sn_server.specs.declared.ended.Ended.{Ended}
use Rattle.sn_server.specs.declared.ended.Ended.TheVariants.{LinkFault, SoundFault}
use Rattle.sn_top.proofs.ServeLemmas.{choices, of_end, chosen_end, by_chosen, either_end, or_end}
use Rattle.sn_top.proofs.serving.serve.Goals as goal

pub returns-in-Ok-clause-served : goal.returns-in-Ok-clause-served
returns-in-Ok-clause-served g c = λ how e.
    chosen_end c.args.words.now
    (λ (s : Settings) (h : Ended). GivesEnd s c.args.base (g.L.Link.left c.args.link.now) (g.L.Link.left c.serve_one-how.new.link) (g.O.Sink.taken c.args.sound.now) (g.O.Sink.taken c.serve_one-how.new.sound) (g.L.Link.sent c.args.link.now) (g.L.Link.sent c.serve_one-how.new.link) h)
    c.in-Ok.chosen.settings (choices c.in-Ok.chosen) c.serve_one-how.result how c.in-Ok.ensures.ok refl c.serve_one-how.ensures.served e

pub returns-in-Ok-clause-close : goal.returns-in-Ok-clause-close
returns-in-Ok-clause-close g c = λ how e. of_end (λ (h : Ended). AtClose h (g.L.Link.left c.args.link.now) (g.L.Link.left c.serve_one-how.new.link)) c.serve_one-how.result how c.serve_one-how.ensures.close e

pub returns-in-Ok-clause-complete : goal.returns-in-Ok-clause-complete
returns-in-Ok-clause-complete g c =
    by_chosen c.args.words.now _ c.in-Ok.chosen.settings (choices c.in-Ok.chosen) c.in-Ok.ensures.ok refl
    (λ events told few link sound. either_end c.serve_one-how.result _ _ (c.serve_one-how.ensures.complete events told few link sound))

pub returns-in-Ok-clause-link_unfailed : goal.returns-in-Ok-clause-link_unfailed
returns-in-Ok-clause-link_unfailed g c = or_end c.serve_one-how.result LinkFault (g.L.Link.faults c.serve_one-how.new.link ≡ g.L.Link.faults c.args.link.now) c.serve_one-how.ensures.link_unfailed

pub returns-in-Ok-clause-sound_unfailed : goal.returns-in-Ok-clause-sound_unfailed
returns-in-Ok-clause-sound_unfailed g c = or_end c.serve_one-how.result SoundFault (g.O.Sink.faults c.serve_one-how.new.sound ≡ g.O.Sink.faults c.args.sound.now) c.serve_one-how.ensures.sound_unfailed

pub returns-in-Err-clause-link_unfailed : goal.returns-in-Err-clause-link_unfailed
returns-in-Err-clause-link_unfailed g c = inr refl

pub returns-in-Err-clause-sound_unfailed : goal.returns-in-Err-clause-sound_unfailed
returns-in-Err-clause-sound_unfailed g c = inr refl
