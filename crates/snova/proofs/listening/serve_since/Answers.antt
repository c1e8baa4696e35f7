use Rattle.std.proofs.Common.{◌≡◌, ℕ, subst}
use Rattle.sn_pcm.specs.declared.settings.Settings.{Settings}
use Rattle.sn_server.specs.Served.{GivesEnd}
use Rattle.sn_top.specs.Connection.{AreServed}
use Rattle.snova.proofs.listening.serve_since.Goals as goal

pub returns : goal.returns
returns g c = record {
  served = λ how is. subst
      (λ (base : ℕ). (s : Settings) × AreServed c.args.words.now s × GivesEnd s base
      (g.L.Link.left c.args.link.now) (g.L.Link.left c.serve.new.link) (g.O.Sink.taken c.args.sound.now) (g.O.Sink.taken c.serve.new.sound)
      (g.L.Link.sent c.args.link.now) (g.L.Link.sent c.serve.new.link) how)
      c.args.start.tag_is (c.serve.ensures.served how is);
}
