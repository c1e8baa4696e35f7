use Rattle.std.proofs.Common.{◌≡◌, ◌∙◌, ℕ, List, [], ap, inl, length, refl, replicate, subst, sym, arith}
use Rattle.std.specs.Io.KnownBytes.{Appends}
use Rattle.sn_engine.specs.Running.{Running, at_boundary, with_block, with_settled}
use Rattle.sn_engine.proofs.RowLemmas.{one_block, row_block}
use Rattle.sn_render.specs.Fronts.{TakesFront}
use Rattle.sn_render.specs.Play.{after_block}
use Rattle.sn_clients.specs.declared.playing.Halt.{Halt}
use Rattle.sn_clients.specs.declared.playing.Halt.TheVariants as halts
use Rattle.sn_clients.specs.Looping.{CountedAt}
use Rattle.sn_clients.specs.Written.{AllSend}
use Rattle.sn_clients.proofs.EachLemmas.{after_block_step}
use Rattle.sn_clients.proofs.FaultLemmas.{counted_so}
use Rattle.sn_clients.proofs.TickLemmas.{ticked_not, ticked_part}
use Rattle.sn_clients.proofs.playing.tick.Goals as goal

-- ---- what the calls need

pub blocks-requires-clause-quiet : goal.blocks-requires-clause-quiet
blocks-requires-clause-quiet g c κs within = inl refl

pub blocks-requires-clause-bounded : goal.blocks-requires-clause-bounded
blocks-requires-clause-bounded g c κs within = ap (λ (r : Running). r.standing) c.in_ok-boundary.ensures.ok

pub settle-requires-clause-rendered : goal.settle-requires-clause-rendered
settle-requires-clause-rendered g c =
    ap (λ (r : Running). r.standing) (c.blocks-in-On.ensures.running ∙ one_block c.boundary.new.self.running)

pub settle-requires-clause-block : goal.settle-requires-clause-block
settle-requires-clause-block g c =
    let mid : Running = c.boundary.new.self.running in
    omega (arith, ap (λ (r : Running). r.block) c.blocks-in-On.ensures.running, row_block 1 mid, ap (λ (r : Running). r.block) c.in_ok-boundary.ensures.ok, c.requires.block)

pub send_all-requires-clause-sinks : goal.send_all-requires-clause-sinks
send_all-requires-clause-sinks g c =
    let old : Running = c.args.engine.now.running in
    let rendered : c.settle.new.self.running ≡ after_block old = c.settle.ensures.running ∙ (ap with_settled (c.blocks-in-On.ensures.running ∙ one_block c.boundary.new.self.running) ∙ ap (λ (r : Running). with_settled (with_block r)) c.in_ok-boundary.ensures.ok) in
    c.requires.sinks ∙ sym (ap (λ (r : Running). length r.replies) (c.write_sound.ensures.kept ∙ ap (λ (r : Running). record r { sound = [] }) rendered) ∙ after_block_step.clients old)

pub send_all-requires-clause-flags : goal.send_all-requires-clause-flags
send_all-requires-clause-flags g c =
    let old : Running = c.args.engine.now.running in
    let rendered : c.settle.new.self.running ≡ after_block old = c.settle.ensures.running ∙ (ap with_settled (c.blocks-in-On.ensures.running ∙ one_block c.boundary.new.self.running) ∙ ap (λ (r : Running). with_settled (with_block r)) c.in_ok-boundary.ensures.ok) in
    c.requires.flags ∙ sym (ap (λ (r : Running). length r.replies) (c.write_sound.ensures.kept ∙ ap (λ (r : Running). record r { sound = [] }) rendered) ∙ after_block_step.clients old)

pub send_all-requires-in-Quit-clause-sinks : goal.send_all-requires-in-Quit-clause-sinks
send_all-requires-in-Quit-clause-sinks g c = c.requires.sinks ∙ sym c.boundary.ensures.clients

pub send_all-requires-in-Quit-clause-flags : goal.send_all-requires-in-Quit-clause-flags
send_all-requires-in-Quit-clause-flags g c = c.requires.flags ∙ sym c.boundary.ensures.clients

-- ---- what it answers

pub returns-in_err-boundary-clause-ticked : goal.returns-in_err-boundary-clause-ticked
returns-in_err-boundary-clause-ticked g c =
    ticked_not g.R.Sink.taken g.R.Sink.faults c.args.sinks.now c.args.failed.now (g.O.Sink.taken c.args.sound.now) c.args.engine.now.running _ c.from_residual.result c.from_residual.ensures.1

pub returns-in_err-write_sound-in-On-clause-ticked : goal.returns-in_err-write_sound-in-On-clause-ticked
returns-in_err-write_sound-in-On-clause-ticked g c =
    let old : Running = c.args.engine.now.running in
    let r = c.from_residual-in_err-write_sound-in-On in
    let rendered : c.settle.new.self.running ≡ after_block old = c.settle.ensures.running ∙ (ap with_settled (c.blocks-in-On.ensures.running ∙ one_block c.boundary.new.self.running) ∙ ap (λ (q : Running). with_settled (with_block q)) c.in_ok-boundary.ensures.ok) in
    let sound_old = g.O.Sink.taken c.args.sound.now in
    let sound_new = g.O.Sink.taken c.write_sound.new.sound in
    ticked_part g.R.Sink.taken g.R.Sink.faults c.args.sinks.now c.args.failed.now sound_old sound_new old _ r.result c.in_err-write_sound-in-On.field-0.0 r.ensures.1 c.in_err-write_sound-in-On.ensures.only
    (sym c.in_ok-boundary.ensures.flow ∙ c.in-On.is) (subst (λ (q : Running). TakesFront sound_old sound_new q.sound) rendered c.write_sound.ensures.front)

pub returns-in_ok-write_sound-in-On-clause-ticked : goal.returns-in_ok-write_sound-in-On-clause-ticked
returns-in_ok-write_sound-in-On-clause-ticked g c =
    let old : Running = c.args.engine.now.running in
    let rendered : c.settle.new.self.running ≡ after_block old = c.settle.ensures.running ∙ (ap with_settled (c.blocks-in-On.ensures.running ∙ one_block c.boundary.new.self.running) ∙ ap (λ (q : Running). with_settled (with_block q)) c.in_ok-boundary.ensures.ok) in
    let quiet = c.write_sound.ensures.kept ∙ ap (λ (q : Running). record q { sound = [] }) rendered in
    let sound_old = g.O.Sink.taken c.args.sound.now in
    let sound_new = g.O.Sink.taken c.write_sound.new.sound in
    record {
      flow = sym c.in_ok-boundary.ensures.flow ∙ c.in-On.is;
      sound = subst (λ (q : Running). Appends sound_old sound_new q.sound) rendered c.in_ok-write_sound-in-On.ensures.written;
      replies = subst (λ (q : Running). AllSend g.R.Sink.taken g.R.Sink.faults c.args.sinks.now c.send_all.new.sinks c.args.failed.now c.send_all.new.failed q.replies) quiet c.send_all.ensures.sent;
      engine = c.send_all.ensures.kept ∙ ap (λ (q : Running). record q { replies = replicate (length q.replies) [] }) quiet;
    }

pub returns-in-Quit-clause-ticked : goal.returns-in-Quit-clause-ticked
returns-in-Quit-clause-ticked g c =
    let sent = c.send_all-in-Quit in
    record {
      flow = sym c.in_ok-boundary.ensures.flow ∙ c.in-Quit.is;
      sound = refl;
      replies = subst (λ (q : Running). AllSend g.R.Sink.taken g.R.Sink.faults c.args.sinks.now sent.new.sinks c.args.failed.now sent.new.failed q.replies) c.in_ok-boundary.ensures.ok sent.ensures.sent;
    }

pub returns-in_err-boundary-clause-counted : goal.returns-in_err-boundary-clause-counted
returns-in_err-boundary-clause-counted g c =
    let before = g.O.Sink.faults c.args.sound.now in
    counted_so c.from_residual.result halts.NoMemory before before c.from_residual.ensures.1 refl

pub returns-in_err-write_sound-in-On-clause-counted : goal.returns-in_err-write_sound-in-On-clause-counted
returns-in_err-write_sound-in-On-clause-counted g c =
    let r = c.from_residual-in_err-write_sound-in-On in
    let halt = c.in_err-write_sound-in-On.field-0.0 in
    let e = c.in_err-write_sound-in-On.ensures in
    let before = g.O.Sink.faults c.args.sound.now in
    let now = g.O.Sink.faults c.write_sound.new.sound in
    counted_so r.result halt before now r.ensures.1 (subst (λ (h : Halt). CountedAt h before now) (sym e.only) e.cause)
