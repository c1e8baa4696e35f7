use Rattle.std.proofs.Common.{◌≡◌, ◌+◌, [], ℕ, List, length, refl, ap, subst, sym, arith}
use Rattle.sn_engine.proofs.OpeningLemmas.{opens_copies, opens_engine, opens_lanes, opens_past, rate_fits, memory_fits, memory_opens, workers_fit}
use Rattle.std.proofs.lemmas.List.{length-map, length-replicate}
use Rattle.sn_ports.specs.Octets.{bytes_of}
use Rattle.sn_queue.specs.Waiting.{WaitingList}
use Rattle.sn_engine.specs.Answerable.{AllAnswerable}
use Rattle.sn_world.specs.Pictures.{Pictures}
use Rattle.sn_world.proofs.OpeningLaws.{opens_pictured}
use Rattle.sn_engine.proofs.HearingLemmas.{words_same}
use Rattle.sn_engine.proofs.LaneLemmas.{rest_at_first}
use Rattle.sn_engine.proofs.engine.Engine.open.Goals as goal

pub open-requires : goal.open-requires
open-requires c = memory_opens c.args.settings.now.memory c.args.settings.now.memory_is

pub open-requires-2 : goal.open-requires-2
open-requires-2 c = workers_fit c.args.settings.now.workers c.args.settings.now.workers_are

pub new-queue-requires : goal.new-queue-requires
new-queue-requires c = omega (arith, (rate_fits c.args.settings.now.rate c.args.settings.now.rate_is).0)

pub returns-clause-running : goal.returns-clause-running
returns-clause-running c = opens_engine c.args.settings.now c.args.base c.args.limit c.args.clients (10368 + c.args.settings.now.memory + 16384 + 266240) c.in_ok-stage.stage c.in_ok-memory.memory.words c.new-queue.result _ _ _
    c.in_ok-stage.ensures (words_same c.in_ok-memory.ensures) c.new-queue.ensures c.new-clashes.ensures c.new-sound.ensures c.in_ok-replies.ensures

pub returns-clause-past : goal.returns-clause-past
returns-clause-past c = opens_past c.args.settings.now.workers (10368 + c.args.settings.now.memory + 16384 + 266240) c.in_ok-planned.planned.jobs c.in_ok-memory.memory (length c.in_ok-crew.crew.hands.items) c.in_ok-planned.ensures c.in_ok-memory.ensures c.in_ok-crew.ensures

pub invariant_of-result : goal.invariant_of-result
invariant_of-result c =
    let s = c.args.settings.now in
    let r = rate_fits s.rate s.rate_is in
    let m = memory_fits s.memory s.memory_is in
    let region : c.in_ok-stage.stage.pool.region.len ≡ s.memory = ap (λ p. p.region.len) c.in_ok-stage.ensures.pool in
    let lanes = opens_lanes s.memory s.rate c.args.clients c.in_ok-stage.stage c.in_ok-memory.memory.words s.memory_is c.in_ok-stage.ensures (words_same c.in_ok-memory.ensures) in
    let pictures = opens_pictured s.rate s.memory c.args.clients (10368 + s.memory + 16384 + 266240) c.in_ok-stage.stage c.in_ok-stage.ensures r.0 r.1 m (omega arith) in (
      subst (Pictures c.in_ok-stage.stage) (sym (words_same c.in_ok-memory.ensures)) pictures,
      subst (λ (q : WaitingList). AllAnswerable q.waiting) (sym c.new-queue.ensures) tt,
      tt,
      tt,
      omega arith,
      omega (arith, c.requires.clients, ap length c.in_ok-replies.ensures, length-map c.in_ok-replies.replies.items bytes_of, length-replicate {A = List ℕ} c.args.clients []),
      λ e. absurd cc,
      λ e. absurd cc,
      λ e. absurd cc,
      λ e. absurd cc,
      opens_copies s.channels s.memory s.rate c.args.clients (10368 + s.memory) c.in_ok-stage.stage c.in_ok-memory.memory.words c.in_ok-outputs.outputs s.channels_are s.memory_is c.in_ok-stage.ensures refl (words_same c.in_ok-memory.ensures) c.in_ok-outputs.ensures,
      lanes,
      rest_at_first c.in_ok-stage.stage (10368 + s.memory + 16384 + 266240) c.in_ok-memory.memory.words (words_same c.in_ok-memory.ensures) (omega (arith, region)),
      λ e. absurd cc,
    )
