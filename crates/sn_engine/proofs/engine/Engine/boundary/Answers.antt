use Rattle.std.proofs.Common.{◌≡◌, ◌≤◌, ◌*◌, ◌∙◌, ap, map, refl, sym, subst, length, List, ℕ, arith, rules}
use Rattle.std.specs.Prelude.{vec_capacity}
use Rattle.std.specs.Vec.{with_items}
use Rattle.std.proofs.lemmas.List.{with_items_is, places}
use Rattle.sn_ports.specs.Octets.{Octets, bytes_of}
use Rattle.sn_reply.specs.Frames.{with_frames}
use Rattle.sn_reply.specs.Replies.{ReplyShape}
use Rattle.sn_tree.specs.Trees.{running_labels}
use Rattle.sn_world.specs.SettleWords.{walk_room}
use Rattle.sn_world.specs.World.{world_of}
use Rattle.sn_round.specs.declared.jobs.Job.{Job}
use Rattle.sn_settle.specs.declared.eventful.Eventful.{Eventful}
use Rattle.sn_engine.specs.Boundary.{replies_at}
use Rattle.sn_engine.specs.Keeping.{CanSettle}
use Rattle.sn_engine.specs.Planning.{IsPlanOf}
use Rattle.sn_engine.specs.Running.{Running, at_boundary}
use Rattle.sn_engine.specs.declared.standing.Standing.TheVariants.{Bounded, Spent}
use Rattle.sn_engine.proofs.Bounded.{bounded, rest_kept}
use Rattle.sn_engine.proofs.ClientLemmas.{none_lost, none_sent, front_waits, all_waits}
use Rattle.sn_engine.proofs.LaneLemmas.{rest_on, still_laned}
use Rattle.sn_engine.proofs.OfferLemmas.{on_err}
use Rattle.sn_engine.proofs.Pasts.{running_is, past_is, rested_kept}
use Rattle.sn_engine.proofs.PlanLemmas.{planned_again}
use Rattle.sn_engine.proofs.RowLemmas.{still_copied}
use Rattle.sn_engine.proofs.engine.Engine.boundary.Goals as goal

abbrev told_at : Running → List ReplyShape
told_at r = replies_at r.block r.waiting r.clashes r.world

pub returns-in_err-reserve-clause-behind : goal.returns-in_err-reserve-clause-behind
returns-in_err-reserve-clause-behind c = none_lost c.args.self.now.running.replies (map bytes_of c.self.inside.replies.items) (ap (λ (r : Running). r.replies) (running_is c.self.view_is))

pub returns-in_err-reserve-clause-front : goal.returns-in_err-reserve-clause-front
returns-in_err-reserve-clause-front c =
    on_err c.from_residual.result (none_sent c.args.self.now.running.replies (map bytes_of c.self.inside.replies.items) (told_at c.args.self.now.running) (ap (λ (r : Running). r.replies) (running_is c.self.view_is)))

pub returns-in_err-reserve-2-clause-behind : goal.returns-in_err-reserve-2-clause-behind
returns-in_err-reserve-2-clause-behind c = none_lost c.args.self.now.running.replies (map bytes_of c.self.inside.replies.items) (ap (λ (r : Running). r.replies) (running_is c.self.view_is))

pub returns-in_err-reserve-2-clause-front : goal.returns-in_err-reserve-2-clause-front
returns-in_err-reserve-2-clause-front c =
    on_err c.from_residual-in_err-reserve-2.result (none_sent c.args.self.now.running.replies (map bytes_of c.self.inside.replies.items) (told_at c.args.self.now.running) (ap (λ (r : Running). r.replies) (running_is c.self.view_is)))

pub returns-in_err-quits-clause-behind : goal.returns-in_err-quits-clause-behind
returns-in_err-quits-clause-behind c = none_lost c.args.self.now.running.replies (map bytes_of c.self.inside.replies.items) (ap (λ (r : Running). r.replies) (running_is c.self.view_is))

pub returns-in_err-quits-clause-front : goal.returns-in_err-quits-clause-front
returns-in_err-quits-clause-front c =
    on_err c.from_residual-in_err-quits.result (none_sent c.args.self.now.running.replies (map bytes_of c.self.inside.replies.items) (told_at c.args.self.now.running) (ap (λ (r : Running). r.replies) (running_is c.self.view_is)))

pub returns-in_err-send-clause-front : goal.returns-in_err-send-clause-front
returns-in_err-send-clause-front c =
    let e = c.self.inside in
    let out = with_items e.replies c.send.new.out in
    let one : out.items ≡ c.send.new.out = with_items_is e.replies c.send.new.out (search (rules, places)) in
    let first : c.deref_mut.result.now ≡ e.replies.items = search rules in
    on_err c.from_residual-in_err-send.result
    (front_waits (map bytes_of c.deref_mut.result.now) c.args.self.now.running.replies (map bytes_of out.items) (map bytes_of c.send.new.out) c.act_boundary.new.said (told_at c.args.self.now.running)
    (ap (map bytes_of) first ∙ ap (λ (r : Running). r.replies) (running_is c.self.view_is)) (ap (map bytes_of) one) (c.in_ok-quits.ensures.replies ∙ ap told_at (running_is c.self.view_is)) c.in_err-send.ensures.front)

pub returns-in_err-self-inside-clause-front : goal.returns-in_err-self-inside-clause-front
returns-in_err-self-inside-clause-front c =
    let e = c.self.inside in
    let out = with_items e.replies c.send.new.out in
    let one : out.items ≡ c.send.new.out = with_items_is e.replies c.send.new.out (search (rules, places)) in
    let two : (with_items out c.reserve_settling.new.replies).items ≡ c.reserve_settling.new.replies = with_items_is out c.reserve_settling.new.replies (search (rules, places)) in
    let framed : map bytes_of c.send.new.out ≡ with_frames 0 c.act_boundary.new.said (map bytes_of c.deref_mut.result.now) = search rules in
    let first : c.deref_mut.result.now ≡ e.replies.items = search rules in
    let said : c.act_boundary.new.said ≡ told_at c.args.self.now.running = c.in_ok-quits.ensures.replies ∙ ap told_at (running_is c.self.view_is) in
    let before : map bytes_of c.deref_mut.result.now ≡ c.args.self.now.running.replies = ap (map bytes_of) first ∙ ap (λ (r : Running). r.replies) (running_is c.self.view_is) in
    on_err c.from_residual-in_err-self-inside.result
    (all_waits (map bytes_of (with_items out c.reserve_settling.new.replies).items) (with_frames 0 (told_at c.args.self.now.running) c.args.self.now.running.replies)
    (ap (map bytes_of) two ∙ c.reserve_settling.ensures.bytes ∙ ap (map bytes_of) (c.deref_mut-2.ensures.value ∙ one) ∙ framed ∙ (λ i. with_frames 0 (said i) (before i))))

pub returns-clause-ok : goal.returns-clause-ok
returns-clause-ok c =
    let e = c.self.inside in
    let r : Running = record { settings = e.settings; world = world_of e.stage e.memory.words; waiting = e.queue; clashes = e.clashes; block = e.block; standing = e.standing; sound = e.sound.bytes; replies = map bytes_of e.replies.items } in
    let out = with_items e.replies c.send.new.out in
    let one : out.items ≡ c.send.new.out = with_items_is e.replies c.send.new.out (search (rules, places)) in
    let two : (with_items out c.reserve_settling.new.replies).items ≡ c.reserve_settling.new.replies = with_items_is out c.reserve_settling.new.replies (search (rules, places)) in
    let framed : map bytes_of c.send.new.out ≡ with_frames 0 c.act_boundary.new.said (map bytes_of c.deref_mut.result.now) = search rules in
    let first : c.deref_mut.result.now ≡ e.replies.items = search rules in
    let sent : map bytes_of (with_items out c.reserve_settling.new.replies).items ≡ with_frames 0 c.act_boundary.new.said (map bytes_of e.replies.items) =
    ap (map bytes_of) two
    ∙ c.reserve_settling.ensures.bytes
    ∙ ap (map bytes_of) (c.deref_mut-2.ensures.value ∙ one)
    ∙ framed
    ∙ ap (λ (texts : List Octets). with_frames 0 c.act_boundary.new.said (map bytes_of texts)) first in
    bounded r (world_of c.act_boundary.new.stage c.act_boundary.new.port.words) c.act_boundary.new.queue c.act_boundary.new.held c.reserve-2.new.self.bytes c.act_boundary.new.said (map bytes_of (with_items out c.reserve_settling.new.replies).items)
    c.in_ok-quits.ensures.world c.in_ok-quits.ensures.left c.in_ok-quits.ensures.clashes c.reserve-2.ensures.bytes c.in_ok-quits.ensures.replies sent
    ∙ ap at_boundary (running_is c.self.view_is)

pub returns-in_err-reserve-clause-others : goal.returns-in_err-reserve-clause-others
returns-in_err-reserve-clause-others c =
    let e = c.self.inside in
    let r : Running = record { settings = e.settings; world = world_of e.stage e.memory.words; waiting = e.queue; clashes = e.clashes; block = e.block; standing = e.standing; sound = e.sound.bytes; replies = map bytes_of e.replies.items } in
    rest_kept r c.args.self.now.running (world_of e.stage e.memory.words) e.queue e.clashes Spent e.sound.bytes (map bytes_of e.replies.items) (running_is c.self.view_is) refl refl

pub returns-in_err-reserve-2-clause-others : goal.returns-in_err-reserve-2-clause-others
returns-in_err-reserve-2-clause-others c =
    let e = c.self.inside in
    let r : Running = record { settings = e.settings; world = world_of e.stage e.memory.words; waiting = e.queue; clashes = e.clashes; block = e.block; standing = e.standing; sound = e.sound.bytes; replies = map bytes_of e.replies.items } in
    rest_kept r c.args.self.now.running (world_of e.stage e.memory.words) e.queue e.clashes Spent c.reserve-2.new.self.bytes (map bytes_of e.replies.items) (running_is c.self.view_is) refl c.reserve-2.ensures.bytes

pub returns-in_err-quits-clause-others : goal.returns-in_err-quits-clause-others
returns-in_err-quits-clause-others c =
    let e = c.self.inside in
    let r : Running = record { settings = e.settings; world = world_of e.stage e.memory.words; waiting = e.queue; clashes = e.clashes; block = e.block; standing = e.standing; sound = e.sound.bytes; replies = map bytes_of e.replies.items } in
    rest_kept r c.args.self.now.running (world_of c.act_boundary.new.stage c.act_boundary.new.port.words) c.act_boundary.new.queue c.act_boundary.new.held Spent c.reserve-2.new.self.bytes (map bytes_of e.replies.items) (running_is c.self.view_is) c.act_boundary.ensures.kept c.reserve-2.ensures.bytes

pub returns-in_err-send-clause-others : goal.returns-in_err-send-clause-others
returns-in_err-send-clause-others c =
    let e = c.self.inside in
    let r : Running = record { settings = e.settings; world = world_of e.stage e.memory.words; waiting = e.queue; clashes = e.clashes; block = e.block; standing = e.standing; sound = e.sound.bytes; replies = map bytes_of e.replies.items } in
    rest_kept r c.args.self.now.running (world_of c.act_boundary.new.stage c.act_boundary.new.port.words) c.act_boundary.new.queue c.act_boundary.new.held Spent c.reserve-2.new.self.bytes (map bytes_of (with_items e.replies c.send.new.out).items) (running_is c.self.view_is) c.act_boundary.ensures.kept c.reserve-2.ensures.bytes

pub returns-in_err-self-inside-clause-others : goal.returns-in_err-self-inside-clause-others
returns-in_err-self-inside-clause-others c =
    let e = c.self.inside in
    let r : Running = record { settings = e.settings; world = world_of e.stage e.memory.words; waiting = e.queue; clashes = e.clashes; block = e.block; standing = e.standing; sound = e.sound.bytes; replies = map bytes_of e.replies.items } in
    let out = with_items e.replies c.send.new.out in
    rest_kept r c.args.self.now.running (world_of c.act_boundary.new.stage c.act_boundary.new.port.words) c.act_boundary.new.queue c.act_boundary.new.held Spent c.reserve-2.new.self.bytes (map bytes_of (with_items out c.reserve_settling.new.replies).items) (running_is c.self.view_is) c.act_boundary.ensures.kept c.reserve-2.ensures.bytes

pub returns-clause-others : goal.returns-clause-others
returns-clause-others c =
    let e = c.self.inside in
    let r : Running = record { settings = e.settings; world = world_of e.stage e.memory.words; waiting = e.queue; clashes = e.clashes; block = e.block; standing = e.standing; sound = e.sound.bytes; replies = map bytes_of e.replies.items } in
    let out = with_items e.replies c.send.new.out in
    rest_kept r c.args.self.now.running (world_of c.act_boundary.new.stage c.act_boundary.new.port.words) c.act_boundary.new.queue c.act_boundary.new.held Bounded c.reserve-2.new.self.bytes (map bytes_of (with_items out c.reserve_settling.new.replies).items) (running_is c.self.view_is) c.act_boundary.ensures.kept c.reserve-2.ensures.bytes

pub returns-in_err-reserve-clause-past : goal.returns-in_err-reserve-clause-past
returns-in_err-reserve-clause-past c =
    let e = c.self.inside in
    rested_kept _ c.args.self.now.past (past_is c.self.view_is) e.planned.jobs e.memory.rounds e.memory.stores (length e.crew.hands.items) refl refl

pub returns-in_err-reserve-2-clause-past : goal.returns-in_err-reserve-2-clause-past
returns-in_err-reserve-2-clause-past c =
    let e = c.self.inside in
    rested_kept _ c.args.self.now.past (past_is c.self.view_is) e.planned.jobs e.memory.rounds e.memory.stores (length e.crew.hands.items) refl refl

pub returns-in_err-quits-clause-past : goal.returns-in_err-quits-clause-past
returns-in_err-quits-clause-past c =
    let e = c.self.inside in
    rested_kept _ c.args.self.now.past (past_is c.self.view_is) c.act_boundary.new.planned.jobs c.act_boundary.new.port.rounds c.act_boundary.new.port.stores (length e.crew.hands.items) c.act_boundary.ensures.port.1 refl

pub returns-in_err-send-clause-past : goal.returns-in_err-send-clause-past
returns-in_err-send-clause-past c =
    let e = c.self.inside in
    rested_kept _ c.args.self.now.past (past_is c.self.view_is) c.unroll.new.self.jobs c.act_boundary.new.port.rounds c.act_boundary.new.port.stores (length e.crew.hands.items) c.act_boundary.ensures.port.1 refl

pub returns-in_err-self-inside-clause-past : goal.returns-in_err-self-inside-clause-past
returns-in_err-self-inside-clause-past c =
    let e = c.self.inside in
    rested_kept _ c.args.self.now.past (past_is c.self.view_is) c.unroll.new.self.jobs c.act_boundary.new.port.rounds c.act_boundary.new.port.stores (length e.crew.hands.items) c.act_boundary.ensures.port.1 refl

pub returns-clause-past : goal.returns-clause-past
returns-clause-past c =
    let e = c.self.inside in
    rested_kept _ c.args.self.now.past (past_is c.self.view_is) c.unroll.new.self.jobs c.act_boundary.new.port.rounds c.act_boundary.new.port.stores (length e.crew.hands.items) c.act_boundary.ensures.port.1 refl

pub returns-clause-planned : goal.returns-clause-planned
returns-clause-planned c =
    let stage = c.act_boundary.new.stage in
    let planned = planned_again _ _ _ _ _ _ _ _ c.unroll.ensures.jobs c.unroll.ensures.quiet c.unroll.ensures.eventful c.in_ok-quits.ensures.planned in
    record {
      stage = stage;
      words = c.act_boundary.new.port.words;
      stands = refl;
      pictures = c.act_boundary.ensures.pictures;
      planned = planned.plan;
      lanes_are = planned.lanes_are c.act_boundary.new.port.words;
    }

pub returns-in_err-unroll-clause-past : goal.returns-in_err-unroll-clause-past
returns-in_err-unroll-clause-past c =
    let e = c.self.inside in
    rested_kept _ c.args.self.now.past (past_is c.self.view_is) c.unroll.new.self.jobs c.act_boundary.new.port.rounds c.act_boundary.new.port.stores (length e.crew.hands.items) c.act_boundary.ensures.port.1 refl

pub returns-in_err-unroll-clause-behind : goal.returns-in_err-unroll-clause-behind
returns-in_err-unroll-clause-behind c = none_lost c.args.self.now.running.replies (map bytes_of c.self.inside.replies.items) (ap (λ (r : Running). r.replies) (running_is c.self.view_is))

pub returns-in_err-unroll-clause-front : goal.returns-in_err-unroll-clause-front
returns-in_err-unroll-clause-front c =
    on_err c.from_residual-in_err-unroll.result (none_sent c.args.self.now.running.replies (map bytes_of c.self.inside.replies.items) (told_at c.args.self.now.running) (ap (λ (r : Running). r.replies) (running_is c.self.view_is)))

pub returns-in_err-unroll-clause-others : goal.returns-in_err-unroll-clause-others
returns-in_err-unroll-clause-others c =
    let e = c.self.inside in
    let r : Running = record { settings = e.settings; world = world_of e.stage e.memory.words; waiting = e.queue; clashes = e.clashes; block = e.block; standing = e.standing; sound = e.sound.bytes; replies = map bytes_of e.replies.items } in
    rest_kept r c.args.self.now.running (world_of c.act_boundary.new.stage c.act_boundary.new.port.words) c.act_boundary.new.queue c.act_boundary.new.held Spent c.reserve-2.new.self.bytes (map bytes_of e.replies.items) (running_is c.self.view_is) c.act_boundary.ensures.kept c.reserve-2.ensures.bytes

-- ---- the plan of a row

pub span-blocks-requires : goal.span-blocks-requires
span-blocks-requires c = c.in_ok-quits.ensures.planned.plan.few

pub unroll-requires-clause-free : goal.unroll-requires-clause-free
unroll-requires-clause-free c = c.in_ok-quits.ensures.planned.plan.free

pub unroll-requires-clause-few : goal.unroll-requires-clause-few
unroll-requires-clause-few c = λ two. (c.span-blocks.ensures.quiet two).few

pub unroll-requires-clause-room : goal.unroll-requires-clause-room
unroll-requires-clause-room c = λ two. (c.span-blocks.ensures.quiet two).room

pub unroll-requires-clause-copies : goal.unroll-requires-clause-copies
unroll-requires-clause-copies c = c.self.invariant.10.bounded

pub unroll-requires-clause-spanned : goal.unroll-requires-clause-spanned
unroll-requires-clause-spanned c = c.in_ok-quits.ensures.spanned c.self.inside.outputs c.self.inside.copies c.self.invariant.9

pub act_boundary-requires-clause-planned : goal.act_boundary-requires-clause-planned
act_boundary-requires-clause-planned c = c.self.invariant.7

pub act_boundary-requires-clause-copies : goal.act_boundary-requires-clause-copies
act_boundary-requires-clause-copies c = c.self.invariant.10.at

pub act_boundary-requires-clause-lanes : goal.act_boundary-requires-clause-lanes
act_boundary-requires-clause-lanes c = omega (arith, c.self.invariant.11.bounded, c.self.invariant.10.at)

pub reserve_settling-requires : goal.reserve_settling-requires
reserve_settling-requires c =
    record { few = omega (arith, c.room-most.ensures, ap (λ (e : Eventful). e.room) c.unroll.ensures.eventful, c.in_ok-quits.ensures.planned.eventful_is.few) }

-- ---- what holds when it returns

pub invariant_of-self : goal.invariant_of-self
invariant_of-self c =
    let i = c.self.invariant in (i.0, i.1, tt, tt, i.4, i.5, i.6, i.7, λ e. absurd cc, i.9, i.10, i.11, i.12, λ e. absurd cc)

pub invariant_of-self-in_err-reserve-2 : goal.invariant_of-self-in_err-reserve-2
invariant_of-self-in_err-reserve-2 c =
    let i = c.self.invariant in (i.0, i.1, tt, tt, i.4, i.5, i.6, i.7, λ e. absurd cc, i.9, i.10, i.11, i.12, λ e. absurd cc)

pub invariant_of-self-in_err-quits : goal.invariant_of-self-in_err-quits
invariant_of-self-in_err-quits c =
    let i = c.self.invariant in
    let e = c.self.inside in
    let acted = c.act_boundary in (
      acted.ensures.pictures,
      acted.ensures.waiting,
      tt,
      tt,
      i.4,
      i.5,
      λ on. absurd cc,
      λ on. absurd cc,
      λ e. absurd cc,
      λ on. absurd cc,
      still_copied e.settings.channels e.stage acted.new.stage e.memory.words acted.new.port.words e.outputs e.copies acted.ensures.region acted.ensures.len i.10,
      still_laned e.stage acted.new.stage e.memory.words acted.new.port.words acted.ensures.region acted.ensures.len i.11,
      rest_on e.stage acted.new.stage e.block e.memory.words acted.new.port.words i.0.base acted.ensures.region acted.ensures.others i.12,
      λ e. absurd cc,
    )

pub invariant_of-self-in_err-unroll : goal.invariant_of-self-in_err-unroll
invariant_of-self-in_err-unroll c =
    let i = c.self.invariant in
    let e = c.self.inside in
    let acted = c.act_boundary in (
      acted.ensures.pictures,
      acted.ensures.waiting,
      tt,
      tt,
      i.4,
      i.5,
      λ on. absurd cc,
      λ on. absurd cc,
      λ e. absurd cc,
      λ on. absurd cc,
      still_copied e.settings.channels e.stage acted.new.stage e.memory.words acted.new.port.words e.outputs e.copies acted.ensures.region acted.ensures.len i.10,
      still_laned e.stage acted.new.stage e.memory.words acted.new.port.words acted.ensures.region acted.ensures.len i.11,
      rest_on e.stage acted.new.stage e.block e.memory.words acted.new.port.words i.0.base acted.ensures.region acted.ensures.others i.12,
      λ e. absurd cc,
    )

pub invariant_of-self-in_err-send : goal.invariant_of-self-in_err-send
invariant_of-self-in_err-send c =
    let i = c.self.invariant in
    let e = c.self.inside in
    let acted = c.act_boundary in
    let out = with_items e.replies c.send.new.out in
    let one : out.items ≡ c.send.new.out = with_items_is e.replies c.send.new.out (search (rules, places)) in
    let first : c.deref_mut.result.now ≡ e.replies.items = search rules in (
      acted.ensures.pictures,
      acted.ensures.waiting,
      tt,
      tt,
      i.4,
      omega (arith, ap (λ (ts : List Octets). length ts) one, c.send.ensures.len, ap (λ (ts : List Octets). length ts) first, i.5),
      λ on. absurd cc,
      λ on. absurd cc,
      λ e. absurd cc,
      λ on. absurd cc,
      still_copied e.settings.channels e.stage acted.new.stage e.memory.words acted.new.port.words e.outputs e.copies acted.ensures.region acted.ensures.len i.10,
      still_laned e.stage acted.new.stage e.memory.words acted.new.port.words acted.ensures.region acted.ensures.len i.11,
      rest_on e.stage acted.new.stage e.block e.memory.words acted.new.port.words i.0.base acted.ensures.region acted.ensures.others i.12,
      λ e. absurd cc,
    )

pub invariant_of-self-in_err-self-inside : goal.invariant_of-self-in_err-self-inside
invariant_of-self-in_err-self-inside c =
    let i = c.self.invariant in
    let e = c.self.inside in
    let acted = c.act_boundary in
    let out = with_items e.replies c.send.new.out in
    let one : out.items ≡ c.send.new.out = with_items_is e.replies c.send.new.out (search (rules, places)) in
    let first : c.deref_mut.result.now ≡ e.replies.items = search rules in
    let two : (with_items out c.reserve_settling.new.replies).items ≡ c.reserve_settling.new.replies = with_items_is out c.reserve_settling.new.replies (search (rules, places)) in
    let few : length out.items ≤ 4 = omega (arith, ap (λ (ts : List Octets). length ts) one, c.send.ensures.len, ap (λ (ts : List Octets). length ts) first, i.5) in (
      acted.ensures.pictures,
      acted.ensures.waiting,
      tt,
      tt,
      i.4,
      omega (arith, ap (λ (ts : List Octets). length ts) two, c.reserve_settling.ensures.len, ap (λ (ts : List Octets). length ts) c.deref_mut-2.ensures.value, few),
      λ on. absurd cc,
      λ on. absurd cc,
      λ e. absurd cc,
      λ on. absurd cc,
      still_copied e.settings.channels e.stage acted.new.stage e.memory.words acted.new.port.words e.outputs e.copies acted.ensures.region acted.ensures.len i.10,
      still_laned e.stage acted.new.stage e.memory.words acted.new.port.words acted.ensures.region acted.ensures.len i.11,
      rest_on e.stage acted.new.stage e.block e.memory.words acted.new.port.words i.0.base acted.ensures.region acted.ensures.others i.12,
      λ e. absurd cc,
    )

pub invariant_of-self-2 : goal.invariant_of-self-2
invariant_of-self-2 c =
    let i = c.self.invariant in
    let e = c.self.inside in
    let acted = c.act_boundary in
    let out = with_items e.replies c.send.new.out in
    let one : out.items ≡ c.send.new.out = with_items_is e.replies c.send.new.out (search (rules, places)) in
    let first : c.deref_mut.result.now ≡ e.replies.items = search rules in
    let two : (with_items out c.reserve_settling.new.replies).items ≡ c.reserve_settling.new.replies = with_items_is out c.reserve_settling.new.replies (search (rules, places)) in
    let few : length out.items ≤ 4 = omega (arith, ap (λ (ts : List Octets). length ts) one, c.send.ensures.len, ap (λ (ts : List Octets). length ts) first, i.5) in
    let most : ℕ = walk_room (running_labels acted.new.stage.tree.attached) in
    let samples : 512 ≤ vec_capacity c.reserve.new.self = search rules in
    let room : c.room-most.result ≡ most = c.room-most.ensures ∙ ap (λ (e : Eventful). e.room) c.unroll.ensures.eventful ∙ c.in_ok-quits.ensures.planned.eventful_is.room_is in
    let settles : CanSettle most c.reserve_settling.new.endings.spare (with_items out c.reserve_settling.new.replies).items =
    subst (λ n. CanSettle n c.reserve_settling.new.endings.spare (with_items out c.reserve_settling.new.replies).items) room (subst (CanSettle c.room-most.result c.reserve_settling.new.endings.spare) (sym two) c.in_ok-self-inside.ensures.settles) in (
      acted.ensures.pictures,
      acted.ensures.waiting,
      (c.in_ok-reserve-2.ensures.room, samples, settles),
      c.in_ok-self-inside.ensures.room ∙ ap (λ n. 48 * n) room,
      c.in_ok-self-inside.ensures.few,
      omega (arith, ap (λ (ts : List Octets). length ts) two, c.reserve_settling.ensures.len, ap (λ (ts : List Octets). length ts) c.deref_mut-2.ensures.value, few),
      c.in_ok-quits.ensures.hold,
      λ on. planned_again _ _ _ _ _ _ _ _ c.unroll.ensures.jobs c.unroll.ensures.quiet c.unroll.ensures.eventful c.in_ok-quits.ensures.planned,
      λ e. refl,
      λ on. c.in_ok-unroll.ensures.spanned,
      still_copied e.settings.channels e.stage acted.new.stage e.memory.words acted.new.port.words e.outputs e.copies acted.ensures.region acted.ensures.len i.10,
      still_laned e.stage acted.new.stage e.memory.words acted.new.port.words acted.ensures.region acted.ensures.len i.11,
      rest_on e.stage acted.new.stage e.block e.memory.words acted.new.port.words i.0.base acted.ensures.region acted.ensures.others i.12,
      λ e. absurd cc,
    )
