use Rattle.std.proofs.Common.{◌≡◌, ◌∙◌, ap, map}
use Rattle.std.specs.Prelude.{unwrap_or}
use Rattle.sn_osc.specs.Shape.{shape}
use Rattle.sn_queue.specs.Steps.{last_due}
use Rattle.sn_render.specs.Play.{arrive, last_of, to_end}
use Rattle.sn_render.proofs.ArrivingLemmas.{opened_begun, opened_put}
use Rattle.sn_render.proofs.GoingLemmas.{begun_first, begun_stands, few_blocks}
use Rattle.sn_render.proofs.OutcomeLemmas.{not_long}
use Rattle.sn_render.proofs.reaching.play_to_end.Goals as goal

pub offer_all-requires-clause-begun : goal.offer_all-requires-clause-begun
offer_all-requires-clause-begun g c = opened_begun c.args.settings.now c.args.engine.now.running c.requires.opened

pub offer_all-requires-clause-put : goal.offer_all-requires-clause-put
offer_all-requires-clause-put g c = opened_put c.args.settings.now (map shape c.args.packets.items) c.args.engine.now.running c.requires.playable c.requires.opened

pub render_blocks-requires-clause-begun : goal.render_blocks-requires-clause-begun
render_blocks-requires-clause-begun g c = λ κs lives. begun_first c.args.settings.now (map shape c.args.packets.items) c.offer_all.new.engine.running (c.in-Ok.ensures ∙ ap (arrive (map shape c.args.packets.items)) c.requires.opened)

pub render_blocks-requires-clause-stands : goal.render_blocks-requires-clause-stands
render_blocks-requires-clause-stands g c = λ κs lives. begun_stands c.args.settings.now (map shape c.args.packets.items) c.offer_all.new.engine.running (c.in-Ok.ensures ∙ ap (arrive (map shape c.args.packets.items)) c.requires.opened)

pub render_blocks-requires-clause-blocks : goal.render_blocks-requires-clause-blocks
render_blocks-requires-clause-blocks g c = λ κs lives. few_blocks c.args.settings.now c.unwrap_or-blocks.result (not_long _ _ c.too_long.ensures.1 c.if-too_long.false)

pub returns-then-too_long-clause-refused : goal.returns-then-too_long-clause-refused
returns-then-too_long-clause-refused g c =
    let s = c.args.settings.now in
    let packets = map shape c.args.packets.items in
    let last : c.unwrap_or-blocks.result ≡ last_of s packets = c.unwrap_or-blocks.ensures ∙ ap (λ o. unwrap_or o 0) (c.last.ensures ∙ ap (λ e. last_due e.waiting) (c.in-Ok.ensures ∙ ap (arrive packets) c.requires.opened)) in
    (last, c.too_long.ensures.0 c.if-too_long.true)

pub returns-in-Ok-render_blocks-clause-end : goal.returns-in-Ok-render_blocks-clause-end
returns-in-Ok-render_blocks-clause-end g c =
    let s = c.args.settings.now in
    let packets = map shape c.args.packets.items in
    let last : c.unwrap_or-blocks.result ≡ last_of s packets = c.unwrap_or-blocks.ensures ∙ ap (λ o. unwrap_or o 0) (c.last.ensures ∙ ap (λ e. last_due e.waiting) (c.in-Ok.ensures ∙ ap (arrive packets) c.requires.opened)) in
    (last, not_long _ _ c.too_long.ensures.1 c.if-too_long.false)

pub returns-in-Ok-render_blocks-clause-world : goal.returns-in-Ok-render_blocks-clause-world
returns-in-Ok-render_blocks-clause-world g c =
    let s = c.args.settings.now in
    let packets = map shape c.args.packets.items in
    let last : c.unwrap_or-blocks.result ≡ last_of s packets = c.unwrap_or-blocks.ensures ∙ ap (λ o. unwrap_or o 0) (c.last.ensures ∙ ap (λ e. last_due e.waiting) (c.in-Ok.ensures ∙ ap (arrive packets) c.requires.opened)) in
    c.in-Ok-render_blocks.ensures.world ∙ (λ i. (to_end (last i) ((c.in-Ok.ensures ∙ ap (arrive packets) c.requires.opened) i)).world)
