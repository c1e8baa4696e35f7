use Rattle.std.proofs.Common.{◌≡◌, ◌∙◌, map, ap, sym, subst, List}
use Rattle.sn_tree.specs.Trees.{running_labels}
use Rattle.sn_reply.specs.declared.events.Notice.{Notice}
use Rattle.sn_world.specs.declared.endings.Ending.{Ending}
use Rattle.sn_world.specs.SettleWords.{walk_triggers}
use Rattle.sn_world.proofs.Walking.{running_held}
use Rattle.sn_settle.specs.Eventful.{SynthAt, synth_at, eventful_in, all_triggers, all_endings, AreWithin}
use Rattle.sn_settle.specs.Telling.{CanLook, AreSeen}
use Rattle.sn_settle.proofs.Events.{triggers_are, endings_are, are_within}
use Rattle.sn_settle.proofs.looking.look_at_all.Goals as goal

pub look_at_synths-requires-clause-within : goal.look_at_synths-requires-clause-within
look_at_synths-requires-clause-within g c =
    let stage = c.args.stage.now in
    let p = c.requires.pictures in
    let is : map synth_at c.as_slice.result.now ≡ eventful_in (running_labels stage.tree.attached) = ap (map synth_at) c.as_slice.ensures ∙ c.requires.eventful.synths_are in
    subst (AreWithin stage.rate stage.pool.region) (sym is) (are_within stage.rate stage.pool.region stage.buffers (running_labels stage.tree.attached) (running_held stage.rate stage.pool.region stage.buffers stage.tree.attached p.synths p.base p.buffers.each p.apart))

pub look_at_synths-requires-clause-can : goal.look_at_synths-requires-clause-can
look_at_synths-requires-clause-can g c =
    let stage = c.args.stage.now in
    let ws = g.P.Port.words c.args.port.now in
    let ls = running_labels stage.tree.attached in
    let is : map synth_at c.as_slice.result.now ≡ eventful_in ls = ap (map synth_at) c.as_slice.ensures ∙ c.requires.eventful.synths_are in
    let told = ap (λ (ss : List SynthAt). all_triggers stage.rate c.args.block ss ws) is ∙ triggers_are stage.rate c.args.block ls ws in
    let ended = ap (λ (ss : List SynthAt). all_endings stage.rate ss ws) is ∙ endings_are stage.rate ls ws in
    subst (λ (es : List Notice). CanLook es (all_endings stage.rate (map synth_at c.as_slice.result.now) ws) c.args.outs.now c.args.endings.now) (sym told)
    (subst (λ (xs : List Ending). CanLook (walk_triggers stage.rate c.args.block ls ws) xs c.args.outs.now c.args.endings.now) (sym ended) c.requires.can)

pub returns-clause-seen : goal.returns-clause-seen
returns-clause-seen g c =
    let stage = c.args.stage.now in
    let ws = g.P.Port.words c.args.port.now in
    let ls = running_labels stage.tree.attached in
    let is : map synth_at c.as_slice.result.now ≡ eventful_in ls = ap (map synth_at) c.as_slice.ensures ∙ c.requires.eventful.synths_are in
    let told = ap (λ (ss : List SynthAt). all_triggers stage.rate c.args.block ss ws) is ∙ triggers_are stage.rate c.args.block ls ws in
    let ended = ap (λ (ss : List SynthAt). all_endings stage.rate ss ws) is ∙ endings_are stage.rate ls ws in
    subst (λ (xs : List Ending). AreSeen stage.notify (walk_triggers stage.rate c.args.block ls ws) xs c.args.outs.now c.look_at_synths.new.outs c.args.endings.now c.look_at_synths.new.endings) ended
    (subst (λ (es : List Notice). AreSeen stage.notify es (all_endings stage.rate (map synth_at c.as_slice.result.now) ws) c.args.outs.now c.look_at_synths.new.outs c.args.endings.now c.look_at_synths.new.endings) told c.look_at_synths.ensures.seen)
