use Rattle.std.proofs.Common.{◌≡◌, ◌∙◌, map, ap, sym, subst, List}
use Rattle.sn_tree.specs.Trees.{running_labels}
use Rattle.sn_world.proofs.Walking.{running_held}
use Rattle.sn_settle.specs.Eventful.{SynthAt, synth_at, eventful_in, all_settled, AreWithin}
use Rattle.sn_settle.proofs.Events.{settled_are, are_within}
use Rattle.sn_settle.proofs.words.settle_words.Goals as goal

pub settle_synths-requires-clause-within : goal.settle_synths-requires-clause-within
settle_synths-requires-clause-within g c =
    let stage = c.args.stage.now in
    let p = c.requires.pictures in
    let is : map synth_at c.as_slice.result.now ≡ eventful_in (running_labels stage.tree.attached) = ap (map synth_at) c.as_slice.ensures ∙ c.requires.eventful.synths_are in
    subst (AreWithin stage.rate stage.pool.region) (sym is) (are_within stage.rate stage.pool.region stage.buffers (running_labels stage.tree.attached) (running_held stage.rate stage.pool.region stage.buffers stage.tree.attached p.synths p.base p.buffers.each p.apart))

pub returns-clause-words : goal.returns-clause-words
returns-clause-words g c =
    let stage = c.args.stage.now in
    let ws = g.P.Port.words c.args.port.now in
    let ls = running_labels stage.tree.attached in
    let is : map synth_at c.as_slice.result.now ≡ eventful_in ls = ap (map synth_at) c.as_slice.ensures ∙ c.requires.eventful.synths_are in
    c.settle_synths.ensures.words ∙ ap (λ (ss : List SynthAt). all_settled stage.rate ss ws) is ∙ settled_are stage.rate ls ws
