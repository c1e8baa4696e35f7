use Rattle.std.proofs.Common.{◌≡◌, ◌*◌, drop, ap, ◌∙◌, refl}
use Rattle.sn_shelf.specs.declared.waves.Recording.{Recording}
use Rattle.sn_shelf.proofs.PartLemmas.{cut_heard, cut_whole}
use Rattle.sn_shelf.proofs.parts.cut.Goals as goal

pub returns-clause-value : goal.returns-clause-value
returns-clause-value c =
    let whole : Recording = c.args.whole.now in
    let part : Recording = record { channels = whole.channels; width = whole.width; frames = c.args.frames; sounding = c.from_byte.result } in
    let place : c.from_byte.result.now ≡ drop (c.args.start * whole.channels * whole.width) whole.sounding.now = c.from_byte.ensures ∙ ap (λ n. drop n whole.sounding.now) c.bytes_of.ensures.value in
    cut_heard whole part c.args.start c.requires.whole c.requires.there refl refl place

pub returns-clause-whole : goal.returns-clause-whole
returns-clause-whole c =
    let whole : Recording = c.args.whole.now in
    let part : Recording = record { channels = whole.channels; width = whole.width; frames = c.args.frames; sounding = c.from_byte.result } in
    let place : c.from_byte.result.now ≡ drop (c.args.start * whole.channels * whole.width) whole.sounding.now = c.from_byte.ensures ∙ ap (λ n. drop n whole.sounding.now) c.bytes_of.ensures.value in
    cut_whole whole part c.args.start c.requires.whole c.requires.some c.requires.there refl refl place
