use Rattle.std.proofs.Common.{◌≡◌, ◌∷◌, ◌++◌, [], ℤ, pos, map, ap, ◌∙◌, rules}
use Rattle.std.specs.Prelude.{FitsSigned, codes}
use Rattle.std.specs.Int.{w32}
use Rattle.std.proofs.lemmas.Int.{to_z-of_z}
use Rattle.sn_osc.specs.Shape.{argument_of}
use Rattle.sn_reply.specs.declared.replies.To.TheVariants.{Client}
use Rattle.sn_mem.specs.Buffers.{samples_of}
use Rattle.sn_world.specs.BufferNumbers.{at_number, done_message}
use Rattle.sn_world.specs.BufferCommands.{zeros}
use Rattle.sn_buscmd.proofs.SampleLemmas.{filled-entirely, length-samples}
use Rattle.sn_buscmd.proofs.ResamplingLemmas.{may_write, resampled_pictures, kept_outside, zeroed_row, zero_missing}
use Rattle.sn_buscmd.proofs.buffer_zeroing.run_buffer_zero.Goals as goal

pub returns-in_default-find-clause-row : goal.returns-in_default-find-clause-row
returns-in_default-find-clause-row g c =
    let fits : FitsSigned w32 c.in-Some.number = search rules in
    let same = to_z-of_z w32 c.in-Some.number fits in
    zero_missing c.args.from (map argument_of c.args.arguments.now) c.args.stage.now (g.P.Port.words c.args.port.now) c.args.replies.now c.in-Some.number c.in-Some.ensures (c.in_default-find.ensures ∙ ap (at_number c.args.stage.now.buffers) same)

pub fill_samples-requires-clause-foot : goal.fill_samples-requires-clause-foot
fill_samples-requires-clause-foot g c =
    let fits : FitsSigned w32 c.in-Some.number = search rules in
    let same = to_z-of_z w32 c.in-Some.number fits in
    may_write c.args.stage.now (g.P.Port.words c.args.port.now) c.in-Some.number c.in-Some-find.place (c.in-Some-find.ensures ∙ ap (at_number c.args.stage.now.buffers) same) c.requires.pictures (g.P.Port.foot c.args.port.now) c.requires.foot

pub returns-clause-row : goal.returns-clause-row
returns-clause-row g c =
    let n : ℤ = c.in-Some.number in
    let fits : FitsSigned w32 c.in-Some.number = search rules in
    let same = to_z-of_z w32 c.in-Some.number fits in
    let words = g.P.Port.words c.args.port.now in
    let p = c.in-Some-find.place in
    let zeroed : samples_of (g.P.Port.words c.fill_samples.new.port) p.extent ≡ zeros (samples_of words p.extent) = c.fill_samples.ensures.samples ∙ filled-entirely (samples_of words p.extent) p.extent.len (pos 0) (length-samples words p.extent) in
    zeroed_row c.args.stage.now words n p (c.in-Some-find.ensures ∙ ap (at_number c.args.stage.now.buffers) same) c.requires.pictures
    (g.P.Port.words c.fill_samples.new.port) c.fill_samples.ensures.others zeroed
    c.args.from (map argument_of c.args.arguments.now) c.args.replies.now c.tell_done.new.replies c.in-Some.ensures
    (c.in_ok-tell_done.ensures.ok ∙ ap (λ m. c.args.replies.now ++ (record { to = Client c.args.from; message = done_message (codes "/b_zero") m }) ∷ []) same)

pub returns-clause-pictures : goal.returns-clause-pictures
returns-clause-pictures g c =
    let fits : FitsSigned w32 c.in-Some.number = search rules in
    let same = to_z-of_z w32 c.in-Some.number fits in
    let words = g.P.Port.words c.args.port.now in
    let p = c.in-Some-find.place in
    let zeroed : samples_of (g.P.Port.words c.fill_samples.new.port) p.extent ≡ zeros (samples_of words p.extent) = c.fill_samples.ensures.samples ∙ filled-entirely (samples_of words p.extent) p.extent.len (pos 0) (length-samples words p.extent) in
    resampled_pictures c.args.stage.now words c.in-Some.number p (c.in-Some-find.ensures ∙ ap (at_number c.args.stage.now.buffers) same) c.requires.pictures
    (g.P.Port.words c.fill_samples.new.port) zeros c.fill_samples.ensures.others zeroed

pub returns-clause-others : goal.returns-clause-others
returns-clause-others g c =
    let fits : FitsSigned w32 c.in-Some.number = search rules in
    let same = to_z-of_z w32 c.in-Some.number fits in
    let words = g.P.Port.words c.args.port.now in
    let p = c.in-Some-find.place in
    let zeroed : samples_of (g.P.Port.words c.fill_samples.new.port) p.extent ≡ zeros (samples_of words p.extent) = c.fill_samples.ensures.samples ∙ filled-entirely (samples_of words p.extent) p.extent.len (pos 0) (length-samples words p.extent) in
    kept_outside c.args.stage.now words c.in-Some.number p (c.in-Some-find.ensures ∙ ap (at_number c.args.stage.now.buffers) same) c.requires.pictures
    (g.P.Port.words c.fill_samples.new.port) zeros c.fill_samples.ensures.others zeroed
