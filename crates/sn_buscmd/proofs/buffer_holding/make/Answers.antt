use Rattle.std.proofs.Common.{◌≡◌, ◌∷◌, ◌++◌, [], Option, Some, Ok, nat_abs, set, ap, subst, ◌∙◌, rules}
use Rattle.std.specs.Prelude.{FitsSigned}
use Rattle.std.specs.Int.{w32}
use Rattle.std.proofs.lemmas.Int.{to_z-of_z}
use Rattle.sn_reply.specs.declared.replies.To.TheVariants.{Client}
use Rattle.sn_world.specs.declared.stage.Stage.{Stage}
use Rattle.sn_world.specs.BufferNumbers.{at_number, done_message}
use Rattle.sn_mem.specs.declared.buffers.BufferPlace.{BufferPlace}
use Rattle.sn_buscmd.specs.Samples.{Places}
use Rattle.sn_buscmd.specs.Making.{command_of, samples_for}
use Rattle.sn_buscmd.proofs.MakingLemmas.{live_if, full_row, made_pictures, made_row}
use Rattle.sn_buscmd.proofs.buffer_holding.make.Goals as goal

pub take_place-requires-clause-live : goal.take_place-requires-clause-live
take_place-requires-clause-live g c =
    let fits : FitsSigned w32 c.args.new.now.number = search rules in
    let same = to_z-of_z w32 c.args.new.now.number fits in
    live_if c.args.stage.now (g.P.Port.words c.args.port.now) c.args.new.now.number c.find-old.result c.requires.pictures (c.find-old.ensures ∙ ap (at_number c.args.stage.now.buffers) same)

pub returns-in-Ok-None-clause-row : goal.returns-in-Ok-None-clause-row
returns-in-Ok-None-clause-row g c =
    let fits : FitsSigned w32 c.args.new.now.number = search rules in
    let same = to_z-of_z w32 c.args.new.now.number fits in
    let none = subst (λ (q : Option BufferPlace). Places c.find-old.result c.args.new.now c.args.stage.now.pool c.take_place.new.pool (Ok q)) c.in-Ok-None.field-0-is c.in-Ok-None.ensures in
    full_row c.args.stage.now (g.P.Port.words c.args.port.now) c.args.new.now c.requires.number c.requires.pictures c.find-old.result (c.find-old.ensures ∙ ap (at_number c.args.stage.now.buffers) same)
    (command_of c.args.samples.now) (samples_for c.args.new.now c.args.samples.now) c.args.from c.args.replies.now none.0.left none.0.are_left none.0.none

pub returns-in-Ok-Some-clause-pictures : goal.returns-in-Ok-Some-clause-pictures
returns-in-Ok-Some-clause-pictures g c =
    let fits : FitsSigned w32 c.args.new.now.number = search rules in
    let same = to_z-of_z w32 c.args.new.now.number fits in
    let stage : Stage = c.args.stage.now in
    let p = c.in-Ok-Some.place in
    let placed = subst (λ (q : Option BufferPlace). Places c.find-old.result c.args.new.now stage.pool c.take_place.new.pool (Ok q)) c.in-Ok-Some.field-0-is c.in-Ok-Some.ensures in
    let buffers : c.set.new.self ≡ set stage.buffers (nat_abs c.args.new.now.number) (Some p) = c.set.ensures ∙ ap (λ m. set stage.buffers (nat_abs m) (Some p)) same in
    made_pictures stage (g.P.Port.words c.args.port.now) c.args.new.now c.requires.number c.requires.pictures c.find-old.result (c.find-old.ensures ∙ ap (at_number stage.buffers) same)
    _ (g.P.Port.words c.set_first.new.port) p c.requires.new placed
    (λ i. record { tree = stage.tree; defs = stage.defs; pool = c.take_place.new.pool; buffers = buffers i; notify = stage.notify; next_id = stage.next_id; rate = stage.rate })
    c.set_first.ensures.others

pub returns-in-Ok-Some-clause-row : goal.returns-in-Ok-Some-clause-row
returns-in-Ok-Some-clause-row g c =
    let fits : FitsSigned w32 c.args.new.now.number = search rules in
    let same = to_z-of_z w32 c.args.new.now.number fits in
    let stage : Stage = c.args.stage.now in
    let words = g.P.Port.words c.args.port.now in
    let p = c.in-Ok-Some.place in
    let placed = subst (λ (q : Option BufferPlace). Places c.find-old.result c.args.new.now stage.pool c.take_place.new.pool (Ok q)) c.in-Ok-Some.field-0-is c.in-Ok-Some.ensures in
    let buffers : c.set.new.self ≡ set stage.buffers (nat_abs c.args.new.now.number) (Some p) = c.set.ensures ∙ ap (λ m. set stage.buffers (nat_abs m) (Some p)) same in
    made_row stage words c.args.new.now c.requires.number c.requires.pictures c.find-old.result (c.find-old.ensures ∙ ap (at_number stage.buffers) same)
    _ (g.P.Port.words c.set_first.new.port) p c.requires.new placed
    (λ i. record { tree = stage.tree; defs = stage.defs; pool = c.take_place.new.pool; buffers = buffers i; notify = stage.notify; next_id = stage.next_id; rate = stage.rate })
    c.set_first.ensures.others (command_of c.args.samples.now) (samples_for c.args.new.now c.args.samples.now)
    c.set_first.ensures.samples
    c.args.from c.args.replies.now c.tell_made.new.replies
    (c.in_ok-tell_made.ensures.ok ∙ ap (λ m. c.args.replies.now ++ (record { to = Client c.args.from; message = done_message (command_of c.args.samples.now) m }) ∷ []) same)
