use Rattle.std.proofs.Common.{◌≡◌, ◌∷◌, ◌++◌, [], ℤ, None, nat_abs, map, set, ap, ◌∙◌, arith, rules}
use Rattle.std.specs.Prelude.{FitsSigned, codes}
use Rattle.std.specs.Int.{w32}
use Rattle.std.proofs.lemmas.Int.{to_z-of_z}
use Rattle.sn_mem.specs.declared.extents.Extent.{Extent}
use Rattle.sn_osc.specs.Shape.{argument_of}
use Rattle.sn_pool.specs.Pools.{PoolState, times, without_extent}
use Rattle.sn_reply.specs.declared.replies.To.TheVariants.{Client}
use Rattle.sn_world.specs.declared.stage.Stage.{Stage}
use Rattle.sn_world.specs.BufferNumbers.{at_number, done_message}
use Rattle.sn_buscmd.proofs.BufferLemmas.{free_missing, live_there, freed_row, freed_pictures}
use Rattle.sn_buscmd.proofs.buffer_freeing.run_buffer_free.Goals as goal

pub returns-in_default-find-clause-row : goal.returns-in_default-find-clause-row
returns-in_default-find-clause-row c = λ words pictures.
    let fits : FitsSigned w32 c.in-Some.number = search rules in
    let same = to_z-of_z w32 c.in-Some.number fits in
    free_missing c.args.from (map argument_of c.args.arguments.now) c.args.stage.now words c.args.replies.now c.in-Some.number c.in-Some.ensures (c.in_default-find.ensures ∙ ap (at_number c.args.stage.now.buffers) same)

pub give_back-requires-clause-live : goal.give_back-requires-clause-live
give_back-requires-clause-live c =
    let fits : FitsSigned w32 c.in-Some.number = search rules in
    let same = to_z-of_z w32 c.in-Some.number fits in
    live_there c.args.stage.now c.requires.pictures.0 c.in-Some.number c.in-Some-find.place c.requires.pictures.1 (c.in-Some-find.ensures ∙ ap (at_number c.args.stage.now.buffers) same)

pub returns-in-Ok-clause-row : goal.returns-in-Ok-clause-row
returns-in-Ok-clause-row c = λ words pictures.
    let n : ℤ = c.in-Some.number in
    let fits : FitsSigned w32 c.in-Some.number = search rules in
    let same = to_z-of_z w32 c.in-Some.number fits in
    let stage : Stage = c.args.stage.now in
    let e : Extent = c.in-Some-find.place.extent in
    let buffers : c.set.new.self ≡ set stage.buffers (nat_abs n) None = c.set.ensures ∙ ap (λ m. set stage.buffers (nat_abs m) None) same in
    freed_row stage _ n c.in-Some-find.place (c.in-Some-find.ensures ∙ ap (at_number stage.buffers) same) (without_extent e stage.pool.live)
    (λ x. omega (arith, c.in-Ok.ensures.counted x, ap (λ (p : PoolState). times x p.live) c.in-Ok.ensures.ok))
    (λ i. record { tree = stage.tree; defs = stage.defs; pool = c.in-Ok.ensures.ok i; buffers = buffers i; notify = stage.notify; next_id = stage.next_id; rate = stage.rate })
    words pictures c.args.from (map argument_of c.args.arguments.now) c.args.replies.now c.tell_done.new.replies c.in-Some.ensures
    (c.in_ok-tell_done.ensures.ok ∙ ap (λ m. c.args.replies.now ++ (record { to = Client c.args.from; message = done_message (codes "/b_free") m }) ∷ []) same)

pub returns-in-Ok-clause-pictures : goal.returns-in-Ok-clause-pictures
returns-in-Ok-clause-pictures c = λ words pictures.
    let n : ℤ = c.in-Some.number in
    let fits : FitsSigned w32 c.in-Some.number = search rules in
    let same = to_z-of_z w32 c.in-Some.number fits in
    let stage : Stage = c.args.stage.now in
    let e : Extent = c.in-Some-find.place.extent in
    let buffers : c.set.new.self ≡ set stage.buffers (nat_abs n) None = c.set.ensures ∙ ap (λ m. set stage.buffers (nat_abs m) None) same in
    freed_pictures stage _ n c.in-Some-find.place (c.in-Some-find.ensures ∙ ap (at_number stage.buffers) same) (without_extent e stage.pool.live)
    (λ x. omega (arith, c.in-Ok.ensures.counted x, ap (λ (p : PoolState). times x p.live) c.in-Ok.ensures.ok))
    (λ i. record { tree = stage.tree; defs = stage.defs; pool = c.in-Ok.ensures.ok i; buffers = buffers i; notify = stage.notify; next_id = stage.next_id; rate = stage.rate })
    words pictures
