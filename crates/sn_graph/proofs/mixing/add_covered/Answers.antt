use Rattle.std.proofs.Common.{◌<◌, ◌+◌, ◌*◌, ◌||◌, ◌∙◌, ℕ, Bool, false, ap, ap₂, sym, arith}
use Rattle.std.specs.Prelude.{min, slice_index_or}
use Rattle.std.specs.Int.{div_ceil}
use Rattle.std.proofs.lemmas.List.{get_or_default, same_lists}
use Rattle.sn_mem.specs.Words.{covers}
use Rattle.sn_mem.proofs.Tables.{length-table}
use Rattle.sn_mem.proofs.Windows.{table_at}
use Rattle.sn_mem.specs.Blocks.{table}
use Rattle.sn_mem.specs.declared.extents.Extent.{Extent}
use Rattle.sn_graph.proofs.Covering.{covers_run}
use Rattle.sn_graph.proofs.mixing.add_covered.Goals as goal

pub returns : goal.returns
returns c =
    let e : Extent = c.args.extent in
    let f : ℕ → Bool = λ n. slice_index_or c.args.flags.now n false || covers e (65 * n) in
    let i = c.loop-bus.invariant in
    same_lists c.loop-bus.flags (table f 128) (i.size ∙ sym (length-table f 128))
    (λ n d lt.
    let low : n < 128 = omega (arith, lt, i.size) in
    get_or_default c.loop-bus.flags n d false lt
    ∙ i.each n low
    ∙ ap (λ b. slice_index_or c.args.flags.now n false || b)
    (covers_run e n c.first_bus-first.result c.min-past.result c.loop-bus.bus low (c.first_bus-first.ensures ∙ ap (λ (w : ℕ). div_ceil w 65) c.from-begin.ensures) (c.min-past.ensures ∙ ap (λ (w : ℕ). min w 128) (c.first_bus.ensures ∙ ap₂ (λ (a b : ℕ). div_ceil (a + b) 65) c.from-begin.ensures c.from.ensures)) c.loop-bus-test.false c.loop-bus.auto.bus-end)
    ∙ sym (table_at f 128 n d low))
