use Rattle.std.proofs.Common.{◌≡◌, ◌<◌, ◌||◌, ◌∙◌, false, length, length-set, ap, sym, arith}
use Rattle.std.specs.Prelude.{slice_index_or}
use Rattle.std.proofs.lemmas.List.{length-replicate}
use Rattle.sn_graph.specs.Lanes.{is_in}
use Rattle.sn_mem.proofs.Tables.{table_none, table_step}
use Rattle.sn_graph.proofs.Flags.{whole_table}
use Rattle.sn_graph.proofs.lanes.with_shared.Goals as goal

pub loop-bus-init : goal.loop-bus-init
loop-bus-init c = record {
  size = ap length c.no_buses-flags.ensures ∙ length-replicate 128 false;
  first = sym (table_none (λ n. slice_index_or c.args.above.now n false || is_in n c.args.buses.now));
}

pub loop-bus-preserved : goal.loop-bus-preserved
loop-bus-preserved c =
    let i = c.loop-bus.invariant in
    let low : c.loop-bus.bus < length c.loop-bus.flags = omega (arith, c.loop-bus-test.true, i.size) in
    record {
      size = length-set c.loop-bus.flags c.loop-bus.bus c.is_with.result ∙ i.size;
      first = table_step (λ n. slice_index_or c.args.above.now n false || is_in n c.args.buses.now) c.loop-bus.flags c.loop-bus.bus c.is_with.result low i.first c.is_with.ensures;
    }

pub returns : goal.returns
returns c =
    let last : c.loop-bus.bus ≡ 128 = omega (arith, c.loop-bus-test.false, c.loop-bus.auto.bus-end) in
    whole_table (λ n. slice_index_or c.args.above.now n false || is_in n c.args.buses.now) c.loop-bus.flags c.loop-bus.bus last c.loop-bus.invariant.size c.loop-bus.invariant.first
