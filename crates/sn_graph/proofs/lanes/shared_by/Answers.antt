use Rattle.std.proofs.Common.{◌≡◌, ◌&&◌, ◌∙◌, ℕ, Bool, List, false, ap, sym, arith}
use Rattle.std.specs.Prelude.{not, slice_index_or}
use Rattle.std.specs.List.{filter}
use Rattle.sn_mem.specs.Blocks.{table}
use Rattle.sn_mem.proofs.Tables.{table_none}
use Rattle.sn_graph.proofs.Laying.{fails, passes}
use Rattle.sn_graph.proofs.lanes.shared_by.Goals as goal
use Rattle.sn_graph.proofs.lanes.shared_by.Goals.{then-is_shared+in_ok-push, else-is_shared}

pub loop-bus-init : goal.loop-bus-init
loop-bus-init c =
    let shared : ℕ → Bool = λ n. slice_index_or c.args.two_mix.now n false && not (slice_index_or c.args.above.now n false) in
    c.new-buses.ensures.items ∙ sym (ap (λ (ks : List ℕ). filter shared ks) (table_none (λ (k : ℕ). k)))

pub loop-bus-preserved : goal.loop-bus-preserved
loop-bus-preserved c =
    let shared : ℕ → Bool = λ n. slice_index_or c.args.two_mix.now n false && not (slice_index_or c.args.above.now n false) in
    let n : ℕ = c.loop-bus.bus in
    let before : List ℕ = c.loop-bus.buses.items in
    elim c.if-is_shared.branch [
      | then-is_shared+in_ok-push w ↦ passes shared n before c.if-is_shared.buses.items c.loop-bus.invariant (sym c.is_shared.ensures ∙ w.if-is_shared.true) (ap (λ v. v.items) w.buses-is ∙ w.in_ok-push.ensures.items)
      | else-is_shared w ↦ ap (λ v. v.items) w.buses-is ∙ fails shared n before c.loop-bus.invariant (sym c.is_shared.ensures ∙ w.if-is_shared.false)
    ]

pub returns : goal.returns
returns c =
    let shared : ℕ → Bool = λ n. slice_index_or c.args.two_mix.now n false && not (slice_index_or c.args.above.now n false) in
    let last : c.loop-bus.bus ≡ 128 = omega (arith, c.loop-bus-test.false, c.loop-bus.auto.bus-end) in
    record { buses = c.loop-bus.invariant ∙ ap (λ k. filter shared (table (λ (n : ℕ). n) k)) last }
