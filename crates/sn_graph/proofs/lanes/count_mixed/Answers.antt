use Rattle.std.proofs.Common.{◌≤◌, ◌<◌, ◌∙◌, ℕ, List, length, get_or, ap, refl, sym, arith}
use Rattle.sn_graph.proofs.Laying.{few_mixed, next_mixed, next_not, none_left}
use Rattle.sn_graph.proofs.lanes.count_mixed.Goals as goal
use Rattle.sn_graph.proofs.lanes.count_mixed.Goals.{then-mixes, else-mixes}

pub mixes-requires : goal.mixes-requires
mixes-requires c =
    let lt : c.loop-bus.bus-index < length c.args.buses.now = omega arith in
    c.requires.buses c.loop-bus.bus-index 0 lt

pub overflow_add-count : goal.overflow_add-count
overflow_add-count c =
    let i : ℕ = c.loop-bus.bus-index in
    let ns : List ℕ = c.args.buses.now in
    let v = c.args.voice.now in
    let lt : i < length ns = omega arith in
    omega (arith, c.loop-bus.invariant, few_mixed ns v, c.requires.few, ap (λ (ms : List ℕ). length ms) (next_mixed ns i (get_or ns i 0) v lt refl (sym c.mixes.ensures ∙ c.if-mixes.true)))

pub loop-bus-preserved : goal.loop-bus-preserved
loop-bus-preserved c =
    let i : ℕ = c.loop-bus.bus-index in
    let ns : List ℕ = c.args.buses.now in
    let v = c.args.voice.now in
    let n : ℕ = get_or ns i 0 in
    let lt : i < length ns = omega arith in
    elim c.if-mixes.branch [
      | then-mixes w ↦ omega (arith, w.count-is, c.loop-bus.invariant, ap (λ (ms : List ℕ). length ms) (next_mixed ns i n v lt refl (sym c.mixes.ensures ∙ w.if-mixes.true)))
      | else-mixes w ↦ omega (arith, w.count-is, c.loop-bus.invariant, ap (λ (ms : List ℕ). length ms) (next_not ns i n v lt refl (sym c.mixes.ensures ∙ w.if-mixes.false)))
    ]

pub returns : goal.returns
returns c =
    let past : length c.args.buses.now ≤ c.loop-bus.bus-index = omega arith in
    omega (arith, c.loop-bus.invariant, ap (λ (ms : List ℕ). length ms) (none_left c.args.buses.now c.loop-bus.bus-index c.args.voice.now past))
