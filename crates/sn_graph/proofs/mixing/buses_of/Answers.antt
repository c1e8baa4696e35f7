use Rattle.std.proofs.Common.{◌≤◌, ◌*◌, ◌∙◌, List, length, ap, take_all, arith}
use Rattle.sn_mem.specs.declared.extents.Extent.{Extent}
use Rattle.sn_mem.specs.Blocks.{table}
use Rattle.sn_mem.specs.Words.{has}
use Rattle.sn_graph.proofs.Flags.{none_told}
use Rattle.sn_graph.proofs.Covering.{covers_next}
use Rattle.sn_graph.proofs.mixing.buses_of.Goals as goal

pub loop-extent-init : goal.loop-extent-init
loop-extent-init c = c.no_buses-flags.ensures ∙ none_told 128

pub loop-extent-preserved : goal.loop-extent-preserved
loop-extent-preserved c =
    let items : List Extent = c.as_slice-extent-items.result.now in
    c.add_covered.ensures ∙ covers_next items c.args.voice.now.reach.mixes c.loop-extent.extent-index _ c.loop-extent.flags c.as_slice-extent-items.ensures c.loop-extent-test.true c.loop-extent.invariant

pub returns : goal.returns
returns c =
    let mixes : List Extent = c.args.voice.now.reach.mixes in
    let past : length mixes ≤ c.loop-extent.extent-index = omega (arith, c.loop-extent-test.false, ap (λ (es : List Extent). length es) c.as_slice-extent-items.ensures) in
    c.loop-extent.invariant ∙ ap (λ (es : List Extent). table (λ n. has es (65 * n)) 128) (take_all c.loop-extent.extent-index mixes past)
