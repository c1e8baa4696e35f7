use Rattle.std.proofs.Common.{◌≡◌, ◌∙◌, ◌++◌, List, ap, map, sym}
use Rattle.sn_tree.specs.declared.walk.Visit.{Visit}
use Rattle.sn_tree.specs.Trees.{Label, running_labels, with_payloads}
use Rattle.sn_world.specs.declared.stage.Held.{Held}
use Rattle.sn_foot.specs.Footprints.{is_there}
use Rattle.sn_report.specs.Costs.{cost_of, units_in}
use Rattle.sn_report.specs.Reports.{Sight, held_sight, node_lines, stage_weight, synths_among, units_among}
use Rattle.sn_report.specs.Visits.{sight_in}
use Rattle.sn_report.proofs.Worlds.{made_of, sights_are}
use Rattle.sn_report.proofs.reporting.report.Goals as goal

pub returns-clause-text : goal.returns-clause-text
returns-clause-text c =
    let stage = c.args.stage.now in
    let there = is_there stage.buffers in
    let labels : List (Label Sight) = running_labels (with_payloads held_sight stage.tree.attached) in
    let seen : map sight_in c.in_ok-visits.visits.items ≡ labels = sights_are stage.tree.attached c.in_ok-visits.visits.items c.in_ok-visits.ensures in
    let of_all = λ (vs : List (Visit Held)) (e : vs ≡ c.in_ok-visits.visits.items). ap (map sight_in) e ∙ seen in
    let chain = c.in_ok-chain.ensures.chain in
    made_of there labels (stage_weight stage) c.new-text.result.bytes c.put_head.new.out.bytes c.put_nodes.new.out.bytes c.put_chain_line.new.out.bytes c.synths_among.result c.in_ok-units.units c.in-Some.cost c.as_slice-2.result.now
    c.new-text.ensures c.in_ok-put_head.ensures
    (c.in_ok-put_nodes.ensures ∙ ap (λ (ls : List (Label Sight)). c.put_head.new.out.bytes ++ node_lines there ls) (of_all c.deref-3.result.now c.deref-3.ensures.value))
    c.in_ok-put_chain_line.ensures
    (c.synths_among.ensures ∙ ap synths_among (of_all c.deref-2.result.now c.deref-2.ensures.value))
    (c.in_ok-units.ensures ∙ ap units_among (of_all c.deref.result.now c.deref.ensures.value))
    (c.in-Some.ensures.some ∙ (ap (cost_of (units_in stage)) (c.as_slice.ensures ∙ chain) ∙ sym c.in_ok-chain.ensures.longest.cost_is))
    (c.as_slice-2.ensures ∙ chain)
