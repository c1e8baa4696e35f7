use Rattle.std.proofs.Common.{◌≡◌, ◌∙◌, ap, sym, map, Some}
use Rattle.std.specs.Option.{option_map}
use Rattle.sn_osc.specs.Shape.{argument_of}
use Rattle.sn_world.specs.NodeOrder.{node_order}
use Rattle.sn_world.specs.World.{turn_of}
use Rattle.sn_nodecmd.specs.Ordering.{order_of}
use Rattle.sn_nodecmd.proofs.OrderLemmas.{order_refused, order_followed}
use Rattle.sn_nodecmd.proofs.ordering.run_order.Goals as goal

pub returns-in-Some-refusal-clause-row : goal.returns-in-Some-refusal-clause-row
returns-in-Some-refusal-clause-row c = λ from words.
    let asked : Some (order_of c.in-Some.asked) ≡ node_order (map argument_of c.args.arguments.now) = sym (ap (option_map order_of) c.in-Some.is) ∙ c.in_ok-asked.ensures.order in
    order_refused c.args.stage.now words c.args.replies.now _ (order_of c.in-Some.asked) asked c.in-Some-refusal.reason c.in-Some-refusal.ensures

pub returns-clause-row : goal.returns-clause-row
returns-clause-row c = λ from words.
    let asked : Some (order_of c.in-Some.asked) ≡ node_order (map argument_of c.args.arguments.now) = sym (ap (option_map order_of) c.in-Some.is) ∙ c.in_ok-asked.ensures.order in
    order_followed c.args.stage.now words c.args.replies.now _ (order_of c.in-Some.asked) asked c.deref.result.now c.each.result (turn_of c.each.new.stage words c.each.new.replies)
    c.in_default-refusal.ensures (c.deref.ensures.value ∙ c.in_ok-moves.ensures.moves) (c.each.ensures.row words)
