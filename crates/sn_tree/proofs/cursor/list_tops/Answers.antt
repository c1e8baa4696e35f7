use Rattle.std.proofs.Common.{[], ◌∷◌, ◌++◌, ◌∙◌, ap, w32, rules}
use Rattle.std.proofs.lemmas.Int.{to_z-of_z}
use Rattle.sn_tree.proofs.CursorLaws.{list_next, list_ends, pass_fewer}
use Rattle.sn_tree.proofs.cursor.list_tops.Goals as goal

pub loop-row-preserved : goal.loop-row-preserved
loop-row-preserved c =
    list_next c.args.rest c.loop-row.rest c.pass.new.self c.loop-row.found.items c.push.new.self.items c.in-Some.row.key c.in-Some.row.item.now c.loop-row.invariant c.in-Some.ensures c.pass.ensures
    (c.in_ok-push.ensures.items ∙ ap (λ z. c.loop-row.found.items ++ z ∷ []) (to_z-of_z w32 c.in-Some.row.item.now.id (search rules)))

pub loop-row-smaller : goal.loop-row-smaller
loop-row-smaller c = pass_fewer c.loop-row.rest c.pass.new.self c.in-Some.row.key c.in-Some.row.item.now c.in-Some.ensures c.pass.ensures

pub returns : goal.returns
returns c = list_ends c.args.rest c.loop-row.rest c.loop-row.found.items c.loop-row.invariant c.in_default.ensures
