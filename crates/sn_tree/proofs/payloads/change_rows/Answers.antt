use Rattle.std.proofs.Common.{subst, sym}
use Rattle.sn_tree.proofs.ReadLaws.{IsChangingBy, change_start, change_next, change_end}
use Rattle.sn_tree.proofs.payloads.change_rows.Goals as goal

pub loop-row-init : goal.loop-row-init
loop-row-init g c =
    subst (IsChangingBy (g.C.ChangePayload.changed c.args.change.now) c.args.root.now c.args.payloads.now.slots c.args.rows c.args.root.now c.args.payloads.now.slots) (sym c.into_iter-row-iterator.ensures.into_iter_gives)
    (change_start (g.C.ChangePayload.changed c.args.change.now) c.args.root.now c.args.payloads.now.slots c.args.rows)

pub loop-row-preserved : goal.loop-row-preserved
loop-row-preserved g c =
    change_next (g.C.ChangePayload.changed c.args.change.now) c.args.root.now c.args.payloads.now.slots c.args.rows c.loop-row.root c.change_at.new.root c.loop-row.payloads.slots c.change_at.new.payloads.slots c.loop-row.row-iterator _ c.in-Some.row.key c.in-Some.row.item.now
    c.loop-row.invariant c.in-Some.ensures.steps c.change_at.ensures

pub returns : goal.returns
returns g c =
    change_end (g.C.ChangePayload.changed c.args.change.now) c.args.root.now c.args.payloads.now.slots c.args.rows c.loop-row.root c.loop-row.payloads.slots c.loop-row.row-iterator c.loop-row.invariant c.in-None.ensures.steps.0
