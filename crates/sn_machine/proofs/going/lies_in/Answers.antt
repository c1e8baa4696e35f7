use Rattle.std.proofs.Common.{◌≡◌, ◌∙◌, ap, sym, true}
use Rattle.std.specs.List.{list_all}
use Rattle.sn_machine.specs.Calls.{ends_below}
use Rattle.sn_machine.proofs.Covering.{foot_below}
use Rattle.sn_machine.proofs.going.lies_in.Goals as goal

pub returns-then-end_below : goal.returns-then-end_below
returns-then-end_below c t =
    let f = c.args.foot.now in
    let all = list_all (ends_below c.args.size) in
    let first : all f.writes ≡ true = sym (c.end_below.ensures ∙ ap all c.as_slice.ensures) ∙ c.if-end_below.true in
    let second : all f.reads ≡ true = sym (c.end_below-then-end_below.ensures ∙ ap all c.as_slice-then-end_below.ensures) ∙ t in
    foot_below c.args.size f first second
