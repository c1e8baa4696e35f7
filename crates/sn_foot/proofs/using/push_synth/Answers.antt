use Rattle.std.proofs.Common.{◌≡◌, ◌≤◌, ◌∙◌, [], List, ap, length, rules, subst, sym}
use Rattle.std.proofs.lemmas.Result.{on_ok_weaker}
use Rattle.sn_foot.specs.declared.uses.Use.{Use}
use Rattle.sn_foot.specs.Putting.{put_controls, put_units}
use Rattle.sn_foot.proofs.Behind.{judged_behind, own_behind, there_behind}
use Rattle.sn_foot.proofs.using.push_synth.Goals as goal

pub judge-requires : goal.judge-requires
judge-requires c =
    let controls = c.args.controls.now in
    let units = c.args.units.now in
    let us : List Use = c.args.uses.now.items in
    let own : List Use = put_units controls units (put_controls controls []) in
    let is = c.in_ok-push_units.ensures ∙ ap (λ (ws : List Use). put_units controls units ws) c.in_ok-push_controls.ensures ∙ own_behind controls units us in
    let at : c.len-first.result ≡ length us = search rules in
    subst (λ n. n ≤ length c.push_units.new.uses.items) (sym at) (there_behind us own c.push_units.new.uses.items is)

pub returns : goal.returns
returns c =
    let controls = c.args.controls.now in
    let units = c.args.units.now in
    let us : List Use = c.args.uses.now.items in
    let own : List Use = put_units controls units (put_controls controls []) in
    let is = c.in_ok-push_units.ensures ∙ ap (λ (ws : List Use). put_units controls units ws) c.in_ok-push_controls.ensures ∙ own_behind controls units us in
    let at : c.len-first.result ≡ length us = search rules in
    on_ok_weaker c.judge.result (judged_behind us own c.push_units.new.uses.items c.judge.new.uses.items c.len-first.result at is) c.judge.ensures
