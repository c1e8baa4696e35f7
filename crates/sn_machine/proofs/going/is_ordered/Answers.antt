use Rattle.std.proofs.Common.{rules, ◌≡◌, ◌∙◌, ◌<◌, ℕ, List, length, get_or, subst, sym, true, arith}
use Rattle.std.specs.Prelude.{Contains}
use Rattle.std.proofs.lemmas.List.Elements.{Contains-get_or}
use Rattle.sn_round.specs.Jobs.{direct, through, predecessors}
use Rattle.sn_machine.proofs.going.is_ordered.Goals as goal

pub returns-then-before-first : goal.returns-then-before-first
returns-then-before-first c = λ _.
    let xs = c.as_slice-before-items.result.now in
    let k = c.loop-before.before-index in
    let in_list : k < length xs = search rules in
    let same : get_or xs k 0 ≡ c.args.first = search rules in
    direct (subst (λ x. Contains (predecessors c.args.plan.now c.args.second) x) same (subst (λ (ys : List ℕ). Contains ys (get_or xs k 0)) (c.as_slice-before-items.ensures ∙ c.predecessors.ensures) (Contains-get_or xs k 0 in_list)))

pub bounds-later-before : goal.bounds-later-before
bounds-later-before c =
    let xs = c.as_slice-before-items.result.now in
    let k = c.loop-before.before-index in
    let in_list : k < length xs = search rules in
    let named : Contains (predecessors c.args.plan.now c.args.second) (get_or xs k 0) = subst (λ (ys : List ℕ). Contains ys (get_or xs k 0)) (c.as_slice-before-items.ensures ∙ c.predecessors.ensures) (Contains-get_or xs k 0 in_list) in
    let low : get_or xs k 0 < c.args.second = c.is_well_formed.ensures.lower (get_or xs k 0) c.args.second c.requires.second named in
    omega (arith, low, c.requires.second, c.requires.long)

pub returns-then-later-before : goal.returns-then-later-before
returns-then-later-before c = λ _.
    let xs = c.as_slice-before-items.result.now in
    let k = c.loop-before.before-index in
    let in_list : k < length xs = search rules in
    let named : Contains (predecessors c.args.plan.now c.args.second) (get_or xs k 0) = subst (λ (ys : List ℕ). Contains ys (get_or xs k 0)) (c.as_slice-before-items.ensures ∙ c.predecessors.ensures) (Contains-get_or xs k 0 in_list) in
    let low : get_or xs k 0 < c.args.second = c.is_well_formed.ensures.lower (get_or xs k 0) c.args.second c.requires.second named in
    let high : c.args.first < get_or xs k 0 = search rules in
    through (c.requires.between (get_or xs k 0) high low (search rules)) named
