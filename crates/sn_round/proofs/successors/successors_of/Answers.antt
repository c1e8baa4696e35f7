use Rattle.std.proofs.Common.{◌≡◌, ◌<◌, ◌+◌, ◌∙◌, List, ℕ, ap, sym, subst, drop, length}
use Rattle.std.specs.List.{All}
use Rattle.std.proofs.lemmas.List.{drop_all}
use Rattle.sn_round.specs.declared.jobs.Job.{Job}
use Rattle.sn_round.specs.Inverting.{put_in_each}
use Rattle.sn_round.proofs.Inverses.{Inverts, inverts_more, inverts_all}
use Rattle.sn_round.proofs.successors.successors_of.Goals as goal

pub put_in_each-requires : goal.put_in_each-requires
put_in_each-requires c =
    let i = c.loop-number.invariant in
    let r = inverts_more c.args.jobs.now c.loop-number.number c.index-jobs-number.result c.loop-number.after.items c.loop-number-test.true c.index-jobs-number.is c.requires i in
    subst (All (λ p. p < length c.loop-number.after.items)) (sym c.as_slice.ensures) (subst (λ n. All (λ p. p < n) c.index-jobs-number.result.before) (sym i.long) r.0)

pub loop-number-preserved : goal.loop-number-preserved
loop-number-preserved c =
    let k = c.loop-number.number in
    let x : Job = c.index-jobs-number.result in
    let old : List (List ℕ) = c.loop-number.after.items in
    let r = inverts_more c.args.jobs.now k x old c.loop-number-test.true c.index-jobs-number.is c.requires c.loop-number.invariant in
    let put : c.put_in_each.new.lists.items ≡ put_in_each k x.before old = c.in_ok-put_in_each.ensures ∙ ap (λ (ps : List ℕ). put_in_each k ps old) c.as_slice.ensures in
    subst (λ (lists : List (List ℕ)). Inverts c.args.jobs.now (k + 1) (drop (k + 1) c.args.jobs.now) lists) (sym put) r.1

pub returns : goal.returns
returns c = inverts_all c.args.jobs.now c.loop-number.number c.loop-number.after.items (subst (λ (rest : List Job). Inverts c.args.jobs.now c.loop-number.number rest c.loop-number.after.items) (drop_all c.loop-number.number c.args.jobs.now c.loop-number-test.false) c.loop-number.invariant)
