use Rattle.std.proofs.Common.{◌≡◌, ◌∙◌, ◌+◌, ◌++◌, ◌∷◌, [], List, ℕ, ap, sym, get_or, set, drop, length, length-set}
use Rattle.sn_round.specs.Inverting.{put_in_each}
use Rattle.sn_round.proofs.Inverses.{put_left, put_all}
use Rattle.sn_round.proofs.successors.put_in_each.Goals as goal

pub loop-predecessor-preserved : goal.loop-predecessor-preserved
loop-predecessor-preserved c =
    let i = c.loop-predecessor.predecessor-index in
    let p : ℕ = get_or c.args.before.now i 0 in
    let old : List (List ℕ) = c.loop-predecessor.lists.items in
    let put : c.put_at.new.lists.items ≡ set old p (get_or old p [] ++ c.args.job ∷ []) = c.in_ok-put_at.ensures in
    record {
      long = ap length put ∙ length-set old p (get_or old p [] ++ c.args.job ∷ []) ∙ c.loop-predecessor.invariant.long;
      left = ap (λ (lists : List (List ℕ)). put_in_each c.args.job (drop (i + 1) c.args.before.now) lists) put ∙ sym (put_left c.args.job c.args.before.now i old c.loop-predecessor-test.true) ∙ c.loop-predecessor.invariant.left;
    }

pub returns : goal.returns
returns c = sym (put_all c.args.job c.args.before.now c.loop-predecessor.predecessor-index c.loop-predecessor.lists.items c.loop-predecessor-test.false) ∙ c.loop-predecessor.invariant.left
