use Rattle.std.proofs.Common.{◌≡◌, ◌≤◌, true, false, sym, subst}
use Rattle.std.specs.Prelude.{MatchOption}
use Rattle.sn_forest.specs.Trees.{uses, count, subtree}
use Rattle.sn_tree.specs.Trees.{shares}
use Rattle.sn_tree.specs.Keyed.{labels, front}
use Rattle.sn_tree.proofs.MeetLaws.{meets_shares}
use Rattle.sn_tree.proofs.store.Store.newcomers.Goals as goal

pub newcomers-requires : goal.newcomers-requires
newcomers-requires c = subst (λ t. 1 ≤ uses c.args.top t) (sym c.self.view_is) c.requires

pub returns : goal.returns
returns c =
    subst (λ t. MatchOption c.newcomers.result (shares (labels (subtree c.args.top t)) (labels (front t)) ≡ true) (λ n. (shares (labels (subtree c.args.top t)) (labels (front t)) ≡ false) × (n ≡ count (subtree c.args.top t)))) c.self.view_is
    (subst (λ b. MatchOption c.newcomers.result (b ≡ true) (λ n. (b ≡ false) × (n ≡ count (subtree c.args.top c.self.inside.forest)))) (meets_shares c.self.inside.forest c.self.inside.ids c.self.invariant (subtree c.args.top c.self.inside.forest)) c.newcomers.ensures)
