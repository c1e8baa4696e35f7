-- A chain that is traced from its end.
use Rattle.std.proofs.Common.{◌≡◌, ℕ, ◌<◌, ◌≤◌, List, [], ◌∷◌, ◌++◌, reverse, Some, None, sym, ap, ◌∙◌, subst, append_assoc}
use Rattle.std.proofs.lemmas.List.{reverse-append}
use Rattle.sn_round.specs.declared.jobs.Job.{Job}
use Rattle.sn_round.specs.Jobs.{AreJobs, predecessors}
use Rattle.sn_round.proofs.Orders.{lower}
use Rattle.sn_report.specs.Tracing.{Comes, none, after, better, ceiling, first_greatest}
use Rattle.sn_report.proofs.LevelLemmas.{below_ceiling, found_in, least_ceiling}

-- what comes before makes the chain whole, also after one more step back
pub traced_on : (jobs : List Job) (levels all rest chain : List ℕ) (j : ℕ) → first_greatest levels rest ≡ Some j → ((front : List ℕ) → Comes jobs levels rest front → Comes jobs levels all (front ++ reverse chain))
    → (front : List ℕ) → Comes jobs levels (predecessors jobs j) front → Comes jobs levels all (front ++ reverse (chain ++ j ∷ []))
traced_on jobs levels all rest chain j e on front c =
    let same : (front ++ j ∷ []) ++ reverse chain ≡ front ++ reverse (chain ++ j ∷ []) = append_assoc front (j ∷ []) (reverse chain) ∙ ap (λ l. front ++ l) (sym (reverse-append chain (j ∷ []))) in
    subst (Comes jobs levels all) same (on (front ++ j ∷ []) (after e c))

-- the jobs that are left are fewer
pub found_below : (levels rest : List ℕ) (j : ℕ) → first_greatest levels rest ≡ Some j → j < ceiling rest
found_below levels rest j e = below_ceiling rest j (found_in levels rest j e)

pub before_below : (jobs : List Job) (j : ℕ) → AreJobs jobs → ceiling (predecessors jobs j) ≤ j
before_below jobs j are = least_ceiling (predecessors jobs j) j (λ i c. lower jobs are i j c)

some_none : (j : ℕ) → Some j ≡ None → ⊥
some_none j e = cc

-- if none is left, nothing comes before
pub traced_whole : (jobs : List Job) (levels all rest chain : List ℕ) → first_greatest levels rest ≡ None → ((front : List ℕ) → Comes jobs levels rest front → Comes jobs levels all (front ++ reverse chain)) → Comes jobs levels all (reverse chain)
traced_whole jobs levels all [] chain e on = on [] none
traced_whole jobs levels all (i ∷ rest) chain e on = absurd (some_none (better levels i (first_greatest levels rest)) e)

-- the same trace, by equal lists
pub traced_by : (jobs : List Job) (l levels js j chain : List ℕ) → l ≡ levels → chain ≡ j → Comes jobs l js j → Comes jobs levels js chain
traced_by jobs l levels js j chain e f c = subst (λ (p : List ℕ × List ℕ). Comes jobs p.0 js p.1) (λ i. (e i, sym f i)) c
