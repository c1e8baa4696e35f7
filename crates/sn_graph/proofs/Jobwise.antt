-- The synths of a job, by their ids.
use Rattle.std.proofs.Common.{◌≡◌, ℕ, ◌<◌, ℤ, true, false, List, [], ◌∷◌, ◌++◌, length, inl, inr, sym, refl, ap, ◌∙◌, subst, arith}
use Rattle.std.proofs.lemmas.Bool.{cond-true, cond-false, false_from_ne_true}
use Rattle.std.proofs.lemmas.List.{append-nil}
use Rattle.std.proofs.lemmas.List.Elements.{filter-append}
use Rattle.sn_round.specs.declared.jobs.Job.{Job}
use Rattle.sn_round.specs.Jobs.{foot_at, job_at, lanes_at}
use Rattle.sn_graph.specs.declared.nodes.Voice.{Voice}
use Rattle.sn_graph.specs.Voices.{HeardNodes, foot_of, has, ids_of, Once, voices}
use Rattle.sn_graph.specs.Rows.{Row}
use Rattle.sn_graph.specs.Plans.{is_listed, plan_of, row_of, synths_with}
use Rattle.sn_graph.proofs.Shapes.{Among, heard}
use Rattle.sn_graph.proofs.Numbers.{listed-ids, has-left, once-both, once-right}
use Rattle.sn_graph.proofs.Parting.{heard-row}
use Rattle.sn_graph.proofs.Planning.{Made, among_has, job_is, length-jobs, whole}

all_with : (ids : List ℤ) (vs : List Voice) → ((v : Voice) → Among vs v → is_listed ids v.id ≡ true) → synths_with ids vs ≡ vs
all_with ids [] h = refl
all_with ids (v ∷ vs) h =
    cond-true (is_listed ids v.id) (v ∷ synths_with ids vs) (synths_with ids vs) (h v (inl refl)) ∙ ap (λ (l : List Voice). v ∷ l) (all_with ids vs (λ w a. h w (inr a)))

none_with : (ids : List ℤ) (vs : List Voice) → ((v : Voice) → Among vs v → is_listed ids v.id ≡ false) → synths_with ids vs ≡ []
none_with ids [] h = refl
none_with ids (v ∷ vs) h = cond-false (is_listed ids v.id) (v ∷ synths_with ids vs) (synths_with ids vs) (h v (inl refl)) ∙ none_with ids vs (λ w a. h w (inr a))

not_one : (ss : List Voice) (a : ℤ) → (has ss a ≡ true → ⊥) → is_listed (ids_of ss) a ≡ false
not_one ss a h = listed-ids ss a ∙ false_from_ne_true (has ss a) h

-- if no id stands twice, those with the ids of some that stand together are these
between : (before ss after : List Voice) → Once (before ++ (ss ++ after)) → synths_with (ids_of ss) (before ++ (ss ++ after)) ≡ ss
between before ss after once =
    let ids : List ℤ = ids_of ss in
    let rest : Once (ss ++ after) = once-right before (ss ++ after) once in
    filter-append (λ (v : Voice). is_listed ids v.id) before (ss ++ after)
    ∙ (ap (λ (l : List Voice). l ++ synths_with ids (ss ++ after)) (none_with ids before (λ v a. not_one ss v.id (λ h. once-both before (ss ++ after) v.id once (among_has before v a) (has-left ss after v.id h))))
    ∙ (filter-append (λ (v : Voice). is_listed ids v.id) ss after
    ∙ (ap (λ (l : List Voice). l ++ synths_with ids after) (all_with ids ss (λ v a. listed-ids ss v.id ∙ among_has ss v a))
    ∙ (ap (λ (l : List Voice). ss ++ l) (none_with ids after (λ v a. not_one ss v.id (λ h. once-both ss after v.id rest h (among_has after v a)))) ∙ append-nil ss))))

pub feet_are : (nodes : HeardNodes) → Once (voices nodes) → (i : ℕ) → i < length (plan_of nodes) → foot_at (plan_of nodes) i ≡ foot_of (synths_with (job_at (plan_of nodes) i).synths (voices nodes)) (lanes_at (plan_of nodes) i)
feet_are nodes once i l =
    let js : List Job = plan_of nodes in
    let row : Row = row_of [] nodes in
    let m : Made (job_at js) i (heard row) = job_is (job_at js) 0 [] row i (whole row) (omega arith) (omega (arith, length-jobs 0 [] row)) in
    let is : voices nodes ≡ m.4 ++ (m.0 ++ m.5) = sym (heard-row [] nodes) ∙ m.6 in
    let same : synths_with (job_at js i).synths (voices nodes) ≡ m.0 =
    ap (λ (j : Job). synths_with j.synths (voices nodes)) m.3 ∙ (ap (synths_with (ids_of m.0)) is ∙ between m.4 m.0 m.5 (subst Once is once)) in
    let lanes : lanes_at js i ≡ m.1 = ap (λ (j : Job). j.lanes) m.3 in
    ap (λ (j : Job). j.foot) m.3 ∙ (λ t. foot_of (sym same t) (sym lanes t))
