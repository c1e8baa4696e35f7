-- What a seat owes at run time.
use Rattle.std.proofs.Common.{◌≡◌, ℕ, zero, suc, ◌+◌, ◌<◌, ◌≤◌, Bool, true, false, if◌then◌else◌, true≢false, List, [], ◌∷◌, ◌++◌, length, drop, Option, Some, None, sym, refl, ap, ◌∙◌, subst, arith}
use Rattle.std.specs.Prelude.{slice_get, Contains}
use Rattle.sn_round.specs.declared.jobs.Job.{Job}
use Rattle.sn_machine.specs.declared.views.View.{View}
use Rattle.sn_machine.specs.Fits.{Fits, picture_of}
use Rattle.sn_machine.specs.Steps.{CanClaim, CanEnd, claim_view, debts_of, ended_view, got_view, paid_view, read_view}
use Rattle.sn_round.specs.Jobs.{is_in, successors, successors_from}
use Rattle.sn_machine.proofs.Fitting.{fits_got, fits_ended, fits_read}
use Rattle.sn_machine.proofs.Waits.{same_job, no_run}
use Rattle.sn_table.specs.Kept.{RunsAs, OwesAs}
use Rattle.sn_machine.proofs.Owing.{successors_below}

pub drop_get : (xs : List ℕ) (k x : ℕ) → slice_get xs k ≡ Some x → drop k xs ≡ x ∷ drop (suc k) xs
drop_get [] k x e = let h : ◌≡◌ {A = Option ℕ} None (Some x) = e in absurd (cc)
drop_get (y ∷ ys) zero x e = let h : y ≡ x = cc in λ i. h i ∷ ys
drop_get (y ∷ ys) (suc k) x e = drop_get ys k x e

pub drop_past : (xs : List ℕ) (k : ℕ) → slice_get xs k ≡ None → drop k xs ≡ []
drop_past [] zero e = refl
drop_past [] (suc k) e = refl
drop_past (y ∷ ys) zero e = let h : ◌≡◌ {A = Option ℕ} (Some y) None = e in absurd (cc)
drop_past (y ∷ ys) (suc k) e = drop_past ys k e

pub get_below : (xs : List ℕ) (k x : ℕ) → slice_get xs k ≡ Some x → (k < length xs) × Contains xs x
get_below [] k x e = let h : ◌≡◌ {A = Option ℕ} None (Some x) = e in absurd (cc)
get_below (y ∷ ys) zero x e = let h : y ≡ x = cc in (omega arith, (0, omega arith, h))
get_below (y ∷ ys) (suc k) x e = let h = get_below ys k x e in (omega (arith, h.0), (suc h.1.0, omega (arith, h.1.1), h.1.2))

one_more : (b : Bool) (k : ℕ) (rest : List ℕ) → length ((if b then k ∷ [] else []) ++ rest) ≤ suc (length rest)
one_more true k rest = omega arith
one_more false k rest = omega arith

few : (k : ℕ) (jobs : List Job) (j : ℕ) → length (successors_from k jobs j) ≤ length jobs
few k [] j = omega arith
few k (job ∷ jobs) j = let one = one_more (is_in j job.before) k (successors_from (k + 1) jobs j) in omega (arith, one, few (k + 1) jobs j)

pub few_successors : (jobs : List Job) (j : ℕ) → length (successors jobs j) ≤ length jobs
few_successors jobs j = few 0 jobs j

pub got_fields : (v w : View) (j n : ℕ) → Fits v → CanClaim v j → n ≡ 0 → w ≡ claim_view v j n → Fits w × RunsAs w j × (w.worker.debts ≡ [])
got_fields v w j n f can zero_word e =
    let g : w ≡ got_view v j = e ∙ ap (claim_view v j) zero_word in
    subst (λ (x : View). Fits x × RunsAs x j × (x.worker.debts ≡ [])) (sym g)
    (fits_got v j f can.job, (λ k p runs. sym (same_job (got_view v j).worker.runs j k (Rattle.sn_round.specs.Scripts.list_at v.worker.script j) p refl runs)), can.debts)

pub end_fields : (v w : View) (job : ℕ) → Fits v → CanEnd v job (picture_of v) → w ≡ ended_view v job → Fits w × RunsAs w job × OwesAs w job 0 true
end_fields v w job f can e = subst (λ (x : View). Fits x × RunsAs x job × OwesAs x job 0 true) (sym e)
    (fits_ended v job f, (λ k p runs. absurd (no_run (ended_view v job) k p refl runs)), ((λ _. ((f.running job (picture_of v) can.runs).0, refl)), (λ h. absurd (true≢false h))))

pub owes_first : (v : View) (job paid : ℕ) (jobs : List Job) (next : ℕ) → OwesAs v job paid true → jobs ≡ v.worker.jobs → slice_get (successors jobs job) paid ≡ Some next
    → (v.worker.debts ≡ (job, next) ∷ debts_of job (drop (suc paid) (successors v.worker.jobs job))) × (next < length v.worker.jobs) × (paid < length v.worker.jobs)
owes_first v job paid jobs next o e g =
    let g' : slice_get (successors v.worker.jobs job) paid ≡ Some next = subst (λ js. slice_get (successors js job) paid ≡ Some next) e g in
    let b = get_below (successors v.worker.jobs job) paid next g' in
    ((o.0 refl).1 ∙ ap (debts_of job) (drop_get (successors v.worker.jobs job) paid next g'), successors_below v.worker.jobs job next b.1, omega (arith, b.0, few_successors v.worker.jobs job))

pub owes_none : (v : View) (job paid : ℕ) (jobs : List Job) → OwesAs v job paid true → jobs ≡ v.worker.jobs → slice_get (successors jobs job) paid ≡ None → v.worker.debts ≡ []
owes_none v job paid jobs o e g =
    (o.0 refl).1 ∙ ap (debts_of job) (drop_past (successors v.worker.jobs job) paid (subst (λ js. slice_get (successors js job) paid ≡ None) e g))

pub paid_fields : (v w : View) (job paid next left p : ℕ) (rest : List (ℕ × ℕ)) → Fits v → RunsAs v job → OwesAs v job paid true → v.worker.debts ≡ (p, next) ∷ rest → w ≡ paid_view v next rest left
    → slice_get (successors v.worker.jobs job) paid ≡ Some next → Fits w × RunsAs w job × OwesAs w job (paid + 1) true
paid_fields v w job paid next left p rest f r o owes e g =
    let first = owes_first v job paid v.worker.jobs next o refl g in
    let tail : rest ≡ debts_of job (drop (suc paid) (successors v.worker.jobs job)) = ap (drop 1) (sym owes ∙ first.0) in
    let next_one : suc paid ≡ paid + 1 = omega arith in
    subst (λ (x : View). Fits x × RunsAs x job × OwesAs x job (paid + 1) true) (sym e)
    (record { few = f.few; within = f.within; script = f.script; running = f.running }, r, ((λ _. ((o.0 refl).0, tail ∙ ap (λ k. debts_of job (drop k (successors v.worker.jobs job))) next_one)), (λ h. absurd (true≢false h))))

pub looked_fields : (v w : View) (j word job paid : ℕ) (owing : Bool) → Fits v → RunsAs v job → OwesAs v job paid owing → w ≡ read_view v j word → Fits w × RunsAs w job × OwesAs w job paid owing
looked_fields v w j word job paid owing f r o e = subst (λ (x : View). Fits x × RunsAs x job × OwesAs x job paid owing) (sym e) (fits_read v j word f, r, o)
