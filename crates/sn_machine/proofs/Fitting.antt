-- The views after a step fit the words.
use Rattle.std.proofs.Common.{◌≡◌, ℕ, ◌<◌, ◌≤◌, List, [], length, sym, refl, ap, ◌∙◌, subst, arith, set, length-set, Bool, true, false, cond, zero, suc, ◌∷◌}
use Rattle.sn_machine.specs.declared.views.View.{View}
use Rattle.sn_round.specs.declared.jobs.Job.{Job}
use Rattle.sn_machine.specs.declared.views.Phase.{Phase}
use Rattle.sn_machine.specs.declared.views.Phase.TheVariants.{Idle, Round}
use Rattle.sn_round.specs.Jobs.{AreWithin}
use Rattle.sn_round.specs.Scripts.{list_at}
use Rattle.sn_machine.specs.States.{memory_in, counts_in, jobs_in, script_in, IsIdle}
use Rattle.sn_machine.specs.Steps.{set_memory, set_count, CanGo, go_view, got_view, read_view, ended_view, paid_view, pictured, ended_front, rested_view, crewed, split_main, split_worker, join_view}
use Rattle.sn_machine.specs.Fits.{MainFits, Fits}
use Rattle.sn_machine.proofs.Waits.{same_picture, same_job, no_run}

pub fits_pictured : (v : View) (j : ℕ) (picture : List ℕ) → Fits v → j < length v.worker.jobs → length picture ≡ v.size → Fits (pictured v j picture)
fits_pictured v j picture f m l = record {
  few = f.few;
  within = f.within;
  script = f.script;
  running = λ k p runs. (subst (λ i. i < length v.worker.jobs) (same_job (pictured v j picture).worker.runs j k picture p refl runs) m, ap length (sym (same_picture (pictured v j picture).worker.runs j k picture p refl runs)) ∙ l);
}

pub fits_got : (v : View) (j : ℕ) → Fits v → j < length v.worker.jobs → Fits (got_view v j)
fits_got v j f l = record {
  few = f.few;
  within = f.within;
  script = f.script;
  running = λ k p runs. (subst (λ i. i < length v.worker.jobs) (same_job (got_view v j).worker.runs j k (list_at v.worker.script j) p refl runs) l, ap length (sym (same_picture (got_view v j).worker.runs j k (list_at v.worker.script j) p refl runs)) ∙ f.script j l);
}

pub fits_read : (v : View) (j word : ℕ) → Fits v → Fits (read_view v j word)
fits_read v j word f = record { few = f.few; within = f.within; script = f.script; running = f.running }

pub fits_ended : (v : View) (j : ℕ) → Fits v → Fits (ended_view v j)
fits_ended v j f = record { few = f.few; within = f.within; script = f.script; running = λ k p runs. absurd (no_run (ended_view v j) k p refl runs) }

pub fits_paid : (v : View) (q : ℕ) (debts : List (ℕ × ℕ)) (left : ℕ) → Fits v → Fits (paid_view v q debts left)
fits_paid v q debts left f = record { few = f.few; within = f.within; script = f.script; running = f.running }

pub fits_split : (v : View) → MainFits v → Fits (split_worker v)
fits_split v f = record { few = f.few; within = f.within; script = λ i l. f.script i (omega arith); running = λ j p runs. absurd (no_run (split_worker v) j p refl runs) }

same_jobs : (b : Bool) (p : Phase) → (jobs_in (cond b p (crewed p)) ≡ jobs_in p) × (script_in (cond b p (crewed p)) ≡ script_in p) × (counts_in (cond b p (crewed p)) ≡ counts_in p)
same_jobs true p = (refl, refl, refl)
same_jobs false (Idle m c) = (refl, refl, refl)
same_jobs false (Round j s c g) = (refl, refl, refl)

abbrev FitsAs : ℕ → ℕ → List Job → List (List ℕ) → List ℕ → Type 0
FitsAs size room jobs script counts = (length jobs ≤ room) × AreWithin size jobs × ((i : ℕ) → i ≤ length jobs → length (list_at script i) ≡ size) × (length counts ≡ room)

main_fits : (v : View) → FitsAs v.size v.room (jobs_in v.main.phase) (script_in v.main.phase) (counts_in v.main.phase) → MainFits v
main_fits v f = record { few = f.0; within = f.1; script = f.2; counts = f.3 }

pub fits_left : (v : View) → MainFits v → MainFits (split_main v)
fits_left v f =
    let e = same_jobs v.main.joined v.main.phase in
    main_fits (split_main v) (subst (λ (x : List Job × List (List ℕ) × List ℕ). FitsAs v.size v.room x.0 x.1 x.2) (λ i. (sym e.0 i, sym e.1 i, sym e.2 i)) (f.few, f.within, f.script, f.counts))

pub fits_joined : (v w : View) → MainFits v → MainFits (join_view v w)
fits_joined v w f = record { few = f.few; within = f.within; script = f.script; counts = f.counts }

one_list : (ms : List ℕ) (size : ℕ) → length ms ≡ size → (i : ℕ) → i ≤ 0 → length (list_at (ms ∷ []) i) ≡ size
one_list ms size e zero l = e
one_list ms size e (suc i) l = absurd (omega arith)

pub idle_fits : (v : View) (ms cs : List ℕ) → length ms ≡ v.size → length cs ≡ v.room → v.main.phase ≡ Idle ms cs → MainFits v
idle_fits v ms cs a b e = main_fits v (subst (λ (p : Phase). FitsAs v.size v.room (jobs_in p) (script_in p) (counts_in p)) (sym e)
    (omega arith, (λ j x l t. absurd (let m : j < 0 = l in omega arith)), one_list ms v.size a, b))

-- the memory list of an idle main
pub memory_wide : (v : View) → MainFits v → IsIdle v → length (memory_in v.main.phase) ≡ v.size
memory_wide v f idle =
    let e : script_in v.main.phase ≡ memory_in v.main.phase ∷ [] = ap script_in idle in
    ap (λ (sc : List (List ℕ)). length (list_at sc 0)) (sym e) ∙ f.script 0 (omega arith)

pub fits_memory : (v : View) (x a : ℕ) → MainFits v → IsIdle v → MainFits (set_memory v x a)
fits_memory v x a f idle = idle_fits (set_memory v x a) (set (memory_in v.main.phase) x a) (counts_in v.main.phase) (length-set (memory_in v.main.phase) x a ∙ memory_wide v f idle) f.counts refl

pub fits_count : (v : View) (j a : ℕ) → MainFits v → IsIdle v → MainFits (set_count v j a)
fits_count v j a f idle = idle_fits (set_count v j a) (memory_in v.main.phase) (set (counts_in v.main.phase) j a) (memory_wide v f idle) (length-set (counts_in v.main.phase) j a ∙ f.counts) refl

pub fits_gone : (v : View) (jobs : List Job) (script : List (List ℕ)) → MainFits v → CanGo v jobs script → MainFits (go_view v jobs script)
fits_gone v jobs script f can =
    let e = memory_wide v f can.idle in
    record {
      few = subst (λ n. length jobs ≤ n) f.counts can.roomy;
      within = subst (λ n. AreWithin n jobs) e can.within;
      script = λ i l. can.is_script.wide i l ∙ e;
      counts = f.counts;
    }

front_length : (n : ℕ) (counts : List ℕ) → length (ended_front n counts) ≡ length counts
front_length zero counts = refl
front_length (suc n) [] = refl
front_length (suc n) (c ∷ counts) = ap suc (front_length n counts)

pub fits_rested : (v : View) → MainFits v → MainFits (rested_view v)
fits_rested v f = idle_fits (rested_view v) (list_at (script_in v.main.phase) (length (jobs_in v.main.phase))) (ended_front (length (jobs_in v.main.phase)) (counts_in v.main.phase)) (f.script (length (jobs_in v.main.phase)) (omega arith)) (front_length (length (jobs_in v.main.phase)) (counts_in v.main.phase) ∙ f.counts) refl
