-- A release after another.
use Rattle.std.proofs.Common.{◌≡◌, ◌⊎◌, ◌++◌, ⊎_elim, inl, inr, get_or, zero, ℕ, suc, ◌+◌, ◌<◌, List, [], ◌∷◌, length, sym, refl, ap, ◌∙◌, subst, arith}
use Rattle.sn_machine.specs.declared.views.View.{View}
use Rattle.std.specs.Prelude.{Contains}
use Rattle.std.proofs.lemmas.Bool.{cases_eq}
use Rattle.std.proofs.lemmas.List.Elements.{Contains-append_left, Contains-push}
use Rattle.sn_machine.specs.Fits.{IsFree}
use Rattle.sn_machine.specs.Steps.{got_view, read_view}
use Rattle.sn_round.specs.Jobs.{predecessors}
use Rattle.sn_table.specs.Answers.{Pays}
use Rattle.sn_table.specs.Sweeps.{Steady, SweepsWell, IsDone, Ran}

pub steady : (v : View) → Steady v v
steady v = record { live = refl; sweeps = refl; jobs = refl; script = refl; runs = refl; ended = refl }

pub fewer : (v w : View) (q left : ℕ) → Pays v q left w → suc (length w.worker.debts) ≡ length v.worker.debts
fewer v w q left p = ap (λ (x : View). suc (length x.worker.debts)) p.3 ∙ sym (ap length p.2)

has_or_not : (xs : List ℕ) (x : ℕ) → Contains xs x ⊎ (Contains xs x → ⊥)
has_or_not [] x = inr (λ c. let l : c.0 < 0 = c.1 in omega arith)
has_or_not (y ∷ ys) x = ⊎_elim
    (λ (e : y ≡ x). inl (0, omega arith, e))
    (λ (d : y ≡ x → ⊥). ⊎_elim
    (λ (c : Contains ys x). inl (suc c.0, omega (arith, c.1), c.2))
    (λ (n : Contains ys x → ⊥). inr (λ c. n (later y ys x d c.0 c.1 c.2)))
    (has_or_not ys x))
    (cases_eq y x)
  where
    later : (y : ℕ) (ys : List ℕ) (x : ℕ) → (y ≡ x → ⊥) → (k : ℕ) → k < suc (length ys) → get_or (y ∷ ys) k x ≡ x → Contains ys x
    later y ys x d zero l e = absurd (d e)
    later y ys x d (suc k) l e = (k, omega arith, e)

abbrev After : View → View → ℕ → Type 0
After v w j = SweepsWell w × (w.worker.jobs ≡ v.worker.jobs) × (w.worker.script ≡ v.worker.script) × IsDone w (j + 1)

pub swept_got : (v u w : View) (j : ℕ) → SweepsWell v → IsDone v j → u ≡ got_view v j → Ran u j w → After v w j
swept_got v u w j well done e ran =
    let live : w.worker.live ≡ v.worker.live = ran.live ∙ ap (λ (x : View). x.worker.live) e in
    let sweeps : w.worker.sweeps ≡ v.worker.sweeps = ran.sweeps ∙ ap (λ (x : View). x.worker.sweeps) e in
    let ended : w.worker.ended ≡ v.worker.ended ++ j ∷ [] = ran.ended ∙ ap (λ (x : View). x.worker.ended ++ j ∷ []) e in (
      record { live = live ∙ well.live; sweeps = sweeps ∙ well.sweeps; runs = ran.runs; debts = ran.debts },
      ran.jobs ∙ ap (λ (x : View). x.worker.jobs) e,
      ran.script ∙ ap (λ (x : View). x.worker.script) e,
      λ k l. subst (λ (es : List ℕ). Contains es k) (sym ended) (⊎_elim
          (λ (x : k ≡ j). subst (λ m. Contains (v.worker.ended ++ j ∷ []) m) (sym x) (Contains-push v.worker.ended j))
          (λ (d : k ≡ j → ⊥). Contains-append_left v.worker.ended (j ∷ []) k (done k (omega arith)))
          (cases_eq k j)),
    )

pub swept_ended : (v w : View) (j word : ℕ) → SweepsWell v → IsDone v j → w ≡ read_view v j word → Contains v.worker.ended j → After v w j
swept_ended v w j word well done e known = subst (λ (x : View). After v x j) (sym e) (
  record { live = well.live; sweeps = well.sweeps; runs = well.runs; debts = well.debts },
  refl,
  refl,
  λ k l. ⊎_elim
      (λ (x : k ≡ j). subst (λ m. Contains v.worker.ended m) (sym x) known)
      (λ (d : k ≡ j → ⊥). done k (omega arith))
      (cases_eq k j),
)

pub swept_busy : (v w : View) (j word : ℕ) → SweepsWell v → IsDone v j → w ≡ read_view v j word → (IsFree v j → ⊥) → ((p : ℕ) → Contains (predecessors v.worker.jobs j) p → p < j) → After v w j
swept_busy v w j word well done e busy order = swept_ended v w j word well done e
    (⊎_elim (λ c. c) (λ n. absurd (busy (n, λ p c. done p (order p c)))) (has_or_not v.worker.ended j))

-- a look changes no more than the readings
pub looked_well : (v w : View) (j word : ℕ) → SweepsWell v → IsDone v j → w ≡ read_view v j word → SweepsWell w × (w.worker.jobs ≡ v.worker.jobs) × (w.worker.script ≡ v.worker.script) × IsDone w j
looked_well v w j word well done e = subst (λ (x : View). SweepsWell x × (x.worker.jobs ≡ v.worker.jobs) × (x.worker.script ≡ v.worker.script) × IsDone x j) (sym e) (
  record { live = well.live; sweeps = well.sweeps; runs = well.runs; debts = well.debts },
  refl,
  refl,
  done,
)
