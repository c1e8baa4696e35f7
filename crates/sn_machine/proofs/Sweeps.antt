-- The sweep's seat through steps of seats.
use Rattle.std.proofs.Common.{◌≡◌, ◌≢◌, ◌⊎◌, ℕ, Bool, true, List, [], ◌∷◌, ◌++◌, set, sym, refl, ap, ◌∙◌, subst, ⊎_elim, inl, inr}
use Rattle.std.specs.Prelude.{Contains}
use Rattle.std.proofs.lemmas.Bool.{cases_eq}
use Rattle.std.proofs.lemmas.List.Elements.{Contains-append_left, Contains-push}
use Rattle.sn_round.specs.declared.jobs.Job.{Job}
use Rattle.sn_machine.specs.declared.views.View.{View}
use Rattle.sn_machine.specs.declared.views.Main.{Main}
use Rattle.sn_machine.specs.States.{At}
use Rattle.sn_machine.specs.Rule.{SweepHolds}
use Rattle.sn_machine.proofs.Replaced.{at_set}

-- a worker's part that another seat had, except for what it knows
module _ (views : List View) (id : ℕ) (v w : View) (at : At views id v) (live : w.worker.live ≡ v.worker.live) (sweeps : w.worker.sweeps ≡ v.worker.sweeps) where
  pub was : (i : ℕ) (u : View) → At (set views id w) i u → (x : View) × At views i x × (x.worker.live ≡ u.worker.live) × (x.worker.sweeps ≡ u.worker.sweeps) × (((i ≡ id) × (x ≡ v) × (w ≡ u)) ⊎ ((i ≢ id) × (x ≡ u)))
  was i u a = ⊎_elim
      (λ (t : (i ≡ id) × (w ≡ u)). (v, subst (λ k. At views k v) (sym t.0) at, sym live ∙ ap (λ (y : View). y.worker.live) t.1, sym sweeps ∙ ap (λ (y : View). y.worker.sweeps) t.1, inl (t.0, refl, t.1)))
      (λ (t : (i ≢ id) × At views i u). (u, t.1, refl, refl, inr (t.0, refl)))
      (at_set views id i w u a)

-- the sweep's seat stays if the changed view knows as much
pub sweep_stays : (jobs : List Job) (ended : ℕ → Bool) (views : List View) (main : Main) (id : ℕ) (v w : View) → At views id v → w.worker.live ≡ v.worker.live → w.worker.sweeps ≡ v.worker.sweeps → w.worker.ended ≡ v.worker.ended
    → SweepHolds jobs ended views main → SweepHolds jobs ended (set views id w) main
sweep_stays jobs ended views main id v w at live sweeps knows h = record {
  alone = λ i k u x a lu su b lx. let f = was views id v w at live sweeps i u a in let g = was views id v w at live sweeps k x b in h.alone i k f.0 g.0 f.1 (f.2 ∙ lu) (f.3 ∙ su) g.1 (g.2 ∙ lx);
  knows = λ i u j a lu su l e.
      let f = was views id v w at live sweeps i u a in
      let c = h.knows i f.0 j f.1 (f.2 ∙ lu) (f.3 ∙ su) l e in
      ⊎_elim
      (λ (t : (i ≡ id) × (f.0 ≡ v) × (w ≡ u)). subst (λ (es : List ℕ). Contains es j) (ap (λ (y : View). y.worker.ended) t.1 ∙ (sym knows ∙ ap (λ (y : View). y.worker.ended) t.2)) c)
      (λ (t : (i ≢ id) × (f.0 ≡ u)). subst (λ (y : View). Contains y.worker.ended j) t.1 c)
      f.4;
  joined = λ i u a lu su. let f = was views id v w at live sweeps i u a in h.joined i f.0 f.1 (f.2 ∙ lu) (f.3 ∙ su);
}

-- and if a live view learns that j has ended
pub sweep_learns : (jobs : List Job) (old now : ℕ → Bool) (views : List View) (main : Main) (id : ℕ) (v w : View) (j : ℕ) → At views id v → v.worker.live ≡ true → w.worker.live ≡ v.worker.live → w.worker.sweeps ≡ v.worker.sweeps
    → w.worker.ended ≡ v.worker.ended ++ j ∷ [] → ((k : ℕ) → k ≢ j → now k ≡ old k) → SweepHolds jobs old views main → SweepHolds jobs now (set views id w) main
sweep_learns jobs old now views main id v w j at awake live sweeps knows same h = record {
  alone = λ i k u x a lu su b lx. let f = was views id v w at live sweeps i u a in let g = was views id v w at live sweeps k x b in h.alone i k f.0 g.0 f.1 (f.2 ∙ lu) (f.3 ∙ su) g.1 (g.2 ∙ lx);
  knows = λ i u k a lu su l e.
      let f = was views id v w at live sweeps i u a in
      let here : id ≡ i = h.alone i id f.0 v f.1 (f.2 ∙ lu) (f.3 ∙ su) at awake in
      ⊎_elim
      (λ (t : (i ≡ id) × (f.0 ≡ v) × (w ≡ u)).
      let es : v.worker.ended ++ j ∷ [] ≡ u.worker.ended = sym knows ∙ ap (λ (y : View). y.worker.ended) t.2 in
      ⊎_elim
      (λ (x : k ≡ j). subst (λ (es : List ℕ). Contains es k) es (subst (λ m. Contains (v.worker.ended ++ j ∷ []) m) (sym x) (Contains-push v.worker.ended j)))
      (λ (d : k ≡ j → ⊥). subst (λ (es : List ℕ). Contains es k) es (Contains-append_left v.worker.ended (j ∷ []) k (subst (λ (y : View). Contains y.worker.ended k) t.1 (h.knows i f.0 k f.1 (f.2 ∙ lu) (f.3 ∙ su) l (sym (same k d) ∙ e)))))
      (cases_eq k j))
      (λ (t : (i ≢ id) × (f.0 ≡ u)). absurd (t.0 (sym here)))
      f.4;
  joined = λ i u a lu su. let f = was views id v w at live sweeps i u a in h.joined i f.0 f.1 (f.2 ∙ lu) (f.3 ∙ su);
}
