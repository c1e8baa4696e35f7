-- The rule holds at the beginning, before any step.
use Rattle.std.proofs.Common.{◌≡◌, ℕ, zero, suc, List, [], ◌∷◌, refl, sym, subst, inl}
use mathlib.Core.Option.{some-injective, some-ne-none}
use Rattle.sn_machine.specs.declared.views.View.{View}
use Rattle.sn_machine.specs.States.{At, idle_main, opening_view, opening}
use Rattle.sn_machine.specs.Rule.{IsBlank, RoundHolds}
use Rattle.sn_machine.specs.Fits.{MainFits}
use Rattle.sn_machine.proofs.Fitting.{idle_fits}

module _ (memory counts : List ℕ) where
  only : (i : ℕ) (v : View) → At (opening_view memory counts ∷ []) i v → opening_view memory counts ≡ v
  only zero v e = some-injective (opening_view memory counts) v e
  only (suc i) v e = absurd (some-ne-none v (sym e))

  first : (i : ℕ) (v : View) → At (opening_view memory counts ∷ []) i v → i ≡ 0
  first zero v e = refl
  first (suc i) v e = absurd (some-ne-none v (sym e))

  pub opens : RoundHolds (opening memory counts)
  opens = inl (record {
    main = idle_main memory counts;
    has_main = (opening_view memory counts, refl, refl);
    phase = refl;
    knows = refl;
    live = refl;
    blank = λ i v at. subst (λ (y : View). IsBlank y.worker) (only i v at) (record { dead = refl; runs = refl; debts = refl; ended = refl });
    others = λ i v at d. absurd (d (first i v at));
  })

  pub opening_fits : MainFits (opening_view memory counts)
  opening_fits = idle_fits (opening_view memory counts) memory counts refl refl refl
