-- What words that choose settings are.
use Rattle.std.proofs.Common.{◌≡◌, ℕ, List, Option, Some, None, Result, Ok, Err, refl, sym, ap, ◌∙◌}
use Rattle.std.specs.Prelude.{codes}
use Rattle.sn_ports.specs.Octets.{Octets}
use Rattle.sn_words.specs.Choices.{Choices}
use Rattle.sn_words.specs.Keys.{setting_keys, choices}
use Rattle.sn_words.specs.Laws.{ChoosesBy, PlansBy, RendersBy}
use Rattle.sn_words.specs.Words.{between, bad_word, choices_of, plan_words_of, settings_of}
use Rattle.sn_words.proofs.GoodLine.{is_line, no_bad_word}

module _ (name : List ℕ) (paths : ℕ) (words : List Octets) where
  -- what the words choose, by the index of their first bad word
  abbrev by_bad : Option ℕ → Result Choices ℕ
  by_bad bad = elim bad as (λ _. Result Choices ℕ) [ Some i ↦ Err i | None ↦ Ok (choices (between paths words)) ]

  none_bad : (bad : Option ℕ) (chosen : Choices) → by_bad bad ≡ Ok chosen → (bad ≡ None) × (chosen ≡ choices (between paths words))
  none_bad None chosen e = let same : choices (between paths words) ≡ chosen = cc in (refl, sym same)
  none_bad (Some i) chosen e = absurd cc

  line_of : (chosen : Choices) → choices_of name paths words ≡ Ok chosen → ChoosesBy name paths words chosen
  unfolding choices_of
  line_of chosen e =
      let (none, settings) = none_bad (bad_word setting_keys name paths words) chosen e in
      record { line = is_line setting_keys name paths words none; settings = settings }

  of_line : (chosen : Choices) → ChoosesBy name paths words chosen → choices_of name paths words ≡ Ok chosen
  unfolding choices_of
  of_line chosen by = ap by_bad (no_bad_word setting_keys name paths words by.line) ∙ ap (λ (c : Choices). Ok c) (sym by.settings)

pub renders_by : (words : List Octets) (chosen : Choices) → RendersBy words chosen
unfolding settings_of
renders_by words chosen = (line_of (codes "render") 3 words chosen, of_line (codes "render") 3 words chosen)

pub plans_by : (words : List Octets) (chosen : Choices) → PlansBy words chosen
unfolding plan_words_of
plans_by words chosen = (line_of (codes "plan") 2 words chosen, of_line (codes "plan") 2 words chosen)
