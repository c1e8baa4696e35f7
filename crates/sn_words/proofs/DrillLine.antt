-- What words that choose a drill are.
use Rattle.std.proofs.Common.{◌≡◌, ℕ, List, Option, Some, None, Ok, refl, sym, ap, ◌∙◌}
use Rattle.std.specs.Prelude.{codes}
use Rattle.sn_ports.specs.Octets.{Octets}
use Rattle.sn_words.specs.declared.keys.Key.{Key}
use Rattle.sn_words.specs.Drilling.{DrillChoices, drilled, by_words, drill_words_of}
use Rattle.sn_words.specs.Keys.{drill_keys, choices, value_of}
use Rattle.sn_words.specs.Laws.{IsDrillLine, DrillsBy}
use Rattle.sn_words.specs.Words.{bad_word, between}
use Rattle.sn_words.proofs.GoodLine.{is_line, no_bad_word}

none_bad : (words : List Octets) (bad : Option ℕ) (chosen : DrillChoices) → by_words words bad ≡ Ok chosen → (bad ≡ None) × (drilled words ≡ chosen)
none_bad words None chosen e = (refl, cc)
none_bad words (Some i) chosen e = absurd cc

line_of : (words : List Octets) (chosen : DrillChoices) → drill_words_of words ≡ Ok chosen → IsDrillLine words chosen
unfolding drill_words_of
line_of words chosen e =
    let (none, is) = none_bad words (bad_word drill_keys (codes "drill") 0 words) chosen e in
    record {
      line = is_line drill_keys (codes "drill") 0 words none;
      settings = sym (ap (λ (d : DrillChoices). d.settings) is);
      seed = sym (ap (λ (d : DrillChoices). d.seed) is);
      blocks = sym (ap (λ (d : DrillChoices). d.blocks) is);
    }

same_choices : (words : List Octets) (chosen : DrillChoices) → chosen.settings ≡ choices (between 0 words) → chosen.seed ≡ value_of (between 0 words) Key.Seed → chosen.blocks ≡ value_of (between 0 words) Key.Blocks → drilled words ≡ chosen
same_choices words chosen settings seed blocks = λ i. record { settings = sym settings i; seed = sym seed i; blocks = sym blocks i }

of_line : (words : List Octets) (chosen : DrillChoices) → IsDrillLine words chosen → drill_words_of words ≡ Ok chosen
unfolding drill_words_of
of_line words chosen line =
    ap (by_words words) (no_bad_word drill_keys (codes "drill") 0 words line.line)
    ∙ ap (λ (d : DrillChoices). Ok d) (same_choices words chosen line.settings line.seed line.blocks)

pub drills_by : (words : List Octets) (chosen : DrillChoices) → DrillsBy words chosen
drills_by words chosen = (line_of words chosen, of_line words chosen)
