-- The words `drill [seed=N] [blocks=M] [key=value ..]`.
use Rattle.std.specs.Prelude.{ℕ, List, codes, Option, Some, None, Result, Ok, Err}
use Rattle.sn_ports.specs.Octets.{Octets}
use Rattle.sn_words.specs.declared.keys.Key.{Key}
use Rattle.sn_words.specs.Choices.{Choices}
use Rattle.sn_words.specs.Keys.{drill_keys, value_of, choices}
use Rattle.sn_words.specs.Words.{bad_word, between}

-- settings, the seed of a drill, and its blocks
pub record DrillChoices : Type 0 where
  pub settings : Choices
  pub seed : ℕ
  pub blocks : ℕ

-- what the words after the first choose
abbrev pub drilled : List Octets → DrillChoices
drilled words = record { settings = choices (between 0 words); seed = value_of (between 0 words) Key.Seed; blocks = value_of (between 0 words) Key.Blocks }

-- a word is bad, or none is
abbrev pub by_words : List Octets → Option ℕ → Result DrillChoices ℕ
by_words words (Some i) = Err i
by_words words None = Ok (drilled words)

-- What the words choose, or the index of the first bad word.
unfoldable pub drill_words_of : List Octets → Result DrillChoices ℕ
drill_words_of words = by_words words (bad_word drill_keys (codes "drill") 0 words)
