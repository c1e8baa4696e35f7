-- Laws about the first bad word, about settings that no word chooses, and about the words of `render`, `plan`, `serve`
-- and `drill`.
use Rattle.std.specs.Prelude.{◌≡◌, ◌<◌, ◌≤◌, ◌+◌, ◌↔◌, ℕ, Bool, true, false, List, [], length, get_or, take, codes, Option, Some, MatchOption, Ok}
use Rattle.sn_fixed.specs.Natural.{natural}
use Rattle.sn_ports.specs.Octets.{Octets}
use Rattle.sn_pcm.specs.Opening.{opening}
use Rattle.sn_words.specs.Choices.{Choices, numbers}
use Rattle.sn_words.specs.declared.keys.Key.{Key}
use Rattle.sn_words.specs.Drilling.{DrillChoices, drill_words_of}
use Rattle.sn_words.specs.Keys.{setting_keys, serve_keys, drill_keys, is_good, first_bad, choices, value_of}
use Rattle.sn_words.specs.Serving.{ServeChoices, pacing_of, port_word, serve_words_of}
use Rattle.sn_words.specs.Words.{begins_with, between, no_word, plan_words_of, settings_of}

-- The word with this index is good after the words before it, if these are the keys.
abbrev pub is_good_at : List Key → List Octets → ℕ → Bool
is_good_at keys words i = is_good keys (take i words) (get_or words i no_word).bytes

abbrev pub AreGood : List Key → List Octets → ℕ → Type 0
AreGood keys words n = (i : ℕ) → i < n → is_good_at keys words i ≡ true

-- The word with this index is bad, and each word before it is good.
abbrev pub IsFirstBad : List Key → List Octets → ℕ → Type 0
IsFirstBad keys words i = (i < length words) × (is_good_at keys words i ≡ false) × AreGood keys words i

-- Each word is good if there is no index; else the index is that of the first bad one.
abbrev pub Tells : List Key → List Octets → Option ℕ → Type 0
Tells keys words index = MatchOption index (AreGood keys words (length words)) (IsFirstBad keys words)

abbrev pub FindsFirstBad : List Key → List Octets → Type 0
FindsFirstBad keys words = Tells keys words (first_bad keys [] words)

abbrev pub HasOpeningDefaults : Type 0
HasOpeningDefaults = choices [] ≡ numbers opening

-- a name, words that are good for these keys, and so many more words
pub record IsLine (keys : List Key) (name : List ℕ) (last : ℕ) (words : List Octets) : Type 0 where
  pub first : begins_with name words ≡ true
  pub enough : last + 1 ≤ length words
  pub good : AreGood keys (between last words) (length (between last words))

-- a name, good words that choose these settings, and so many paths
pub record ChoosesBy (name : List ℕ) (paths : ℕ) (words : List Octets) (chosen : Choices) : Type 0 where
  pub line : IsLine setting_keys name paths words
  pub settings : chosen ≡ choices (between paths words)

-- `render`, good words and three more words
abbrev pub RendersBy : List Octets → Choices → Type 0
RendersBy words chosen = (settings_of words ≡ Ok chosen) ↔ ChoosesBy (codes "render") 3 words chosen

-- `plan`, good words and two more words
abbrev pub PlansBy : List Octets → Choices → Type 0
PlansBy words chosen = (plan_words_of words ≡ Ok chosen) ↔ ChoosesBy (codes "plan") 2 words chosen

-- `serve`, good words, a port from 1 to 65535 and one more word
pub record IsServeLine (words : List Octets) (chosen : ServeChoices) : Type 0 where
  pub line : IsLine serve_keys (codes "serve") 2 words
  pub settings : chosen.settings ≡ choices (between 2 words)
  pub clients : chosen.clients ≡ value_of (between 2 words) Key.Clients
  pub pacing : chosen.pacing ≡ pacing_of (value_of (between 2 words) Key.Pace)
  pub port : natural (port_word words) ≡ Some chosen.port
  pub least : 1 ≤ chosen.port
  pub greatest : chosen.port ≤ 65535

abbrev pub ServesBy : List Octets → ServeChoices → Type 0
ServesBy words chosen = (serve_words_of words ≡ Ok chosen) ↔ IsServeLine words chosen

-- `drill` and good words
pub record IsDrillLine (words : List Octets) (chosen : DrillChoices) : Type 0 where
  pub line : IsLine drill_keys (codes "drill") 0 words
  pub settings : chosen.settings ≡ choices (between 0 words)
  pub seed : chosen.seed ≡ value_of (between 0 words) Key.Seed
  pub blocks : chosen.blocks ≡ value_of (between 0 words) Key.Blocks

abbrev pub DrillsBy : List Octets → DrillChoices → Type 0
DrillsBy words chosen = (drill_words_of words ≡ Ok chosen) ↔ IsDrillLine words chosen
