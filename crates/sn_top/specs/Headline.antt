-- What a run says of the settings that the words choose.
use Rattle.std.specs.Prelude.{◌≡◌, ℕ, List, Result, Ok, Err}
use Rattle.sn_ports.specs.Octets.{Octets}
use Rattle.sn_pcm.specs.declared.settings.Settings.{Settings}
use Rattle.sn_words.specs.Choices.{Choices, numbers}
use Rattle.sn_words.specs.Words.{settings_of}

-- the words choose these settings
abbrev pub AreChosen : List Octets → Settings → Type 0
AreChosen words s = settings_of words ≡ Ok (numbers s)

-- A fact about the settings that the words choose, if they choose some.
abbrev pub ForChosen : List Octets → Result Choices ℕ → (Settings → Type 0) → Type 0
ForChosen words (Ok c) P = (s : Settings) × AreChosen words s × P s
ForChosen words (Err i) P = Unit {0}

abbrev pub ByWords : List Octets → (Settings → Type 0) → Type 0
ByWords words P = ForChosen words (settings_of words) P
