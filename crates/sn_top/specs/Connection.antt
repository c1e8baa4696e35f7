-- What serving says of the settings that the words choose, and the status with which the program ends.
use Rattle.std.specs.Prelude.{◌≡◌, ℕ, List, Result, Ok, Err}
use Rattle.sn_ports.specs.Octets.{Octets}
use Rattle.sn_pcm.specs.declared.settings.Settings.{Settings}
use Rattle.sn_server.specs.Statuses.{end_status}
use Rattle.sn_words.specs.Choices.{numbers}
use Rattle.sn_words.specs.Serving.{ServeChoices, serve_words_of}
use Rattle.sn_top.specs.declared.serving.Served.{Served}
use Rattle.sn_top.specs.declared.serving.Served.TheVariants.{BadWords, Ran}

-- what the words choose has these settings
abbrev pub AreServed : List Octets → Settings → Type 0
AreServed words s = (chosen : ServeChoices) × (serve_words_of words ≡ Ok chosen) × (chosen.settings ≡ numbers s)

-- A fact about the settings that the words choose, if they choose some.
abbrev pub ForServed : List Octets → Result ServeChoices ℕ → (Settings → Type 0) → Type 0
ForServed words (Ok c) P = (s : Settings) × AreServed words s × P s
ForServed words (Err i) P = Unit {0}

abbrev pub ByServeWords : List Octets → (Settings → Type 0) → Type 0
ByServeWords words P = ForServed words (serve_words_of words) P

abbrev pub served_status : Served → ℕ
served_status (BadWords index) = 2
served_status (Ran how) = end_status how
