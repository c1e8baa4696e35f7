-- The words `serve [key=value ..] PORT SOUND`.
use Rattle.std.specs.Prelude.{ℕ, ◌-◌, ◌==◌, cond, List, length, get_or, codes, Option, Some, None, Result, Ok, Err}
use Rattle.sn_fixed.specs.Natural.{natural}
use Rattle.sn_pcm.specs.Allowed.{is_within}
use Rattle.sn_ports.specs.Octets.{Octets}
use Rattle.sn_words.specs.declared.keys.Key.{Key}
use Rattle.sn_words.specs.declared.serve.Pacing.{Pacing}
use Rattle.sn_words.specs.Choices.{Choices}
use Rattle.sn_words.specs.Keys.{serve_keys, choices, value_of}
use Rattle.sn_words.specs.Words.{bad_word, between, no_word}

-- what sets the pace, by the value of its key
abbrev pub pacing_of : ℕ → Pacing
pacing_of n = cond (n == 0) Pacing.Clock Pacing.Sound

-- settings, the port to listen on, how many clients are served at once, and what sets the pace
pub record ServeChoices : Type 0 where
  pub settings : Choices
  pub port : ℕ
  pub clients : ℕ
  pub pacing : Pacing

-- The word before the last, which is a path.
abbrev pub port_word : List Octets → List ℕ
port_word words = (get_or words (length words - 2) no_word).bytes

-- a number as a port: 1 to 65535
abbrev pub port_of : Option ℕ → Option ℕ
port_of (Some n) = cond (is_within 1 65535 n) (Some n) None
port_of None = None

-- no other word is bad, and there is a port, or its word is bad
abbrev pub by_port : List Octets → Option ℕ → Result ServeChoices ℕ
by_port words (Some port) = Ok (record { settings = choices (between 2 words); port = port; clients = value_of (between 2 words) Key.Clients; pacing = pacing_of (value_of (between 2 words) Key.Pace) })
by_port words None = Err (length words - 2)

-- a word is bad, or none but that of the port may be
abbrev pub by_settings : List Octets → Option ℕ → Result ServeChoices ℕ
by_settings words (Some i) = Err i
by_settings words None = by_port words (port_of (natural (port_word words)))

-- What the words choose, or the index of the first bad word: of a missing word, the number of words.
unfoldable pub serve_words_of : List Octets → Result ServeChoices ℕ
serve_words_of words = by_settings words (bad_word serve_keys (codes "serve") 2 words)
