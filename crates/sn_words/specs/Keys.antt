-- Words `key=value`, and the settings that a list of them chooses.
use Rattle.std.specs.Prelude.{ℕ, ◌+◌, ◌==◌, Bool, true, ◌&&◌, cond, nat_le, List, [], ◌∷◌, ◌++◌, length, take, drop, position, codes, Option, Some, None, unwrap_or}
use Rattle.std.specs.Option.{is_some, is_none, option_or}
use Rattle.std.specs.List.{list_any}
use Rattle.std.specs.Str.{bytes_eq}
use Rattle.sn_ports.specs.Limits.{most_channels, most_clients, most_workers, least_memory, most_memory, middle_rate}
use Rattle.sn_ports.specs.Octets.{Octets}
use Rattle.sn_fixed.specs.Natural.{natural}
use Rattle.sn_pcm.specs.Allowed.{is_rate, is_width, is_within}
use Rattle.sn_words.specs.declared.keys.Key.{Key}
use Rattle.sn_words.specs.Choices.{Choices}

-- the keys of settings
abbrev pub setting_keys : List Key
setting_keys = Key.Rate ∷ Key.Channels ∷ Key.Bits ∷ Key.Workers ∷ Key.Memory ∷ []

-- those of `serve`
abbrev pub serve_keys : List Key
serve_keys = Key.Clients ∷ Key.Pace ∷ setting_keys

-- and those of a drill
abbrev pub drill_keys : List Key
drill_keys = Key.Seed ∷ Key.Blocks ∷ setting_keys

abbrev pub name : Key → List ℕ
name Key.Rate = codes "rate"
name Key.Channels = codes "channels"
name Key.Bits = codes "bits"
name Key.Workers = codes "workers"
name Key.Memory = codes "memory"
name Key.Clients = codes "clients"
name Key.Pace = codes "pace"
name Key.Seed = codes "seed"
name Key.Blocks = codes "blocks"

-- the values that a key may have, of the numbers of 32 bits
abbrev pub allows : Key → ℕ → Bool
allows Key.Rate n = is_rate n
allows Key.Channels n = is_within 1 most_channels n
allows Key.Bits n = is_width n
allows Key.Workers n = is_within 1 most_workers n
allows Key.Memory n = is_within least_memory most_memory n
allows Key.Clients n = is_within 1 most_clients n
allows Key.Pace n = nat_le n 1
allows Key.Seed n = true
allows Key.Blocks n = is_within 1 20000 n

-- its value if no word gives one
abbrev pub default_value : Key → ℕ
default_value Key.Rate = middle_rate
default_value Key.Channels = 2
default_value Key.Bits = 16
default_value Key.Workers = 4
default_value Key.Memory = 1048576
default_value Key.Clients = 1
default_value Key.Pace = 0
default_value Key.Seed = 1
default_value Key.Blocks = 1000

-- the clock sets the pace, or what takes the sound does
abbrev pub pace_named : List ℕ → Option ℕ
pace_named text = cond (bytes_eq text (codes "clock")) (Some 0) (cond (bytes_eq text (codes "sound")) (Some 1) None)

-- the number that a text gives: of the pace that of its name, of any other key what its digits spell
abbrev pub number_of : Key → List ℕ → Option ℕ
number_of Key.Rate text = natural text
number_of Key.Channels text = natural text
number_of Key.Bits text = natural text
number_of Key.Workers text = natural text
number_of Key.Memory text = natural text
number_of Key.Clients text = natural text
number_of Key.Pace text = pace_named text
number_of Key.Seed text = natural text
number_of Key.Blocks text = natural text

-- a number as a value of the key
abbrev pub allowed : Key → Option ℕ → Option ℕ
allowed key (Some n) = cond (allows key n) (Some n) None
allowed key None = None

-- a word that is divided at its `=`, or has none
abbrev pub value_at : Key → List ℕ → Option ℕ → Option ℕ
value_at key word (Some at) = cond (bytes_eq (take at word) (name key)) (allowed key (number_of key (drop (at + 1) word))) None
value_at key word None = None

-- The value that a word `key=value` gives the key, if the key may have it; 61 is `=`.
unfoldable pub value_in : Key → List ℕ → Option ℕ
value_in key word = value_at key word (position (λ byte. byte == 61) word)

-- The value that the first such word gives the key.
unfoldable pub given : Key → List Octets → Option ℕ
given key [] = None
given key (word ∷ words) = option_or (value_in key word.bytes) (given key words)

-- the word gives the key a value, and no word before it does
abbrev pub adds : List Octets → List ℕ → Key → Bool
adds before word key = is_some (value_in key word) && is_none (given key before)

-- A word is good if it gives a value to one of the keys to which the words before it give none.
abbrev pub is_good : List Key → List Octets → List ℕ → Bool
is_good keys before word = list_any (adds before word) keys

-- The index of the first bad word, if the words before are good and these words follow them.
unfoldable pub first_bad : List Key → List Octets → List Octets → Option ℕ
first_bad keys before [] = None
first_bad keys before (word ∷ words) = cond (is_good keys before word.bytes) (first_bad keys (before ++ word ∷ []) words) (Some (length before))

-- the value of a setting
abbrev pub value_of : List Octets → Key → ℕ
value_of words key = unwrap_or (given key words) (default_value key)

-- What good words choose.
abbrev pub choices : List Octets → Choices
choices words = record {
  rate = value_of words Key.Rate;
  channels = value_of words Key.Channels;
  bits = value_of words Key.Bits;
  workers = value_of words Key.Workers;
  memory = value_of words Key.Memory;
}
