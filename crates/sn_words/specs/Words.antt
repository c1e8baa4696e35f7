-- The words `render [key=value ..] COMMANDS SOUND REPLIES` and `plan [key=value ..] COMMANDS REPORT`.
use Rattle.std.specs.Prelude.{ℕ, ◌+◌, ◌-◌, Bool, false, not, nat_lt, cond, List, [], ◌∷◌, length, codes, Option, Some, None, Result, Ok, Err, option_map}
use Rattle.std.specs.List.{slice_range}
use Rattle.std.specs.Str.{bytes_eq}
use Rattle.sn_ports.specs.Octets.{Octets}
use Rattle.sn_words.specs.declared.keys.Key.{Key}
use Rattle.sn_words.specs.Choices.{Choices}
use Rattle.sn_words.specs.Keys.{setting_keys, first_bad, choices}

abbrev pub no_word : Octets
no_word = record { bytes = []; spare = 0 }

abbrev pub begins_with : List ℕ → List Octets → Bool
begins_with name [] = false
begins_with name (word ∷ words) = bytes_eq word.bytes name

-- The words between the first one and the last so many.
abbrev pub between : ℕ → List Octets → List Octets
between last words = slice_range words 1 (length words - last)

-- The index of the first bad word, where the first is a name, and those between it and the last so many give values to keys: of a missing
-- word, the number of words.
unfoldable pub bad_word : List Key → List ℕ → ℕ → List Octets → Option ℕ
bad_word keys name last words =
    cond (not (begins_with name words)) (Some 0)
    (cond (nat_lt (length words) (last + 1)) (Some (length words))
    (option_map (λ i. i + 1) (first_bad keys [] (between last words))))

-- The settings that the words between a name and so many paths choose, or the index of the first bad word.
unfoldable pub choices_of : List ℕ → ℕ → List Octets → Result Choices ℕ
choices_of name paths words = elim (bad_word setting_keys name paths words) as (λ _. Result Choices ℕ) [ Some i ↦ Err i | None ↦ Ok (choices (between paths words)) ]

-- those of the words `render [key=value ..] COMMANDS SOUND REPLIES`
unfoldable pub settings_of : List Octets → Result Choices ℕ
settings_of words = choices_of (codes "render") 3 words

-- and of the words `plan [key=value ..] COMMANDS REPORT`
unfoldable pub plan_words_of : List Octets → Result Choices ℕ
plan_words_of words = choices_of (codes "plan") 2 words
