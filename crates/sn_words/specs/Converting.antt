-- The words `score IN OUT` and `dump IN OUT`.
use Rattle.std.specs.Prelude.{ℕ, nat_lt, cond, List, length, codes, Result, Ok, Err}
use Rattle.sn_ports.specs.Octets.{Octets}
use Rattle.sn_words.specs.declared.convert.Conversion.{Conversion}
use Rattle.sn_words.specs.Words.{begins_with}

-- three words in all, or the index of the one that is missing or of the first that is too many
abbrev pub of_three : List Octets → Conversion → Result Conversion ℕ
of_three words c = cond (nat_lt (length words) 3) (Err (length words)) (cond (nat_lt 3 (length words)) (Err 3) (Ok c))

-- The conversion that the words choose, or the index of the first bad word.
unfoldable pub convert_words_of : List Octets → Result Conversion ℕ
convert_words_of words =
    cond (begins_with (codes "score") words) (of_three words Conversion.Score)
    (cond (begins_with (codes "dump") words) (of_three words Conversion.Dump) (Err 0))
