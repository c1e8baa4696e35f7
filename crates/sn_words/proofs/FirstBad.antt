-- The index that is found is that of the first bad word.
use Rattle.std.proofs.Common.{◌≡◌, ◌<◌, ◌≤◌, ℕ, zero, suc, ◌+◌, Bool, true, false, cond, List, length, get_or, take, drop, Option, Some, None, refl, sym, ap, subst, arith, drop_of_length-le, below_more}
use Rattle.sn_ports.specs.Octets.{Octets}
use Rattle.sn_words.specs.declared.keys.Key.{Key}
use Rattle.sn_words.specs.Keys.{given, first_bad}
use Rattle.sn_words.specs.Laws.{is_good_at, AreGood, Tells, FindsFirstBad, HasOpeningDefaults}
use Rattle.sn_words.specs.Words.{no_word}
use Rattle.sn_words.proofs.Loops.{bad_here}

by_good : (keys : List Key) (words : List Octets) (i : ℕ) (good : Bool) (rest : Option ℕ) → i < length words → AreGood keys words i → is_good_at keys words i ≡ good → (good ≡ true → Tells keys words rest) → Tells keys words (cond good rest (Some i))
by_good keys words i true rest h before e further = further refl
by_good keys words i false rest h before e further = (h, e, before)

more_good : (keys : List Key) (words : List Octets) (i : ℕ) → AreGood keys words i → is_good_at keys words i ≡ true → AreGood keys words (i + 1)
more_good keys words i before e = below_more (λ j. is_good_at keys words j ≡ true) i before e

none_left : (keys : List Key) (words : List Octets) (i : ℕ) → length words ≤ i → first_bad keys (take i words) (drop i words) ≡ None
unfolding first_bad
none_left keys words i h = ap (first_bad keys (take i words)) (drop_of_length-le words h)

from : (keys : List Key) (left i : ℕ) (words : List Octets) → i + left ≡ length words → AreGood keys words i → Tells keys words (first_bad keys (take i words) (drop i words))
from keys zero i words e before =
    subst (Tells keys words) (sym (none_left keys words i (omega arith))) (λ (j : ℕ) (h : j < length words). before j (omega arith))
from keys (suc left) i words e before =
    let h : i < length words = omega arith in
    let w : Octets = get_or words i no_word in
    let further : is_good_at keys words i ≡ true → Tells keys words (first_bad keys (take (i + 1) words) (drop (i + 1) words)) = λ t. from keys left (i + 1) words (omega arith) (more_good keys words i before t) in
    subst (Tells keys words) (sym (bad_here keys words i w no_word w.bytes (is_good_at keys words i) h refl refl refl)) (by_good keys words i (is_good_at keys words i) (first_bad keys (take (i + 1) words) (drop (i + 1) words)) h before refl further)

pub finds_first_bad : (keys : List Key) (words : List Octets) → FindsFirstBad keys words
finds_first_bad keys words = from keys (length words) 0 words (omega arith) (λ (i : ℕ) (h : i < 0). absurd (omega arith))

pub defaults : HasOpeningDefaults
unfolding given
defaults = refl
