-- Words of which none is bad are a line.
use Rattle.std.proofs.Common.{◌≡◌, ℕ, ◌+◌, Bool, true, false, not, cond, nat_lt, List, [], length, Option, Some, None, refl, ap, ◌∙◌}
use Rattle.std.specs.Prelude.{option_map}
use Rattle.sn_ports.specs.Octets.{Octets}
use Rattle.sn_words.specs.declared.keys.Key.{Key}
use Rattle.sn_words.specs.Keys.{first_bad}
use Rattle.sn_words.specs.Laws.{IsLine}
use Rattle.sn_words.specs.Words.{begins_with, between, bad_word}
use Rattle.sn_words.proofs.Passing.{went_on, negated, is_negated, not_fewer, not_short, all_good, none_is_bad}

passed_by : (test : Bool) (i : ℕ) (rest : Option ℕ) → cond test (Some i) rest ≡ None → (test ≡ false) × (rest ≡ None)
passed_by true i rest e = absurd cc
passed_by false i rest e = (refl, e)

none_behind : (bad : Option ℕ) → option_map (λ i. i + 1) bad ≡ None → bad ≡ None
none_behind None e = refl
none_behind (Some i) e = absurd cc

module _ (keys : List Key) (name : List ℕ) (last : ℕ) (words : List Octets) where
  pub is_line : bad_word keys name last words ≡ None → IsLine keys name last words
  unfolding bad_word
  is_line none =
      let (first, e1) = passed_by (not (begins_with name words)) 0 _ none in
      let (enough, e2) = passed_by (nat_lt (length words) (last + 1)) (length words) _ e1 in
      record {
        first = negated (begins_with name words) first;
        enough = not_fewer (length words) (last + 1) enough;
        good = all_good keys (between last words) (none_behind (first_bad keys [] (between last words)) e2);
      }

  pub no_bad_word : IsLine keys name last words → bad_word keys name last words ≡ None
  unfolding bad_word
  no_bad_word line =
      went_on (not (begins_with name words)) (Some 0) _ (is_negated (begins_with name words) line.first)
      ∙ went_on (nat_lt (length words) (last + 1)) (Some (length words)) _ (not_short (length words) (last + 1) line.enough)
      ∙ ap (option_map (λ i. i + 1)) (none_is_bad keys (between last words) line.good)
