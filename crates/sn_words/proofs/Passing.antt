-- Answers that stand behind tests, and words of which none is bad.
use Rattle.std.proofs.Common.{◌≡◌, ◌≤◌, ℕ, Bool, true, false, not, cond, nat_lt, List, [], length, Option, Some, None, refl, sym, subst, ◌∙◌}
use Rattle.std.proofs.lemmas.Bool.{true≢false, le-ltb, ltb-false}
use Rattle.sn_ports.specs.Octets.{Octets}
use Rattle.sn_words.specs.declared.keys.Key.{Key}
use Rattle.sn_words.specs.Keys.{first_bad}
use Rattle.sn_words.specs.Laws.{AreGood, Tells}
use Rattle.sn_words.proofs.FirstBad.{finds_first_bad}

pub went_on : {A : Type 0} (test : Bool) (first rest : A) → test ≡ false → cond test first rest ≡ rest
went_on true first rest e = absurd cc
went_on false first rest e = refl

pub chosen_where : {A : Type 0} (test : Bool) (first rest : A) → test ≡ true → cond test first rest ≡ first
chosen_where true first rest e = refl
chosen_where false first rest e = absurd cc

pub negated : (test : Bool) → not test ≡ false → test ≡ true
negated true e = refl
negated false e = absurd cc

pub is_negated : (test : Bool) → test ≡ true → not test ≡ false
is_negated true e = refl
is_negated false e = absurd cc

pub not_fewer : (n most : ℕ) → nat_lt n most ≡ false → most ≤ n
not_fewer n most e = ltb-false n most e

pub not_short : (n most : ℕ) → most ≤ n → nat_lt n most ≡ false
not_short n most le = le-ltb n most le

pub all_good : (keys : List Key) (words : List Octets) → first_bad keys [] words ≡ None → AreGood keys words (length words)
all_good keys words e = let P : Option ℕ → Type 0 = λ index. Tells keys words index in subst P e (finds_first_bad keys words)

none_of : (keys : List Key) (words : List Octets) (index : Option ℕ) → AreGood keys words (length words) → Tells keys words index → index ≡ None
none_of keys words None good tells = refl
none_of keys words (Some i) good tells = absurd (true≢false (sym (good i tells.0) ∙ tells.1))

pub none_is_bad : (keys : List Key) (words : List Octets) → AreGood keys words (length words) → first_bad keys [] words ≡ None
none_is_bad keys words good = none_of keys words (first_bad keys [] words) good (finds_first_bad keys words)
