-- The steps of the loops over words.
use Rattle.std.proofs.Common.{◌≡◌, ◌<◌, ◌≤◌, ℕ, suc, ◌+◌, Bool, true, false, cond, List, [], ◌∷◌, ◌++◌, length, get_or, take, drop, Option, Some, None, refl, sym, ap, ◌∙◌, add-one, arith, drop_of_length-le}
use Rattle.std.proofs.Math.Seq.{drop-cons}
use Rattle.std.proofs.lemmas.List.{take_more, length-take-le}
use Rattle.std.specs.Option.{is_some, option_or}
use Rattle.sn_ports.specs.Octets.{Octets}
use Rattle.sn_words.specs.declared.keys.Key.{Key}
use Rattle.sn_words.specs.Keys.{value_in, given, is_good, first_bad}

here : (words : List Octets) (i : ℕ) (w d : Octets) → i < length words → w ≡ get_or words i d → drop i words ≡ w ∷ drop (i + 1) words
here words i w d h is = rw add-one (drop-cons words i d h ∙ ap (λ x. x ∷ drop (suc i) words) (sym is))

or_some : (r p : Option ℕ) → is_some r ≡ true → option_or r p ≡ r
or_some None p e = absurd (cc)
or_some (Some n) p e = refl

or_none : (r p : Option ℕ) → is_some r ≡ false → option_or r p ≡ p
or_none None p e = refl
or_none (Some n) p e = absurd (cc)

given_here : (key : Key) (words : List Octets) (i : ℕ) (w : Octets) (bytes : List ℕ) (r : Option ℕ) → i < length words → w ≡ get_or words i w → bytes ≡ w.bytes → r ≡ value_in key bytes → given key (drop i words) ≡ option_or r (given key (drop (i + 1) words))
unfolding given
given_here key words i w bytes r h is same e =
    let value : value_in key w.bytes ≡ r = ap (value_in key) (sym same) ∙ sym e in
    ap (given key) (here words i w w h is) ∙ ap (λ o. option_or o (given key (drop (i + 1) words))) value

pub found : (key : Key) (words : List Octets) (i : ℕ) (w : Octets) (bytes : List ℕ) (r : Option ℕ) → i < length words → w ≡ get_or words i w → bytes ≡ w.bytes → r ≡ value_in key bytes → given key words ≡ given key (drop i words) → is_some r ≡ true → r ≡ given key words
found key words i w bytes r h is same e inv some = sym (inv ∙ given_here key words i w bytes r h is same e ∙ or_some r (given key (drop (i + 1) words)) some)

pub passed : (key : Key) (words : List Octets) (i : ℕ) (w : Octets) (bytes : List ℕ) (r : Option ℕ) → i < length words → w ≡ get_or words i w → bytes ≡ w.bytes → r ≡ value_in key bytes → given key words ≡ given key (drop i words) → is_some r ≡ false → given key words ≡ given key (drop (i + 1) words)
passed key words i w bytes r h is same e inv none = inv ∙ given_here key words i w bytes r h is same e ∙ or_none r (given key (drop (i + 1) words)) none

pub none_given : (key : Key) (words : List Octets) (i : ℕ) → length words ≤ i → given key words ≡ given key (drop i words) → ◌≡◌ {A = Option ℕ} None (given key words)
unfolding given
none_given key words i h inv = sym (inv ∙ ap (given key) (drop_of_length-le words h))

pub bad_here : (keys : List Key) (words : List Octets) (i : ℕ) (w d : Octets) (bytes : List ℕ) (good : Bool) → i < length words → w ≡ get_or words i d → bytes ≡ w.bytes → good ≡ is_good keys (take i words) bytes → first_bad keys (take i words) (drop i words) ≡ cond good (first_bad keys (take (i + 1) words) (drop (i + 1) words)) (Some i)
unfolding first_bad
bad_here keys words i w d bytes good h is same e =
    let test : is_good keys (take i words) w.bytes ≡ good = ap (is_good keys (take i words)) (sym same) ∙ sym e in
    let more : take i words ++ w ∷ [] ≡ take (i + 1) words = ap (λ x. take i words ++ x ∷ []) is ∙ sym (take_more words i d h) in
    let size : length (take i words) ≡ i = length-take-le i words (omega arith) in
    let rest : List Octets = drop (i + 1) words in
    ap (first_bad keys (take i words)) (here words i w d h is)
    ∙ ap (λ b. cond b (first_bad keys (take i words ++ w ∷ []) rest) (Some (length (take i words)))) test
    ∙ ap (λ l. cond good (first_bad keys l rest) (Some (length (take i words)))) more
    ∙ ap (λ n. cond good (first_bad keys (take (i + 1) words) rest) (Some n)) size

pub bad : (keys : List Key) (words : List Octets) (i : ℕ) (w : Octets) (bytes : List ℕ) (good : Bool) → i < length words → w ≡ get_or words i w → bytes ≡ w.bytes → good ≡ is_good keys (take i words) bytes → first_bad keys [] words ≡ first_bad keys (take i words) (drop i words) → good ≡ false → ◌≡◌ {A = Option ℕ} (Some i) (first_bad keys [] words)
bad keys words i w bytes good h is same e inv fails = sym (inv ∙ bad_here keys words i w w bytes good h is same e ∙ ap (λ b. cond b (first_bad keys (take (i + 1) words) (drop (i + 1) words)) (Some i)) fails)

pub good_so_far : (keys : List Key) (words : List Octets) (i : ℕ) (w : Octets) (bytes : List ℕ) (good : Bool) → i < length words → w ≡ get_or words i w → bytes ≡ w.bytes → good ≡ is_good keys (take i words) bytes → first_bad keys [] words ≡ first_bad keys (take i words) (drop i words) → good ≡ true → first_bad keys [] words ≡ first_bad keys (take (i + 1) words) (drop (i + 1) words)
good_so_far keys words i w bytes good h is same e inv passes = inv ∙ bad_here keys words i w w bytes good h is same e ∙ ap (λ b. cond b (first_bad keys (take (i + 1) words) (drop (i + 1) words)) (Some i)) passes

pub all_good : (keys : List Key) (words : List Octets) (i : ℕ) → length words ≤ i → first_bad keys [] words ≡ first_bad keys (take i words) (drop i words) → ◌≡◌ {A = Option ℕ} None (first_bad keys [] words)
unfolding first_bad
all_good keys words i h inv = sym (inv ∙ ap (first_bad keys (take i words)) (drop_of_length-le words h))
