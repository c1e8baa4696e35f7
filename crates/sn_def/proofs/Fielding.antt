-- Fields as lists of bytes.
use Rattle.std.proofs.Common.{◌≡◌, ◌≢◌, ℕ, ◌+◌, ◌&&◌, ◌||◌, Bool, cond, List, [], ◌∷◌, length, take, drop, get_or, position, Option, Some, refl, sym, ap, ◌∙◌, Bor, codes, ne_eqb}
use Rattle.std.specs.List.{position_from, list_all, list_any}
use Rattle.std.specs.Str.{bytes_eq}
use Rattle.std.proofs.Math.ListN.{get_or-map}
use Rattle.std.proofs.lemmas.Iterator.Adapters.{position_from-zero}
use Rattle.std.proofs.lemmas.List.{length-map, take-map, drop-map}
use Rattle.sn_def.specs.Reading.{parts_at, parts_from, unit_parts}
use Rattle.sn_def.specs.Answers.{texts}

abbrev pub Field : Type 0
Field = Bor (List ℕ)

pub text_there : (fields : List Field) (i : ℕ) → get_or (texts fields) i [] ≡ (get_or fields i (record { ref_ptr = (0, 0); now = [] })).now
text_there fields i = get_or-map (λ (f : Field). f.now) fields i (record { ref_ptr = (0, 0); now = [] })

pub as_many : (fields : List Field) → length (texts fields) ≡ length fields
as_many fields = length-map fields (λ (f : Field). f.now)

from-map : (p : List ℕ → Bool) (i : ℕ) (xs : List Field) → position_from (λ x. p x.now) i xs ≡ position_from p i (texts xs)
from-map p i [] = refl
from-map p i (x ∷ xs) = ap (cond (p x.now) (Some i)) (from-map p (i + 1) xs)

pub same_place : (p : List ℕ → Bool) (xs : List Field) → position (λ x. p x.now) xs ≡ position p (texts xs)
same_place p xs = position_from-zero (λ (x : Field). p x.now) xs ∙ from-map p 0 xs ∙ sym (position_from-zero p (texts xs))

pub all_same : (p : List ℕ → Bool) (xs : List Field) → list_all (λ x. p x.now) xs ≡ list_all p (texts xs)
all_same p [] = refl
all_same p (x ∷ xs) = ap (λ (b : Bool). p x.now && b) (all_same p xs)

pub any_same : (p : List ℕ → Bool) (xs : List Field) → list_any (λ x. p x.now) xs ≡ list_any p (texts xs)
any_same p [] = refl
any_same p (x ∷ xs) = ap (λ (b : Bool). p x.now || b) (any_same p xs)

pub parts_are : (fields : List Field) (o : Option ℕ) → o ≡ position (λ f. bytes_eq f.now (codes "=")) fields → parts_at (texts fields) o ≡ unit_parts (texts fields)
unfolding unit_parts
parts_are fields o is = ap (parts_at (texts fields)) (is ∙ same_place (λ (f : List ℕ). bytes_eq f (codes "=")) fields)

pub parts_split : (fields : List Field) (i : ℕ) → i ≢ 0 → parts_from (texts (take i fields)) (texts (drop (i + 1) fields)) ≡ parts_at (texts fields) (Some i)
parts_split fields i some =
    rw (ne_eqb i 0 some) (ap (λ (xs : List (List ℕ)). parts_from xs (texts (drop (i + 1) fields))) (sym (take-map (λ (f : Field). f.now) i fields)) ∙ ap (parts_from (take i (texts fields))) (sym (drop-map (λ (f : Field). f.now) (i + 1) fields)))
