-- The names of a definition: few bytes, none of them null.
use Rattle.std.proofs.Common.{◌≡◌, ◌<◌, ◌&&◌, ℕ, zero, suc, Bool, true, false, not, List, [], ◌∷◌, length, refl, arith, nat_le, leb-true}
use Rattle.std.specs.Prelude.{◌==◌, slice_index}
use Rattle.std.specs.List.{list_all}
use Rattle.std.proofs.Props.{props}
use Rattle.std.proofs.Math.Logic.{∥∥₁_elim}
use Rattle.std.proofs.lemmas.Grind.{common_steps}
use Rattle.sn_osc.specs.Bytes.{has_no_null}
use Rattle.sn_def.specs.Definition.{Definition}
use Rattle.sn_def.specs.Reading.{IsWritten, begins_name}
use Rattle.sn_def.specs.Grammar.{is_given_byte, is_given_name, names_of}
use Rattle.sn_reply.proofs.Sending.{both, first-of, second-of}

-- the names of a definition are short
abbrev pub NamesAreShort : Type 0
NamesAreShort = (d : Definition) → IsWritten d → list_all is_given_name (d.name ∷ names_of d) ≡ true

a_test : (b : Bool) → IsProp (b ≡ true)
a_test b = hlevel props

pub named_well : NamesAreShort → (d : Definition) → ∥ IsWritten d ∥₁ → is_given_name d.name ≡ true
named_well short d w = ∥∥₁_elim w (a_test (is_given_name d.name)) (λ t. first-of (is_given_name d.name) (list_all is_given_name (names_of d)) (short d t))

-- ---- a name

record NameParts (name : List ℕ) : Type 0 where
  few : nat_le (length name) 35 ≡ true
  each : list_all is_given_byte name ≡ true

parts-of : (a b c : Bool) → (a && b && c) ≡ true → (b ≡ true) × (c ≡ true)
parts-of true true true h = (refl, refl)
parts-of true true false h = absurd cc
parts-of true false c h = absurd cc
parts-of false b c h = absurd cc

name-parts : (name : List ℕ) → is_given_name name ≡ true → NameParts name
unfolding is_given_name
name-parts name h =
    let p = parts-of (begins_name (slice_index name 0)) (nat_le (length name) 35) (list_all is_given_byte name) h in
    record { few = p.0; each = p.1 }

pub name-short : (name : List ℕ) → is_given_name name ≡ true → length name < 60
name-short name h = omega (arith, leb-true (length name) 35 (name-parts name h).few)

not_zero : (b : ℕ) → is_given_byte b ≡ true → not (b == 0) ≡ true
not_zero zero h = absurd cc
not_zero (suc c) h = grind (arith, common_steps)

none-null : (name : List ℕ) → list_all is_given_byte name ≡ true → has_no_null name ≡ true
none-null [] h = refl
none-null (b ∷ bs) h =
    both (not (b == 0)) (has_no_null bs) (not_zero b (first-of (is_given_byte b) (list_all is_given_byte bs) h)) (none-null bs (second-of (is_given_byte b) (list_all is_given_byte bs) h))

pub name-clean : (name : List ℕ) → is_given_name name ≡ true → has_no_null name ≡ true
name-clean name h = none-null name (name-parts name h).each
