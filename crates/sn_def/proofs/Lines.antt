-- Lines and fields of a text.
use Rattle.std.proofs.Common.{◌≡◌, ◌≢◌, ℕ, ◌+◌, ◌<◌, ◌==◌, Bool, true, false, cond, List, [], ◌∷◌, ◌++◌, length, map, take, drop, get_or, position, Option, Some, None, refl, sym, ap, ◌∙◌, arith, codes, append_assoc, flat_map, length-append, take-append-drop, length-take}
use Rattle.std.proofs.lemmas.Bool.{eqb-false}
use Rattle.std.specs.List.{join_with_byte}
use Rattle.std.specs.Str.{bytes_eq}
use Rattle.std.proofs.lemmas.List.{drop_more}
use Rattle.std.proofs.lemmas.List.Splits.{join_with_byte-slice_split}
use Rattle.std.proofs.lemmas.List.Quantifiers.{position-Some}
use Rattle.std.proofs.lemmas.Slice.Eq.{bytes_eq-Decides}
use Rattle.sn_def.specs.Reading.{pieces, UnitParts, parts_from, parts_at, unit_parts}
use Rattle.sn_def.specs.Grammar.{ControlLine, control_fields, output_fields, unit_fields}

pub joined : (b : ℕ) (text : List ℕ) → join_with_byte b (pieces b text) ≡ text
joined b text = join_with_byte-slice_split b text

-- the last piece is no whole line
abbrev pub ending : List (List ℕ)
ending = codes "end" ∷ [] ∷ []

abbrev pub control_bytes : ControlLine → List ℕ
control_bytes c = join_with_byte 32 (control_fields c)

abbrev pub unit_bytes : UnitParts → List ℕ
unit_bytes u = join_with_byte 32 (unit_fields u)

pub line_first : (x : List ℕ) (rest : List (List ℕ)) → 0 < length rest → join_with_byte 10 (x ∷ rest) ≡ (x ++ 10 ∷ []) ++ join_with_byte 10 rest
line_first x [] h = absurd (omega arith)
line_first x (y ∷ ys) h = sym (append_assoc x (10 ∷ []) (join_with_byte 10 (y ∷ ys)))

pub lines_first : {X : Type 0} (bytes : X → List ℕ) (xs : List X) (rest : List (List ℕ)) → 0 < length rest → join_with_byte 10 (map bytes xs ++ rest) ≡ flat_map (λ x. bytes x ++ 10 ∷ []) xs ++ join_with_byte 10 rest
lines_first bytes [] rest h = refl
lines_first bytes (x ∷ xs) rest h =
    let more : 0 < length (map bytes xs ++ rest) = omega (arith, length-append (map bytes xs) rest) in
    line_first (bytes x) (map bytes xs ++ rest) more ∙ ap (λ (t : List ℕ). (bytes x ++ 10 ∷ []) ++ t) (lines_first bytes xs rest h)
    ∙ sym (append_assoc (bytes x ++ 10 ∷ []) (flat_map (λ y. bytes y ++ 10 ∷ []) xs) (join_with_byte 10 rest))

pub some_outputs : (ns : List (List ℕ)) → length ns ≢ 0 → output_fields ns ≡ ns ++ codes "=" ∷ []
some_outputs [] h = absurd (h refl)
some_outputs (n ∷ ns) h = refl

-- the parts of a unit line are its fields
from_fields : (outputs fields : List (List ℕ)) (parts : UnitParts) → parts_from outputs fields ≡ Some parts → (parts.outputs ≡ outputs) × (fields ≡ parts.unit ∷ parts.inputs)
from_fields outputs [] parts h = cc
from_fields outputs (unit ∷ inputs) parts h =
    let same : record { outputs = outputs; unit = unit; inputs = inputs } ≡ parts = same_some h in
    (ap (λ (p : UnitParts). p.outputs) (sym same), ap (λ (p : UnitParts). p.unit ∷ p.inputs) same)
  where
    same_some : Some (record { outputs = outputs; unit = unit; inputs = inputs }) ≡ Some parts → record { outputs = outputs; unit = unit; inputs = inputs } ≡ parts
    same_some h = cc

with_outputs : (fields : List (List ℕ)) (i : ℕ) (parts : UnitParts) (b : Bool) → (b ≡ false → i ≢ 0) → position (λ f. bytes_eq f (codes "=")) fields ≡ Some i
    → cond b None (parts_from (take i fields) (drop (i + 1) fields)) ≡ Some parts → fields ≡ unit_fields parts
with_outputs fields i parts true some is h = cc
with_outputs fields i parts false some is h =
    let p = from_fields (take i fields) (drop (i + 1) fields) parts h in
    let at = position-Some (λ (f : List ℕ). bytes_eq f (codes "=")) fields i [] is in
    let here : get_or fields i [] ≡ codes "=" = (bytes_eq-Decides (get_or fields i []) (codes "=")).0 at.1 in
    let long : length (take i fields) ≢ 0 = λ z. some refl (omega (arith, length-take i fields)) in
    sym (take-append-drop i fields) ∙ ap (λ (t : List (List ℕ)). take i fields ++ t) (drop_more fields i [] at.0 ∙ ap (λ (f : List ℕ). f ∷ drop (i + 1) fields) here ∙ ap (λ (t : List (List ℕ)). codes "=" ∷ t) p.1)
    ∙ sym (append_assoc (take i fields) (codes "=" ∷ []) (parts.unit ∷ parts.inputs))
    ∙ ap (λ (t : List (List ℕ)). t ++ parts.unit ∷ parts.inputs) (sym (some_outputs (take i fields) long))
    ∙ ap (λ (t : List (List ℕ)). output_fields t ++ parts.unit ∷ parts.inputs) (sym p.0)

parts_fields : (fields : List (List ℕ)) (o : Option ℕ) (parts : UnitParts) → position (λ f. bytes_eq f (codes "=")) fields ≡ o → parts_at fields o ≡ Some parts → fields ≡ unit_fields parts
parts_fields fields None parts is h =
    let p = from_fields [] fields parts h in
    p.1 ∙ ap (λ (t : List (List ℕ)). output_fields t ++ parts.unit ∷ parts.inputs) (sym p.0)
parts_fields fields (Some i) parts is h = with_outputs fields i parts (i == 0) (eqb-false i 0) is h

pub unit_line_fields : (fields : List (List ℕ)) (parts : UnitParts) → unit_parts fields ≡ Some parts → fields ≡ unit_fields parts
unfolding unit_parts
unit_line_fields fields parts h = parts_fields fields (position (λ f. bytes_eq f (codes "=")) fields) parts refl h
