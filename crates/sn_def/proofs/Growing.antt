-- Each line after the first two that is read gives a control or a unit.
use Rattle.std.proofs.Common.{◌≡◌, ℕ, ℤ, ◌+◌, ◌<◌, ◌==◌, ◌||◌, not, nat_le, nat_lt, List, [], ◌∷◌, length, Option, Some, None, Ok, ap, subst, arith, codes, length-append}
use Rattle.std.specs.Str.{bytes_eq}
use Rattle.std.specs.List.{list_all, list_any}
use Rattle.std.proofs.lemmas.Bool.{or_parts}
use Rattle.sn_fixed.specs.Literal.{literal}
use Rattle.sn_def.specs.declared.fault.DefKind.{DefKind}
use Rattle.sn_def.specs.declared.fault.DefKind.TheVariants as wrong
use Rattle.sn_def.specs.declared.kind.Kind.{Kind}
use Rattle.sn_def.specs.declared.version.Version.{Version}
use Rattle.sn_def.specs.Units.{row_of, kind_named}
use Rattle.sn_def.specs.Definition.{Definition, Parameter, elements, with_control, with_array, with_unit, unit_line}
use Rattle.sn_def.specs.Versions.{most_controls}
use Rattle.sn_def.specs.Reading.{is_name, is_known, is_array_word, is_reserved, first_of, default_at, control_at, defaults_at, array_at, inputs_at, wires_at, UnitParts, counts_fit, unit_of, unit_if_known, unit_at, unit_line_at, unit_parts, control_line_at, array_line_at, line_at}
use Rattle.sn_def.proofs.ElementNames.{length-elements}
use Rattle.sn_def.proofs.Forming.{past, steps, same_ok, wires_given, as_many_defaults, some_literals, either_kept}

abbrev pub size : Definition → ℕ
size d = length d.controls + length d.units

default_grows : (d e : Definition) (name : List ℕ) (o : Option ℤ) → default_at d name o ≡ Ok e → size d < size e
default_grows d e name (Some x) h =
    let p : Parameter = record { name = name; default = x } in
    let more : size d < size (with_control d name x) = omega (arith, length-append d.controls (p ∷ [])) in
    subst (λ (g : Definition). size d < size g) (same_ok {E = DefKind} (with_control d name x) e h) more
default_grows d e name None h = cc

control_grows : (v : Version) (d e : Definition) (fields : List (List ℕ)) → control_line_at v d fields ≡ Ok e → size d < size e
unfolding control_at
control_grows v d e (word ∷ name ∷ value ∷ []) h =
    let a = past (not (length d.units == 0)) wrong.Line _ e h in
    let b = past (nat_le (most_controls v) (length d.controls)) wrong.Limit _ e a.1 in
    let i = past (not (is_name v name)) wrong.Name _ e b.1 in
    default_grows d e name (literal value) (past (is_known d name) wrong.Twice _ e i.1).1
control_grows v d e [] h = cc
control_grows v d e (a ∷ []) h = cc
control_grows v d e (a ∷ b ∷ []) h = cc
control_grows v d e (a ∷ b ∷ x ∷ y ∷ z) h = cc

array_grows : (v : Version) (d e : Definition) (name : List ℕ) (literals : List (List ℕ)) → 0 < length literals → array_at v d name literals ≡ Ok e → size d < size e
unfolding array_at
array_grows v d e name literals some h =
    let a = past (not (length d.units == 0)) wrong.Line _ e h in
    let b = past (nat_lt 64 (length literals) || nat_lt (most_controls v) (length d.controls + length literals)) wrong.Limit _ e a.1 in
    let i = past (not (is_name v name)) wrong.Name _ e b.1 in
    let j = past (is_known d name) wrong.Twice _ e i.1 in
    let s = steps (defaults_at literals) _ e j.1 in
    let more : size d < size (with_array d name s.0) = omega (arith, some, as_many_defaults literals s.0 s.1, length-append d.controls (elements name 0 s.0), length-elements name 0 s.0) in
    subst (λ (g : Definition). size d < size g) (same_ok {E = DefKind} (with_array d name s.0) e s.2) more

array_line_grows : (v : Version) (d e : Definition) (fields : List (List ℕ)) → array_line_at v d fields ≡ Ok e → size d < size e
array_line_grows v d e [] h = cc
array_line_grows v d e (a ∷ []) h = cc
array_line_grows v d e (word ∷ name ∷ literals) h =
    let a = past (length literals == 0 || bytes_eq name (codes "=")) wrong.Line _ e h in
    array_grows v d e name literals (some_literals literals (or_parts (length literals == 0) (bytes_eq name (codes "=")) a.0).0) a.1

unit_of_grows : (v : Version) (d e : Definition) (parts : UnitParts) (kind : Kind) → unit_of v d parts kind ≡ Ok e → size d < size e
unfolding unit_of
unit_of_grows v d e parts kind h =
    let a = past (not (counts_fit (row_of kind) (length parts.inputs) (length parts.outputs))) wrong.Count _ e h in
    let b = past (not (list_all (is_name v) parts.outputs)) wrong.Name _ e a.1 in
    let w = steps (wires_at d parts.outputs) _ e b.1 in
    let i = steps (inputs_at d (row_of kind).inputs 0 parts.inputs) _ e w.2 in
    let given = wires_given d w.0 parts.outputs w.1 in
    let u = unit_line kind i.0 (length parts.outputs) in
    let controls : length w.0.controls ≡ length d.controls = ap (λ (g : Definition). length g.controls) given in
    let units : length w.0.units ≡ length d.units = ap (λ (g : Definition). length g.units) given in
    let more : size d < size (with_unit w.0 kind i.0 (length parts.outputs)) = omega (arith, controls, units, length-append w.0.units (u ∷ [])) in
    subst (λ (g : Definition). size d < size g) (same_ok {E = DefKind} (with_unit w.0 kind i.0 (length parts.outputs)) e i.2) more

unit_known_grows : (v : Version) (d e : Definition) (parts : UnitParts) (o : Option Kind) → unit_if_known v d parts o ≡ Ok e → size d < size e
unit_known_grows v d e parts (Some kind) h = unit_of_grows v d e parts kind h
unit_known_grows v d e parts None h = cc

unit_line_grows : (v : Version) (d e : Definition) (o : Option UnitParts) → unit_line_at v d o ≡ Ok e → size d < size e
unfolding unit_at
unit_line_grows v d e (Some parts) h = unit_known_grows v d e parts (kind_named parts.unit) (past (nat_le 256 (length d.units) || nat_lt 512 (length d.wires + length parts.outputs)) wrong.Limit _ e h).1
unit_line_grows v d e None h = cc

pub line_grows : (v : Version) (d e : Definition) (fields : List (List ℕ)) → line_at v d fields ≡ Ok e → size d < size e
unfolding line_at
line_grows v d e fields h =
    let a = past (list_any (λ f. length f == 0) fields) wrong.Line _ e h in
    either_kept (bytes_eq (first_of fields) (codes "control")) (control_line_at v d fields) _ e (size d < size e) (control_grows v d e fields)
    (either_kept (is_array_word v (first_of fields)) (array_line_at v d fields) _ e (size d < size e) (array_line_grows v d e fields)
    (λ i. unit_line_grows v d e (unit_parts fields) (past (is_reserved v (first_of fields)) wrong.Line _ e i).1)) a.1
