-- Each definition that some text defines is well formed.
use Rattle.std.proofs.Common.{◌≡◌, ℕ, ℤ, pos, ◌+◌, ◌<◌, ◌≤◌, ◌==◌, ◌&&◌, ◌||◌, Bool, true, false, cond, not, int_le, nat_le, nat_lt, List, [], ◌∷◌, ◌++◌, length, Option, Some, None, IfSome, Result, Ok, Err, refl, sym, ap, subst, ◌∙◌, arith, lit≤, length-append, append_assoc, codes, suc, zero-add, add_assoc, add-zero, find, eqb-true, leb-true, leb-false, ltb-false}
use Rattle.std.specs.Str.{bytes_eq}
use Rattle.std.specs.List.{list_all, list_any}
use Rattle.std.proofs.lemmas.Bool.{and_parts, or_parts, not-false}
use Rattle.std.proofs.lemmas.Slice.Eq.{bytes_eq-Decides}
use Rattle.std.proofs.lemmas.List.{append-nil}
use Rattle.std.proofs.Props.{props}
use Rattle.std.proofs.Math.Logic.{∥∥₁_elim}
use Rattle.sn_fixed.specs.Literal.{literal}
use Rattle.sn_def.specs.declared.fault.DefKind.{DefKind}
use Rattle.sn_def.specs.declared.fault.DefKind.TheVariants as wrong
use Rattle.sn_def.specs.declared.fault.DefFault.{DefFault}
use Rattle.sn_def.specs.declared.arrays.Run.{Run}
use Rattle.sn_def.specs.declared.version.Version.{Version}
use Rattle.sn_def.specs.declared.version.Version.TheVariants as versions
use Rattle.sn_def.specs.declared.kind.Kind.{Kind}
use Rattle.sn_def.specs.declared.table.Mark.{Mark}
use Rattle.sn_def.specs.declared.table.Mark.TheVariants.{Signal, Index, Constant, Longest}
use Rattle.sn_def.specs.declared.unit.Input.{Input}
use Rattle.sn_def.specs.declared.unit.Input.TheVariants.{Literal, Control, Wire}
use Rattle.sn_def.specs.declared.unit.Unit.{Unit as UnitLine}
use Rattle.sn_def.specs.Units.{row_of, every_kind, kind_named}
use Rattle.sn_def.specs.Definition.{Definition, Parameter, named, named_only, elements, run, with_control, with_array, with_wires, with_unit, unit_line}
use Rattle.sn_def.specs.Versions.{version_of, most_controls}
use Rattle.sn_def.specs.Reading.{◌>>=◌, pieces, is_name, is_known, is_array_word, is_reserved, first_of, default_at, control_at, default_of, defaults_at, array_at, mark_at, literal_at, name_at, value_or_name_at, input_at, inputs_at, wires_at, UnitParts, counts_fit, unit_of, unit_if_known, unit_at, unit_line_at, unit_parts, control_line_at, array_line_at, line_at, fault, at_line, is_over, end_at, body_at, named_at, def_at, after_title, versioned_at, title_at, text_at, IsWritten}
use Rattle.sn_def.specs.WellFormed.{IsSample, IsDelay, IsAllowed, AreAllowed, UnitFits, UnitsFit, outputs_of, RunsFit, IsWellFormed}
use Rattle.sn_def.proofs.ElementNames.{length-elements}
use Rattle.sn_def.proofs.Samples.{below, a_literal}
use Rattle.sn_def.proofs.Standing.{IsThere, named_there}

-- what is not refused
pub past : {A E : Type 0} (b : Bool) (e : E) (r : Result A E) (x : A) → cond b (Err e) r ≡ Ok x → (b ≡ false) × (r ≡ Ok x)
past true e r x h = cc
past false e r x h = (refl, h)

-- the steps that gave a result
pub steps : {A B E : Type 0} (r : Result A E) (f : A → Result B E) (y : B) → (r >>= f) ≡ Ok y → (x : A) × (r ≡ Ok x) × (f x ≡ Ok y)
steps (Ok x) f y h = (x, refl, h)
steps (Err e) f y h = cc

pub same_ok : {A E : Type 0} (x y : A) → ◌≡◌ {A = Result A E} (Ok x) (Ok y) → x ≡ y
same_ok x y h = cc

delay : (b : Bool) (v : ℤ) (x : Input) (c w : ℕ) → (b ≡ true → IsDelay v) → ◌≡◌ {A = Result Input DefKind} (cond b (Ok (Literal v)) (Err wrong.Constant)) (Ok x) → IsAllowed Longest c w x
delay true v x c w is h = subst (IsAllowed Longest c w) (same_ok {E = DefKind} (Literal v) x h) (is refl)
delay false v x c w is h = cc

value_allowed : (mark : Mark) (c w : ℕ) (v : ℤ) (x : Input) → IsSample v → literal_at mark v ≡ Ok x → IsAllowed mark c w x
value_allowed Longest c w v x is h = delay (int_le (pos 0) v && int_le v (pos 60000)) v x c w (λ t. let p = and_parts (int_le (pos 0) v) (int_le v (pos 60000)) t in record { low = below (pos 0) v p.0; high = below v (pos 60000) p.1 }) h
value_allowed Signal c w v x is h = subst (IsAllowed Signal c w) (same_ok {E = DefKind} (Literal v) x h) is
value_allowed Index c w v x is h = subst (IsAllowed Index c w) (same_ok {E = DefKind} (Literal v) x h) is
value_allowed Constant c w v x is h = subst (IsAllowed Constant c w) (same_ok {E = DefKind} (Literal v) x h) is

as_signal : (x : Input) (c w : ℕ) → IsThere c w x → IsAllowed Signal c w x
as_signal (Literal v) c w h = absurd h
as_signal (Control k) c w h = h
as_signal (Wire k) c w h = h

as_index : (o x : Input) (c w : ℕ) → IsThere c w o → name_at Index (Some o) ≡ Ok x → IsAllowed Index c w x
as_index (Literal v) x c w h is = absurd h
as_index (Control k) x c w h is = subst (IsAllowed Index c w) (same_ok {E = DefKind} (Control k) x is) h
as_index (Wire k) x c w h is = cc

name_allowed : (mark : Mark) (o : Option Input) (c w : ℕ) (x : Input) → IfSome o (IsThere c w) → name_at mark o ≡ Ok x → IsAllowed mark c w x
name_allowed mark None c w x there h = cc
name_allowed Signal (Some o) c w x there h = subst (IsAllowed Signal c w) (same_ok {E = DefKind} o x h) (as_signal o c w there)
name_allowed Index (Some o) c w x there h = as_index o x c w there h
name_allowed Constant (Some o) c w x there h = cc
name_allowed Longest (Some o) c w x there h = cc

either_allowed : (mark : Mark) (o : Option ℤ) (n : Option Input) (c w : ℕ) (x : Input) → IfSome o IsSample → IfSome n (IsThere c w) → value_or_name_at mark o n ≡ Ok x → IsAllowed mark c w x
either_allowed mark (Some v) n c w x is there h = value_allowed mark c w v x is h
either_allowed mark None n c w x is there h = name_allowed mark n c w x there h

pub input_allowed : (d : Definition) (mark : Mark) (field : List ℕ) (x : Input) → input_at d mark field ≡ Ok x → IsAllowed mark (length d.controls) (length d.wires) x
unfolding input_at
input_allowed d mark field x h = either_allowed mark (literal field) (named d field) (length d.controls) (length d.wires) x (a_literal field) (named_there d field) h

pub inputs_allowed : (d : Definition) (marks : List Mark) (i : ℕ) (fields : List (List ℕ)) (xs : List Input) → inputs_at d marks i fields ≡ Ok xs
    → (length xs ≡ length fields) × AreAllowed marks (length d.controls) (length d.wires) i xs
unfolding inputs_at
inputs_allowed d marks i [] xs h = subst (λ (ys : List Input). (length ys ≡ 0) × AreAllowed marks (length d.controls) (length d.wires) i ys) (same_ok {E = DefKind} [] xs h) (refl, tt)
inputs_allowed d marks i (field ∷ fields) xs h =
    let one = steps (input_at d (mark_at marks i) field) _ xs h in
    let more = steps (inputs_at d marks (i + 1) fields) _ xs one.2 in
    let rest = inputs_allowed d marks (i + 1) fields more.0 more.1 in
    subst (λ (ys : List Input). (length ys ≡ length (field ∷ fields)) × AreAllowed marks (length d.controls) (length d.wires) i ys) (same_ok {E = DefKind} (one.0 ∷ more.0) xs more.2)
    (ap suc rest.0, (input_allowed d (mark_at marks i) field one.0 one.1, rest.1))

-- the names of the outputs are the next wires
pub wires_given : (d e : Definition) (names : List (List ℕ)) → wires_at d names ≡ Ok e → e ≡ with_wires d names
unfolding wires_at
wires_given d e [] h = sym (same_ok {E = DefKind} d e h) ∙ ap (λ (ws : List (List ℕ)). record d { wires = ws }) (sym (append-nil d.wires))
wires_given d e (n ∷ ns) h =
    let p = past (is_known d n) wrong.Twice (wires_at (with_wires d (n ∷ [])) ns) e h in
    wires_given (with_wires d (n ∷ [])) e ns p.1 ∙ ap (λ (ws : List (List ℕ)). record d { wires = ws }) (append_assoc d.wires (n ∷ []) ns)

found_first : (name : List ℕ) (b : Bool) (j k : Kind) (o : Option Kind) → bytes_eq (row_of j).name name ≡ b → (o ≡ Some k → bytes_eq (row_of k).name name ≡ true) → cond b (Some j) o ≡ Some k → bytes_eq (row_of k).name name ≡ true
found_first name true j k o is later h = let same : j ≡ k = cc in subst (λ (i : Kind). bytes_eq (row_of i).name name ≡ true) same is
found_first name false j k o is later h = later h

found : (name : List ℕ) (kinds : List Kind) (k : Kind) → find (λ k. bytes_eq (row_of k).name name) kinds ≡ Some k → bytes_eq (row_of k).name name ≡ true
found name [] k h = cc
found name (j ∷ js) k h = found_first name (bytes_eq (row_of j).name name) j k (find (λ k. bytes_eq (row_of k).name name) js) refl (found name js k) h

-- a kind that a name stands for has that name
pub kind_has_name : (name : List ℕ) (k : Kind) → kind_named name ≡ Some k → (row_of k).name ≡ name
unfolding kind_named
kind_has_name name k h = (bytes_eq-Decides (row_of k).name name).0 (found name every_kind k h)

no_units : (us : List UnitLine) (c w : ℕ) → length us ≡ 0 → UnitsFit c w us
no_units [] c w h = tt
no_units (u ∷ us) c w h = absurd (omega arith)

units_fit-push : (us : List UnitLine) (u : UnitLine) (c w : ℕ) → UnitsFit c w us → UnitFits c (w + outputs_of us) u → UnitsFit c w (us ++ u ∷ [])
units_fit-push [] u c w h i = (subst (λ (n : ℕ). UnitFits c n u) (add-zero w) i, tt)
units_fit-push (v ∷ us) u c w h i = (h.0, units_fit-push us u c (w + v.outputs) h.1 (subst (λ (n : ℕ). UnitFits c n u) (sym (add_assoc w v.outputs (outputs_of us))) i))

outputs-push : (us : List UnitLine) (u : UnitLine) → outputs_of (us ++ u ∷ []) ≡ outputs_of us + u.outputs
outputs-push [] u = omega arith
outputs-push (v ∷ us) u = let more = outputs-push us u in omega arith

-- more controls after the last array
runs_wider : (from controls more : ℕ) (rs : List Run) → controls ≤ more → RunsFit from controls rs → RunsFit from more rs
runs_wider from controls more [] le h = omega arith
runs_wider from controls more (r ∷ rs) le h = (h.0, h.1, h.2, runs_wider (r.first + r.len) controls more rs le h.3)

-- an array after all controls
runs_fit-push : (from controls len : ℕ) (rs : List Run) → 1 ≤ len → len ≤ 64 → RunsFit from controls rs → RunsFit from (controls + len) (rs ++ run controls len ∷ [])
runs_fit-push from controls len [] some few h = (h, some, few, omega arith)
runs_fit-push from controls len (r ∷ rs) some few h = (h.0, h.1, h.2, runs_fit-push (r.first + r.len) controls len rs some few h.3)

pub most_few : (v : Version) → most_controls v ≤ 512
most_few versions.One = omega arith
most_few versions.Two = omega arith

control_kept : (d : Definition) (n : List ℕ) (v : ℤ) → IsWellFormed d → length d.units ≡ 0 → length d.controls < 512 → IsWellFormed (with_control d n v)
control_kept d n v ok none room =
    let p : Parameter = record { name = n; default = v } in
    let more : length (d.controls ++ p ∷ []) ≡ length d.controls + 1 = length-append d.controls (p ∷ []) in
    record {
      controls = omega arith;
      arrays = runs_wider 0 (length d.controls) (length (d.controls ++ p ∷ [])) d.arrays (omega arith) ok.arrays;
      units = ok.units;
      wires = ok.wires;
      outputs = ok.outputs;
      fit = no_units d.units (length (with_control d n v).controls) 0 none;
    }

array_kept : (d : Definition) (n : List ℕ) (vs : List ℤ) → IsWellFormed d → length d.units ≡ 0 → 1 ≤ length vs → length vs ≤ 64 → length d.controls + length vs ≤ 512 → IsWellFormed (with_array d n vs)
array_kept d n vs ok none some few room =
    let more : length (d.controls ++ elements n 0 vs) ≡ length d.controls + length vs = length-append d.controls (elements n 0 vs) ∙ ap (λ (k : ℕ). length d.controls + k) (length-elements n 0 vs) in
    record {
      controls = omega arith;
      arrays = subst (λ (k : ℕ). RunsFit 0 k (d.arrays ++ run (length d.controls) (length vs) ∷ [])) (sym more) (runs_fit-push 0 (length d.controls) (length vs) d.arrays some few ok.arrays);
      units = ok.units;
      wires = ok.wires;
      outputs = ok.outputs;
      fit = no_units d.units (length (with_array d n vs).controls) 0 none;
    }

unit_kept : (d : Definition) (names : List (List ℕ)) (kind : Kind) (inputs : List Input) → IsWellFormed d → length d.units < 256 → length d.wires + length names ≤ 512
    → UnitFits (length d.controls) (length d.wires) (unit_line kind inputs (length names)) → IsWellFormed (with_unit (with_wires d names) kind inputs (length names))
unit_kept d names kind inputs ok room few fits = record {
  controls = ok.controls;
  arrays = ok.arrays;
  units = let u = unit_line kind inputs (length names) in omega (arith, length-append d.units (u ∷ []));
  wires = omega (arith, length-append d.wires names);
  outputs = outputs-push d.units (unit_line kind inputs (length names)) ∙ ap (λ (n : ℕ). n + length names) ok.outputs ∙ sym (length-append d.wires names);
  fit = units_fit-push d.units (unit_line kind inputs (length names)) (length d.controls) 0 ok.fit (subst (λ (n : ℕ). UnitFits (length d.controls) n (unit_line kind inputs (length names))) (sym (zero-add (outputs_of d.units) ∙ ok.outputs)) fits);
}

default_kept : (d e : Definition) (name : List ℕ) (o : Option ℤ) → IsWellFormed d → length d.units ≡ 0 → length d.controls < 512 → default_at d name o ≡ Ok e → IsWellFormed e
default_kept d e name (Some v) ok none room h = subst IsWellFormed (same_ok {E = DefKind} (with_control d name v) e h) (control_kept d name v ok none room)
default_kept d e name None ok none room h = cc

control_at_kept : (v : Version) (d e : Definition) (name value : List ℕ) → IsWellFormed d → control_at v d name value ≡ Ok e → IsWellFormed e
unfolding control_at
control_at_kept v d e name value ok h =
    let a = past (not (length d.units == 0)) wrong.Line _ e h in
    let b = past (nat_le (most_controls v) (length d.controls)) wrong.Limit _ e a.1 in
    let i = past (not (is_name v name)) wrong.Name _ e b.1 in
    let j = past (is_known d name) wrong.Twice _ e i.1 in
    let room : length d.controls < most_controls v = leb-false (most_controls v) (length d.controls) b.0 in
    default_kept d e name (literal value) ok (eqb-true (length d.units) 0 (not-false (length d.units == 0) a.0)) (omega (arith, most_few v)) j.1

-- literals that are read have one value each
pub as_many_defaults : (fields : List (List ℕ)) (vs : List ℤ) → defaults_at fields ≡ Ok vs → length vs ≡ length fields
unfolding defaults_at
as_many_defaults [] vs h = ap length (sym (same_ok {E = DefKind} [] vs h))
as_many_defaults (field ∷ fields) vs h =
    let one = steps (default_of (literal field)) _ vs h in
    let more = steps (defaults_at fields) _ vs one.2 in
    ap length (sym (same_ok {E = DefKind} (one.0 ∷ more.0) vs more.2)) ∙ ap suc (as_many_defaults fields more.0 more.1)

array_at_kept : (v : Version) (d e : Definition) (name : List ℕ) (literals : List (List ℕ)) → 0 < length literals → IsWellFormed d → array_at v d name literals ≡ Ok e → IsWellFormed e
unfolding array_at
array_at_kept v d e name literals some ok h =
    let a = past (not (length d.units == 0)) wrong.Line _ e h in
    let b = past (nat_lt 64 (length literals) || nat_lt (most_controls v) (length d.controls + length literals)) wrong.Limit _ e a.1 in
    let i = past (not (is_name v name)) wrong.Name _ e b.1 in
    let j = past (is_known d name) wrong.Twice _ e i.1 in
    let few = or_parts (nat_lt 64 (length literals)) (nat_lt (most_controls v) (length d.controls + length literals)) b.0 in
    let s = steps (defaults_at literals) _ e j.1 in
    let many : length s.0 ≡ length literals = as_many_defaults literals s.0 s.1 in
    let least : length literals ≤ 64 = ltb-false 64 (length literals) few.0 in
    let room : length d.controls + length literals ≤ most_controls v = ltb-false (most_controls v) (length d.controls + length literals) few.1 in
    subst IsWellFormed (same_ok {E = DefKind} (with_array d name s.0) e s.2)
    (array_kept d name s.0 ok (eqb-true (length d.units) 0 (not-false (length d.units == 0) a.0)) (omega arith) (omega arith) (omega (arith, most_few v)))

counts : (inputs_always signals least most inputs outputs : ℕ) → (nat_le (inputs_always + cond (signals == 0) 0 1) inputs && nat_le inputs (inputs_always + signals) && nat_le least outputs && nat_le outputs most) ≡ true
    → (inputs_always + cond (signals == 0) 0 1 ≤ inputs) × (inputs ≤ inputs_always + signals) × (least ≤ outputs) × (outputs ≤ most)
counts a s l m i o h =
    let p = and_parts (nat_le (a + cond (s == 0) 0 1) i && nat_le i (a + s) && nat_le l o) (nat_le o m) h in
    let q = and_parts (nat_le (a + cond (s == 0) 0 1) i && nat_le i (a + s)) (nat_le l o) p.0 in
    let r = and_parts (nat_le (a + cond (s == 0) 0 1) i) (nat_le i (a + s)) q.0 in
    (leb-true (a + cond (s == 0) 0 1) i r.0, leb-true i (a + s) r.1, leb-true l o q.1, leb-true o m p.1)

unit_of_kept : (v : Version) (d e : Definition) (parts : UnitParts) (kind : Kind) → IsWellFormed d → length d.units < 256 → length d.wires + length parts.outputs ≤ 512 → unit_of v d parts kind ≡ Ok e → IsWellFormed e
unfolding unit_of
unit_of_kept v d e parts kind ok room few h =
    let a = past (not (counts_fit (row_of kind) (length parts.inputs) (length parts.outputs))) wrong.Count _ e h in
    let b = past (not (list_all (is_name v) parts.outputs)) wrong.Name _ e a.1 in
    let w = steps (wires_at d parts.outputs) _ e b.1 in
    let i = steps (inputs_at d (row_of kind).inputs 0 parts.inputs) _ e w.2 in
    let read = inputs_allowed d (row_of kind).inputs 0 parts.inputs i.0 i.1 in
    let fit = counts (length (row_of kind).inputs) (row_of kind).signals (row_of kind).least (row_of kind).most (length parts.inputs) (length parts.outputs) (not-false _ a.0) in
    let unit : UnitFits (length d.controls) (length d.wires) (unit_line kind i.0 (length parts.outputs)) = record {
      fewest_inputs = subst (λ (n : ℕ). length (row_of kind).inputs + cond ((row_of kind).signals == 0) 0 1 ≤ n) (sym read.0) fit.0;
      most_inputs = subst (λ (n : ℕ). n ≤ length (row_of kind).inputs + (row_of kind).signals) (sym read.0) fit.1;
      fewest_outputs = fit.2;
      most_outputs = fit.3;
      inputs = read.1;
    } in
    let made : with_unit (with_wires d parts.outputs) kind i.0 (length parts.outputs) ≡ e =
    ap (λ (g : Definition). with_unit g kind i.0 (length parts.outputs)) (sym (wires_given d w.0 parts.outputs w.1)) ∙ same_ok {E = DefKind} (with_unit w.0 kind i.0 (length parts.outputs)) e i.2 in
    subst IsWellFormed made (unit_kept d parts.outputs kind i.0 ok room few unit)

unit_if_known_kept : (v : Version) (d e : Definition) (parts : UnitParts) (o : Option Kind) → IsWellFormed d → length d.units < 256 → length d.wires + length parts.outputs ≤ 512 → unit_if_known v d parts o ≡ Ok e → IsWellFormed e
unit_if_known_kept v d e parts (Some kind) ok room few h = unit_of_kept v d e parts kind ok room few h
unit_if_known_kept v d e parts None ok room few h = cc

unit_at_kept : (v : Version) (d e : Definition) (parts : UnitParts) → IsWellFormed d → unit_at v d parts ≡ Ok e → IsWellFormed e
unfolding unit_at
unit_at_kept v d e parts ok h =
    let a = past (nat_le 256 (length d.units) || nat_lt 512 (length d.wires + length parts.outputs)) wrong.Limit _ e h in
    let b = or_parts (nat_le 256 (length d.units)) (nat_lt 512 (length d.wires + length parts.outputs)) a.0 in
    unit_if_known_kept v d e parts (kind_named parts.unit) ok (leb-false 256 (length d.units) b.0) (ltb-false 512 (length d.wires + length parts.outputs) b.1) a.1

unit_line_kept : (v : Version) (d e : Definition) (o : Option UnitParts) → IsWellFormed d → unit_line_at v d o ≡ Ok e → IsWellFormed e
unit_line_kept v d e (Some parts) ok h = unit_at_kept v d e parts ok h
unit_line_kept v d e None ok h = cc

control_line_kept : (v : Version) (d e : Definition) (fields : List (List ℕ)) → IsWellFormed d → control_line_at v d fields ≡ Ok e → IsWellFormed e
control_line_kept v d e (word ∷ name ∷ value ∷ []) ok h = control_at_kept v d e name value ok h
control_line_kept v d e [] ok h = cc
control_line_kept v d e (a ∷ []) ok h = cc
control_line_kept v d e (a ∷ b ∷ []) ok h = cc
control_line_kept v d e (a ∷ b ∷ x ∷ y ∷ z) ok h = cc

pub some_literals : (literals : List (List ℕ)) → (length literals == 0) ≡ false → 0 < length literals
some_literals [] h = cc
some_literals (l ∷ ls) h = omega arith

array_line_kept : (v : Version) (d e : Definition) (fields : List (List ℕ)) → IsWellFormed d → array_line_at v d fields ≡ Ok e → IsWellFormed e
array_line_kept v d e [] ok h = cc
array_line_kept v d e (a ∷ []) ok h = cc
array_line_kept v d e (word ∷ name ∷ literals) ok h =
    let a = past (length literals == 0 || bytes_eq name (codes "=")) wrong.Line _ e h in
    array_at_kept v d e name literals (some_literals literals (or_parts (length literals == 0) (bytes_eq name (codes "=")) a.0).0) ok a.1

pub either_kept : {X E : Type 0} (b : Bool) (r s : Result X E) (x : X) (P : Type 0) → (r ≡ Ok x → P) → (s ≡ Ok x → P) → cond b r s ≡ Ok x → P
either_kept true r s x P f g h = f h
either_kept false r s x P f g h = g h

line_kept : (v : Version) (d e : Definition) (fields : List (List ℕ)) → IsWellFormed d → line_at v d fields ≡ Ok e → IsWellFormed e
unfolding line_at
line_kept v d e fields ok h =
    let a = past (list_any (λ f. length f == 0) fields) wrong.Line _ e h in
    either_kept (bytes_eq (first_of fields) (codes "control")) (control_line_at v d fields) _ e (IsWellFormed e) (control_line_kept v d e fields ok)
    (either_kept (is_array_word v (first_of fields)) (array_line_at v d fields) _ e (IsWellFormed e) (array_line_kept v d e fields ok)
    (λ i. unit_line_kept v d e (unit_parts fields) ok (past (is_reserved v (first_of fields)) wrong.Line _ e i).1)) a.1

pub at_line_ok : (n : ℕ) (r : Result Definition DefKind) (e : Definition) → at_line n r ≡ Ok e → r ≡ Ok e
at_line_ok n (Ok d) e h = let same : d ≡ e = cc in ap (λ (g : Definition). Ok g) same
at_line_ok n (Err k) e h = cc

end_if : (d e : Definition) (b : Bool) (f : DefFault) → cond b (Ok d) (Err f) ≡ Ok e → d ≡ e
end_if d e true f h = cc
end_if d e false f h = cc

pub end_same : (n : ℕ) (d e : Definition) (after : List (List ℕ)) → end_at n d after ≡ Ok e → d ≡ e
end_same n d e after h = end_if d e (is_over after) (fault (n + 1) wrong.Line) h

body_kept : (v : Version) (n : ℕ) (d e : Definition) (lines : List (List ℕ)) → IsWellFormed d → body_at v n d lines ≡ Ok e → IsWellFormed e
unfolding body_at
body_kept v n d e [] ok h = cc
body_kept v n d e (line ∷ after) ok h =
    let a = past (length after == 0) (fault n wrong.Line) _ e h in
    either_kept (bytes_eq line (codes "end")) (end_at n d after) _ e (IsWellFormed e) (λ i. subst IsWellFormed (end_same n d e after i) ok)
    (λ i. let p = steps (at_line n (line_at v d (pieces 32 line))) _ e i in body_kept v (n + 1) p.0 e after (line_kept v d p.0 (pieces 32 line) ok (at_line_ok n _ p.0 p.1)) p.2) a.1

named_only_formed : (name : List ℕ) → IsWellFormed (named_only name)
named_only_formed name = record { controls = lit≤ tt; arrays = lit≤ tt; units = lit≤ tt; wires = lit≤ tt; outputs = refl; fit = tt }

named_formed : (v : Version) (word name : List ℕ) (e : Definition) → named_at v word name ≡ Ok e → IsWellFormed e
named_formed v word name e h =
    let a = past (not (bytes_eq word (codes "def")) || length name == 0) (fault 2 wrong.Line) _ e h in
    let b = past (not (is_name v name)) (fault 2 wrong.Name) _ e a.1 in
    subst IsWellFormed (same_ok {E = DefFault} (named_only name) e b.1) (named_only_formed name)

def_formed : (v : Version) (fields : List (List ℕ)) (e : Definition) → def_at v fields ≡ Ok e → IsWellFormed e
def_formed v [] e h = cc
def_formed v (a ∷ []) e h = cc
def_formed v (word ∷ name ∷ []) e h = named_formed v word name e h
def_formed v (a ∷ b ∷ x ∷ y) e h = cc

after_title_formed : (v : Version) (lines : List (List ℕ)) (e : Definition) → after_title v lines ≡ Ok e → IsWellFormed e
after_title_formed v [] e h = cc
after_title_formed v (line ∷ after) e h =
    let a = past (length after == 0) (fault 2 wrong.Line) _ e h in
    let b = steps (def_at v (pieces 32 line)) _ e a.1 in
    body_kept v 3 b.0 e after (def_formed v (pieces 32 line) b.0 b.1) b.2

versioned_formed : (o : Option Version) (after : List (List ℕ)) (e : Definition) → versioned_at o after ≡ Ok e → IsWellFormed e
versioned_formed None after e h = cc
versioned_formed (Some v) after e h = after_title_formed v after e h

title_formed : (lines : List (List ℕ)) (e : Definition) → title_at lines ≡ Ok e → IsWellFormed e
title_formed [] e h = cc
title_formed (line ∷ after) e h = versioned_formed (version_of line) after e (past (length after == 0) (fault 1 wrong.Line) _ e h).1

pub written_formed : (d : Definition) → IsWritten d → IsWellFormed d
unfolding text_at
written_formed d w = title_formed (pieces 10 w.0) d w.1

-- being well formed has one proof at most
allowed_prop : (mark : Mark) (c w : ℕ) (x : Input) → IsProp (IsAllowed mark c w x)
allowed_prop Signal c w (Literal v) = hlevel props
allowed_prop Signal c w (Control k) = hlevel props
allowed_prop Signal c w (Wire k) = hlevel props
allowed_prop Index c w (Literal v) = hlevel props
allowed_prop Index c w (Control k) = hlevel props
allowed_prop Index c w (Wire k) = hlevel props
allowed_prop Constant c w (Literal v) = hlevel props
allowed_prop Constant c w (Control k) = hlevel props
allowed_prop Constant c w (Wire k) = hlevel props
allowed_prop Longest c w (Literal v) = hlevel props
allowed_prop Longest c w (Control k) = hlevel props
allowed_prop Longest c w (Wire k) = hlevel props

all_allowed_prop : (marks : List Mark) (c w i : ℕ) (xs : List Input) → IsProp (AreAllowed marks c w i xs)
all_allowed_prop marks c w i [] = hlevel props
all_allowed_prop marks c w i (x ∷ xs) = hlevel (props, allowed_prop, all_allowed_prop marks c w (i + 1) xs)

runs_prop : (from controls : ℕ) (rs : List Run) → IsProp (RunsFit from controls rs)
runs_prop from controls [] = hlevel props
runs_prop from controls (r ∷ rs) = hlevel (props, runs_prop (r.first + r.len) controls rs)

fits_prop : (c w : ℕ) (u : UnitLine) → IsProp (UnitFits c w u)
fits_prop c w u = hlevel (props, all_allowed_prop)

all_fit_prop : (c w : ℕ) (us : List UnitLine) → IsProp (UnitsFit c w us)
all_fit_prop c w [] = hlevel props
all_fit_prop c w (u ∷ us) = hlevel (props, fits_prop, all_fit_prop c (w + u.outputs) us)

formed_prop : (d : Definition) → IsProp (IsWellFormed d)
formed_prop d = hlevel (props, runs_prop, all_fit_prop)

pub formed : (d : Definition) → ∥ IsWritten d ∥₁ → IsWellFormed d
formed d w = ∥∥₁_elim w (formed_prop d) (written_formed d)
