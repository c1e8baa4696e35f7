-- A draft with one more control, array or wire.
use Rattle.std.proofs.Common.{◌≡◌, ℕ, ℤ, ◌+◌, ◌<◌, ◌≤◌, false, cond, List, [], ◌∷◌, ◌++◌, length, map, Option, Some, None, refl, sym, ap, subst, ◌∙◌, arith, Bor, length-append, lit≤}
use Rattle.std.proofs.lemmas.List.{map_push}
use Rattle.std.specs.Str.{bytes_eq}
use Rattle.std.specs.BTreeMap.{BTreeMap}
use Rattle.sn_ports.specs.Octets.{Octets}
use Rattle.sn_def.specs.declared.arrays.Run.{Run}
use Rattle.sn_def.specs.declared.definition.Param.{Param}
use Rattle.sn_def.specs.declared.unit.Input.{Input}
use Rattle.sn_def.specs.declared.kind.Kind.{Kind}
use Rattle.sn_def.specs.declared.unit.Input.TheVariants.{Control, Wire}
use Rattle.sn_def.specs.declared.unit.Unit.{Unit as UnitLine}
use Rattle.sn_def.specs.Definition.{Definition, Parameter, named, elements, run, with_control, with_array, with_wires, with_unit, unit_line}
use Rattle.sn_def.specs.Known.{value_at}
use Rattle.sn_def.specs.Params.{parameter_of}
use Rattle.sn_def.specs.Drafts.{draft_of, has_point, IsDraft}
use Rattle.sn_def.proofs.ElementNames.{names_in, length-elements}
use Rattle.sn_def.proofs.Naming.{named_nothing, nothing_known, named-control, named-array, array_names, named-wire, known-more, known-wire}

abbrev Map : Type 0
Map = BTreeMap (Bor (List ℕ)) Input

-- the map new has x at n, and else what m has
abbrev pub Adds : Map → Map → List ℕ → Input → Type 0
Adds m new n x = (q : List ℕ) → value_at new q ≡ cond (bytes_eq n q) (Some x) (value_at m q)

-- what a name without a point stands for, after a control or an array
plain-more : (d e : Definition) (m new : Map) (n : List ℕ) (number : ℕ) → IsDraft d m → number ≡ length d.controls → Adds m new n (Control number)
    → ((q : List ℕ) → has_point q ≡ false → named e q ≡ cond (bytes_eq n q) (Some (Control (length d.controls))) (named d q)) → (q : List ℕ) → has_point q ≡ false → value_at new q ≡ named e q
plain-more d e m new n number ok is adds goes q plain =
    adds q ∙ ap (λ (o : Option Input). cond (bytes_eq n q) (Some (Control number)) o) (ok.plain q plain) ∙ ap (λ (k : ℕ). cond (bytes_eq n q) (Some (Control k)) (named d q)) is ∙ sym (goes q plain)

pub control_kept : (d : Definition) (m new : Map) (n : List ℕ) (v : ℤ) (number : ℕ) → IsDraft d m → named d n ≡ None → length d.controls < 512 → number ≡ length d.controls → Adds m new n (Control number) → IsDraft (with_control d n v) new
control_kept d m new n v number ok fresh room is adds = record {
  plain = plain-more d (with_control d n v) m new n number ok is adds (λ q plain. named-control d n v fresh q);
  known = λ q. known-more d (with_control d n v) n [] q (Some (Control number)) (value_at m q) (value_at new q) (map_push (λ (c : Parameter). c.name) d.controls (record { name = n; default = v })) refl (adds q) (ok.known q);
  controls = let p : Parameter = record { name = n; default = v } in omega (arith, length-append d.controls (p ∷ []));
  units = ok.units;
  wires = ok.wires;
}

array_first : (d : Definition) (m new : Map) (n : List ℕ) (x : ℤ) (xs : List ℤ) (number : ℕ) → IsDraft d m → named d n ≡ None → length d.controls + length (x ∷ xs) ≤ 512 → number ≡ length d.controls → Adds m new n (Control number) → IsDraft (with_array d n (x ∷ xs)) new
array_first d m new n x xs number ok fresh room is adds = record {
  plain = plain-more d (with_array d n (x ∷ xs)) m new n number ok is adds (named-array d n (x ∷ xs) (omega arith) fresh);
  known = λ q. known-more d (with_array d n (x ∷ xs)) n (names_in (elements n 1 xs)) q (Some (Control number)) (value_at m q) (value_at new q) (array_names d n (x ∷ xs)) refl (adds q) (ok.known q);
  controls = omega (arith, length-append d.controls (elements n 0 (x ∷ xs)), length-elements n 0 (x ∷ xs));
  units = ok.units;
  wires = ok.wires;
}

pub array_kept : (d : Definition) (m new : Map) (n : List ℕ) (vs : List ℤ) (number : ℕ) → IsDraft d m → named d n ≡ None → 0 < length vs → length d.controls + length vs ≤ 512 → number ≡ length d.controls → Adds m new n (Control number) → IsDraft (with_array d n vs) new
array_kept d m new n [] number ok fresh some room is adds = absurd (omega arith)
array_kept d m new n (x ∷ xs) number ok fresh some room is adds = array_first d m new n x xs number ok fresh room is adds

pub wire_kept : (d : Definition) (m new : Map) (n : List ℕ) (number : ℕ) → IsDraft d m → named d n ≡ None → length d.wires < 512 → number ≡ length d.wires → Adds m new n (Wire number) → IsDraft (with_wires d (n ∷ [])) new
wire_kept d m new n number ok fresh room is adds =
    let given : (q : List ℕ) → value_at new q ≡ cond (bytes_eq n q) (Some (Wire (length d.wires))) (value_at m q) = λ q.
    adds q ∙ ap (λ (k : ℕ). cond (bytes_eq n q) (Some (Wire k)) (value_at m q)) is in
    record {
      plain = λ q plain. given q ∙ ap (λ (o : Option Input). cond (bytes_eq n q) (Some (Wire (length d.wires))) o) (ok.plain q plain) ∙ sym (named-wire d n fresh q);
      known = λ q. known-wire d n q (value_at m q) (value_at new q) fresh (given q) (ok.known q);
      controls = ok.controls;
      units = ok.units;
      wires = omega (arith, length-append d.wires (n ∷ []));
    }

pub draft-control : (name : Octets) (controls new : List Param) (arrays : List Run) (units : List UnitLine) (wires : List Octets) (p : Param) (n : List ℕ) (v : ℤ) → p.name.bytes ≡ n → p.default ≡ v → new ≡ controls ++ p ∷ []
    → draft_of name new arrays units wires ≡ with_control (draft_of name controls arrays units wires) n v
draft-control name controls new arrays units wires p n v is at e =
    let f : List Parameter → Definition = λ cs. record { name = name.bytes; controls = cs; arrays = arrays; units = units; wires = map (λ (o : Octets). o.bytes) wires } in
    let made : List ℕ → ℤ → Parameter = λ m k. record { name = m; default = k } in
    ap f (ap (map parameter_of) e ∙ map_push parameter_of controls p ∙ ap (λ (m : List ℕ). map parameter_of controls ++ made m p.default ∷ []) is ∙ ap (λ (k : ℤ). map parameter_of controls ++ made n k ∷ []) at)

pub draft-array : (name : Octets) (controls new : List Param) (arrays more : List Run) (units : List UnitLine) (wires : List Octets) (n : List ℕ) (vs : List ℤ) (r : Run) → map parameter_of new ≡ map parameter_of controls ++ elements n 0 vs → more ≡ arrays ++ r ∷ []
    → r.first ≡ length (map parameter_of controls) → r.len ≡ length vs → draft_of name new more units wires ≡ with_array (draft_of name controls arrays units wires) n vs
draft-array name controls new arrays more units wires n vs r cs rs first len =
    let f : List Parameter → List Run → Definition = λ ps qs. record { name = name.bytes; controls = ps; arrays = qs; units = units; wires = map (λ (o : Octets). o.bytes) wires } in
    let ps : List Parameter = map parameter_of controls ++ elements n 0 vs in
    ap (λ (qs : List Parameter). f qs more) cs ∙ ap (f ps) (rs ∙ ap (λ (k : ℕ). arrays ++ run k r.len ∷ []) first ∙ ap (λ (k : ℕ). arrays ++ run (length (map parameter_of controls)) k ∷ []) len)

pub draft-wire : (name : Octets) (controls : List Param) (arrays : List Run) (units : List UnitLine) (wires new : List Octets) (p : Octets) (n : List ℕ) → p.bytes ≡ n → new ≡ wires ++ p ∷ []
    → draft_of name controls arrays units new ≡ with_wires (draft_of name controls arrays units wires) (n ∷ [])
draft-wire name controls arrays units wires new p n is e =
    let f : List (List ℕ) → Definition = λ ws. record { name = name.bytes; controls = map parameter_of controls; arrays = arrays; units = units; wires = ws } in
    ap f (ap (map (λ (o : Octets). o.bytes)) e ∙ map_push (λ (o : Octets). o.bytes) wires p ∙ ap (λ (m : List ℕ). map (λ (o : Octets). o.bytes) wires ++ m ∷ []) is)

pub fresh_draft : (name : Octets) (controls : List Param) (arrays : List Run) (units : List UnitLine) (wires : List Octets) (m : Map) → controls ≡ [] → arrays ≡ [] → units ≡ [] → wires ≡ [] → ((q : List ℕ) → value_at m q ≡ None)
    → IsDraft (draft_of name controls arrays units wires) m
fresh_draft name controls arrays units wires m h a i j none =
    let empty : IsDraft (draft_of name [] [] [] []) m = record {
      plain = λ q plain. none q ∙ sym (named_nothing name.bytes q);
      known = λ q. nothing_known name.bytes q (value_at m q) (none q);
      controls = lit≤ tt;
      units = lit≤ tt;
      wires = lit≤ tt;
    } in
    subst (λ (x : List Param). IsDraft (draft_of name x arrays units wires) m) (sym h) (subst (λ (x : List Run). IsDraft (draft_of name [] x units wires) m) (sym a)
    (subst (λ (x : List UnitLine). IsDraft (draft_of name [] [] x wires) m) (sym i) (subst (λ (x : List Octets). IsDraft (draft_of name [] [] [] x) m) (sym j) empty)))

pub unit_kept : (d : Definition) (m : Map) (kind : Kind) (inputs : List Input) (outputs : ℕ) → IsDraft d m → length d.units < 256 → IsDraft (with_unit d kind inputs outputs) m
unfolding named
unit_kept d m kind inputs outputs ok room = record {
  plain = ok.plain;
  known = ok.known;
  controls = ok.controls;
  units = omega (arith, length-append d.units (unit_line kind inputs outputs ∷ []));
  wires = ok.wires;
}
