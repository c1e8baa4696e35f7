-- The place of a control of a name, in the program's list and in the definition's.
use Rattle.std.proofs.Common.{◌≡◌, ℕ, ◌+◌, ◌<◌, Bool, true, false, cond, List, [], ◌∷◌, length, map, position, Option, Some, None, IfSome, refl, sym, ap, subst, ◌∙◌, arith, Bor}
use Rattle.std.specs.List.{position_from}
use Rattle.std.specs.Str.{bytes_eq}
use Rattle.std.specs.BTreeMap.{BTreeMap}
use Rattle.std.proofs.lemmas.Iterator.Adapters.{position_from-zero}
use Rattle.std.proofs.lemmas.List.{length-map}
use Rattle.sn_def.specs.declared.definition.Param.{Param}
use Rattle.sn_def.specs.declared.unit.Input.{Input}
use Rattle.sn_def.specs.declared.unit.Input.TheVariants.{Control}
use Rattle.sn_def.specs.Definition.{Definition, Parameter, place_of, one_more, or_else, as_control, named, control_names}
use Rattle.sn_def.specs.Known.{value_at}
use Rattle.sn_def.specs.Params.{parameter_of}
use Rattle.sn_def.specs.Drafts.{has_point, IsDraft}
use Rattle.sn_def.proofs.Standing.{place_below}

from-controls : (name : List ℕ) (i : ℕ) (ps : List Param) → position_from (λ c. bytes_eq c.name.bytes name) i ps ≡ position_from (λ c. bytes_eq c.name name) i (map parameter_of ps)
from-controls name i [] = refl
from-controls name i (p ∷ ps) = ap (cond (bytes_eq p.name.bytes name) (Some i)) (from-controls name (i + 1) ps)

pub same_control : (name : List ℕ) (ps : List Param) (controls : List Parameter) → map parameter_of ps ≡ controls → position (λ c. bytes_eq c.name.bytes name) ps ≡ position (λ c. bytes_eq c.name name) controls
same_control name ps controls is =
    position_from-zero (λ (c : Param). bytes_eq c.name.bytes name) ps ∙ from-controls name 0 ps ∙ sym (position_from-zero (λ (c : Parameter). bytes_eq c.name name) (map parameter_of ps))
    ∙ ap (λ (cs : List Parameter). position (λ c. bytes_eq c.name name) cs) is

-- counted from i on
abbrev added : ℕ → Option ℕ → Option ℕ
added i (Some k) = Some (i + k)
added i None = None

one_later : (b : Bool) (i : ℕ) (o : Option ℕ) → cond b (Some i) (added (i + 1) o) ≡ added i (cond b (Some 0) (one_more o))
one_later true i o = ap (λ (k : ℕ). Some k) (omega arith)
one_later false i (Some k) = ap (λ (j : ℕ). Some j) (omega arith)
one_later false i None = refl

from-place : (name : List ℕ) (i : ℕ) (ps : List Param) → position_from (λ c. bytes_eq c.name.bytes name) i ps ≡ added i (place_of name (map (λ (c : Parameter). c.name) (map parameter_of ps)))
unfolding place_of
from-place name i [] = refl
from-place name i (p ∷ ps) =
    let later : Option ℕ = place_of name (map (λ (c : Parameter). c.name) (map parameter_of ps)) in
    ap (cond (bytes_eq p.name.bytes name) (Some i)) (from-place name (i + 1) ps) ∙ one_later (bytes_eq p.name.bytes name) i later

from_none : (o : Option ℕ) → added 0 o ≡ o
from_none (Some k) = ap (λ (j : ℕ). Some j) (omega arith)
from_none None = refl

pub place_is : (name : List ℕ) (ps : List Param) → position (λ c. bytes_eq c.name.bytes name) ps ≡ place_of name (map (λ (c : Parameter). c.name) (map parameter_of ps))
place_is name ps = position_from-zero (λ (c : Param). bytes_eq c.name.bytes name) ps ∙ from-place name 0 ps ∙ from_none (place_of name (map (λ (c : Parameter). c.name) (map parameter_of ps)))

-- an element that stands among the controls, or a name that the map has
pub by_element : (d : Definition) (m : BTreeMap (Bor (List ℕ)) Input) (q : List ℕ) (k : ℕ) (b : Bool) → IsDraft d m → Some k ≡ cond b (place_of q (control_names d)) None → Some (Control k) ≡ named d q
by_element d m q k true ok is = ap (λ (o : Option ℕ). or_else (as_control o) (value_at m q)) is ∙ ok.known q
by_element d m q k false ok is = absurd cc

pub by_map : (d : Definition) (m : BTreeMap (Bor (List ℕ)) Input) (q : List ℕ) (b : Bool) → has_point q ≡ b → IsDraft d m → None ≡ cond b (place_of q (control_names d)) None → value_at m q ≡ named d q
by_map d m q true pointed ok is = ap (λ (o : Option ℕ). or_else (as_control o) (value_at m q)) is ∙ ok.known q
by_map d m q false pointed ok is = ok.plain q pointed

pub element_below : (d : Definition) (q : List ℕ) (k : ℕ) (b : Bool) → Some k ≡ cond b (place_of q (control_names d)) None → k < length d.controls
element_below d q k true is = omega (arith, length-map d.controls (λ (c : Parameter). c.name), subst (λ (o : Option ℕ). IfSome o (λ j. j < length (control_names d))) (sym is) (place_below q (control_names d)))
element_below d q k false is = absurd cc
