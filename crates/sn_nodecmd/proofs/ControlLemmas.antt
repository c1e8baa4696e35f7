-- The controls that a synth begins with.
use Rattle.std.proofs.Common.{◌≡◌, ◌≤◌, ◌-◌, ℕ, ℤ, true, List, [], ◌∷◌, ◌++◌, map, length, take, drop, get_or, Option, Some, None, refl, ap, sym, subst, ◌∙◌, inl, inr, arith, length-set, is_some, unwrap_or}
use Rattle.std.specs.List.{All}
use Rattle.std.proofs.lemmas.Bool.Decides.{leb_tells}
use Rattle.std.proofs.lemmas.List.{length-map, get_or_past, take_all, drop_all, append-nil}
use Rattle.std.proofs.lemmas.List.Elements.{All-set, All-nil, All-cons}
use Rattle.sn_osc.specs.declared.packet.Arg.{Arg}
use Rattle.sn_osc.specs.Shape.{Argument, argument_of}
use Rattle.sn_def.specs.declared.definition.Param.{Param}
use Rattle.sn_def.specs.Params.{parameter_of}
use Rattle.sn_def.specs.declared.control.Control.{Control}
use Rattle.sn_def.specs.Definition.{Definition, Parameter}
use Rattle.sn_synth.specs.Conditions.{AreControlsOf, IsFollowed, no_control}
use Rattle.sn_world.specs.Rows.{another, pairs}
use Rattle.sn_world.specs.NewSynth.{ControlValue, control_of, control_value, with_value, with_values, defaults}
use Rattle.sn_nodecmd.specs.Setting.{with_pair, set_pairs}

-- ---- by arguments

pub with_values-pairs : (d : Definition) (xs : List Argument) (controls : List Control) → is_some (pairs control_value xs) ≡ true → with_values d (unwrap_or (pairs control_value xs) []) controls ≡ set_pairs d xs controls
with_values-pairs d [] controls valid = refl
with_values-pairs d (x ∷ []) controls valid = absurd cc
with_values-pairs d (x ∷ y ∷ rest) controls valid = at (control_value x y) (pairs control_value rest) valid (λ cs. with_values-pairs d rest cs)
  where
    at : (o : Option ControlValue) (rs : Option (List ControlValue)) → is_some (another o rs) ≡ true → ((cs : List Control) → is_some rs ≡ true → with_values d (unwrap_or rs []) cs ≡ set_pairs d rest cs)
        → with_values d (unwrap_or (another o rs) []) controls ≡ set_pairs d rest (with_pair d o controls)
    at None rs valid ih = absurd cc
    at (Some v) None valid ih = absurd cc
    at (Some v) (Some vs) valid ih = ih (with_pair d (Some v) controls) refl

-- ---- none follows a bus

abbrev IsFree : Control → Type 0
IsFree c = c.bus ≡ None

abbrev pub AreFree : List Control → Type 0
AreFree controls = All IsFree controls

free-value : (o : Option ℕ) (v : ℤ) (controls : List Control) → AreFree controls → AreFree (with_value o v controls)
free-value None v controls h = h
free-value (Some k) v controls h = All-set IsFree controls k (record { value = v; bus = None }) refl h

free-values : (d : Definition) (vs : List ControlValue) (controls : List Control) → AreFree controls → AreFree (with_values d vs controls)
free-values d [] controls h = h
free-values d (v ∷ vs) controls h = free-values d vs (with_value (control_of d v.control) v.value controls) (free-value (control_of d v.control) v.value controls h)

abbrev pub default_of : Parameter → Control
default_of p = record { value = p.default; bus = None }

free-defaults : (ps : List Parameter) → AreFree (map default_of ps)
free-defaults [] = All-nil IsFree
free-defaults (p ∷ ps) = All-cons IsFree (default_of p) (map default_of ps) refl (free-defaults ps)

length-value : (o : Option ℕ) (v : ℤ) (controls : List Control) → length (with_value o v controls) ≡ length controls
length-value None v controls = refl
length-value (Some k) v controls = length-set controls k (record { value = v; bus = None })

length-values : (d : Definition) (vs : List ControlValue) (controls : List Control) → length (with_values d vs controls) ≡ length controls
length-values d [] controls = refl
length-values d (v ∷ vs) controls = length-values d vs (with_value (control_of d v.control) v.value controls) ∙ length-value (control_of d v.control) v.value controls

pub controls-of : (d : Definition) (vs : List ControlValue) → AreControlsOf d (with_values d vs (defaults d))
controls-of d vs =
    let controls = with_values d vs (defaults d) in
    let free : AreFree controls = free-values d vs (defaults d) (free-defaults d.controls) in
    record {
      one_each = length-values d vs (defaults d) ∙ length-map d.controls default_of;
      followed = λ k c lt. subst IsFollowed (sym (free k c lt)) tt;
      indices = λ k _. elim (leb_tells (length controls) k) [
        | inl p ↦ ap (λ (c : Control). c.bus) (get_or_past controls k no_control p.1)
        | inr p ↦ free k no_control p.1
      ];
    }

-- ---- steps of the loops

pub length-pair : (d : Definition) (o : Option ControlValue) (controls : List Control) → length (with_pair d o controls) ≡ length controls
length-pair d None controls = refl
length-pair d (Some v) controls = length-value (control_of d v.control) v.value controls

pub set_pairs-step : (d : Definition) (args : List Arg) (x y : Arg) (controls : List Control) → 2 ≤ length args → x ≡ get_or args 0 x → y ≡ get_or args 1 y
    → set_pairs d (map argument_of args) controls ≡ set_pairs d (map argument_of (take (length args - 2) (drop 2 args))) (with_pair d (control_value (argument_of x) (argument_of y)) controls)
set_pairs-step d [] x y controls two is-x is-y = absurd (omega arith)
set_pairs-step d (a ∷ []) x y controls two is-x is-y = absurd (omega arith)
set_pairs-step d (a ∷ b ∷ rest) x y controls two is-x is-y =
    let whole : take (length (a ∷ b ∷ rest) - 2) rest ≡ rest = take_all _ rest (omega arith) in
    rw (whole, ← is-x, ← is-y) refl

-- less than two arguments set nothing
pub set_pairs-few : (d : Definition) (args : List Arg) (controls : List Control) → length args ≤ 1 → set_pairs d (map argument_of args) controls ≡ controls
set_pairs-few d [] controls few = refl
set_pairs-few d (a ∷ []) controls few = refl
set_pairs-few d (a ∷ b ∷ rest) controls few = absurd (omega arith)

abbrev pub default_in : Param → Control
default_in p = record { value = p.default; bus = None }

pub defaults-params : (params : List Param) → map default_in params ≡ map default_of (map parameter_of params)
defaults-params [] = refl
defaults-params (p ∷ ps) = ap (λ (cs : List Control). default_in p ∷ cs) (defaults-params ps)

-- no parameter is left
pub defaults-all : (done : List Control) (params : List Param) (n : ℕ) → length params ≤ n → done ++ map default_in (drop n params) ≡ map default_in params → done ≡ map default_of (map parameter_of params)
defaults-all done params n past is =
    sym (append-nil done) ∙ ap (λ (ps : List Param). done ++ map default_in ps) (sym (drop_all n params past)) ∙ is ∙ defaults-params params
