-- A unit line, by what its readers answered.
use Rattle.std.proofs.Common.{◌≡◌, ℕ, Bool, true, false, cond, List, [], ◌∷◌, length, Result, Ok, Err, refl, sym, ap, ◌∙◌}
use Rattle.sn_def.specs.declared.kind.Kind.{Kind}
use Rattle.sn_def.specs.declared.unit.Input.{Input}
use Rattle.sn_def.specs.declared.fault.DefKind.{DefKind}
use Rattle.sn_def.specs.declared.fault.DefKind.TheVariants as wrong
use Rattle.sn_def.specs.declared.fault.Refused.{Refused}
use Rattle.sn_def.specs.declared.fault.Refused.TheVariants as refused
use Rattle.sn_def.specs.Units.{row_of}
use Rattle.sn_def.specs.Definition.{Definition, with_unit, with_wires}
use Rattle.sn_def.specs.Reading.{is_known, UnitParts, wires_at, inputs_at, unit_with}
use Rattle.sn_def.specs.Answers.{RefusedAs}

pub bad_wires : (e : Refused) (d : Definition) (parts : UnitParts) (kind : Kind) → RefusedAs e (wires_at d parts.outputs) → RefusedAs e (unit_with d parts kind)
bad_wires refused.NoMemory d parts kind h = tt
bad_wires (refused.Because k) d parts kind h = rw h refl

pub bad_inputs : (e : Refused) (d next : Definition) (parts : UnitParts) (kind : Kind) → wires_at d parts.outputs ≡ Ok next → RefusedAs e (inputs_at d (row_of kind).inputs 0 parts.inputs) → RefusedAs e (unit_with d parts kind)
bad_inputs refused.NoMemory d next parts kind w h = tt
bad_inputs (refused.Because k) d next parts kind w h = rw (w, h) refl

pub good_unit : (d next : Definition) (parts : UnitParts) (kind : Kind) (inputs : List Input) → wires_at d parts.outputs ≡ Ok next → inputs_at d (row_of kind).inputs 0 parts.inputs ≡ Ok inputs
    → unit_with d parts kind ≡ Ok (with_unit next kind inputs (length parts.outputs))
good_unit d next parts kind inputs w h = rw (w, h) refl

one_name_more : (d e next : Definition) (twice : Bool) (named_all : Result Definition DefKind) → (named_all ≡ Ok next → next.units ≡ e.units) → e.units ≡ d.units → cond twice (Err wrong.Twice) named_all ≡ Ok next → next.units ≡ d.units
one_name_more d e next true named_all so same h = cc
one_name_more d e next false named_all so same h = so h ∙ same

-- giving wires makes no unit
pub same_units : (d next : Definition) (names : List (List ℕ)) → wires_at d names ≡ Ok next → next.units ≡ d.units
unfolding wires_at
same_units d next [] h = let e : d ≡ next = cc in ap (λ (x : Definition). x.units) (sym e)
same_units d next (n ∷ names) h = one_name_more d (with_wires d (n ∷ [])) next (is_known d n) (wires_at (with_wires d (n ∷ [])) names) (same_units (with_wires d (n ∷ [])) next names) refl h
