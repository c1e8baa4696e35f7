use Rattle.std.proofs.Common.{◌≡◌, ◌∙◌, ap, sym, map, List, ℤ, refl, w32, rules}
use Rattle.std.specs.Prelude.{FitsSigned}
use Rattle.std.proofs.lemmas.Int.{to_z-of_z}
use Rattle.sn_def.specs.declared.control.Control.{Control}
use Rattle.sn_def.specs.Definition.{Definition}
use Rattle.sn_tree.specs.Trees.{subtree}
use Rattle.sn_tree.specs.Reworking.{changed_below}
use Rattle.sn_world.specs.Rows.{first_refusal}
use Rattle.sn_world.specs.ControlRuns.{ControlRun}
use Rattle.sn_world.specs.Mappings.{with_buses}
use Rattle.sn_nodecmd.specs.declared.laying.Field.TheVariants as fields
use Rattle.sn_nodecmd.specs.declared.mappings.Mapping.{Mapping as Read}
use Rattle.sn_nodecmd.specs.Runs.{run_of}
use Rattle.sn_nodecmd.specs.Reworks.{held_with}
use Rattle.sn_nodecmd.specs.Mapped.{mapping_of, run_for, refusal_in}
use Rattle.sn_nodecmd.specs.Laying.{laid_runs}
use Rattle.sn_nodecmd.proofs.LayingLemmas.{buses-set}
use Rattle.sn_nodecmd.proofs.mappings.map_below.Goals as goal

pub returns-in-Some : goal.returns-in-Some
returns-in-Some c =
    let ms = map mapping_of c.args.mappings.now in
    let fits : FitsSigned w32 c.args.id = search rules in
    let same = to_z-of_z w32 c.args.id fits in
    (sym (ap (λ (n : ℤ). first_refusal (refusal_in (subtree n c.args.tree.now.attached)) ms) same) ∙ sym c.refusal.ensures.reason ∙ c.in-Some.is, refl)

pub returns : goal.returns
returns c =
    let ms = map mapping_of c.args.mappings.now in
    let fits : FitsSigned w32 c.args.id = search rules in
    let same = to_z-of_z w32 c.args.id fits in
    let runs : map run_of c.as_slice-runs.result.now ≡ map run_for ms
    = ap (map run_of) c.as_slice-runs.ensures.value ∙ c.in_ok-runs.ensures ∙ ap (λ (xs : List Read). map run_for (map mapping_of xs)) (c.refusal.ensures.all c.in_default.is) in
    let buses : (d : Definition) (cs : List Control) → laid_runs fields.Bus (map run_of c.as_slice-runs.result.now) d cs ≡ with_buses ms d cs
    = λ d cs. ap (λ (rs : List ControlRun). laid_runs fields.Bus rs d cs) runs ∙ buses-set ms d cs in (
      sym (ap (λ (n : ℤ). first_refusal (refusal_in (subtree n c.args.tree.now.attached)) ms) same) ∙ sym c.refusal.ensures.reason ∙ c.in_default.is,
      c.change_below.ensures ∙ (λ i. changed_below (held_with (λ d cs. buses d cs i)) (same i) c.args.tree.now),
    )
