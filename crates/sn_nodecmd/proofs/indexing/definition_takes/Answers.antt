use Rattle.std.proofs.Common.{◌∙◌, ℤ, List, Option, ap, sym, map}
use Rattle.std.specs.List.{list_any}
use Rattle.sn_def.specs.declared.unit.Unit.{Unit as UnitLine}
use Rattle.sn_def.specs.Defs.{definition_of}
use Rattle.sn_world.specs.NewSynth.{control_of}
use Rattle.sn_world.specs.ControlRuns.{ControlRun}
use Rattle.sn_world.specs.Mappings.{Mapping, is_index_of}
use Rattle.sn_nodecmd.specs.Mapped.{mapping_of}
use Rattle.sn_nodecmd.specs.Indexing.{unit_takes}
use Rattle.sn_nodecmd.specs.Resolving.{last_of}
use Rattle.sn_nodecmd.proofs.IndexingLemmas.{any_mapped, taken-as}
use Rattle.sn_nodecmd.proofs.indexing.definition_takes.Goals as goal

pub returns-in-Some : goal.returns-in-Some
returns-in-Some c =
    let d = definition_of c.args.def.now in
    c.any_takes.ensures
    ∙ ap (λ (units : List UnitLine). list_any (unit_takes c.in-Some.last.now) units) c.as_slice.ensures
    ∙ ap (λ (last : List (Option ℤ)). list_any (unit_takes last) d.units) (c.in-Some.ensures.last ∙ ap (λ (rs : List ControlRun). last_of rs d) c.requires.alike)
    ∙ taken-as d (map mapping_of c.args.mappings.now)

pub returns-in-None : goal.returns-in-None
returns-in-None c =
    let d = definition_of c.args.def.now in
    c.any_is_index.ensures ∙ sym (any_mapped mapping_of (λ (m : Mapping). is_index_of d (control_of d m.control)) c.args.mappings.now)
