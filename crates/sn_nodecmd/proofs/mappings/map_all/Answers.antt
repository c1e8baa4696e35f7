use Rattle.std.proofs.Common.{◌∙◌, ap, subst, map, List, [], ℤ, w32, rules}
use Rattle.std.specs.Prelude.{FitsSigned}
use Rattle.std.proofs.lemmas.Int.{to_z-of_z}
use Rattle.sn_tree.specs.Trees.{view_of}
use Rattle.sn_nodecmd.specs.declared.mappings.Mapping.{Mapping}
use Rattle.sn_nodecmd.specs.Mapped.{mapping_of, request_of, IsMapped}
use Rattle.sn_nodecmd.proofs.TurningLemmas.{no_node, some_node}
use Rattle.sn_nodecmd.proofs.MappingLemmas.{map-missing, mapped-row, mapped-unchanged, mapped-pictures}
use Rattle.sn_nodecmd.proofs.mappings.map_all.Goals as goal

pub returns-in_default-clause-row : goal.returns-in_default-clause-row
returns-in_default-clause-row c =
    let fits : FitsSigned w32 c.args.asked.now.id = search rules in
    let same = to_z-of_z w32 c.args.asked.now.id fits in
    λ words replies. map-missing c.args.stage.now words replies (request_of c.args.asked.now) _ (no_node c.args.stage.now words c.args.asked.now.id (c.in_default.ensures ∙ ap (λ n. view_of n c.args.stage.now.tree.attached) same))

pub returns-clause-row : goal.returns-clause-row
returns-clause-row c =
    let fits : FitsSigned w32 c.args.asked.now.id = search rules in
    let same = to_z-of_z w32 c.args.asked.now.id fits in
    let asked = request_of c.args.asked.now in
    let mapped : IsMapped c.map_below.result asked.all asked.id c.args.stage.now.tree c.map_below.new.tree
    = subst (λ (p : List Mapping × ℤ). IsMapped c.map_below.result (map mapping_of p.0) p.1 c.args.stage.now.tree c.map_below.new.tree) (λ i. (c.deref.ensures.value i, same i)) c.map_below.ensures in
    λ words replies.
    mapped-row c.args.stage.now words c.map_below.new.tree replies asked c.map_below.result (some_node c.args.stage.now words c.args.asked.now.id c.in-Some.field-0 (c.in-Some.ensures ∙ ap (λ n. view_of n c.args.stage.now.tree.attached) same)) mapped

pub returns-clause-unchanged : goal.returns-clause-unchanged
returns-clause-unchanged c = mapped-unchanged c.args.stage.now [] c.map_below.new.tree (map mapping_of c.deref.result.now) _ c.map_below.result c.map_below.ensures

pub returns-clause-pictures : goal.returns-clause-pictures
returns-clause-pictures c = λ words pictures. mapped-pictures c.args.stage.now words c.map_below.new.tree (map mapping_of c.deref.result.now) _ c.map_below.result c.map_below.ensures pictures
