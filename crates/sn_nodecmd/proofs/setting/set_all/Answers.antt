use Rattle.std.proofs.Common.{◌≡◌, ◌∙◌, ap, sym, subst, map, Ok, Result, w32, rules}
use Rattle.std.specs.Prelude.{FitsSigned}
use Rattle.std.proofs.lemmas.Int.{to_z-of_z}
use Rattle.sn_reply.specs.declared.reason.Reason.{Reason}
use Rattle.sn_tree.specs.Trees.{view_of}
use Rattle.sn_tree.specs.Model.{NodeTree}
use Rattle.sn_tree.specs.Reworking.{changed_below}
use Rattle.sn_world.specs.declared.stage.Held.{Held}
use Rattle.sn_world.specs.Pictures.{Pictures}
use Rattle.sn_world.specs.World.{Turn, turn_of}
use Rattle.sn_world.specs.ControlRuns.{with_runs}
use Rattle.sn_nodecmd.specs.Runs.{run_of}
use Rattle.sn_nodecmd.specs.Reworks.{held_with, request_of}
use Rattle.sn_world.proofs.Turning.{with_tree}
use Rattle.sn_nodecmd.proofs.TurningLemmas.{no_node, some_node}
use Rattle.sn_nodecmd.proofs.Repeating.{unless_any}
use Rattle.sn_nodecmd.proofs.ReworkLemmas.{set-done, set-refused, pictures-reworked, good-runs}
use Rattle.sn_nodecmd.proofs.setting.set_all.Goals as goal

pub returns-in_default-clause-row : goal.returns-in_default-clause-row
returns-in_default-clause-row c =
    let fits : FitsSigned w32 c.args.asked.now.id = search rules in
    let same = to_z-of_z w32 c.args.asked.now.id fits in
    λ words replies. set-refused c.args.stage.now words replies (request_of c.args.asked.now) _ (no_node c.args.stage.now words c.args.asked.now.id (c.in_default.ensures ∙ ap (λ n. view_of n c.args.stage.now.tree.attached) same))

pub returns-clause-row : goal.returns-clause-row
returns-clause-row c =
    let fits : FitsSigned w32 c.args.asked.now.id = search rules in
    let same = to_z-of_z w32 c.args.asked.now.id fits in
    let tree : c.set_below.new.tree ≡ changed_below (held_with (with_runs (map run_of c.args.asked.now.runs.items))) c.args.asked.now.id c.args.stage.now.tree
    = c.in_ok-set_below.ensures.set ∙ (λ i. changed_below (held_with (with_runs (map run_of (c.deref.ensures.value i)))) (same i) c.args.stage.now.tree) in
    λ words replies.
    set-done c.args.stage.now words replies (request_of c.args.asked.now) (some_node c.args.stage.now words c.args.asked.now.id c.in-Some.field-0 (c.in-Some.ensures ∙ ap (λ n. view_of n c.args.stage.now.tree.attached) same))
    ∙ ap (λ (t : NodeTree Held). let o : Result Turn Reason = Ok (turn_of (with_tree t c.args.stage.now) words replies) in o) (sym tree)

pub returns-clause-pictures : goal.returns-clause-pictures
returns-clause-pictures c = λ words pictures.
    subst (λ (t : NodeTree Held). Pictures (with_tree t c.args.stage.now) words) (sym c.in_ok-set_below.ensures.set)
    (pictures-reworked (with_runs (map run_of c.deref.result.now)) (good-runs (map run_of c.deref.result.now)) c.args.stage.now words _ pictures)

pub returns-in_err-set_below-clause-unchanged : goal.returns-in_err-set_below-clause-unchanged
returns-in_err-set_below-clause-unchanged c = unless_any c.from_residual.result _ (ap (λ (t : NodeTree Held). with_tree t c.args.stage.now) c.in_err-set_below.ensures.kept)

pub returns-in_err-set_below-clause-pictures : goal.returns-in_err-set_below-clause-pictures
returns-in_err-set_below-clause-pictures c = λ words pictures. subst (λ (t : NodeTree Held). Pictures (with_tree t c.args.stage.now) words) (sym c.in_err-set_below.ensures.kept) pictures
