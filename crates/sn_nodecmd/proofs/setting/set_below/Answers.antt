use Rattle.std.proofs.Common.{◌∙◌, map, w32, rules}
use Rattle.std.specs.Prelude.{FitsSigned}
use Rattle.std.proofs.lemmas.Int.{to_z-of_z}
use Rattle.sn_tree.specs.Reworking.{changed_below}
use Rattle.sn_nodecmd.specs.Runs.{run_of}
use Rattle.sn_nodecmd.specs.Reworks.{held_with}
use Rattle.sn_nodecmd.proofs.LayingLemmas.{runs-set}
use Rattle.sn_nodecmd.proofs.setting.set_below.Goals as goal

pub returns-clause-set : goal.returns-clause-set
returns-clause-set c =
    let rs = map run_of c.args.runs.now in
    let fits : FitsSigned w32 c.args.id = search rules in
    let same = to_z-of_z w32 c.args.id fits in
    c.change_below.ensures ∙ (λ i. changed_below (held_with (λ d cs. runs-set rs d cs i)) (same i) c.args.tree.now)
