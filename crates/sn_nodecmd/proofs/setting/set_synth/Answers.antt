use Rattle.std.proofs.Common.{◌≤◌, ◌∙◌, ap, length, map, arith}
use Rattle.sn_def.specs.Defs.{definition_of}
use Rattle.sn_nodecmd.specs.Runs.{run_of}
use Rattle.sn_nodecmd.specs.Resolving.{last_of}
use Rattle.sn_nodecmd.specs.Laying.{laid}
use Rattle.sn_nodecmd.proofs.LayingLemmas.{laid-last}
use Rattle.sn_nodecmd.proofs.setting.set_synth.Goals as goal

pub returns-in-Some : goal.returns-in-Some
returns-in-Some c =
    let field = c.args.settings.now.field in
    let rs = map run_of c.args.settings.now.resolved.runs.now in
    let d = definition_of c.args.def.now in
    let cs = c.args.controls.now in
    let enough : length cs ≤ length (last_of rs d) = omega (arith, c.in-Some.ensures.enough, ap length c.as_slice.ensures, ap length c.in-Some.ensures.last) in
    c.lay.ensures ∙ ap (λ ns. laid field ns cs) c.in-Some.ensures.last ∙ laid-last field rs d cs enough
