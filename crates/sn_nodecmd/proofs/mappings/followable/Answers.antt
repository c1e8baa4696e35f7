use Rattle.std.proofs.Common.{arith}
use Rattle.std.proofs.lemmas.List.{length-take}
use Rattle.sn_nodecmd.proofs.RefusalLemmas.{followable-to, followable-whole}
use Rattle.sn_nodecmd.proofs.mappings.followable.Goals as goal

pub slice_bounds-result-end : goal.slice_bounds-result-end
slice_bounds-result-end c =
    let within = (followable-to c.args.mappings.now c.in-Some.place c.in-Some.ensures).1 in
    omega (arith, within, length-take c.in-Some.place c.args.mappings.now)

pub returns-in-Some : goal.returns-in-Some
returns-in-Some c = (followable-to c.args.mappings.now c.in-Some.place c.in-Some.ensures).0

pub returns-in-None : goal.returns-in-None
returns-in-None c = followable-whole c.args.mappings.now c.in-None.ensures
