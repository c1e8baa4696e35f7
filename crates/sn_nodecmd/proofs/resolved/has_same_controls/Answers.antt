use Rattle.std.proofs.Common.{◌≡◌, ◌∙◌, sym, length, arith}
use Rattle.sn_def.specs.Defs.{definition_of}
use Rattle.sn_nodecmd.proofs.ResolvingLemmas.{same-names}
use Rattle.sn_nodecmd.proofs.resolved.has_same_controls.Goals as goal

pub returns-then-these-those : goal.returns-then-these-those
returns-then-these-those c = λ all.
    let these = c.as_slice-these.result.now in
    let those = c.as_slice-those.result.now in
    let len : length these ≡ length those = omega (arith, c.if-these-those.true) in
    same-names these those (definition_of c.args.a.now) (definition_of c.args.b.now) c.as_slice-these.ensures c.as_slice-those.ensures len (sym c.are_named_alike.ensures ∙ all)
