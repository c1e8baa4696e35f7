use Rattle.std.proofs.Common.{◌∙◌, sym, subst, map}
use Rattle.sn_def.specs.Defs.{definition_of}
use Rattle.sn_nodecmd.specs.Runs.{run_of}
use Rattle.sn_nodecmd.specs.Resolving.{IsResolved}
use Rattle.sn_nodecmd.proofs.ResolvingLemmas.{same-last}
use Rattle.sn_nodecmd.proofs.resolved.Resolved.last_for.Goals as goal

pub returns-then-serves-clause-last : goal.returns-then-serves-clause-last
returns-then-serves-clause-last c =
    let rs = map run_of c.args.self.now.runs.now in
    let one = c.one-item.result in
    let here : IsResolved rs one = subst (IsResolved rs) (sym c.one-item.is) (c.args.self.now.right c.loop-one.one-index one c.loop-one-test.true) in
    c.deref.ensures.value ∙ here ∙ same-last (definition_of one.def.value) (definition_of c.args.def.now) (c.serves.ensures.names c.if-serves.true) rs
