use Rattle.std.proofs.Common.{sym, subst, map}
use Rattle.std.specs.Prelude.{All}
use Rattle.std.proofs.lemmas.List.Elements.{All-push}
use Rattle.sn_nodecmd.specs.Runs.{run_of}
use Rattle.sn_nodecmd.specs.Resolving.{IsResolved}
use Rattle.sn_nodecmd.proofs.resolved.add_def.Goals as goal

pub returns : goal.returns
returns c =
    let rs = map run_of c.args.runs.now in
    subst (All (IsResolved rs)) (sym c.in_ok-push.ensures.items) (All-push (IsResolved rs) c.args.found.now.items c.in_ok-one.one c.requires c.in_ok-one.ensures)
