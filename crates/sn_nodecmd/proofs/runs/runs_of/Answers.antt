use Rattle.std.proofs.Common.{◌∙◌, ◌∷◌, [], ap, sym, subst, map}
use Rattle.std.proofs.lemmas.List.{map-append}
use Rattle.sn_nodecmd.specs.Runs.{run_of, reader}
use Rattle.sn_nodecmd.proofs.RunLemmas.{IsReading, reading-more, reading-all}
use Rattle.sn_nodecmd.proofs.runs.runs_of.Goals as goal

pub loop-rest-preserved : goal.loop-rest-preserved
loop-rest-preserved c =
    let read = reader c.args.form in
    subst (λ found. IsReading read c.args.arguments.now found c.in-Some.read.rest.now) (sym (ap (map run_of) c.in_ok-push.ensures.items ∙ map-append run_of c.loop-rest.found.items (c.in-Some.read.run ∷ [])))
    (reading-more read c.args.arguments.now (map run_of c.loop-rest.found.items) c.loop-rest.rest.now c.in-Some.read.rest.now c.loop-rest.invariant (run_of c.in-Some.read.run) c.in-Some.ensures.fewer c.in-Some.ensures.read)

pub returns : goal.returns
returns c = reading-all (reader c.args.form) c.args.arguments.now (map run_of c.loop-rest.found.items) c.loop-rest.rest.now c.loop-rest.invariant c.loop-rest-test.false
