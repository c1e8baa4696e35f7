use Rattle.std.proofs.Common.{◌≡◌, ◌∙◌, ap, sym, map, length, replicate, None}
use Rattle.std.proofs.lemmas.List.{with_items_is, length-map}
use Rattle.sn_def.specs.Params.{parameter_of}
use Rattle.sn_def.specs.Defs.{definition_of}
use Rattle.sn_nodecmd.specs.Runs.{run_of}
use Rattle.sn_nodecmd.specs.Resolving.{entered}
use Rattle.sn_nodecmd.proofs.LayingLemmas.{length-entered}
use Rattle.sn_nodecmd.proofs.resolved.last_numbers.Goals as goal

pub returns : goal.returns
returns c =
    let d = definition_of c.args.def.now in
    let runs = map run_of c.args.runs.now in
    let kept = with_items_is c.in_ok-last.last c.enter_all.new.last (ap length c.enter_all.ensures ∙ length-entered runs d c.deref_mut.result.now ∙ c.deref_mut.ensures.len) in
    let count : length c.as_slice.result.now ≡ length d.controls = sym (length-map c.as_slice.result.now parameter_of) ∙ ap length c.as_slice.ensures in
    kept ∙ c.enter_all.ensures ∙ ap (entered runs d) (c.deref_mut.ensures.value ∙ c.in_ok-last.ensures ∙ ap (λ n. replicate n None) count)
