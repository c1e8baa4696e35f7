use Rattle.std.proofs.Common.{◌∙◌, ◌++◌, ◌∷◌, [], List, ap, append-nil, sym}
use Rattle.std.specs.List.{filter}
use Rattle.sn_foot.specs.declared.resource.Resource.{Resource}
use Rattle.sn_foot.specs.Footprints.{is_there}
use Rattle.sn_foot.specs.Putting.{resource}
use Rattle.sn_foot.specs.Uses.{footprint_in}
use Rattle.sn_report.specs.Visits.{used_so}
use Rattle.sn_report.proofs.Used.{filter_next, filter_none}
use Rattle.sn_report.proofs.resources.push_bank.Goals as goal

pub loop-number-init : goal.loop-number-init
loop-number-init c =
    let test = used_so c.args.role (footprint_in (is_there c.args.buffers.now) c.args.uses.now) in
    sym (ap (λ (rs : List Resource). c.args.used.now.items ++ rs) (filter_none test (λ n. resource c.args.bank n)) ∙ append-nil c.args.used.now.items)

pub loop-number-preserved : goal.loop-number-preserved
loop-number-preserved c =
    let test = used_so c.args.role (footprint_in (is_there c.args.buffers.now) c.args.uses.now) in
    let n = c.loop-number.number in
    c.in_ok-push_used.ensures
    ∙ ap (λ (r : Resource). c.loop-number.used.items ++ filter test (r ∷ [])) c.of.ensures
    ∙ ap (λ (rs : List Resource). rs ++ filter test (resource c.args.bank n ∷ [])) c.loop-number.invariant
    ∙ filter_next test (λ m. resource c.args.bank m) n c.args.used.now.items
