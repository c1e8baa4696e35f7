use Rattle.std.proofs.Common.{◌∙◌, ◌++◌, List, ap}
use Rattle.std.specs.List.{filter}
use Rattle.sn_mem.specs.Blocks.{table}
use Rattle.sn_foot.specs.declared.resource.Resource.{Resource}
use Rattle.sn_foot.specs.declared.resource.Resource.TheVariants.{Audio, Control, Buffer}
use Rattle.sn_foot.specs.Footprints.{is_there}
use Rattle.sn_foot.specs.Uses.{footprint_in}
use Rattle.sn_report.specs.Visits.{used_so}
use Rattle.sn_report.proofs.Used.{banks_are, filter_banks}
use Rattle.sn_report.proofs.resources.used_resources.Goals as goal

pub returns : goal.returns
returns c =
    let test = used_so c.args.role (footprint_in (is_there c.args.buffers.now) c.args.uses.now) in
    let first = c.in_ok-push_bank.ensures ∙ ap (λ (rs : List Resource). rs ++ filter test (table Audio 128)) c.new-used.ensures.items in
    let second = c.in_ok-push_bank-2.ensures ∙ ap (λ (rs : List Resource). rs ++ filter test (table Control 1024)) first in
    c.in_ok-push_bank-3.ensures ∙ (ap (λ (rs : List Resource). rs ++ filter test (table Buffer 1024)) second
    ∙ filter_banks test (table Audio 128) (table Control 1024) (table Buffer 1024) banks_are)
