use Rattle.std.proofs.Common.{◌≡◌, ◌∙◌, ap, subst}
use Rattle.std.proofs.lemmas.Result.{IfOk-weaker}
use Rattle.sn_ports.specs.Octets.{Octets}
use Rattle.sn_report.specs.Lines.{EachHasLongest, HasLongest, TellsEach}
use Rattle.sn_report.specs.Reports.{report_of}
use Rattle.sn_top.proofs.planning.engine_report.Goals as goal

pub stage_report-requires : goal.stage_report-requires
stage_report-requires c = record { words = c.stage.ensures.words; pictures = c.stage.ensures.pictures }

pub returns-clause-text : goal.returns-clause-text
returns-clause-text c =
    IfOk-weaker c.stage_report.result (λ (t : Octets). TellsEach c.stage.result.now t.bytes) (λ (t : Octets). t.bytes ≡ report_of c.args.engine.running.world) (λ t e. e c.stage.ensures.words ∙ ap report_of c.stage.ensures.stands) c.stage_report.ensures.text

pub returns-clause-longest : goal.returns-clause-longest
returns-clause-longest c =
    IfOk-weaker c.stage_report.result (λ (t : Octets). EachHasLongest c.stage.result.now) (λ (t : Octets). HasLongest c.args.engine.running.world) (λ t h. subst HasLongest c.stage.ensures.stands (h c.stage.ensures.words)) c.stage_report.ensures.longest
