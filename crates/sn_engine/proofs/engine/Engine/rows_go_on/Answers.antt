use Rattle.std.proofs.Common.{◌≡◌, true, ap, sym, ◌∙◌}
use Rattle.sn_engine.specs.Holding.{AreClashesOf}
use Rattle.sn_engine.specs.Running.{Running}
use Rattle.sn_engine.proofs.Pasts.{running_is}
use Rattle.sn_engine.proofs.SpanLaws.{Stands, none_quits}
use Rattle.sn_engine.proofs.engine.Engine.rows_go_on.Goals as goal

pub returns : goal.returns
returns c = λ bounded r n k is quiet some few.
    let e = c.self.inside in
    let i = c.self.invariant in
    let s : Running = c.args.self.now.running in
    let same : _ ≡ s = running_is c.self.view_is in
    let holds : e.holds ≡ true = i.8 (ap (λ (q : Running). q.standing) same ∙ bounded) in
    let stands : Stands e.stage s.world = record { words = e.memory.words; pictures = i.0; is = sym (ap (λ (q : Running). q.world) same) } in
    let clashes : AreClashesOf e.stage s.clashes = λ words. sym (ap (λ (q : Running). q.clashes) same) ∙ i.6 holds words in
    none_quits e.stage s r n k c.args.self.now.past.jobs stands clashes is quiet some few
