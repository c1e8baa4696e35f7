use Rattle.std.proofs.Common.{◌∷◌, ◌++◌, [], List, sym, subst}
use Rattle.std.proofs.lemmas.List.Elements.{All-push}
use Rattle.sn_engine.specs.Planning.{AreSpanned, IsSpanned}
use Rattle.sn_engine.specs.declared.planning.SpanPlan.{SpanPlan}
use Rattle.sn_engine.proofs.planning.Planned.unroll_once.Goals as goal

pub returns-clause-spanned : goal.returns-clause-spanned
returns-clause-spanned c =
    let planned = c.args.self.now in
    let outputs = c.args.outputs.now in
    let span : SpanPlan = record { all = c.in_ok-all.all; blocks = c.args.blocks } in
    let is : IsSpanned planned.jobs outputs c.args.copies span = record {
      some = c.requires.some;
      few = c.requires.few;
      room = c.requires.room;
      all_are = c.in_ok-all.ensures.plan;
      free = c.in_ok-all.ensures.race_free c.requires.free;
    } in
    let more : AreSpanned planned.jobs outputs c.args.copies (planned.spans.items ++ span ∷ []) = All-push (IsSpanned planned.jobs outputs c.args.copies) planned.spans.items span c.requires.spanned is in
    subst (λ (spans : List SpanPlan). AreSpanned planned.jobs outputs c.args.copies spans) (sym c.in_ok-push.ensures.items) more
