use Rattle.std.proofs.Common.{◌≡◌, ◌∙◌, ap, subst, inl, inr, refl}
use Rattle.std.proofs.KnownBytes.{Keeps-refl}
use Rattle.std.specs.Io.KnownBytes.{Appends}
use Rattle.sn_render.specs.Fronts.{TakesFront}
use Rattle.sn_render.specs.declared.outcome.Outcome.TheVariants.{Done}
use Rattle.sn_top.specs.Drilling.{line_of}
use Rattle.sn_top.proofs.DrillLemmas.{by_drill}
use Rattle.sn_top.proofs.drilling.drill.Goals as goal

pub returns-in_default-clause-written : goal.returns-in_default-clause-written
returns-in_default-clause-written g c =
    let chosen = c.in-Ok.chosen in
    by_drill c.args.words.now chosen.settings chosen.seed chosen.blocks _ c.in-Ok.ensures.ok (Keeps-refl (g.O.Sink.taken c.args.out.now))

pub returns-in_default-clause-complete : goal.returns-in_default-clause-complete
returns-in_default-clause-complete g c =
    let chosen = c.in-Ok.chosen in
    by_drill c.args.words.now chosen.settings chosen.seed chosen.blocks _ c.in-Ok.ensures.ok (λ calm. inr refl)

pub returns-in-Ok-write_all-clause-written : goal.returns-in-Ok-write_all-clause-written
returns-in-Ok-write_all-clause-written g c =
    let chosen = c.in-Ok.chosen in
    let made = c.in-Ok-play_drill.ensures in
    let line : c.as_slice.result.now ≡ line_of chosen.settings chosen.seed chosen.blocks = c.as_slice.ensures ∙ made.line in
    by_drill c.args.words.now chosen.settings chosen.seed chosen.blocks _ c.in-Ok.ensures.ok
    (made.last, made.blocks, subst (Appends (g.O.Sink.taken c.args.out.now) (g.O.Sink.taken c.write_all.new.sink)) line c.in-Ok-write_all.ensures.bytes)

pub returns-in-Ok-write_all-clause-complete : goal.returns-in-Ok-write_all-clause-complete
returns-in-Ok-write_all-clause-complete g c =
    let chosen = c.in-Ok.chosen in
    by_drill c.args.words.now chosen.settings chosen.seed chosen.blocks _ c.in-Ok.ensures.ok (λ calm. inl (ap (λ n. Done n) c.in-Ok-play_drill.ensures.blocks))

pub returns-clause-written : goal.returns-clause-written
returns-clause-written g c =
    let chosen = c.in-Ok.chosen in
    let line : c.as_slice.result.now ≡ line_of chosen.settings chosen.seed chosen.blocks = c.as_slice.ensures ∙ c.in-Ok-play_drill.ensures.line in
    by_drill c.args.words.now chosen.settings chosen.seed chosen.blocks _ c.in-Ok.ensures.ok
    (subst (TakesFront (g.O.Sink.taken c.args.out.now) (g.O.Sink.taken c.write_all.new.sink)) line c.in-Err-write_all.ensures.bytes)

pub returns-clause-complete : goal.returns-clause-complete
returns-clause-complete g c =
    let chosen = c.in-Ok.chosen in
    by_drill c.args.words.now chosen.settings chosen.seed chosen.blocks _ c.in-Ok.ensures.ok (λ calm. absurd (calm c.in-Err-write_all.ensures.cause.failed))
