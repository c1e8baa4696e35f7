use Rattle.std.specs.Prelude.{IfSome}
use Rattle.std.proofs.Common.{ℕ, ◌<◌, Option, cond, pos, replicate, get_or, ap, sym, subst, ◌+◌, ◌∙◌}
use Rattle.sn_mem.specs.declared.extents.Extent.{Extent}
use Rattle.sn_mem.specs.Blocks.{samples_at}
use Rattle.sn_mem.specs.Buses.{audio_buses}
use Rattle.sn_io.specs.BusInputs.{hears, audio_in}
use Rattle.sn_io.proofs.Heard.{heard_is}
use Rattle.sn_io.proofs.inputs.audio_in.Goals as goal

pub returns-in-Some-clause-value : goal.returns-in-Some-clause-value
returns-in-Some-clause-value g c =
    let ws = g.P.Port.words c.args.port.now in
    let f = c.args.feedback in
    let b = c.args.block in
    let P : Option ℕ → Type 0 = λ o. IfSome o (λ n. n < 128) in
    c.heard_at.ensures.value
    ∙ (ap (λ (e : Extent). cond (hears f b (get_or ws e.at 0)) (samples_at ws (e.at + 1)) (replicate 64 (pos 0))) c.audio.ensures
    ∙ (heard_is f b ws c.in-Some.bus (subst P c.in-Some.is c.requires.number)
    ∙ sym (ap (λ (o : Option ℕ). audio_in f b (audio_buses ws) o) c.in-Some.is)))
