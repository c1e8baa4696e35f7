use Rattle.std.proofs.Common.{ℕ, ◌+◌, Option, get_or, SFits, w32, rules, subst, ap, sym, ◌∙◌}
use Rattle.std.proofs.lemmas.Int.{to_z-of_z}
use Rattle.sn_mem.specs.declared.extents.Extent.{Extent}
use Rattle.sn_mem.specs.Buses.{control_buses}
use Rattle.sn_synth.specs.Synths.{followed}
use Rattle.sn_synth.specs.Conditions.{IsFollowed}
use Rattle.sn_synth.proofs.Following.{value_at}
use Rattle.sn_synth.proofs.controls.control_value.Goals as goal

pub returns-clause-value : goal.returns-clause-value
returns-clause-value g c =
    let ws = g.P.Port.words c.args.port.now in
    let fits : SFits w32 c.sample_of.result = search rules in
    let P : Option ℕ → Type 0 = λ o. IsFollowed o in
    to_z-of_z w32 c.sample_of.result fits
    ∙ (value_at ws c.in-Some.bus c.load-word.result c.sample_of.result (subst P c.in-Some.is c.requires.bus) c.sample_of.ensures (c.load-word.ensures.word ∙ ap (λ (e : Extent). get_or ws (e.at + 1) 0) c.control-place.ensures)
    ∙ sym (ap (followed (control_buses ws) c.args.control.value) c.in-Some.is))
