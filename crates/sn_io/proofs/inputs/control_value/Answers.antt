use Rattle.std.proofs.Common.{◌+◌, get_or, SFits, w32, rules, ap, ◌∙◌}
use Rattle.std.proofs.lemmas.Int.{to_z-of_z}
use Rattle.sn_mem.specs.declared.extents.Extent.{Extent}
use Rattle.sn_io.proofs.Heard.{control_at_is}
use Rattle.sn_io.proofs.inputs.control_value.Goals as goal

pub returns-clause-value : goal.returns-clause-value
returns-clause-value g c =
    let ws = g.P.Port.words c.args.port.now in
    let fits : SFits w32 c.sample_of.result = search rules in
    to_z-of_z w32 c.sample_of.result fits
    ∙ control_at_is ws c.args.bus c.load-word.result c.sample_of.result c.requires.number c.sample_of.ensures (c.load-word.ensures.word ∙ ap (λ (e : Extent). get_or ws (e.at + 1) 0) c.control-place.ensures)
