use Rattle.std.proofs.Common.{◌∙◌, ap, arith, lit≤}
use Rattle.std.proofs.lemmas.Grind.{merely}
use Rattle.sn_def.specs.Definition.{whole}
use Rattle.sn_def.specs.Layout.{laid_out}
use Rattle.sn_def.proofs.Counting.{few}
use Rattle.sn_def.proofs.Forming.{formed}
use Rattle.sn_def.proofs.definition.Def.new.Goals as goal

pub laid_out-requires : goal.laid_out-requires
laid_out-requires c = rw c.as_slice.ensures (omega (arith, few 44100 (whole c.args.name.bytes c.args.controls c.args.arrays c.args.units c.args.wires) (lit≤ tt) (merely c.requires)))

pub laid_out-requires-2 : goal.laid_out-requires-2
laid_out-requires-2 c = rw c.as_slice-2.ensures (omega (arith, few 48000 (whole c.args.name.bytes c.args.controls c.args.arrays c.args.units c.args.wires) (lit≤ tt) (merely c.requires)))

pub laid_out-requires-3 : goal.laid_out-requires-3
laid_out-requires-3 c = rw c.as_slice-3.ensures (omega (arith, few 96000 (whole c.args.name.bytes c.args.controls c.args.arrays c.args.units c.args.wires) (lit≤ tt) (merely c.requires)))

pub invariant_of-result : goal.invariant_of-result
invariant_of-result c =
    let ok = formed (whole c.args.name.bytes c.args.controls c.args.arrays c.args.units c.args.wires) (merely c.requires) in
    record {
      controls_bound = ok.controls;
      units_bound = ok.units;
      wires_bound = ok.wires;
      written = merely c.requires;
      low_is = c.in_ok-low.ensures ∙ ap (laid_out 44100 0) c.as_slice.ensures;
      middle_is = c.in_ok-middle.ensures ∙ ap (laid_out 48000 0) c.as_slice-2.ensures;
      high_is = c.in_ok-high.ensures ∙ ap (laid_out 96000 0) c.as_slice-3.ensures;
    }
