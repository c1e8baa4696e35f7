use Rattle.std.proofs.Common.{◌<◌, ℕ, Option, length, SFits, w32, rules, refl, sym, ap, ◌∙◌, arith}
use Rattle.std.proofs.lemmas.Int.{to_z-of_z}
use Rattle.sn_mem.specs.Blocks.{sample}
use Rattle.sn_mem.proofs.Tables.{table_none}
use Rattle.sn_io.specs.Positions.{frame_in}
use Rattle.sn_io.proofs.Walking.{long_set, table_next, table_whole}
use Rattle.sn_io.proofs.positions.indexed.Goals as goal

pub loop-frame-init : goal.loop-frame-init
loop-frame-init c = record { long = refl; made = sym (table_none (λ k. frame_in c.args.frames (sample c.args.inputs.now 1 k))) }

pub loop-frame-preserved : goal.loop-frame-preserved
loop-frame-preserved c =
    let i = c.loop-frame.invariant in
    let f : ℕ → Option ℕ = λ k. frame_in c.args.frames (sample c.args.inputs.now 1 k) in
    let fits : SFits w32 c.at.result = search rules in
    let lt : c.loop-frame.frame < length c.loop-frame.found = omega (arith, i.long) in record {
      long = long_set c.loop-frame.found c.loop-frame.frame c.frame_in.result 64 i.long;
      made = table_next f c.loop-frame.found c.loop-frame.frame c.frame_in.result lt i.made (c.frame_in.ensures ∙ ap (frame_in c.args.frames) (to_z-of_z w32 c.at.result fits ∙ c.at.ensures));
    }

pub returns : goal.returns
returns c = table_whole (λ k. frame_in c.args.frames (sample c.args.inputs.now 1 k)) c.loop-frame.found c.loop-frame.frame (omega arith) c.loop-frame.invariant.long c.loop-frame.invariant.made
