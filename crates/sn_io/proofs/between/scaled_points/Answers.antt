use Rattle.std.proofs.Common.{◌≡◌, ◌<◌, ℕ, ℤ, Option, length, SFits, w32, rules, refl, sym, ap, ◌∙◌, arith}
use Rattle.std.proofs.lemmas.Int.{to_z-of_z}
use Rattle.sn_mem.specs.Blocks.{sample}
use Rattle.sn_mem.proofs.Tables.{table_none}
use Rattle.sn_io.specs.declared.between.Point.{Point}
use Rattle.sn_io.specs.Between.{scaled_point}
use Rattle.sn_io.proofs.Walking.{long_set, table_next, table_whole}
use Rattle.sn_io.proofs.between.scaled_points.Goals as goal

pub loop-frame-init : goal.loop-frame-init
loop-frame-init c = record { long = refl; made = sym (table_none (λ k. scaled_point c.args.frames (sample c.args.inputs.now 1 k) (sample c.args.inputs.now 2 k) (sample c.args.inputs.now 3 k))) }

point_there : (frames : Option ℕ) (a b d x y z : ℤ) → x ≡ a → y ≡ b → z ≡ d → scaled_point frames x y z ≡ scaled_point frames a b d
point_there frames a b d x y z e f h = ap (λ (v : ℤ). scaled_point frames v y z) e ∙ (ap (λ (v : ℤ). scaled_point frames a v z) f ∙ ap (scaled_point frames a b) h)

pub loop-frame-preserved : goal.loop-frame-preserved
loop-frame-preserved c =
    let i = c.loop-frame.invariant in
    let n = c.loop-frame.frame in
    let f : ℕ → Option Point = λ k. scaled_point c.args.frames (sample c.args.inputs.now 1 k) (sample c.args.inputs.now 2 k) (sample c.args.inputs.now 3 k) in
    let index : SFits w32 c.at-index.result = search rules in
    let scale : SFits w32 c.at-scale.result = search rules in
    let looping : SFits w32 c.at.result = search rules in
    let lt : n < length c.loop-frame.found = omega (arith, i.long) in record {
      long = long_set c.loop-frame.found n c.scaled_point.result 64 i.long;
      made = table_next f c.loop-frame.found n c.scaled_point.result lt i.made
          (c.scaled_point.ensures ∙ point_there c.args.frames (sample c.args.inputs.now 1 n) (sample c.args.inputs.now 2 n) (sample c.args.inputs.now 3 n) _ _ _
          (to_z-of_z w32 c.at-index.result index ∙ c.at-index.ensures) (to_z-of_z w32 c.at-scale.result scale ∙ c.at-scale.ensures) (to_z-of_z w32 c.at.result looping ∙ c.at.ensures));
    }

pub returns : goal.returns
returns c = table_whole (λ k. scaled_point c.args.frames (sample c.args.inputs.now 1 k) (sample c.args.inputs.now 2 k) (sample c.args.inputs.now 3 k)) c.loop-frame.found c.loop-frame.frame (omega arith) c.loop-frame.invariant.long c.loop-frame.invariant.made
