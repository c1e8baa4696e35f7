use Rattle.std.proofs.Common.{◌≡◌, ◌+ℤ◌, SFits, w32, w64, to_z, of_z, arith, rules, ◌∙◌}
use Rattle.std.proofs.lemmas.Int.{to_z-of_z}
use Rattle.sn_fixed.proofs.Multiples.{in_range_at}
use Rattle.sn_gen.proofs.Points.{point_at}
use Rattle.sn_gen.proofs.course.Course.point.Goals as goal

pub moved-requires : goal.moved-requires
moved-requires c =
    let s = c.args.self in
    let start : SFits w32 c.args.self.line.start = search rules in
    let end : SFits w32 c.args.self.line.end = search rules in
    let height : SFits w64 c.args.self.gone.quotient = search rules in
    in_range_at s.line.start s.line.end s.gone.quotient (to_z w32 (of_z w32 s.line.start)) (to_z w64 (of_z w64 s.gone.quotient)) s.line.frame s.line.frames s.gone.remainder (to_z-of_z w32 s.line.start start) (to_z-of_z w64 s.gone.quotient height) start end s.within s.reached

pub returns : goal.returns
returns c =
    let s = c.args.self in
    let start : SFits w32 c.args.self.line.start = search rules in
    let height : SFits w64 c.args.self.gone.quotient = search rules in
    let fits : SFits w32 c.moved.result = search rules in
    let is : c.moved.result ≡ c.args.self.line.start +ℤ c.args.self.gone.quotient = grind (arith, to_z-of_z) in
    point_at s.line.start s.line.end s.gone.quotient (to_z w32 (of_z w32 c.moved.result)) s.line.frame s.line.frames s.gone.remainder (to_z-of_z w32 c.moved.result fits ∙ is) s.reached
