use Rattle.std.proofs.Common.{rules, ◌≡◌, ◌<◌, ◌≤◌, ◌-◌, ◌∷◌, ◌++◌, [], length, drop, map, ap, ◌∙◌, arith, length-drop}
use Rattle.std.proofs.lemmas.List.{map_push}
use Rattle.sn_osc.specs.Shape.{argument_of}
use Rattle.sn_score.specs.Fields.{argument_at}
use Rattle.sn_score.proofs.Loops.{arguments_more, arguments_done}
use Rattle.sn_score.proofs.fields.arguments.Goals as goal

pub loop-rest-preserved : goal.loop-rest-preserved
loop-rest-preserved c =
    let i = c.loop-rest.invariant in
    let rest = c.loop-rest.rest.now in
    let x = c.in_ok-argument.argument in
    let after = c.in_ok-argument.after.now in
    let before = map argument_of c.loop-rest.items.items in
    let some : 0 < length rest = search rules in
    let put : map argument_of c.push.new.self.items ≡ before ++ argument_of x ∷ [] = ap (map argument_of) c.in_ok-push.ensures.items ∙ map_push argument_of c.loop-rest.items.items x in
    let first : argument_of x ≡ (argument_at (drop 1 rest)).0 = c.in_ok-argument.ensures.argument ∙ ap (λ r. (argument_at r).0) c.skip.ensures in
    let more : after ≡ (argument_at (drop 1 rest)).1 = c.in_ok-argument.ensures.rest ∙ ap (λ r. (argument_at r).1) c.skip.ensures in
    let shorter : length after ≤ length rest - 1 = omega (arith, c.in_ok-argument.ensures.shorter, ap length c.skip.ensures, length-drop 1 rest) in
    record {
      fuel = i.fuel - 1;
      enough = omega (arith, i.enough, shorter);
      read = arguments_more i.fuel (i.fuel - 1) rest after (argument_of x) before (map argument_of c.push.new.self.items) _ (omega (arith, i.enough, some)) some first more put i.read;
    }

pub returns : goal.returns
returns c =
    let i = c.loop-rest.invariant in
    let none : length c.loop-rest.rest.now ≡ 0 = search rules in
    ap (map argument_of) c.from_vec.ensures ∙ arguments_done i.fuel c.loop-rest.rest.now (map argument_of c.loop-rest.items.items) _ none i.read
