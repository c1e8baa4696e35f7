use Rattle.std.proofs.Common.{◌≡◌, ◌++◌, ◌∷◌, [], map, ap, ◌∙◌, arith}
use Rattle.std.proofs.lemmas.Result.{err_from_is_err_and}
use Rattle.std.proofs.lemmas.List.{map_push}
use Rattle.sn_osc.specs.Shape.{argument_of}
use Rattle.sn_osc.specs.Reading.{arguments_at}
use Rattle.sn_osc.proofs.ArgumentLoop.{goes_on, ends, is_done}
use Rattle.sn_osc.proofs.reading.arguments.Goals as goal

pub returns-in_err-argument-clause-value : goal.returns-in_err-argument-clause-value
returns-in_err-argument-clause-value c =
    let p = err_from_is_err_and c.from_residual-in_err-argument.result c.from_residual-in_err-argument.ensures.1 in
    rw (p.1, p.2) (ends c.in_err-argument.field-0.0 c.args.end (map argument_of c.loop-tag.items.items) c.args.tags.now c.loop-tag.tag-index c.loop-tag.rest.now _ c.loop-tag-test.true c.in_err-argument.ensures.value c.loop-tag.invariant.read)

pub loop-tag-preserved : goal.loop-tag-preserved
loop-tag-preserved c =
    let x = c.in_ok-argument.argument in
    let e : map argument_of c.push.new.self.items ≡ map argument_of c.loop-tag.items.items ++ argument_of x ∷ [] = ap (map argument_of) c.in_ok-push.ensures.items ∙ map_push argument_of c.loop-tag.items.items x in
    record {
      read = rw e (goes_on c.args.end (map argument_of c.loop-tag.items.items) c.args.tags.now c.loop-tag.tag-index c.loop-tag.rest.now (argument_of x) c.in_ok-argument.after.now (arguments_at c.args.end c.args.tags.now c.args.bytes.now) c.loop-tag-test.true c.in_ok-argument.ensures.value c.loop-tag.invariant.read);
      shorter = omega (arith, c.in_ok-argument.ensures.shorter, c.loop-tag.invariant.shorter);
    }

pub returns-clause-value : goal.returns-clause-value
returns-clause-value c =
    rw c.from_vec.ensures (is_done c.args.end (map argument_of c.loop-tag.items.items) c.args.tags.now c.loop-tag.tag-index c.loop-tag.rest.now (arguments_at c.args.end c.args.tags.now c.args.bytes.now) c.loop-tag-test.false c.loop-tag.invariant.read)
