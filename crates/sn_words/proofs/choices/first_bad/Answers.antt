use Rattle.std.proofs.Common.{length, ◌<◌, arith, rules}
use Rattle.sn_words.proofs.Loops.{bad, good_so_far, all_good}
use Rattle.sn_words.proofs.choices.first_bad.Goals as goal

pub returns-then-not-is_good-clause-value : goal.returns-then-not-is_good-clause-value
returns-then-not-is_good-clause-value c =
    let h : c.loop-i.i < length c.args.words.now = omega arith in
    bad c.args.keys.now c.args.words.now c.loop-i.i c.index-words-i.result c.as_slice.result.now c.is_good.result h c.index-words-i.is c.as_slice.ensures c.is_good.ensures c.loop-i.invariant (search rules)

pub loop-i-preserved : goal.loop-i-preserved
loop-i-preserved c =
    let h : c.loop-i.i < length c.args.words.now = omega arith in
    good_so_far c.args.keys.now c.args.words.now c.loop-i.i c.index-words-i.result c.as_slice.result.now c.is_good.result h c.index-words-i.is c.as_slice.ensures c.is_good.ensures c.loop-i.invariant (search rules)

pub returns-clause-value : goal.returns-clause-value
returns-clause-value c = all_good c.args.keys.now c.args.words.now c.loop-i.i (omega arith) c.loop-i.invariant
