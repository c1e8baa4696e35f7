use Rattle.std.proofs.Common.{length, ◌<◌, arith, rules}
use Rattle.sn_words.proofs.Loops.{found, passed, none_given}
use Rattle.sn_words.proofs.choices.given.Goals as goal

pub returns-then-is_some-clause-value : goal.returns-then-is_some-clause-value
returns-then-is_some-clause-value c =
    let h : c.loop-word.word-index < length c.args.words.now = omega arith in
    found c.args.key c.args.words.now c.loop-word.word-index c.word-item.result c.as_slice.result.now c.value_in-value.result h c.word-item.is c.as_slice.ensures c.value_in-value.ensures.value c.loop-word.invariant (search rules)

pub loop-word-preserved : goal.loop-word-preserved
loop-word-preserved c =
    let h : c.loop-word.word-index < length c.args.words.now = omega arith in
    passed c.args.key c.args.words.now c.loop-word.word-index c.word-item.result c.as_slice.result.now c.value_in-value.result h c.word-item.is c.as_slice.ensures c.value_in-value.ensures.value c.loop-word.invariant (search rules)

pub returns-clause-value : goal.returns-clause-value
returns-clause-value c = none_given c.args.key c.args.words.now c.loop-word.word-index (omega arith) c.loop-word.invariant
