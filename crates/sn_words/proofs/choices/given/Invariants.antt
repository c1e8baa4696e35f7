-- No word so far gives the key a value.
use Rattle.std.proofs.Common.{◌≡◌, drop}
use Rattle.sn_words.specs.Keys.{given}
use Rattle.sn_words.proofs.choices.given.Given as goal

abbrev pub invariant-loop-word : goal.invariant-loop-word
invariant-loop-word l = given l.key l.words ≡ given l.key (drop l.word-index l.words)
