-- The state of PinkNoise keeps the number of its words.
use Rattle.std.proofs.Common.{◌≡◌, pos, length, get_or, arith}
use Rattle.sn_mem.specs.Blocks.{word_for}
use Rattle.sn_mem.proofs.Tables.{length-table}
use Rattle.sn_gen.specs.Pink.{dice_words}
use Rattle.sn_gen.specs.declared.pink.Dice.{Dice}

pub length-dice_words : (s : Dice) → length (dice_words s) ≡ 19
length-dice_words s = omega (arith, length-table (λ j. word_for (get_or s.faces j (pos 0))) 16)
