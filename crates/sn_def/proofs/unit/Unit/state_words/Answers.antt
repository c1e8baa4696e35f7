use Rattle.sn_def.proofs.Counting.{frames_fit}
use Rattle.sn_def.proofs.unit.Unit.state_words.Goals as goal

pub words_of-requires : goal.words_of-requires
words_of-requires c = rw c.frames_of.ensures (frames_fit _ _)
