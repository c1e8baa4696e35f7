use Rattle.sn_io.proofs.Unseen.{silence_unseen, free_unseen, pause_unseen, playing_unseen, placing_unseen, recording_unseen}
use Rattle.sn_io.proofs.laws.ends_are_unseen.Goals as goal

pub returns : goal.returns
returns c = record { silence = silence_unseen; free = free_unseen; pause = pause_unseen; playing = playing_unseen; placing = placing_unseen; recording = recording_unseen }
