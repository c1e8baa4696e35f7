use Rattle.sn_score.proofs.Streaming.{few_frames, few_written}
use Rattle.sn_score.proofs.laws.few_packets.Goals as goal

pub returns-clause-stream : goal.returns-clause-stream
returns-clause-stream c = λ packets bytes frames. few_frames packets bytes frames

pub returns-clause-text : goal.returns-clause-text
returns-clause-text c = λ packets text s. few_written text packets s
