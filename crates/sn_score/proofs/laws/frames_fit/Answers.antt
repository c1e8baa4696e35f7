use Rattle.sn_osc.proofs.Octets.{octets_from}
use Rattle.sn_score.proofs.Streaming.{frames_fit}
use Rattle.sn_score.proofs.laws.frames_fit.Goals as goal

pub returns : goal.returns
returns c = λ packets bytes small frames. frames_fit packets bytes (octets_from bytes small) frames
