use Rattle.sn_pcm.proofs.PcmLemmas.{pcm_length_is}
use Rattle.sn_pcm.proofs.pcm.pcm_length.Goals as goal

pub returns : goal.returns
returns c = pcm_length_is
