use Rattle.sn_osc.proofs.UnpackingLemmas.{whole_frames, only_whole_frames}
use Rattle.sn_osc.proofs.laws.whole_frames.Goals as goal

pub returns-clause-all : goal.returns-clause-all
returns-clause-all c = λ bytes fits. whole_frames bytes fits

pub returns-clause-only : goal.returns-clause-only
returns-clause-only c = λ bytes u fits w. only_whole_frames bytes u fits w
