use Rattle.sn_shelf.proofs.FormLemmas.{wave_found, wave_only}
use Rattle.sn_shelf.proofs.laws.one_wave.Goals as goal

pub returns-clause-found : goal.returns-clause-found
returns-clause-found c = wave_found

pub returns-clause-only : goal.returns-clause-only
returns-clause-only c = wave_only
