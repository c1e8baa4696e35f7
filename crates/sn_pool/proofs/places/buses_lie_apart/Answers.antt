use Rattle.sn_pool.proofs.BusesApart.{audio_apart, control_apart, audio_from_control, audio_below, control_below}
use Rattle.sn_pool.proofs.places.buses_lie_apart.Goals as goal

pub returns-clause-audio : goal.returns-clause-audio
returns-clause-audio c = audio_apart

pub returns-clause-control : goal.returns-clause-control
returns-clause-control c = control_apart

pub returns-clause-both : goal.returns-clause-both
returns-clause-both c = audio_from_control

pub returns-clause-audio_below : goal.returns-clause-audio_below
returns-clause-audio_below c = audio_below

pub returns-clause-control_below : goal.returns-clause-control_below
returns-clause-control_below c = control_below
