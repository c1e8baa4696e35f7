use Rattle.sn_layout.proofs.Voices.{clashes_alike, quiet_alike}
use Rattle.sn_layout.proofs.laws.layout_decides_worlds.Goals as goal

pub returns : goal.returns
returns c = record { clashes = clashes_alike; quiet = quiet_alike }
