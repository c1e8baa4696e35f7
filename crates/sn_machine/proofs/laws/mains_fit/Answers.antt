use Rattle.sn_machine.proofs.Fitting.{fits_memory, fits_count, fits_gone, fits_left, fits_joined, fits_rested}
use Rattle.sn_machine.proofs.laws.mains_fit.Goals as goal

pub returns : goal.returns
returns c = record { stored = fits_memory; armed = fits_count; gone = fits_gone; split = fits_left; joined = fits_joined; rested = fits_rested }
