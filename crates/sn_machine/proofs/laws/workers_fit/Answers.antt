use Rattle.sn_machine.proofs.Fitting.{fits_split, fits_got, fits_read, fits_pictured, fits_ended, fits_paid}
use Rattle.sn_machine.proofs.laws.workers_fit.Goals as goal

pub returns : goal.returns
returns c = record { split = fits_split; got = fits_got; read = fits_read; stored = fits_pictured; ended = fits_ended; paid = fits_paid }
