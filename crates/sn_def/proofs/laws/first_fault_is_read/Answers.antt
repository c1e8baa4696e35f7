use Rattle.sn_def.proofs.Faulting.{first_fault}
use Rattle.sn_def.proofs.Unique.{fault_is_given}
use Rattle.sn_def.proofs.laws.first_fault_is_read.Goals as goal

pub returns-clause-sound : goal.returns-clause-sound
returns-clause-sound c = first_fault c.literal_bytes.ensures

pub returns-clause-complete : goal.returns-clause-complete
returns-clause-complete c = fault_is_given c.literal_bytes.ensures
