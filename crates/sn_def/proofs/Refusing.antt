-- What is answered for a line that was refused.
use Rattle.std.proofs.Common.{◌≡◌, ℕ, Result, refl}
use Rattle.sn_def.specs.declared.fault.DefKind.{DefKind}
use Rattle.sn_def.specs.declared.fault.Refused.{Refused}
use Rattle.sn_def.specs.declared.fault.Refused.TheVariants as refused
use Rattle.sn_def.specs.Definition.{Definition}
use Rattle.sn_def.specs.Reading.{at_line}
use Rattle.sn_def.specs.Answers.{RefusedAs, UnreadAs, told_at}

pub told_reads : (line : ℕ) (why : Refused) (read : Result Definition DefKind) → RefusedAs why read → UnreadAs (told_at line why) (at_line line read)
told_reads line refused.NoMemory read h = tt
told_reads line (refused.Because kind) read h = rw h refl
