-- The statuses with which a program ends that renders a stream.
use Rattle.std.specs.Prelude.{ℕ}
use Rattle.sn_render.specs.declared.outcome.Outcome.{Outcome}
use Rattle.sn_render.specs.declared.outcome.Outcome.TheVariants.{Done, NoMemory, BadWords, BadStream, LongStream, LongSound, ReadFault, SoundFault, ReplyFault}

abbrev pub outcome_status : Outcome → ℕ
outcome_status (Done blocks) = 0
outcome_status NoMemory = 1
outcome_status (BadWords index) = 2
outcome_status (BadStream packet place fault) = 3
outcome_status (LongStream octets) = 4
outcome_status (LongSound blocks) = 5
outcome_status ReadFault = 6
outcome_status SoundFault = 7
outcome_status ReplyFault = 8
