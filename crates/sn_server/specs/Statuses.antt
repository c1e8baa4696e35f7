-- The statuses with which a program ends that serves a connection.
use Rattle.std.specs.Prelude.{ℕ}
use Rattle.sn_server.specs.declared.ended.Ended.{Ended}
use Rattle.sn_server.specs.declared.ended.Ended.TheVariants.{Quit, NoMemory, Closed, Cut, BadFrame, LinkFault, SoundFault, Worn}

abbrev pub end_status : Ended → ℕ
end_status Quit = 0
end_status Closed = 0
end_status NoMemory = 1
end_status SoundFault = 7
end_status (Cut kept) = 10
end_status (BadFrame size) = 11
end_status LinkFault = 12
end_status (Worn octets blocks) = 17
