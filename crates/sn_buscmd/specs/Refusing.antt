-- What holds of a refused command, and not if memory ran out.
use Rattle.std.specs.Prelude.{Option, Some, None, Result, Ok, Err}
use Rattle.sn_ports.specs.declared.failed.NoMemory.{NoMemory}
use Rattle.sn_reply.specs.declared.reason.Reason.{Reason}
use Rattle.sn_world.specs.declared.command.Handled.{Handled}
use Rattle.sn_world.specs.declared.command.Handled.TheVariants.{Done, Completion, Quit, ClearSched, Failed, NotMine}

-- a fact for a row that there is a reason against
abbrev pub IfRefused : Result (Option Reason) NoMemory → Type 0 → Type 0
IfRefused (Ok None) P = Unit {0}
IfRefused (Ok (Some reason)) P = P
IfRefused (Err e) P = Unit {0}

-- the same for a message, even for one of other commands
abbrev pub IfFailed : Result Handled NoMemory → Type 0 → Type 0
IfFailed (Ok Done) P = Unit {0}
IfFailed (Ok (Completion m)) P = Unit {0}
IfFailed (Ok Quit) P = Unit {0}
IfFailed (Ok ClearSched) P = Unit {0}
IfFailed (Ok (Failed reason)) P = P
IfFailed (Ok NotMine) P = P
IfFailed (Err e) P = Unit {0}
