-- The reason against a move, if there is one.
use Rattle.std.specs.Prelude.{Option, Some, None, Result, Ok, Err}
use Rattle.sn_reply.specs.declared.reason.Reason.{Reason}

-- the reason of an answer, if it is one
abbrev pub refused_by : {A : Type 0} → Result A Reason → Option Reason
refused_by (Ok a) = None
refused_by (Err reason) = Some reason
