-- `/notify`: a client is told of what happens to nodes, or no longer.
use Rattle.std.specs.Prelude.{ℕ, ℤ, pos, Bool, not, List, [], ◌∷◌, slice_set, Option, Some, None, Result, Ok, Err, codes}
use Rattle.std.specs.Ordering.{int_eq}
use Rattle.sn_osc.specs.Shape.{Argument, int, string, arguments, MessageShape}
use Rattle.sn_reply.specs.declared.reason.Reason.{Reason}
use Rattle.sn_reply.specs.declared.reason.Reason.TheVariants.{Arguments}
use Rattle.sn_world.specs.World.{World, Turn, replied}

-- a flag is 0 or not 0
abbrev pub flag_of : ℤ → Bool
flag_of n = not (int_eq n (pos 0))

-- one flag
abbrev pub notify_flag : List Argument → Option Bool
notify_flag (int n ∷ []) = Some (flag_of n)
notify_flag _ = None

-- `/done /notify 0`
abbrev pub notify_done : MessageShape
notify_done = record { address = codes "/done"; body = arguments (string (codes "/notify") ∷ int (pos 0) ∷ []) }

-- the world with a client's flag
abbrev pub with_notify : ℕ → Bool → World → World
with_notify client on w = record w { notify = slice_set w.notify client on }

abbrev pub notify_outcome : ℕ → Option Bool → Turn → Result Turn Reason
notify_outcome from None t = Err Arguments
notify_outcome from (Some on) t = Ok (replied from notify_done (record t { world = with_notify from on t.world }))

-- `/notify` flag
abbrev pub notify_row : ℕ → List Argument → Turn → Result Turn Reason
notify_row from xs t = notify_outcome from (notify_flag xs) t
