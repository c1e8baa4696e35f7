-- `/quit` and `/clearSched`.
use Rattle.std.specs.Prelude.{ℕ, Bool, true, false, List, [], ◌∷◌, Result, Ok, Err, codes}
use Rattle.sn_osc.specs.Shape.{Argument, MessageShape}
use Rattle.sn_reply.specs.declared.reason.Reason.{Reason}
use Rattle.sn_reply.specs.declared.reason.Reason.TheVariants.{Arguments}
use Rattle.sn_world.specs.World.{Turn, replied}
use Rattle.sn_world.specs.Recv.{done}

-- `/quit`
abbrev pub quit_row : ℕ → List Argument → Turn → Result Turn Reason
quit_row from [] t = Ok (replied from (done (codes "/quit")) t)
quit_row from (x ∷ xs) t = Err Arguments

-- `/clearSched`
abbrev pub clear_row : ℕ → List Argument → Turn → Result Turn Reason
clear_row from [] t = Ok t
clear_row from (x ∷ xs) t = Err Arguments

-- what is done besides, if a command is accepted: nothing, or the server ends, or the entries that are due later are
-- dropped, or the completion message that the command carries acts
pub data Next : Type 0 where
  nothing : Next
  quitting : Next
  clearing : Next
  completing : MessageShape → Next

abbrev pub is_clearing : Next → Bool
is_clearing nothing = false
is_clearing quitting = false
is_clearing clearing = true
is_clearing (completing m) = false

abbrev pub is_completing : Next → Bool
is_completing nothing = false
is_completing quitting = false
is_completing clearing = false
is_completing (completing m) = true

abbrev pub is_quitting : Next → Bool
is_quitting nothing = false
is_quitting quitting = true
is_quitting clearing = false
is_quitting (completing m) = false
