-- `/d_recv`: a definition is received as its text.
use Rattle.std.specs.Prelude.{ℕ, List, [], ◌∷◌, Option, Some, None, Result, Ok, Err, codes}
use Rattle.std.specs.FinMap as finite
use Rattle.sn_osc.specs.Shape.{Argument, string, blob, arguments, MessageShape}
use Rattle.sn_def.specs.Definition.{Definition}
use Rattle.sn_def.specs.Reading.{text_at}
use Rattle.sn_def.specs.declared.fault.DefFault.{DefFault}
use Rattle.sn_reply.specs.declared.reason.Reason.{Reason}
use Rattle.sn_reply.specs.declared.reason.Reason.TheVariants.{Arguments, DefinitionLine}
use Rattle.sn_world.specs.World.{World, Turn, replied}

-- one text
abbrev pub received_text : List Argument → Option (List ℕ)
received_text (blob text ∷ []) = Some text
received_text _ = None

-- A definition replaces one of its name.
abbrev pub with_definition : Definition → World → World
with_definition d w = record w { definitions = finite.insert w.definitions d.name d }

-- `/done` with the address of a command
abbrev pub done : List ℕ → MessageShape
done address = record { address = codes "/done"; body = arguments (string address ∷ []) }

abbrev pub recv_read : ℕ → Result Definition DefFault → Turn → Result Turn Reason
recv_read from (Ok d) t = Ok (replied from (done (codes "/d_recv")) (record t { world = with_definition d t.world }))
recv_read from (Err fault) t = Err (DefinitionLine fault.line)

abbrev pub recv_outcome : ℕ → Option (List ℕ) → Turn → Result Turn Reason
recv_outcome from None t = Err Arguments
recv_outcome from (Some text) t = recv_read from (text_at text) t

-- `/d_recv` text
abbrev pub recv_row : ℕ → List Argument → Turn → Result Turn Reason
recv_row from xs t = recv_outcome from (received_text xs) t
