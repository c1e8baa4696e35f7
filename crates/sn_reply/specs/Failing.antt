-- What a client is told of a command that was refused.
use Rattle.std.specs.Prelude.{ℕ, List, [], ◌∷◌, ◌++◌, codes}
use Rattle.std.specs.Fmt.{decimal}
use Rattle.sn_osc.specs.Shape.{MessageShape, string, arguments}
use Rattle.sn_reply.specs.declared.reason.Reason.{Reason}
use Rattle.sn_reply.specs.declared.reason.Reason.TheVariants as Reasons

abbrev pub definition_line : ℕ → List ℕ
definition_line line = codes "definition line " ++ decimal line

-- the words of a reason
abbrev pub reason_text : Reason → List ℕ
reason_text Reasons.UnknownCommand = codes "unknown command"
reason_text Reasons.ArgumentType = codes "argument type"
reason_text Reasons.Arguments = codes "arguments"
reason_text Reasons.NoSuchNode = codes "no such node"
reason_text Reasons.IdInUse = codes "id in use"
reason_text Reasons.AddAction = codes "add action"
reason_text Reasons.NotGroup = codes "not a group"
reason_text Reasons.Root = codes "root"
reason_text Reasons.InsideItself = codes "inside itself"
reason_text Reasons.NoSuchDefinition = codes "no such definition"
reason_text Reasons.Bus = codes "bus"
reason_text Reasons.Buffer = codes "buffer"
reason_text Reasons.SampleIndex = codes "sample index"
reason_text Reasons.PoolFull = codes "pool full"
reason_text Reasons.TooManyNodes = codes "too many nodes"
reason_text (Reasons.DefinitionLine line) = definition_line line
reason_text Reasons.IndexControl = codes "index control"
reason_text Reasons.QueueFull = codes "queue full"
reason_text Reasons.BadPacket = codes "bad packet"
reason_text Reasons.NotSynth = codes "not a synth"
reason_text Reasons.File = codes "file"

-- `/fail` with the command's address and the words of the reason
abbrev pub fail_message : List ℕ → Reason → MessageShape
fail_message address reason = record { address = codes "/fail"; body = arguments (string address ∷ string (reason_text reason) ∷ []) }
