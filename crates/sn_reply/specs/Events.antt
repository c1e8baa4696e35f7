-- What clients are told when a block is settled.
use Rattle.std.specs.Prelude.{ℤ, pos, List, [], ◌∷◌, codes}
use Rattle.sn_osc.specs.Shape.{Argument, int, arguments, MessageShape}
use Rattle.sn_reply.specs.declared.events.Neighbours.{Neighbours}
use Rattle.sn_reply.specs.declared.events.Notice.{Notice}
use Rattle.sn_reply.specs.declared.events.Notice.TheVariants.{Tr, End, Off}

-- a synth's id, its parent, the node before it and the node after it, with -1 for none, and 0, since it is no group
abbrev pub neighbours_arguments : Neighbours → List Argument
neighbours_arguments p = int p.id ∷ int p.parent ∷ int p.previous ∷ int p.next ∷ int (pos 0) ∷ []

-- a trigger: the synth's id, the trigger's id, its value
abbrev pub trigger_arguments : ℤ → ℤ → ℤ → List Argument
trigger_arguments node id value = int node ∷ int id ∷ int value ∷ []

abbrev pub notice_message : Notice → MessageShape
notice_message (Tr node id value) = record { address = codes "/tr"; body = arguments (trigger_arguments node id value) }
notice_message (End neighbours) = record { address = codes "/n_end"; body = arguments (neighbours_arguments neighbours) }
notice_message (Off neighbours) = record { address = codes "/n_off"; body = arguments (neighbours_arguments neighbours) }
