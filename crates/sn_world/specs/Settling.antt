-- What happens after a block: its triggers are reported, and then the units that ended in it pause or free their
-- synths.
use Rattle.std.specs.Prelude.{ℕ, ◌+◌, ◌==◌, ◌&&◌, ℤ, pos, Bool, false, if◌then◌else◌, List, [], ◌∷◌, ◌++◌, flat_map, Option, Some, None, slice_index, slice_set}
use Rattle.std.specs.Ordering.{int_eq}
use Rattle.sn_mem.specs.Blocks.{sample_in}
use Rattle.sn_def.specs.declared.unit.Unit.{Unit as UnitLine}
use Rattle.sn_def.specs.StateWords.{unit_words}
use Rattle.sn_def.specs.Facts.{sends, done_action}
use Rattle.sn_reply.specs.declared.events.Neighbours.{Neighbours}
use Rattle.sn_reply.specs.declared.events.Notice.{Notice}
use Rattle.sn_reply.specs.declared.events.Notice.TheVariants as notice
use Rattle.sn_reply.specs.Replies.{ReplyShape}
use Rattle.sn_reply.specs.Events.{notice_message}
use Rattle.sn_tree.specs.declared.node.NodeView.{NodeView}
use Rattle.sn_tree.specs.Trees.{Nodes, none, node, with_payload, with_running, changed, without, view_of}
use Rattle.sn_world.specs.declared.endings.Ending.{Ending}
use Rattle.sn_world.specs.Nodes.{Content, group, synth}
use Rattle.sn_world.specs.Notices.{notices}
use Rattle.sn_world.specs.World.{Turn}

-- ---- one unit, whose state words begin at a place among the words of its synth

-- A SendTrig unit sent a trigger in block b if its first word is b + 1. Its second and third words are the trigger's id
-- and its value.
abbrev pub triggers_at : ℕ → ℤ → UnitLine → ℕ → List ℕ → List Notice
triggers_at b id u place state =
    if sends u.kind && slice_index state place == b + 1
    then notice.Tr id (sample_in (slice_index state (place + 1))) (sample_in (slice_index state (place + 2))) ∷ []
    else []

-- if the done word is 1
abbrev pub ending_of : ℤ → ℕ → Option ℤ → List Ending
ending_of id done None = []
ending_of id done (Some action) = if done == 1 then record { node = id; action = action } ∷ [] else []

abbrev pub after_ending : ℕ → List ℕ → ℕ → Option ℤ → List ℕ
after_ending place state done None = state
after_ending place state done (Some action) = if done == 1 then slice_set state place 2 else state

-- The first word of a unit that ends is its done word: it is 1 if the unit ended in this block, and becomes 2.
abbrev pub endings_at : ℤ → UnitLine → ℕ → List ℕ → List Ending
endings_at id u place state = ending_of id (slice_index state place) (done_action u.kind u.inputs)

abbrev pub settled_at : UnitLine → ℕ → List ℕ → List ℕ
settled_at u place state = after_ending place state (slice_index state place) (done_action u.kind u.inputs)

-- ---- the units of a synth in order, the first one's words beginning at a place

abbrev pub unit_triggers : ℕ → ℕ → ℤ → List UnitLine → ℕ → List ℕ → List Notice
unit_triggers rate b id [] place state = []
unit_triggers rate b id (u ∷ us) place state = triggers_at b id u place state ++ unit_triggers rate b id us (place + unit_words rate u) state

abbrev pub unit_endings : ℕ → ℤ → List UnitLine → ℕ → List ℕ → List Ending
unit_endings rate id [] place state = []
unit_endings rate id (u ∷ us) place state = endings_at id u place state ++ unit_endings rate id us (place + unit_words rate u) state

-- each done word 1 becomes 2
abbrev pub settled_units : ℕ → List UnitLine → ℕ → List ℕ → List ℕ
settled_units rate [] place state = state
settled_units rate (u ∷ us) place state = settled_units rate us (place + unit_words rate u) (settled_at u place state)

-- ---- all synths that ran, in the order of the walk

abbrev pub content_triggers : ℕ → ℕ → ℤ → Content → List Notice
content_triggers rate b id group = []
content_triggers rate b id (synth s) = unit_triggers rate b id s.definition.units 0 s.state

abbrev pub content_endings : ℕ → ℤ → Content → List Ending
content_endings rate id group = []
content_endings rate id (synth s) = unit_endings rate id s.definition.units 0 s.state

abbrev pub settled_content : ℕ → Content → Content
settled_content rate group = group
settled_content rate (synth s) = synth (record s { state = settled_units rate s.definition.units 0 s.state })

-- A node that is paused had no block, nor had the nodes below it.
abbrev pub triggers_in : ℕ → ℕ → Nodes Content → List Notice
triggers_in rate b none = []
triggers_in rate b (node label below after) =
    if label.running
    then content_triggers rate b label.id label.payload ++ (triggers_in rate b below ++ triggers_in rate b after)
    else triggers_in rate b after

abbrev pub endings_in : ℕ → Nodes Content → List Ending
endings_in rate none = []
endings_in rate (node label below after) =
    if label.running
    then content_endings rate label.id label.payload ++ (endings_in rate below ++ endings_in rate after)
    else endings_in rate after

abbrev pub settled_nodes : ℕ → Nodes Content → Nodes Content
settled_nodes rate none = none
settled_nodes rate (node label below after) =
    if label.running
    then node (with_payload (settled_content rate label.payload) label) (settled_nodes rate below) (settled_nodes rate after)
    else node label below (settled_nodes rate after)

-- ---- what clients are told

-- each of them to each client whose flag is on
abbrev pub notices_of : List Bool → List Notice → List ReplyShape
notices_of flags events = flat_map (λ event. notices 0 flags (notice_message event)) events

abbrev pub told_all : List Notice → Turn → Turn
told_all events t = record t { replies = t.replies ++ notices_of t.world.notify events }

-- ---- what is done with a synth

abbrev pub neighbours_of : ℤ → NodeView → Neighbours
neighbours_of id view = record { id = id; parent = view.parent; previous = view.previous; next = view.next }

-- If it runs, it is paused, and clients are told.
abbrev pub paused_at : ℤ → NodeView → Turn → Turn
paused_at id view t =
    if view.running
    then told_all (notice.Off (neighbours_of id view) ∷ []) (record t { world = record t.world { nodes = changed id (with_running false) t.world.nodes } })
    else t

-- It is freed, and clients are told where it stood. Its words go back to the pool.
abbrev pub freed_at : ℤ → NodeView → Turn → Turn
freed_at id view t = told_all (notice.End (neighbours_of id view) ∷ []) (record t { world = record t.world { nodes = without id t.world.nodes } })

-- done action 1 pauses the synth
abbrev pub pauses : ℤ → Bool
pauses action = int_eq action (pos 1)

-- done action 2 frees it
abbrev pub frees : ℤ → Bool
frees action = int_eq action (pos 2)

-- Nothing is done if the action does neither, or if the synth is there no more.
abbrev pub acted_at : Ending → Option NodeView → Turn → Turn
acted_at e None t = t
acted_at e (Some view) t =
    if pauses e.action then paused_at e.node view t
    else if frees e.action then freed_at e.node view t
    else t

abbrev pub acted : Ending → Turn → Turn
acted e t = acted_at e (view_of e.node t.world.nodes) t

abbrev pub all_acted : List Ending → Turn → Turn
all_acted [] t = t
all_acted (e ∷ es) t = all_acted es (acted e t)

-- ---- after block b

abbrev pub with_nodes_settled : Turn → Turn
with_nodes_settled t = record t { world = record t.world { nodes = settled_nodes t.world.rate t.world.nodes } }

-- First the triggers are told. Then each done word 1 becomes 2, and its action takes place.
abbrev pub settled : ℕ → Turn → Turn
settled b t = all_acted (endings_in t.world.rate t.world.nodes) (with_nodes_settled (told_all (triggers_in t.world.rate b t.world.nodes) t))
