-- What clients are told of a node, besides what they were told before.
use Rattle.std.specs.Prelude.{◌≡◌, ℤ, Bool, List, ◌++◌, Option, Some, None, Result, Ok, Err}
use Rattle.sn_ports.specs.declared.failed.NoMemory.{NoMemory}
use Rattle.sn_mem.specs.declared.extents.Extent.{Extent}
use Rattle.sn_reply.specs.Replies.{ReplyShape}
use Rattle.sn_tree.specs.declared.node.NodeView.{NodeView}
use Rattle.sn_tree.specs.Trees.{view_of}
use Rattle.sn_tree.specs.Views.{views_below}
use Rattle.sn_world.specs.declared.notices.NodeEvent.{NodeEvent}
use Rattle.sn_world.specs.declared.notices.NodeEvent.TheVariants.{Went}
use Rattle.sn_world.specs.declared.stage.Stage.{Stage}
use Rattle.sn_world.specs.Notices.{event_message, notices}
use Rattle.sn_world.specs.declared.repetition.NewNode.{NewNode}
use Rattle.sn_world.specs.NewNodes.{replaces, told_if}
use Rattle.sn_world.specs.World.{World}

-- an event of a node with this view; nothing of one that isn't there
abbrev pub told_replies : NodeEvent → ℤ → Option NodeView → List Bool → List ReplyShape → List ReplyShape
told_replies event id None flags replies = replies
told_replies event id (Some view) flags replies = replies ++ notices 0 flags (event_message event id view)

-- Clients were told that the replaced nodes end, and then that a new node is there, at its place. What is told depends
-- on the flags.
abbrev pub Tells : Bool → List (ℤ × NodeView) → ℤ → Option NodeView → List Bool → List ReplyShape → List ReplyShape → Type 0
Tells b gone id view flags old new = (w : World) → w.notify ≡ flags → new ≡ told_replies Went id view flags (told_if b gone (record { world = w; replies = old })).replies

-- A synth that was put into a stage was told of; else nothing was told.
abbrev pub TellsOf : ℤ → NewNode → Stage → Stage → List ReplyShape → List ReplyShape → Result (Option Extent) NoMemory → Type 0
TellsOf id r before stage old new (Ok (Some e)) = Tells (replaces r.action) (views_below r.target before.tree.attached) id (view_of id stage.tree.attached) stage.notify old new
TellsOf id r before stage old new (Ok None) = new ≡ old
TellsOf id r before stage old new (Err e) = new ≡ old
