-- What was done with synths, and told of it.
use Rattle.std.specs.Prelude.{◌≡◌, ◌≤◌, ℕ, pos, false, List, ◌++◌, length}
use Rattle.std.specs.Ordering.{int_eq}
use Rattle.sn_ports.specs.Octets.{Octets}
use Rattle.sn_reply.specs.Replies.{ReplyShape}
use Rattle.sn_reply.specs.declared.events.Notice.{Notice}
use Rattle.sn_world.specs.declared.endings.Ending.{Ending}
use Rattle.sn_world.specs.declared.stage.Stage.{Stage}
use Rattle.sn_world.specs.Pictures.{Pictures}
use Rattle.sn_world.specs.Settling.{notices_of}
use Rattle.sn_world.specs.World.{Turn, turn_of}
use Rattle.sn_settle.specs.Telling.{AreTold}

-- the end of a unit of a node that isn't the root
abbrev pub IsBelowRoot : Ending → Type 0
IsBelowRoot e = int_eq e.node (pos 0) ≡ false

-- The stage stands for what an act makes of the world, whatever the words are, and clients were told what the act
-- tells: so many events at most.
pub record IsActed (most : ℕ) (act : Turn → Turn) (old new : Stage) (a b : List Octets) : Type 0 where
  pub events : List Notice
  pub few : length events ≤ most
  pub is : (words : List ℕ) (replies : List ReplyShape) → act (turn_of old words replies) ≡ turn_of new words (replies ++ notices_of old.notify events)
  pub told : AreTold old.notify events a b
  pub notify : new.notify ≡ old.notify
  pub region : new.pool.region ≡ old.pool.region
  pub pictures : (words : List ℕ) → Pictures old words → Pictures new words
