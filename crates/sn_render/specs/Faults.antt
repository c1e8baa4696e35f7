-- Counts of failures that are unchanged.
use Rattle.std.specs.Prelude.{◌≡◌, ℕ, Result, Ok, Err}
use Rattle.sn_render.specs.declared.rendering.Stop.{Stop}
use Rattle.sn_render.specs.declared.rendering.Stop.TheVariants.{NoMemory, SoundFault, ReplyFault}
use Rattle.sn_render.specs.declared.stream.Unread.{Unread}
use Rattle.sn_render.specs.declared.stream.Unread.TheVariants as unread

-- neither of two counts has changed
abbrev pub NothingFailed : ℕ → ℕ → ℕ → ℕ → Type 0
NothingFailed one_old one_new other_old other_new = (one_new ≡ one_old) × (other_new ≡ other_old)

-- a fact, unless the source failed
abbrev pub UnlessFailed : {X : Type 0} → Result X Unread → Type 0 → Type 0
UnlessFailed (Ok x) P = P
UnlessFailed (Err unread.NoMemory) P = P
UnlessFailed (Err unread.TooLong) P = P
UnlessFailed (Err unread.Failed) P = Unit {0}

-- If a sink failed, the other's count is unchanged. At every other answer both are.
abbrev pub NoneElseFailed : Result Unit Stop → ℕ → ℕ → ℕ → ℕ → Type 0
NoneElseFailed (Ok x) sound_old sound_new replies_old replies_new = NothingFailed sound_old sound_new replies_old replies_new
NoneElseFailed (Err NoMemory) sound_old sound_new replies_old replies_new = NothingFailed sound_old sound_new replies_old replies_new
NoneElseFailed (Err SoundFault) sound_old sound_new replies_old replies_new = replies_new ≡ replies_old
NoneElseFailed (Err ReplyFault) sound_old sound_new replies_old replies_new = sound_new ≡ sound_old
