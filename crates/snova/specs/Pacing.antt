-- What sets the pace of a session.
use Rattle.std.specs.Prelude.{Bool, true, false}
use Rattle.sn_words.specs.declared.serve.Pacing.{Pacing}

-- what takes the sound sets it, and not the clock
abbrev pub by_sound : Pacing → Bool
by_sound Pacing.Clock = false
by_sound Pacing.Sound = true
