-- What sinks and links took of the bytes that were to be written and sent.
use Rattle.std.specs.Prelude.{ℕ, List, Option}
use Rattle.std.specs.Io.KnownBytes.{Appends}
use Rattle.sn_ports.specs.Transfer.{Before}

-- a prefix of some bytes was taken
abbrev pub TakesFront : Option (List ℕ) → Option (List ℕ) → List ℕ → Type 0
TakesFront old new whole = (front : List ℕ) × Appends old new front × Before front whole

-- each of two sinks took a prefix of its bytes
pub record TakeFronts (sound_old sound_new replies_old replies_new : Option (List ℕ)) (whole_sound whole_replies : List ℕ) : Type 0 where
  pub sound : TakesFront sound_old sound_new whole_sound
  pub replies : TakesFront replies_old replies_new whole_replies

-- each of two sinks took all of its bytes
pub record TakeBoth (sound_old sound_new replies_old replies_new : Option (List ℕ)) (whole_sound whole_replies : List ℕ) : Type 0 where
  pub sound : Appends sound_old sound_new whole_sound
  pub replies : Appends replies_old replies_new whole_replies
