-- How far a run has come: what was written, and after it what the engine still holds.
use Rattle.std.specs.Prelude.{◌≡◌, ◌+◌, ℕ, List, [], ◌∷◌, ◌++◌, length, Option}
use Rattle.std.specs.Io.KnownBytes.{Appends}
use Rattle.sn_engine.specs.Running.{Running}
use Rattle.sn_engine.specs.declared.standing.Standing.TheVariants.{Settled}
use Rattle.sn_render.specs.Play.{after_blocks}

-- an engine of one client, at a boundary
pub record IsAtBoundary (r : Running) : Type 0 where
  pub standing : r.standing ≡ Settled
  pub alone : length r.replies ≡ 1

-- bytes before those that the first client is to be sent
abbrev pub before_first : List ℕ → List (List ℕ) → List (List ℕ)
before_first said [] = []
before_first said (bytes ∷ others) = (said ++ bytes) ∷ others

-- what was written of the sound and of the replies, and after it what an engine still holds
abbrev pub behind : List ℕ → List ℕ → Running → Running
behind sound said r = record r { sound = sound ++ r.sound; replies = before_first said r.replies }

-- some prefix of the bytes that were to be written was written
pub record IsWritten (before after : List ℕ) (old new : Option (List ℕ)) : Type 0 where
  pub piece : List ℕ
  pub parts : before ≡ piece ++ after
  pub taken : Appends old new piece

-- some prefix of an engine's bytes was written, and it holds the others
pub record HasWritten (sound_old sound_new replies_old replies_new : Option (List ℕ)) (before after : Running) : Type 0 where
  pub sound_out : List ℕ
  pub replies_out : List ℕ
  pub parts : before ≡ behind sound_out replies_out after
  pub sound : Appends sound_old sound_new sound_out
  pub replies : Appends replies_old replies_new replies_out

-- With so many blocks to come, what was written and what is still held play on to what all blocks give.
pub record IsGoing (first : Running) (total left : ℕ) (sound_old sound_new replies_old replies_new : Option (List ℕ)) (r : Running) : Type 0 where
  pub play : Running
  pub plays : after_blocks left play ≡ after_blocks total first
  pub written : HasWritten sound_old sound_new replies_old replies_new play r
  pub stands : IsAtBoundary r
  pub count : r.block + left ≡ first.block + total
