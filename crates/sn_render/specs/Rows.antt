-- Blocks that an engine plays in a row.
use Rattle.std.specs.Prelude.{◌≡◌, ◌≤◌, ℕ, List, Option}
use Rattle.sn_engine.specs.Running.{Running}
use Rattle.sn_render.specs.Fronts.{TakeFronts}
use Rattle.sn_render.specs.Going.{HasWritten}
use Rattle.sn_render.specs.Play.{after_blocks, to_first}

-- one to so many blocks, each with its boundary and its settling
pub record IsRow (most : ℕ) (old new : Running) : Type 0 where
  pub blocks : ℕ
  pub some : 1 ≤ blocks
  pub few : blocks ≤ most
  pub played : new ≡ after_blocks blocks old

-- and some prefix of the bytes was written
pub record IsRowWritten (most : ℕ) (sound_old sound_new replies_old replies_new : Option (List ℕ)) (old new : Running) : Type 0 where
  pub blocks : ℕ
  pub some : 1 ≤ blocks
  pub few : blocks ≤ most
  pub written : HasWritten sound_old sound_new replies_old replies_new (after_blocks blocks old) new

-- of the bytes of at most so many blocks prefixes were written
pub record IsRowCut (most : ℕ) (sound_old sound_new replies_old replies_new : Option (List ℕ)) (old : Running) : Type 0 where
  pub blocks : ℕ
  pub few : blocks ≤ most
  pub fronts : TakeFronts sound_old sound_new replies_old replies_new (after_blocks blocks old).sound (to_first (after_blocks blocks old).replies)
