-- The five numbers of settings.
use Rattle.std.specs.Prelude.{ℕ}
use Rattle.sn_pcm.specs.declared.settings.Settings.{Settings}

pub record Choices : Type 0 where
  pub rate : ℕ
  pub channels : ℕ
  pub bits : ℕ
  pub workers : ℕ
  pub memory : ℕ

abbrev pub numbers : Settings → Choices
numbers s = record { rate = s.rate; channels = s.channels; bits = s.bits; workers = s.workers; memory = s.memory }
