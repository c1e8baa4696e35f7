-- Which buses are heard.
use Rattle.std.specs.Prelude.{◌≡◌, ℕ, ◌+◌, ◌<◌, ◌==◌, Bool, false, List, slice_index_or}
use Rattle.sn_mem.specs.Buses.{audio_bus}

-- of each of so many audio buses whether it was written in block b
abbrev pub AreWritten : ℕ → List ℕ → ℕ → List Bool → Type 0
AreWritten b words n written = (c : ℕ) → c < n → slice_index_or written c false ≡ ((audio_bus words c).written == b + 1)
