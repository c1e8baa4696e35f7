-- Which words a bus rests on.
use Rattle.std.proofs.Common.{◌≡◌, ◌≤◌, ◌<◌, ◌^◌, ℕ, ◌+◌, ◌*◌, List, ℤ, get_or, set, ap, ◌∙◌, arith}
use Rattle.std.specs.Prelude.{FitsSigned}
use Rattle.std.specs.Int.{w32, cast_unsigned, cast_signed}
use Rattle.std.proofs.lemmas.Int.{to_z-of_z}
use Rattle.std.proofs.Math.Facts.{Fits-of_z}
use Rattle.std.proofs.Math.Nat.{mod-eq_of_lt}
use Rattle.sn_mem.specs.Blocks.{sample_in, word_for, samples_at}
use Rattle.sn_mem.specs.Buses.{AudioBus, ControlBus, Buses, audio_bus, control_bus, audio_buses, control_buses, buses_of}
use Rattle.sn_mem.proofs.Windows.{table_at, table_same, table_set}

-- the word that holds a sample gives it back
pub sample_in-word_for : (v : ℤ) → FitsSigned w32 v → sample_in (word_for v) ≡ v
sample_in-word_for v fits =
    let small : cast_unsigned w32 v < 2 ^ 32 = (Fits-of_z fits).fits in
    ap (cast_signed w32) (mod-eq_of_lt small) ∙ to_z-of_z w32 v fits

same_audio : (w w' : ℕ) (xs xs' : List ℤ) → w ≡ w' → xs ≡ xs' → ◌≡◌ {A = AudioBus} (record { written = w; samples = xs }) (record { written = w'; samples = xs' })
same_audio w w' xs xs' p q = cc

same_control : (w w' : ℕ) (x x' : ℤ) → w ≡ w' → x ≡ x' → ◌≡◌ {A = ControlBus} (record { written = w; value = x }) (record { written = w'; value = x' })
same_control w w' x x' p q = cc

pub same_buses : (a a' : List AudioBus) (c c' : List ControlBus) → a ≡ a' → c ≡ c' → ◌≡◌ {A = Buses} (record { audio = a; control = c }) (record { audio = a'; control = c' })
same_buses a a' c c' p q = cc

-- an audio bus rests on its 65 words
pub audio_bus_same : (us ws : List ℕ) (n : ℕ) → ((j : ℕ) → 65 * n ≤ j → j < 65 * n + 65 → get_or us j 0 ≡ get_or ws j 0) → audio_bus us n ≡ audio_bus ws n
audio_bus_same us ws n h = same_audio (get_or us (65 * n) 0) (get_or ws (65 * n) 0) (samples_at us (65 * n + 1)) (samples_at ws (65 * n + 1)) (h (65 * n) (omega arith) (omega arith))
    (table_same (λ k. sample_in (get_or us (65 * n + 1 + k) 0)) (λ k. sample_in (get_or ws (65 * n + 1 + k) 0)) 64 (λ k lt. ap sample_in (h (65 * n + 1 + k) (omega arith) (omega arith))))

-- a control bus rests on its two words
pub control_bus_same : (us ws : List ℕ) (n : ℕ) → ((j : ℕ) → 8320 + 2 * n ≤ j → j < 8322 + 2 * n → get_or us j 0 ≡ get_or ws j 0) → control_bus us n ≡ control_bus ws n
control_bus_same us ws n h = same_control (get_or us (8320 + 2 * n) 0) (get_or ws (8320 + 2 * n) 0) (sample_in (get_or us (8320 + 2 * n + 1) 0)) (sample_in (get_or ws (8320 + 2 * n + 1) 0)) (h (8320 + 2 * n) (omega arith) (omega arith))
    (ap sample_in (h (8320 + 2 * n + 1) (omega arith) (omega arith)))

pub audio_at : (ws : List ℕ) (n : ℕ) (d : AudioBus) → n < 128 → get_or (audio_buses ws) n d ≡ audio_bus ws n
unfolding audio_buses
audio_at ws n d low = table_at (audio_bus ws) 128 n d low

pub control_at : (ws : List ℕ) (n : ℕ) (d : ControlBus) → n < 1024 → get_or (control_buses ws) n d ≡ control_bus ws n
unfolding control_buses
control_at ws n d low = table_at (control_bus ws) 1024 n d low

-- if the words of the audio buses stay, so do the buses
pub audio_same : (us ws : List ℕ) → ((j : ℕ) → j < 8320 → get_or us j 0 ≡ get_or ws j 0) → audio_buses us ≡ audio_buses ws
unfolding audio_buses
audio_same us ws h = table_same (audio_bus us) (audio_bus ws) 128 (λ n low. audio_bus_same us ws n (λ j p q. h j (omega arith)))

pub control_same : (us ws : List ℕ) → ((j : ℕ) → 8320 ≤ j → j < 10368 → get_or us j 0 ≡ get_or ws j 0) → control_buses us ≡ control_buses ws
unfolding control_buses
control_same us ws h = table_same (control_bus us) (control_bus ws) 1024 (λ n low. control_bus_same us ws n (λ j p q. h j (omega arith) (omega arith)))

pub buses_same : (us ws : List ℕ) → ((j : ℕ) → j < 10368 → get_or us j 0 ≡ get_or ws j 0) → buses_of us ≡ buses_of ws
buses_same us ws h = same_buses (audio_buses us) (audio_buses ws) (control_buses us) (control_buses ws) (audio_same us ws (λ j p. h j (omega arith))) (control_same us ws (λ j p q. h j q))

-- if all other words of the audio buses stay, one bus is changed
pub audio_set : (us ws : List ℕ) (n : ℕ) → n < 128 → ((j : ℕ) → j < 8320 → (65 * n ≤ j → j < 65 * n + 65 → ⊥) → get_or us j 0 ≡ get_or ws j 0) → audio_buses us ≡ set (audio_buses ws) n (audio_bus us n)
unfolding audio_buses
audio_set us ws n low h = table_set (audio_bus us) (audio_bus ws) 128 n (audio_bus ws n) low
    (λ m lt ne. audio_bus_same us ws m (λ j p q. h j (omega arith) (λ a b. omega (arith, ne))))

pub control_set : (us ws : List ℕ) (n : ℕ) → n < 1024 → ((j : ℕ) → 8320 ≤ j → j < 10368 → (8320 + 2 * n ≤ j → j < 8322 + 2 * n → ⊥) → get_or us j 0 ≡ get_or ws j 0) → control_buses us ≡ set (control_buses ws) n (control_bus us n)
unfolding control_buses
control_set us ws n low h = table_set (control_bus us) (control_bus ws) 1024 n (control_bus ws n) low
    (λ m lt ne. control_bus_same us ws m (λ j p q. h j (omega arith) (omega arith) (λ a b. omega (arith, ne))))
