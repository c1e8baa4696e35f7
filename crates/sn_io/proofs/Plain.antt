-- If all words of the buses may be written, a unit reaches its buses.
use Rattle.std.proofs.Common.{◌≡◌, ◌<◌, ℕ, ◌+◌, ◌*◌, Option, Some, None, refl, arith}
use Rattle.std.proofs.lemmas.Bool.{or_left}
use Rattle.sn_mem.specs.declared.extents.Foot.{Foot}
use Rattle.sn_mem.specs.Words.{has, MayWrite, MayRead}
use Rattle.sn_mem.proofs.Feet.{part_at}
use Rattle.sn_io.specs.Conditions.{MayReadAudio, MayReadControl, MayWriteAudio, MayWriteControl}

may_read : (f : Foot) (at n : ℕ) → MayWrite f at n → MayRead f at n
may_read f at n may = record { below = may.below; each = λ i lt. or_left (has f.writes (at + i)) (has f.reads (at + i)) (may.each i lt) }

pub writes_audio_bus : (f : Foot) (o : Option ℕ) → MayWrite f 0 10368 → ((k : ℕ) → o ≡ Some k → k < 128) → MayWriteAudio f o
writes_audio_bus f None may is = tt
writes_audio_bus f (Some k) may is = let l : k < 128 = is k refl in part_at f f 0 10368 (65 * k) 65 may refl (omega arith) (omega arith)

pub writes_control_bus : (f : Foot) (o : Option ℕ) → MayWrite f 0 10368 → ((k : ℕ) → o ≡ Some k → k < 1024) → MayWriteControl f o
writes_control_bus f None may is = tt
writes_control_bus f (Some k) may is = let l : k < 1024 = is k refl in part_at f f 0 10368 (8320 + 2 * k) 2 may refl (omega arith) (omega arith)

pub reads_audio_bus : (f : Foot) (o : Option ℕ) → MayWrite f 0 10368 → ((k : ℕ) → o ≡ Some k → k < 128) → MayReadAudio f o
reads_audio_bus f None may is = tt
reads_audio_bus f (Some k) may is = let l : k < 128 = is k refl in may_read f (65 * k) 65 (part_at f f 0 10368 (65 * k) 65 may refl (omega arith) (omega arith))

pub reads_control_bus : (f : Foot) (o : Option ℕ) → MayWrite f 0 10368 → ((k : ℕ) → o ≡ Some k → k < 1024) → MayReadControl f o
reads_control_bus f None may is = tt
reads_control_bus f (Some k) may is = let l : k < 1024 = is k refl in may_read f (8320 + 2 * k) 2 (part_at f f 0 10368 (8320 + 2 * k) 2 may refl (omega arith) (omega arith))
