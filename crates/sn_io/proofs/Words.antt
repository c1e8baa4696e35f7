-- The words of a buffer.
use Rattle.std.proofs.Common.{◌≤◌, ◌<◌, ℕ, suc, ◌+◌, ◌*◌, arith}
use Rattle.std.proofs.Math.Nat.{mul-le-mul_right, suc-mul}

-- the samples of the frames up to a frame are not more than all
pub frames_below : (i frames channels : ℕ) → i < frames → i * channels + channels ≤ frames * channels
frames_below i frames channels lt = let le : suc i * channels ≤ frames * channels = mul-le-mul_right channels (omega (arith, lt)) in omega (arith, le, suc-mul i channels)

-- a sample of a frame is one of all
pub within : (i frames channels c : ℕ) → i < frames → c < channels → i * channels + c < frames * channels
within i frames channels c lt few = omega (arith, frames_below i frames channels lt)
