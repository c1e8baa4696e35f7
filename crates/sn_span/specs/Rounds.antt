-- Rounds one after another, and a span of blocks that stands for them.
use Rattle.std.specs.Prelude.{◌≡◌, ◌⊎◌, ℕ, zero, suc, ◌+◌, ◌*◌, ◌<◌, ◌≤◌, true, false, List, length, slice_index}
use Rattle.sn_ports.specs.Limits.{block_samples, block_frames}
use Rattle.sn_mem.specs.declared.extents.Extent.{Extent}
use Rattle.sn_mem.specs.declared.extents.Foot.{Foot}
use Rattle.sn_mem.specs.Words.{writes, touches}
use Rattle.sn_mem.specs.Blocks.{sample_in}
use Rattle.sn_mem.specs.Buses.{heard}
use Rattle.sn_round.specs.declared.jobs.Job.{Job}
use Rattle.sn_round.specs.Jobs.{foot_at}
use Rattle.sn_round.specs.Scripts.{list_at, sequential}
use Rattle.sn_span.specs.Unrolling.{AreApart, by_block}
use Rattle.sn_span.specs.Captures.{AreOutputs, bus_at, captured, output_at}

-- what n jobs make of some words, one after the other
abbrev pub last_of : (ℕ → List ℕ → List ℕ) → ℕ → List ℕ → List ℕ
last_of outcome n words = list_at (sequential outcome n words) n

-- the words after k rounds of n jobs, if job i of round k makes f k i of the words
unfoldable pub rounds : (ℕ → ℕ → List ℕ → List ℕ) → ℕ → ℕ → List ℕ → List ℕ
rounds f n zero words = words
rounds f n (suc k) words = last_of (f k) n (rounds f n k words)

-- the word x is in none of the copies of the first k blocks
abbrev pub IsOutside : ℕ → ℕ → ℕ → Type 0
IsOutside at k x = (x < at) ⊎ (at + block_samples * k ≤ x)

-- What a job makes of the words: it keeps their number and what its foot may not write, and what it writes depends on
-- what the foot may touch alone.
pub record KeepsToFoot (foot : Foot) (change : List ℕ → List ℕ) : Type 0 where
  pub long : (ws : List ℕ) → length (change ws) ≡ length ws
  pub keeps : (x : ℕ) (ws : List ℕ) → writes foot x ≡ false → slice_index (change ws) x ≡ slice_index ws x
  pub by_foot : (us ws : List ℕ) → length us ≡ length ws → ((x : ℕ) → touches foot x ≡ true → slice_index us x ≡ slice_index ws x) → (x : ℕ) → writes foot x ≡ true → slice_index (change us) x ≡ slice_index (change ws) x

-- so do the jobs of some blocks, if job i of block k makes f k i of the words
abbrev pub KeepToFeet : List Job → ℕ → (ℕ → ℕ → List ℕ → List ℕ) → Type 0
KeepToFeet jobs blocks f = (k i : ℕ) → k < blocks → i < length jobs → KeepsToFoot (foot_at jobs i) (f k i)

-- what each job of a span makes of the words: the jobs of its blocks as in the rounds, and the captures copy the sound.
-- The first block is block b.
abbrev pub in_span : List Extent → ℕ → ℕ → (ℕ → ℕ → List ℕ → List ℕ) → ℕ → ℕ → List ℕ → List ℕ
in_span outputs at b f n = by_block f (λ k. captured outputs (at + block_samples * k) (b + k)) n

-- There is a copy for the sound of each block, in a memory of so many words, and nothing else has a word of it.
pub record HasCopies (jobs : List Job) (outputs : List Extent) (copies : Extent) (blocks size : ℕ) : Type 0 where
  pub are_outputs : AreOutputs outputs
  pub room : block_samples * blocks ≤ copies.len
  pub inside : copies.at + block_samples * blocks ≤ size
  pub apart : AreApart jobs outputs copies

-- Words are those after the rounds of some blocks from block b on, except in the copies. The copy of each block holds
-- the samples that are heard of each output after its round.
pub record HoldSound (n : ℕ) (outputs : List Extent) (at blocks b : ℕ) (f : ℕ → ℕ → List ℕ → List ℕ) (base us : List ℕ) : Type 0 where
  pub long : length us ≡ length base
  pub outside : (x : ℕ) → IsOutside at blocks x → slice_index us x ≡ slice_index (rounds f n blocks base) x
  pub copied : (k c frame : ℕ) → k < blocks → c < length outputs → frame < block_frames → sample_in (slice_index us (at + block_samples * k + block_frames * c + frame)) ≡ heard (b + k) (bus_at (rounds f n (k + 1) base) (output_at outputs c)) frame

-- The jobs of a span keep to their feet, and the words after them, one after the other, are those after the rounds,
-- with the sound of each block.
pub record EndsAsRounds (jobs : List Job) (outputs : List Extent) (at blocks b : ℕ) (f : ℕ → ℕ → List ℕ → List ℕ) (base : List ℕ) (all : List Job) : Type 0 where
  pub feet : (j : ℕ) → j < length all → KeepsToFoot (foot_at all j) (in_span outputs at b f (length jobs) j)
  pub words : HoldSound (length jobs) outputs at blocks b f base (last_of (in_span outputs at b f (length jobs)) (length all) base)
