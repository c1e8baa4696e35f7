-- Blocks in a row, without boundaries and settlings between them.
use Rattle.std.specs.Prelude.{◌≡◌, ◌==◌, ◌⊎◌, ◌≤◌, ℕ, zero, suc, if◌then◌else◌, List, ◌++◌, map, sum}
use Rattle.std.specs.List.{All}
use Rattle.sn_mem.specs.declared.extents.Extent.{Extent}
use Rattle.sn_round.specs.declared.jobs.Job.{Job}
use Rattle.sn_machine.specs.declared.views.Rested.{Rested}
use Rattle.sn_span.specs.Unrolling.{unrolled}
use Rattle.sn_quiet.specs.Quiet.{are_quiet}
use Rattle.sn_engine.specs.Planning.{IsSpanOf}
use Rattle.sn_engine.specs.Playing.{Past, Playing}
use Rattle.sn_engine.specs.Running.{Running, at_boundary, with_block, with_settled}

-- n blocks
unfoldable pub with_blocks : ℕ → Running → Running
with_blocks zero r = r
with_blocks (suc n) r = with_block (with_blocks n r)

-- n blocks, each after its boundary, and settled
unfoldable pub in_turn : ℕ → Running → Running
in_turn zero r = r
in_turn (suc n) r = with_settled (with_block (at_boundary (in_turn n r)))

-- After a boundary n blocks may come in a row (`IsSpanOf`).
abbrev pub IsSpan : List Job → Running → ℕ → Type 0
IsSpan jobs r n = IsSpanOf jobs (are_quiet r.world.nodes) r.waiting r.block n

-- so many blocks may be rendered before the next boundary: one, or a span
abbrev pub IsQuiet : Playing → ℕ → Type 0
IsQuiet p n = (n ≡ 1) ⊎ ((2 ≤ n) × IsSpan p.past.jobs p.running n)

-- the jobs of a round of so many blocks: those of the plan, or, if the blocks are more than one, those of the plan in
-- so many
abbrev pub jobs_in : List Job → List Extent → ℕ → ℕ → List Job
jobs_in jobs outputs at blocks = if blocks == 1 then jobs else unrolled jobs outputs at blocks

-- The rounds of n blocks were rested, with all workers: each is of one block or more, and together they are of n.
pub record AreRounds (outputs : List Extent) (at n : ℕ) (jobs : List Job) (crew : ℕ) (old new : List Rested) : Type 0 where
  pub lengths : List ℕ
  pub some : All (λ blocks. 1 ≤ blocks) lengths
  pub sum_is : sum lengths ≡ n
  pub rounds_are : new ≡ old ++ map (λ blocks. record { jobs = jobs_in jobs outputs at blocks; crew = crew }) lengths

-- they were, and no word was stored to while none ran
abbrev pub HasRounds : ℕ → Past → Past → Type 0
HasRounds n old new = ((outputs : List Extent) × (at : ℕ) × AreRounds outputs at n old.jobs old.crew old.rounds new.rounds) × (new ≡ record old { rounds = new.rounds })
