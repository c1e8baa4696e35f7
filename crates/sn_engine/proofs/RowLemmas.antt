-- Rows of blocks in one round, and in a round each.
use Rattle.std.proofs.Common.{◌≡◌, ◌⊎◌, inl, inr, ⊎_elim, ℕ, zero, suc, ◌+◌, ◌-◌, ◌^◌, ◌<◌, ◌≤◌, Bool, List, [], ◌∷◌, ◌++◌, length, refl, ap, sym, subst, ◌∙◌, arith}
use Rattle.std.specs.Prelude.{replicate}
use Rattle.std.proofs.lemmas.Bool.{cases_lt}
use Rattle.sn_mem.specs.declared.extents.Extent.{Extent}
use Rattle.sn_round.specs.declared.jobs.Job.{Job}
use Rattle.sn_machine.specs.declared.views.Rested.{Rested}
use Rattle.sn_span.specs.Unrolling.{unrolled}
use Rattle.sn_quiet.specs.Quiet.{are_quiet}
use Rattle.sn_quiet.specs.Walks.{walks}
use Rattle.sn_world.specs.declared.stage.Stage.{Stage}
use Rattle.sn_world.specs.Pictures.{Pictures}
use Rattle.sn_world.specs.World.{World}
use Rattle.sn_graph.specs.Plans.{IsPlanned}
use Rattle.sn_play.specs.declared.span.Span.{Span}
use Rattle.sn_play.specs.Spans.{ArePlayed}
use Rattle.sn_engine.specs.Outputs.{sounds}
use Rattle.sn_engine.specs.Planning.{CopiesLie, HasLanes, IsPlanOf, IsRowReady, IsSpanOf, first_lane, laned_nodes, lanes_for}
use Rattle.sn_engine.specs.Playing.{Past, Playing}
use Rattle.sn_engine.specs.Running.{Running, with_block}
use Rattle.sn_engine.specs.Spans.{AreRounds, HasRounds, IsQuiet, IsSpan, with_blocks}
use Rattle.sn_engine.specs.declared.standing.Standing.TheVariants.{Rendered}
use Rattle.sn_engine.proofs.LaneLemmas.{lanes_few}
use Rattle.sn_engine.proofs.SpanLaws.{blocks_are, rendered}

-- a span of the plan of a stage that stands for a world is ready, with the lanes after the copies
pub span_ready : (w : Span) (channels : ℕ) (stage : Stage) (jobs : List Job) (words : List ℕ) → w.first.stage.now ≡ stage → w.first.plan.now ≡ jobs → Pictures stage words → IsPlanOf stage jobs → CopiesLie channels stage words w.outputs.now w.copies → HasLanes stage words
    → w.all.now ≡ unrolled jobs w.outputs.now w.copies w.blocks → w.blocks ≤ 32 → w.first.block + w.blocks < 2 ^ 63 → IsRowReady w
span_ready w channels stage jobs words same plan pictures planned copies lanes all few early =
    let len : w.first.stage.now.pool.region.len ≡ stage.pool.region.len = ap (λ (s : Stage). s.pool.region.len) same in record {
      ready = record {
        channels = channels;
        few = copies.few;
        outputs_are = copies.outputs_are;
        words = words;
        pictures = subst (λ (s : Stage). Pictures s words) (sym same) pictures;
        first = first_lane w.first.stage.now;
        most = lanes_for planned.laned;
        room = omega (arith, lanes.fits, len, lanes_few planned.laned);
        most_few = lanes_few planned.laned;
        bounded = omega (arith, lanes.bounded, len);
        planned = subst (λ (s : Stage). IsPlanned (laned_nodes planned.laned s) w.first.plan.now) (sym same) (subst (λ (js : List Job). IsPlanned (laned_nodes planned.laned stage) js) (sym plan) planned.planned);
        early = early;
        all_are = all ∙ ap (λ (js : List Job). unrolled js w.outputs.now w.copies w.blocks) (sym plan);
        behind = omega (arith, copies.at, len);
        before = omega (arith, copies.at, few, len);
      };
      first = refl;
    }

pub played_from : (stage other : Stage) (b first n copies channels : ℕ) (words us : List ℕ) → other ≡ stage → b ≡ first → ArePlayed other b n copies channels words us → ArePlayed stage first n copies channels words us
played_from stage other b first n copies channels words us same at played =
    subst (λ (s : Stage). ArePlayed s first n copies channels words us) same (subst (λ k. ArePlayed other k n copies channels words us) at played)

-- the copies still have room if the memory is as wide and the pool is where it was
pub still_copied : (channels : ℕ) (old new : Stage) (ws us : List ℕ) (outputs : List Extent) (copies : ℕ) → new.pool.region ≡ old.pool.region → length us ≡ length ws → CopiesLie channels old ws outputs copies → CopiesLie channels new us outputs copies
still_copied channels old new ws us outputs copies same long h = record {
  few = h.few;
  outputs_are = h.outputs_are;
  at = omega (arith, h.at, ap (λ (e : Extent). e.len) same);
  fits = omega (arith, h.fits, long);
  bounded = h.bounded;
}

-- ---- rounds

-- the jobs and the number of workers are what they were
pub rounds_rested : (p first : Past) (outputs : List Extent) (at n : ℕ) (rounds : List Rested) (stores crew : ℕ) → p ≡ first → AreRounds outputs at n p.jobs p.crew p.rounds rounds → stores ≡ p.stores → crew ≡ p.crew
    → HasRounds n first (record { jobs = p.jobs; rounds = rounds; stores = stores; crew = crew })
rounds_rested p first outputs at n rounds stores crew is are same_stores same_crew = (
  (outputs, at, subst (λ (q : Past). AreRounds outputs at n q.jobs q.crew q.rounds rounds) is are),
  (λ i. record { jobs = p.jobs; rounds = rounds; stores = same_stores i; crew = same_crew i }) ∙ ap (λ (q : Past). record q { rounds = rounds }) is,
)

-- ---- n blocks

pub row_played : (r first : Running) (n block : ℕ) (w : World) (sound : List ℕ) → r ≡ first → block ≡ r.block + n → 1 ≤ n → w ≡ walks r.block n r.world → sound ≡ r.sound ++ sounds r.settings r.block n r.world
    → record r { world = w; block = block; standing = Rendered; sound = sound } ≡ with_blocks n first
row_played r first n block w sound is at some walked put =
    let m : ℕ = n - 1 in
    let e : suc m ≡ n = omega (arith, some) in
    let all : rendered r (walks r.block n r.world) n (sounds r.settings r.block n r.world) ≡ with_blocks n r = subst (λ k. rendered r (walks r.block k r.world) k (sounds r.settings r.block k r.world) ≡ with_blocks k r) e (sym (blocks_are r m)) in
    (λ i. record r { world = walked i; block = at i; standing = Rendered; sound = put i }) ∙ (all ∙ ap (with_blocks n) is)

pub one_block : (r : Running) → with_blocks 1 r ≡ with_block r
unfolding with_blocks
one_block r = refl

pub row_block : (n : ℕ) (r : Running) → (with_blocks n r).block ≡ r.block + n
unfolding with_blocks
row_block zero r = omega arith
row_block (suc n) r = omega (arith, row_block n r)

pub row_standing : (n : ℕ) (r : Running) → 1 ≤ n → (with_blocks n r).standing ≡ Rendered
unfolding with_blocks
row_standing zero r some = absurd (omega (arith, some))
row_standing (suc n) r some = refl

-- ---- what may come in a row

pub one_is_quiet : (p : Playing) → IsQuiet p 1
one_is_quiet p = inl refl

-- it is 1 to 32
pub at_least_one : (p : Playing) (n : ℕ) → IsQuiet p n → 1 ≤ n
at_least_one p n quiet = ⊎_elim (λ (e : n ≡ 1). omega (arith, e)) (λ (q : (2 ≤ n) × IsSpan p.past.jobs p.running n). omega (arith, q.0)) quiet

pub at_most_many : (p : Playing) (n : ℕ) → IsQuiet p n → n ≤ 32
at_most_many p n quiet = ⊎_elim (λ (e : n ≡ 1). omega (arith, e)) (λ (q : (2 ≤ n) × IsSpan p.past.jobs p.running n). q.1.few) quiet

-- a number that the plan tells is one that the engine tells
pub is_quiet_row : (p q : Playing) (quiet : Bool) (n : ℕ) → p ≡ q → quiet ≡ are_quiet p.running.world.nodes → 1 ≤ n → (2 ≤ n → IsSpanOf p.past.jobs quiet p.running.waiting p.running.block n) → IsQuiet q n
is_quiet_row p q quiet n same is some span = ⊎_elim
    (λ (low : n < 2). inl (omega (arith, low, some)))
    (λ (two : 2 ≤ n). inr (
      two,
      subst (λ (r : Playing). IsSpanOf r.past.jobs (are_quiet r.running.world.nodes) r.running.waiting r.running.block n) same
          (subst (λ b. IsSpanOf p.past.jobs b p.running.waiting p.running.block n) is (span two)),
    ))
    (cases_lt n 2)

-- and the other way round
pub is_most : (p q : Playing) (quiet : Bool) (n result : ℕ) → p ≡ q → quiet ≡ are_quiet p.running.world.nodes → 1 ≤ result → IsQuiet q n → (2 ≤ n → IsSpanOf p.past.jobs quiet p.running.waiting p.running.block n → n ≤ result) → n ≤ result
is_most p q quiet n result same is some row most = ⊎_elim
    (λ (one : n ≡ 1). omega (arith, one, some))
    (λ (r : (2 ≤ n) × IsSpanOf q.past.jobs (are_quiet q.running.world.nodes) q.running.waiting q.running.block n).
    most r.0
    (subst (λ b. IsSpanOf p.past.jobs b p.running.waiting p.running.block n) (sym is)
    (subst (λ (s : Playing). IsSpanOf s.past.jobs (are_quiet s.running.world.nodes) s.running.waiting s.running.block n) (sym same) r.1)))
    row
