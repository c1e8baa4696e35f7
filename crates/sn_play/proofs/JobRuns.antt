-- The jobs of a block that is ready.
use Rattle.std.proofs.Common.{◌≡◌, ◌≤◌, ◌<◌, ◌⊎◌, inl, inr, ⊎_elim, ℕ, zero, suc, ◌+◌, ◌*◌, true, false, List, ℤ, pos, length, get_or, refl, ap, sym, subst, ◌∙◌, arith, All}
use Rattle.std.specs.Ordering.{int_eq}
use Rattle.std.proofs.lemmas.Bool.{cases_lt, false_from_ne_true}
use Rattle.sn_mem.specs.declared.extents.Foot.{Foot}
use Rattle.sn_mem.specs.declared.moves.Moved.{Moved}
use Rattle.sn_mem.specs.Words.{touches, writes}
use Rattle.sn_mem.proofs.Masks.{touched}
use Rattle.sn_io.specs.ByFoot.{IsByFoot}
use Rattle.sn_io.specs.Joints.{MayAdd, with_lanes}
use Rattle.sn_round.specs.declared.jobs.Job.{Job}
use Rattle.sn_round.specs.Jobs.{AreWithin, foot_at, job_at, lanes_at}
use Rattle.sn_round.specs.Scripts.{list_at, sequential}
use Rattle.sn_span.proofs.Rounding.{after_jobs, list_is}
use Rattle.sn_tree.specs.Trees.{ids, subtree}
use Rattle.sn_tree.specs.Steps.{AllDistinct}
use Rattle.sn_world.specs.Pictures.{Pictures}
use Rattle.sn_world.specs.Walk.{walk}
use Rattle.sn_world.specs.World.{world_of}
use Rattle.sn_world.specs.declared.stage.Stage.{Stage}
use Rattle.sn_graph.specs.Plans.{runs_of}
use Rattle.sn_play.specs.declared.block.BlockJobs.{BlockJobs}
use Rattle.sn_play.specs.Blocks.{AreResting, IsReady, outcome_by_foot, outcome_of}
use Rattle.sn_play.specs.Steps.{CanMoveAll, lane_steps}
use Rattle.sn_play.proofs.LanedRuns as laned

module _ (w : BlockJobs) (top : subtree (pos 0) w.stage.now.tree.attached ≡ w.stage.now.tree.attached) (distinct : AllDistinct int_eq (ids w.stage.now.tree.attached)) (r : IsReady w) where
  abbrev stage : Stage
  stage = w.stage.now

  abbrev js : List Job
  js = w.plan.now

  bounded : r.first + 65 * r.most < 4294967296
  bounded = omega (arith, r.few, r.bounded)

  -- ---- what a job asks, and what it makes

  pub can : (i size : ℕ) (f : Foot) (nodes : List ℤ) (moves : List (List Moved)) → i < length js → f ≡ foot_at js i → nodes ≡ (job_at js i).synths → moves ≡ (job_at js i).moves → ((x : ℕ) → touches f x ≡ true → x < size) → CanMoveAll stage w.block nodes moves f size
  can i size f nodes moves lt is those with_those wide =
      subst (λ (g : Foot). CanMoveAll stage w.block nodes moves g size) (sym is)
      (subst (λ (ns : List ℤ). CanMoveAll stage w.block ns moves (foot_at js i) size) (sym those)
      (subst (λ (ms : List (List Moved)). CanMoveAll stage w.block (job_at js i).synths ms (foot_at js i) size) (sym with_those)
      (laned.job_can stage top distinct r.words r.pictures r.first r.most r.lies r.room bounded r.bounded r.few js r.planned w.block i size lt (λ x t. wide x (ap (λ (g : Foot). touches g x) is ∙ t)))))

  pub by_foot : (i : ℕ) (f : Foot) (nodes : List ℤ) (moves : List (List Moved)) → i < length js → f ≡ foot_at js i → nodes ≡ (job_at js i).synths → moves ≡ (job_at js i).moves → IsByFoot f (lane_steps stage w.block (runs_of nodes moves))
  by_foot i f nodes moves lt is those with_those =
      subst (λ (g : Foot). IsByFoot g (lane_steps stage w.block (runs_of nodes moves))) (sym is)
      (subst (λ (ns : List ℤ). IsByFoot (foot_at js i) (lane_steps stage w.block (runs_of ns moves))) (sym those)
      (subst (λ (ms : List (List Moved)). IsByFoot (foot_at js i) (lane_steps stage w.block (runs_of (job_at js i).synths ms))) (sym with_those)
      (laned.synths_by_foot stage top distinct r.words r.pictures r.first r.most r.lies r.room bounded r.bounded r.few js r.planned w.block i lt)))

  pub adds : (i : ℕ) (f : Foot) (lanes : List Moved) → i < length js → f ≡ foot_at js i → lanes ≡ lanes_at js i → All (MayAdd f) lanes
  adds i f lanes lt is those =
      subst (λ (g : Foot). All (MayAdd g) lanes) (sym is)
      (subst (λ (ms : List Moved). All (MayAdd (foot_at js i)) ms) (sym those) (laned.job_adds stage top distinct r.words r.pictures r.first r.most r.lies r.room bounded r.bounded r.few js r.planned i lt))

  pub makes : (i : ℕ) (ws : List ℕ) → i < length js → with_lanes w.block (lanes_at js i) (lane_steps stage w.block (runs_of (job_at js i).synths (job_at js i).moves) ws) ≡ outcome_of w i ws
  makes i ws lt = laned.job_makes stage top distinct r.words r.pictures r.first r.most r.lies r.room bounded r.bounded r.few js r.planned w.block i ws lt

  pub touched_where : (i x : ℕ) → i < length js → touches (foot_at js i) x ≡ true → (x < 10368 + stage.pool.region.len) ⊎ ((r.first ≤ x) × (x < r.first + 65 * r.most))
  touched_where = laned.touched_where stage top distinct r.words r.pictures r.first r.most r.lies r.room bounded r.bounded r.few js r.planned

  -- no job writes a word after the lanes
  not_written : (i x : ℕ) → i < length js → r.first + 65 * r.most ≤ x → writes (foot_at js i) x ≡ false
  not_written i x lt past = false_from_ne_true (writes (foot_at js i) x) (λ t. ⊎_elim
      (λ (l : x < 10368 + stage.pool.region.len). omega (arith, l, past, r.lies))
      (λ (l : (r.first ≤ x) × (x < r.first + 65 * r.most)). omega (arith, l.1, past))
      (touched_where i x lt (touched (foot_at js i) x t)))

  -- so it stays
  stays : (words : List ℕ) (i x : ℕ) → i ≤ length js → r.first + 65 * r.most ≤ x → get_or (after_jobs (outcome_of w) i words) x 0 ≡ get_or words x 0
  unfolding after_jobs
  stays words zero x l past = refl
  stays words (suc i) x l past =
      (outcome_by_foot w i).keeps (after_jobs (outcome_of w) i words) x (not_written i x (omega (arith, l)) past)
      ∙ stays words i x (omega (arith, l)) past

  -- ---- in words that have room for the lanes

  module _ (words : List ℕ) (p : Pictures stage words) (room : r.first + 65 * r.most ≤ length words) where
    pub within : AreWithin (length words) js
    within = laned.feet_within stage top distinct words p r.first r.most r.lies room bounded r.bounded r.few js r.planned

    abbrev pub after : List ℕ
    after = list_at (sequential (outcome_of w) (length js) words) (length js)

    module _ (resting : AreResting r.first r.most w.block words) where
      pub block_walks : world_of stage after ≡ walk w.block (world_of stage words)
      block_walks = laned.block_walks stage top distinct words p r.first r.most r.lies room bounded r.bounded r.few js r.planned w.block resting

    module _ (all : ℕ) (more : r.most ≤ all) (resting : AreResting r.first all w.block words) where
      rests_inside : (k : ℕ) → k < r.most → get_or after (r.first + 65 * k) 0 ≤ w.block + 1
      rests_inside = laned.block_rests stage top distinct words p r.first r.most r.lies room bounded r.bounded r.few js r.planned w.block (λ k lt. resting k (omega (arith, lt, more)))

      rests_behind : (k : ℕ) → k < all → r.most ≤ k → get_or after (r.first + 65 * k) 0 ≤ w.block + 1
      rests_behind k lt past =
          let x : ℕ = r.first + 65 * k in
          let same : get_or after x 0 ≡ get_or words x 0 =
          ap (λ (vs : List ℕ). get_or vs x 0) (list_is (outcome_of w) (length js) (length js) words (omega arith))
          ∙ stays words (length js) x (omega arith) (omega (arith, past)) in
          omega (arith, same, resting k lt)

      pub block_rests : AreResting r.first all (w.block + 1) after
      block_rests k lt = ⊎_elim
          (λ (l : k < r.most). rests_inside k l)
          (λ (m : r.most ≤ k). rests_behind k lt m)
          (cases_lt k r.most)
