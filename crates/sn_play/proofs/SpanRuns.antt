-- A job of a span runs as a job of its block, or as the capture of it.
use Rattle.std.proofs.Common.{◌≡◌, ◌≢◌, inl, ⊎_elim, ℕ, zero, suc, ◌+◌, ◌*◌, ◌/◌, ◌%◌, ◌<◌, ◌≤◌, true, false, List, [], ◌∷◌, length, get_or, pos, sym, ap, subst, ◌∙◌, arith}
use Rattle.std.specs.List.{All}
use Rattle.std.specs.Ordering.{int_eq}
use Rattle.std.proofs.Math.Nat.{mod-lt}
use Rattle.std.proofs.lemmas.Bool.{cases_eq, cases_lt, or_left, or_right}
use Rattle.std.proofs.lemmas.Nat.{div-add-mod'}
use Rattle.sn_mem.specs.declared.extents.Extent.{Extent}
use Rattle.sn_mem.specs.declared.extents.Foot.{Foot}
use Rattle.sn_mem.specs.Words.{covers, has}
use Rattle.sn_mem.proofs.Meetings.{covered}
use Rattle.sn_round.specs.declared.jobs.Job.{Job}
use Rattle.sn_round.specs.Jobs.{AreJobs, foot_at}
use Rattle.sn_span.specs.Captures.{CanCapture, captured}
use Rattle.sn_span.specs.Unrolling.{capture_foot, copy_at, start, unrolled}
use Rattle.sn_span.proofs.Places.{at_capture, at_job, block_capture, block_job, length-unrolled, start_less, start_next}
use Rattle.sn_tree.specs.Trees.{ids, subtree}
use Rattle.sn_tree.specs.Steps.{AllDistinct}
use Rattle.sn_play.specs.declared.span.Span.{Span}
use Rattle.sn_play.specs.Blocks.{outcome_of}
use Rattle.sn_play.specs.Spans.{IsSpanReady, block_at, made_in, outcome_in}
use Rattle.sn_play.proofs.Spanned.{are_outputs, buses_short, kept}

-- ---- numbers

pub place_is : (n j : ℕ) → j ≡ start n (j / (n + 1)) + j % (n + 1)
place_is n j = sym (div-add-mod' j (n + 1))

pub number_is : (n j : ℕ) → j % (n + 1) ≤ n
number_is n j = let low : j % (n + 1) < n + 1 = mod-lt j (omega arith) in omega (arith, low)

-- if there is a job, a block has no more than all
jobs_few : (n blocks j : ℕ) → j < start n blocks → n + 1 ≤ start n blocks
jobs_few n zero j l = absurd (omega (arith, l))
jobs_few n (suc b) j l = omega (arith, start_next n b)

block_low : (n blocks k i : ℕ) → start n k + i < start n blocks → k < blocks
block_low n blocks k i l = ⊎_elim
    (λ (m : k < blocks). m)
    (λ (g : blocks ≤ k). ⊎_elim
    (λ (e : blocks ≡ k). let same : start n blocks ≡ start n k = ap (start n) e in absurd (omega (arith, l, same)))
    (λ (d : blocks ≢ k). let past : start n blocks + n < start n k = start_less n blocks k (omega (arith, g, d)) in absurd (omega (arith, l, past)))
    (cases_eq blocks k))
    (cases_lt k blocks)

-- ---- extents

has_at : (es : List Extent) (k x : ℕ) (d : Extent) → k < length es → covers (get_or es k d) x ≡ true → has es x ≡ true
has_at [] k x d l c = absurd (omega (arith, l))
has_at (e ∷ es) zero x d l c = or_left (covers e x) (has es x) c
has_at (e ∷ es) (suc k) x d l c = or_right (covers e x) (has es x) (has_at es k x d (omega (arith, l)) c)

-- ---- the jobs of a span

module _ (w : Span) (ready : IsSpanReady w) where
  abbrev js : List Job
  js = w.first.plan.now

  abbrev n : ℕ
  n = length js

  abbrev outputs : List Extent
  outputs = w.outputs.now

  abbrev all : List Job
  all = unrolled js outputs w.copies w.blocks

  many : length w.all.now ≡ start n w.blocks
  many = ap length ready.all_are ∙ length-unrolled js outputs w.copies w.blocks

  pub few_jobs : (j : ℕ) → AreJobs w.all.now → j < length w.all.now → n + 1 < 4294967296
  few_jobs j are l = omega (arith, are.few, many, jobs_few n w.blocks j (omega (arith, l, many)))

  pub in_block : (j k i : ℕ) → j < length w.all.now → j ≡ start n k + i → k < w.blocks
  in_block j k i l e = block_low n w.blocks k i (omega (arith, l, many, e))

  short : All (λ e. e.at + e.len ≤ 520) outputs
  short = subst (λ (es : List Extent). All (λ e. e.at + e.len ≤ 520) es) (sym ready.outputs_are) (buses_short ready.channels ready.few)

  module _ (top : subtree (pos 0) w.first.stage.now.tree.attached ≡ w.first.stage.now.tree.attached) (distinct : AllDistinct int_eq (ids w.first.stage.now.tree.attached)) where
    can_capture : (k : ℕ) → k < w.blocks → CanCapture (capture_foot outputs w.copies k) outputs (w.copies + 512 * k)
    can_capture k l =
        let are = are_outputs w top distinct ready in record {
          buses = are.buses;
          reads = λ i d m. record {
            below = let low : (get_or outputs i d).at + (get_or outputs i d).len ≤ 520 = short i d m in let long : (get_or outputs i d).len ≡ 65 = are.buses i d m in omega (arith, low, long);
            each = λ x low. or_right (has (copy_at w.copies k ∷ []) ((get_or outputs i d).at + x)) (has outputs ((get_or outputs i d).at + x))
                (has_at outputs i ((get_or outputs i d).at + x) d m (let long : (get_or outputs i d).len ≡ 65 = are.buses i d m in covered (get_or outputs i d) ((get_or outputs i d).at + x) (omega arith) (omega (arith, low, long))));
          };
          writes = record {
            below = omega (arith, ready.before, ready.bounded, are.few, l);
            each = λ i low. or_left (covers (copy_at w.copies k) (w.copies + 512 * k + i)) false (covered (copy_at w.copies k) (w.copies + 512 * k + i) (omega arith) (omega (arith, low, are.few)));
          };
          beside = λ i d m. inl (let low : (get_or outputs i d).at + (get_or outputs i d).len ≤ 520 = short i d m in omega (arith, low, ready.behind));
        }

    pub capture_can : (j k : ℕ) (foot : Foot) → j < length w.all.now → j ≡ start n k + n → foot ≡ foot_at w.all.now j → CanCapture foot outputs (w.copies + 512 * k)
    capture_can j k foot l e is =
        let m : k < w.blocks = in_block j k n l e in
        let place : foot_at w.all.now j ≡ capture_foot outputs w.copies k =
        ap (λ (js : List Job). foot_at js j) ready.all_are ∙ (ap (foot_at all) e ∙ ap (λ (x : Job). x.foot) (at_capture js outputs w.copies w.blocks k m)) in
        subst (λ (f : Foot). CanCapture f outputs (w.copies + 512 * k)) (sym (is ∙ place)) (can_capture k m)

    pub capture_makes : (j k : ℕ) (ws : List ℕ) → j < length w.all.now → j ≡ start n k + n → captured outputs (w.copies + 512 * k) (w.first.block + k) ws ≡ outcome_in w j ws
    capture_makes j k ws l e =
        sym (kept w top distinct ready j ws (subst (λ (js : List Job). j < length js) ready.all_are l)
        ∙ (ap (λ m. made_in w m ws) e
        ∙ ap (λ (h : List ℕ → List ℕ). h ws) (block_capture (λ k. outcome_of (block_at w.first k)) (λ k. captured outputs (w.copies + 512 * k) (w.first.block + k)) n k)))

    pub job_foot : (j k i : ℕ) (foot : Foot) → j < length w.all.now → j ≡ start n k + i → i < n → foot ≡ foot_at w.all.now j → foot ≡ foot_at js i
    job_foot j k i foot l e m is =
        is ∙ (ap (λ (js : List Job). foot_at js j) ready.all_are ∙ (ap (foot_at all) e ∙ ap (λ (x : Job). x.foot) (at_job js outputs w.copies w.blocks k i (in_block j k i l e) m)))

    pub job_makes : (j k i : ℕ) (ws : List ℕ) → j < length w.all.now → j ≡ start n k + i → i < n → outcome_of (block_at w.first k) i ws ≡ outcome_in w j ws
    job_makes j k i ws l e m =
        sym (kept w top distinct ready j ws (subst (λ (js : List Job). j < length js) ready.all_are l)
        ∙ (ap (λ m. made_in w m ws) e
        ∙ ap (λ (h : List ℕ → List ℕ). h ws) (block_job (λ k. outcome_of (block_at w.first k)) (λ k. captured outputs (w.copies + 512 * k) (w.first.block + k)) n k i m)))
