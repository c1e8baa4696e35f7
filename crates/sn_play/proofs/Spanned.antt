-- The jobs of a span make of the words what the walks of its blocks make of them, and copy the sound of each.
use Rattle.std.proofs.Common.{◌≡◌, ⊎_elim, true≢false, inl, inr, ◌⊎◌, ℕ, zero, suc, ◌+◌, ◌*◌, ◌<◌, ◌≤◌, Bool, true, false, List, [], ◌∷◌, length, get_or, pos, refl, sym, ap, subst, ◌∙◌, arith}
use Rattle.std.specs.Prelude.{nat_le, nat_lt}
use Rattle.std.specs.List.{All}
use Rattle.std.specs.Ordering.{int_eq}
use Rattle.std.proofs.lemmas.Bool.{and_parts, cases_Bool, false_from_ne_true, leb-true, ltb-true, or_cases}
use Rattle.sn_mem.specs.declared.extents.Extent.{Extent}
use Rattle.sn_mem.specs.declared.extents.Foot.{Foot}
use Rattle.sn_mem.specs.Words.{covers, has, touches, writes}
use Rattle.sn_mem.specs.Blocks.{sample_in, table}
use Rattle.sn_mem.specs.Buses.{AudioBus, heard, silent}
use Rattle.sn_mem.specs.ThroughFoot.{kept_to}
use Rattle.sn_mem.specs.Layout.{audio_place}
use Rattle.sn_mem.proofs.BusLaws.{audio_at}
use Rattle.sn_mem.proofs.Masks.{touched}
use Rattle.sn_mem.proofs.Tables.{length-table}
use Rattle.sn_mem.proofs.Windows.{table_at}
use Rattle.sn_io.specs.ByFoot.{IsByFoot}
use Rattle.sn_io.proofs.ByFoot.{kept_same}
use Rattle.sn_round.specs.declared.jobs.Job.{Job}
use Rattle.sn_round.specs.Jobs.{AreWithin, foot_at}
use Rattle.sn_span.specs.Captures.{AreOutputs, bus_at, no_extent, output_at}
use Rattle.sn_span.specs.Rounds.{EndsAsRounds, HasCopies, KeepsToFoot, KeepToFeet, last_of, rounds}
use Rattle.sn_span.specs.Unrolling.{AreApart, unrolled}
use Rattle.sn_span.proofs.Rounding.{after_jobs, inside, list_is}
use Rattle.sn_span.proofs.Spanning.{ends_as_rounds, rounds_long}
use Rattle.sn_tree.specs.Trees.{ids, subtree}
use Rattle.sn_tree.specs.Steps.{AllDistinct}
use Rattle.sn_world.specs.Pictures.{Pictures}
use Rattle.sn_world.specs.Walk.{walk}
use Rattle.sn_world.specs.World.{World, world_of}
use Rattle.sn_world.specs.declared.stage.Stage.{Stage}
use Rattle.sn_world.proofs.Changes.{pictured_again}
use Rattle.sn_quiet.specs.Walks.{walks}
use Rattle.sn_play.specs.declared.span.Span.{Span}
use Rattle.sn_play.specs.Blocks.{AreResting, IsReady, outcome_of, outcome_by_foot}
use Rattle.sn_play.specs.Spans.{ArePlayed, IsSpanReady, block_at, made_in, outcome_in}
use Rattle.sn_play.proofs.JobRuns as jobwise
use Rattle.sn_play.proofs.Resting.{world_same}
use Rattle.sn_play.proofs.LanedRuns as laned

-- ---- feet

keeps_to_foot : (f : Foot) (change : List ℕ → List ℕ) → IsByFoot f change → KeepsToFoot f change
keeps_to_foot f change by = record {
  long = by.long;
  keeps = λ x ws off. by.keeps ws x off;
  by_foot = λ us ws long same x on. (by.agree us ws (record { long = long; same = same })).same x (touched f x on);
}

pub by_its_foot : (f : Foot) (change : List ℕ → List ℕ) → KeepsToFoot f change → IsByFoot f change
by_its_foot f change keep = record {
  long = keep.long;
  keeps = λ ws x off. keep.keeps x ws off;
  agree = λ us ws a. record {
    long = keep.long us ∙ (a.long ∙ sym (keep.long ws));
    same = λ x on. ⊎_elim
        (λ (t : writes f x ≡ true). keep.by_foot us ws a.long a.same x t)
        (λ (t : writes f x ≡ false). keep.keeps x us t ∙ (a.same x on ∙ sym (keep.keeps x ws t)))
        (cases_Bool (writes f x));
  };
}

-- jobs that make the same of the words one by one end with the same
after_same : (g h : ℕ → List ℕ → List ℕ) (n i : ℕ) (ws : List ℕ) → ((j : ℕ) (us : List ℕ) → j < n → g j us ≡ h j us) → i ≤ n → after_jobs g i ws ≡ after_jobs h i ws
unfolding after_jobs
after_same g h n zero ws same l = refl
after_same g h n (suc i) ws same l = same i (after_jobs g i ws) (omega (arith, l)) ∙ ap (h i) (after_same g h n i ws same (omega (arith, l)))

last_same : (g h : ℕ → List ℕ → List ℕ) (n : ℕ) (ws : List ℕ) → ((j : ℕ) (us : List ℕ) → j < n → g j us ≡ h j us) → last_of g n ws ≡ last_of h n ws
last_same g h n ws same = list_is g n n ws (omega arith) ∙ (after_same g h n n ws same (omega arith) ∙ sym (list_is h n n ws (omega arith)))

-- ---- the outputs

outputs_below : (es : List Extent) (x top : ℕ) → All (λ e. e.at + e.len ≤ top) es → has es x ≡ true → x < top
outputs_below [] x top low h = absurd (true≢false (sym h))
outputs_below (e ∷ es) x top low h = ⊎_elim
    (λ (c : covers e x ≡ true).
    let below : x < e.at + e.len = ltb-true x (e.at + e.len) (and_parts (nat_le e.at x) (nat_lt x (e.at + e.len)) c).1 in
    let end : e.at + e.len ≤ top = low 0 e (omega arith) in
    omega (arith, below, end))
    (λ (c : has es x ≡ true). outputs_below es x top (λ k d l. low (suc k) d (omega (arith, l))) c)
    (or_cases (covers e x) (has es x) h)

pub buses_short : (channels : ℕ) → channels ≤ 8 → All (λ e. e.at + e.len ≤ 520) (table audio_place channels)
buses_short channels few k d l =
    let low : k < channels = omega (arith, l, length-table audio_place channels) in
    subst (λ (e : Extent). e.at + e.len ≤ 520) (sym (table_at audio_place channels k d low)) (omega (arith, low, few))

buses_long : (channels : ℕ) → All (λ e. e.len ≡ 65) (table audio_place channels)
buses_long channels k d l = ap (λ (e : Extent). e.len) (table_at audio_place channels k d (omega (arith, l, length-table audio_place channels)))

refuted : (t : Bool) (x m : ℕ) → m ≤ x → (t ≡ true → x < m) → t ≡ false
refuted true x m past h = let low : x < m = h refl in absurd (omega (arith, past, low))
refuted false x m past h = refl

-- ---- the span

module _ (w : Span) (top : subtree (pos 0) w.first.stage.now.tree.attached ≡ w.first.stage.now.tree.attached) (distinct : AllDistinct int_eq (ids w.first.stage.now.tree.attached)) (ready : IsSpanReady w) where
  abbrev stage : Stage
  stage = w.first.stage.now

  abbrev js : List Job
  js = w.first.plan.now

  abbrev b : ℕ
  b = w.first.block

  abbrev outputs : List Extent
  outputs = w.outputs.now

  abbrev f : ℕ → ℕ → List ℕ → List ℕ
  f k = outcome_of (block_at w.first k)

  abbrev copies : Extent
  copies = record { at = w.copies; len = 512 * w.blocks }

  abbrev all : List Job
  all = unrolled js outputs w.copies w.blocks

  lies : 10368 + stage.pool.region.len ≤ ready.first
  lies = omega (arith, ready.behind, ready.before)

  bounded : ready.first + 65 * ready.most < 4294967296
  bounded = omega (arith, ready.most_few, ready.bounded)

  touched_where : (i x : ℕ) → i < length js → touches (foot_at js i) x ≡ true → (x < 10368 + stage.pool.region.len) ⊎ ((ready.first ≤ x) × (x < ready.first + 65 * ready.most))
  touched_where = laned.touched_where stage top distinct ready.words ready.pictures ready.first ready.most lies ready.room bounded ready.bounded ready.most_few js ready.planned

  -- each block is ready
  pub block_ready : (k : ℕ) → k < w.blocks → IsReady (block_at w.first k)
  block_ready k lt = record {
    words = ready.words;
    pictures = ready.pictures;
    first = ready.first;
    most = ready.most;
    lies = lies;
    room = ready.room;
    few = ready.most_few;
    bounded = ready.bounded;
    planned = ready.planned;
    early = omega (arith, ready.early, lt);
  }

  keep : KeepToFeet js w.blocks f
  keep k i l m = keeps_to_foot (foot_at js i) (f k i) (outcome_by_foot (block_at w.first k) i)

  pub are_outputs : AreOutputs outputs
  are_outputs = subst (λ (es : List Extent). AreOutputs es) (sym ready.outputs_are) (record { few = omega (arith, length-table audio_place ready.channels, ready.few); buses = buses_long ready.channels })

  copies_from : (x : ℕ) → covers copies x ≡ true → w.copies ≤ x
  copies_from x c = leb-true w.copies x (and_parts (nat_le w.copies x) (nat_lt x (w.copies + 512 * w.blocks)) c).0

  copies_to : (x : ℕ) → covers copies x ≡ true → x < w.copies + 512 * w.blocks
  copies_to x c = ltb-true x (w.copies + 512 * w.blocks) (and_parts (nat_le w.copies x) (nat_lt x (w.copies + 512 * w.blocks)) c).1

  apart : AreApart js outputs copies
  apart = record {
    of_outputs = λ x c. refuted (has outputs x) x 520 (omega (arith, copies_from x c, ready.behind))
        (λ h. outputs_below outputs x 520 (subst (λ (es : List Extent). All (λ e. e.at + e.len ≤ 520) es) (sym ready.outputs_are) (buses_short ready.channels ready.few)) h);
    of_jobs = λ j x l c. false_from_ne_true (touches (foot_at js j) x) (λ t. ⊎_elim
        (λ (m : x < 10368 + stage.pool.region.len). omega (arith, m, ready.behind, copies_from x c))
        (λ (m : (ready.first ≤ x) × (x < ready.first + 65 * ready.most)). omega (arith, m.0, ready.before, copies_to x c))
        (touched_where j x l t));
  }

  -- words that are just enough
  abbrev enough : List ℕ
  enough = table (λ x. 0) (w.copies + 512 * w.blocks)

  feet : (j : ℕ) → j < length all → KeepsToFoot (foot_at all j) (made_in w j)
  feet j l = (ends_as_rounds js outputs copies w.blocks b f enough (record { are_outputs = are_outputs; room = omega arith; inside = omega (arith, length-table {A = ℕ} (λ x. 0) (w.copies + 512 * w.blocks)); apart = apart }) keep).feet j l

  -- kept to its foot, each job makes what it makes
  pub kept : (j : ℕ) (vs : List ℕ) → j < length all → outcome_in w j vs ≡ made_in w j vs
  kept j vs l =
      ap (λ (js : List Job). kept_to (foot_at js j) (made_in w j) vs) ready.all_are
      ∙ kept_same (foot_at all j) (made_in w j) vs (by_its_foot (foot_at all j) (made_in w j) (feet j l))

  module _ (words : List ℕ) (p : Pictures stage words) (fits : ready.first + 65 * ready.most ≤ length words) where
    has_copies : HasCopies js outputs copies w.blocks (length words)
    has_copies = record { are_outputs = are_outputs; room = omega arith; inside = omega (arith, fits, ready.before); apart = apart }

    ends : EndsAsRounds js outputs w.copies w.blocks b f words all
    ends = ends_as_rounds js outputs copies w.blocks b f words has_copies keep

    pub in_memory : AreWithin (length words) w.all.now
    in_memory = subst (λ (js : List Job). AreWithin (length words) js) (sym ready.all_are) (inside js outputs w.copies w.blocks (length words) (laned.feet_within stage top distinct words p ready.first ready.most lies fits bounded ready.bounded ready.most_few js ready.planned) low (omega (arith, fits, ready.before)))
      where
        low : (x : ℕ) → has outputs x ≡ true → x < length words
        low x h =
            let below : x < 520 = outputs_below outputs x 520 (subst (λ (es : List Extent). All (λ e. e.at + e.len ≤ 520) es) (sym ready.outputs_are) (buses_short ready.channels ready.few)) h in
            omega (arith, below, p.fits)

    abbrev round : ℕ → List ℕ
    round k = rounds f (length js) k words

    round_pictures : (k : ℕ) → k ≤ w.blocks → Pictures stage (round k)
    round_pictures k l = pictured_again stage (round k) words (rounds_long js w.blocks f words keep k l) p

    module _ (lanes : ℕ) (more : ready.most ≤ lanes) (resting : AreResting ready.first lanes b words) where
      round_both : (k : ℕ) → k ≤ w.blocks → (world_of stage (round k) ≡ walks b k (world_of stage words)) × AreResting ready.first lanes (b + k) (round k)
      unfolding rounds walks block_ready
      round_both zero l = (refl, (λ j lt. omega (arith, resting j lt)))
      round_both (suc k) l =
          let m : k ≤ w.blocks = omega (arith, l) in
          let q = round_both k m in
          let room : ready.first + 65 * ready.most ≤ length (round k) = omega (arith, fits, rounds_long js w.blocks f words keep k m) in (
            laned.block_walks stage top distinct (round k) (round_pictures k m) ready.first ready.most lies room bounded ready.bounded ready.most_few js ready.planned (b + k) (λ j lt. q.1 j (omega (arith, lt, more))) ∙ ap (walk (b + k)) q.0,
            (λ j lt. omega (arith, jobwise.block_rests (block_at w.first k) top distinct (block_ready k (omega (arith, l))) (round k) (round_pictures k m) room lanes more q.1 j lt)),
          )

      round_world : (k : ℕ) → k ≤ w.blocks → world_of stage (round k) ≡ walks b k (world_of stage words)
      round_world k l = (round_both k l).0

      abbrev us : List ℕ
      us = last_of (outcome_in w) (length w.all.now) words

      last_is : us ≡ last_of (made_in w) (length all) words
      last_is =
          ap (λ (js : List Job). last_of (outcome_in w) (length js) words) ready.all_are
          ∙ last_same (outcome_in w) (made_in w) (length all) words kept

      long : length us ≡ length words
      long = ap length last_is ∙ ends.words.long

      world : world_of stage us ≡ walks b w.blocks (world_of stage words)
      world =
          world_same stage us (round w.blocks) (round_pictures w.blocks (omega arith)) (λ x l. ap (λ (vs : List ℕ). get_or vs x 0) last_is ∙ ends.words.outside x (inl (omega (arith, l, ready.behind))))
          ∙ round_world w.blocks (omega arith)

      output_is : (c : ℕ) → c < ready.channels → output_at outputs c ≡ audio_place c
      output_is c l = ap (λ (es : List Extent). output_at es c) ready.outputs_are ∙ table_at audio_place ready.channels c no_extent l

      sound : (k c frame : ℕ) → k < w.blocks → c < ready.channels → frame < 64 → sample_in (get_or us (w.copies + 512 * k + 64 * c + frame) 0) ≡ heard (b + k) (get_or (walks b (k + 1) (world_of stage words)).audio_buses c silent) frame
      sound k c frame l m low =
          let many : length outputs ≡ ready.channels = ap length ready.outputs_are ∙ length-table audio_place ready.channels in
          let after : List ℕ = round (k + 1) in
          ap (λ (vs : List ℕ). sample_in (get_or vs (w.copies + 512 * k + 64 * c + frame) 0)) last_is
          ∙ (ends.words.copied k c frame l (omega (arith, m, many)) low
          ∙ (ap (λ (e : Extent). heard (b + k) (bus_at after e) frame) (output_is c m)
          ∙ (ap (λ (bus : AudioBus). heard (b + k) bus frame) (sym (audio_at after c silent (omega (arith, m, ready.few))))
          ∙ ap (λ (v : World). heard (b + k) (get_or v.audio_buses c silent) frame) (round_world (k + 1) (omega (arith, l))))))

      pub played : ArePlayed stage b w.blocks w.copies ready.channels words us
      played = record { world = world; pictures = pictured_again stage us words long p; sound = sound }

      -- the lanes rest again
      pub rests : AreResting ready.first lanes (b + w.blocks) us
      rests j lt =
          let x : ℕ = ready.first + 65 * j in
          let same : get_or us x 0 ≡ get_or (round w.blocks) x 0 = ap (λ (vs : List ℕ). get_or vs x 0) last_is ∙ ends.words.outside x (inr (omega (arith, ready.before))) in
          omega (arith, same, (round_both w.blocks (omega arith)).1 j lt)
