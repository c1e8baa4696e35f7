-- A span whose captures copy the sound ends as its rounds, with the sound of each block.
use Rattle.std.proofs.Common.{◌≡◌, ⊎_elim, ℕ, zero, suc, ◌+◌, ◌*◌, ◌<◌, ◌≤◌, true, List, length, get_or, refl, sym, ap, subst, ◌∙◌, arith}
use Rattle.std.proofs.lemmas.Bool.{cases_lt}
use Rattle.sn_mem.specs.declared.extents.Extent.{Extent}
use Rattle.sn_mem.specs.declared.extents.Foot.{Foot}
use Rattle.sn_mem.specs.Words.{covers}
use Rattle.sn_mem.specs.Blocks.{put, sample_in}
use Rattle.sn_mem.specs.Buses.{heard}
use Rattle.sn_mem.proofs.Meetings.{covered}
use Rattle.sn_mem.proofs.Puts.{in_put}
use Rattle.sn_round.specs.declared.jobs.Job.{Job}
use Rattle.sn_round.specs.Jobs.{foot_at}
use Rattle.sn_span.specs.Unrolling.{copy_at, start, unrolled}
use Rattle.sn_span.specs.Captures.{bus_at, captured, heard_word, heard_words, output_at}
use Rattle.sn_span.specs.Rounds.{EndsAsRounds, HasCopies, HoldSound, KeepsToFoot, KeepToFeet, in_span, last_of, rounds}
use Rattle.sn_span.proofs.Places.{at_job, at_capture, block_job, block_capture, length-unrolled, place_of}
use Rattle.sn_span.proofs.Captured.{capture_keeps, heard_at, length-heard, sample_heard}
use Rattle.sn_span.proofs.Rounding.{RestsOnFeet, after_jobs, as_long, copied, list_is, outside}

-- ---- how many words there are

after_long : (g : ℕ → List ℕ → List ℕ) (n i : ℕ) (ws : List ℕ) → ((j : ℕ) (us : List ℕ) → j < n → length (g j us) ≡ length us) → i ≤ n → length (after_jobs g i ws) ≡ length ws
unfolding after_jobs
after_long g n zero ws long l = refl
after_long g n (suc i) ws long l = long i (after_jobs g i ws) (omega (arith, l)) ∙ after_long g n i ws long (omega (arith, l))

pub rounds_long : (jobs : List Job) (blocks : ℕ) (f : ℕ → ℕ → List ℕ → List ℕ) (base : List ℕ) → KeepToFeet jobs blocks f → (k : ℕ) → k ≤ blocks → length (rounds f (length jobs) k base) ≡ length base
unfolding rounds
rounds_long jobs blocks f base keep zero l = refl
rounds_long jobs blocks f base keep (suc k) l =
    let before : List ℕ = rounds f (length jobs) k base in
    ap length (list_is (f k) (length jobs) (length jobs) before (omega arith))
    ∙ (after_long (f k) (length jobs) (length jobs) before (λ j us m. (keep k j (omega (arith, l)) m).long us) (omega arith)
    ∙ rounds_long jobs blocks f base keep k (omega (arith, l)))

-- ---- the span

module _ (jobs : List Job) (outputs : List Extent) (copies : Extent) (blocks b : ℕ) (f : ℕ → ℕ → List ℕ → List ℕ) (base : List ℕ)
    (has : HasCopies jobs outputs copies blocks (length base)) (keep : KeepToFeet jobs blocks f) where
  abbrev n : ℕ
  n = length jobs

  abbrev at : ℕ
  at = copies.at

  abbrev all : List Job
  all = unrolled jobs outputs at blocks

  abbrev g : ℕ → List ℕ → List ℕ
  g = in_span outputs at b f n

  abbrev capture : ℕ → List ℕ → List ℕ
  capture k = captured outputs (at + 512 * k) (b + k)

  feet_of_job : (k i : ℕ) → k < blocks → i < n → KeepsToFoot (foot_at all (start n k + i)) (g (start n k + i))
  feet_of_job k i l m =
      subst (λ (h : List ℕ → List ℕ). KeepsToFoot (foot_at all (start n k + i)) h) (sym (block_job f capture n k i m))
      (subst (λ (d : Foot). KeepsToFoot d (f k i)) (sym (ap (λ (x : Job). x.foot) (at_job jobs outputs at blocks k i l m))) (keep k i l m))

  feet_of_capture : (k : ℕ) → k < blocks → KeepsToFoot (foot_at all (start n k + n)) (g (start n k + n))
  feet_of_capture k l =
      subst (λ (h : List ℕ → List ℕ). KeepsToFoot (foot_at all (start n k + n)) h) (sym (block_capture f capture n k))
      (subst (λ (d : Foot). KeepsToFoot d (capture k)) (sym (ap (λ (x : Job). x.foot) (at_capture jobs outputs at blocks k l))) (capture_keeps outputs at k (b + k) has.are_outputs))

  feet : (j : ℕ) → j < length all → KeepsToFoot (foot_at all j) (g j)
  feet j l =
      let (k, i, p, q, e) = place_of n blocks j (omega (arith, l, length-unrolled jobs outputs at blocks)) in
      subst (λ m. KeepsToFoot (foot_at all m) (g m)) (sym e) (⊎_elim
      (λ (m : i < n). feet_of_job k i p m)
      (λ (r : n ≤ i). let same : n ≡ i = omega (arith, r, q) in subst (λ m. KeepsToFoot (foot_at all (start n k + m)) (g (start n k + m))) same (feet_of_capture k p))
      (cases_lt i n))

  rests : RestsOnFeet all g
  rests = record {
    long = λ j ws l. (feet j l).long ws;
    keeps = λ j x ws l off. (feet j l).keeps x ws off;
    by_foot = λ j us ws l long same x on. (feet j l).by_foot us ws long same x on;
  }

  made : (k i : ℕ) (words : List ℕ) → k < blocks → i < n → g (start n k + i) words ≡ f k i words
  made k i words l m = ap (λ (h : List ℕ → List ℕ). h words) (block_job f capture n k i m)

  abbrev end : List ℕ
  end = last_of g (start n blocks) base

  -- the words after a round, and its sound
  sound : (k c frame : ℕ) → k < blocks → c < length outputs → frame < 64 → sample_in (get_or end (at + 512 * k + 64 * c + frame) 0) ≡ heard (b + k) (bus_at (rounds f n (k + 1) base) (output_at outputs c)) frame
  sound k c frame l m low =
      let x : ℕ = at + 512 * k + 64 * c + frame in
      let j : ℕ = 64 * c + frame in
      let ws : List ℕ = rounds f n (suc k) base in
      let few : length outputs ≤ 8 = has.are_outputs.few in
      let inside : at + 512 * blocks ≤ length base = has.inside in
      let in_copy : covers (copy_at at k) x ≡ true = covered (copy_at at k) x (omega arith) (omega (arith, m, few, low)) in
      let s : suc k ≡ k + 1 = omega arith in
      let place : x ≡ at + 512 * k + j = omega arith in
      let long : length (heard_words (b + k) ws outputs) ≡ 64 * length outputs = length-heard (b + k) ws outputs in
      let size : length ws ≡ length base = rounds_long jobs blocks f base keep (suc k) (omega (arith, l)) in
      let word : get_or end x 0 ≡ heard_word (b + k) ws (output_at outputs c) frame =
      copied jobs outputs copies blocks g f base has.room has.apart made rests k x l in_copy
      ∙ (ap (λ (h : List ℕ → List ℕ). get_or (h ws) x 0) (block_capture f capture n k)
      ∙ (ap (λ i. get_or (put ws (at + 512 * k) (heard_words (b + k) ws outputs)) i 0) place
      ∙ (in_put ws (at + 512 * k) j (heard_words (b + k) ws outputs) (omega (arith, long, m, low)) (omega (arith, long, few, size, inside, l))
      ∙ heard_at (b + k) ws outputs c frame m low))) in
      ap sample_in word
      ∙ (sample_heard (b + k) ws (output_at outputs c) frame low
      ∙ ap (λ i. heard (b + k) (bus_at (rounds f n i base) (output_at outputs c)) frame) s)

  pub ends_as_rounds : EndsAsRounds jobs outputs at blocks b f base all
  ends_as_rounds = record {
    feet = feet;
    words = subst (λ m. HoldSound n outputs at blocks b f base (last_of g m base)) (sym (length-unrolled jobs outputs at blocks)) (record {
      long = as_long jobs outputs copies blocks g f base has.room has.apart made rests ∙ rounds_long jobs blocks f base keep blocks (omega arith);
      outside = outside jobs outputs copies blocks g f base has.room has.apart made rests;
      copied = sound;
    });
  }
