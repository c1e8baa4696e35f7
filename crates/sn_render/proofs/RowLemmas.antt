-- A run goes on from row to row.
use Rattle.std.proofs.Common.{◌≡◌, ◌≤◌, ℕ, zero, suc, ◌+◌, ◌-◌, List, length, Option, refl, sym, ap, subst, ◌∙◌, arith}
use Rattle.sn_engine.specs.Running.{Running, at_boundary}
use Rattle.sn_engine.specs.Spans.{in_turn}
use Rattle.sn_engine.specs.declared.standing.Standing.TheVariants.{Settled}
use Rattle.sn_render.specs.Fronts.{TakeFronts}
use Rattle.sn_render.specs.Going.{HasWritten, IsAtBoundary, IsGoing}
use Rattle.sn_render.specs.Play.{after_block, after_blocks, to_end, to_first}
use Rattle.sn_render.specs.Rows.{IsRow, IsRowCut, IsRowWritten}
use Rattle.sn_render.proofs.StepLemmas.{as_many_behind, blocks_step, end_step, grows}
use Rattle.sn_render.proofs.WritingLemmas.{fronts_within, written_both, written_fronts, written_step}

-- ---- blocks in turn, from the first and from the last

last_block : (n : ℕ) (r : Running) → after_blocks n (after_block r) ≡ after_block (after_blocks n r)
last_block zero r = refl
last_block (suc n) r = last_block n (after_block r)

pub turns_are : (n : ℕ) (r : Running) → in_turn n r ≡ after_blocks n r
unfolding in_turn
turns_are zero r = refl
turns_are (suc n) r = ap after_block (turns_are n r) ∙ sym (last_block n r)

-- so many, and then others
blocks_on : (m n : ℕ) (r : Running) → after_blocks n (after_blocks m r) ≡ after_blocks (m + n) r
blocks_on zero n r = let e : n ≡ 0 + n = omega arith in ap (λ k. after_blocks k r) e
blocks_on (suc m) n r = let e : suc (m + n) ≡ suc m + n = omega arith in blocks_on m n (after_block r) ∙ ap (λ k. after_blocks k r) e

pub blocks_settled : (n : ℕ) (r : Running) → r.standing ≡ Settled → (after_blocks n r).standing ≡ Settled
blocks_settled zero r h = h
blocks_settled (suc n) r h = blocks_settled n (after_block r) refl

pub blocks_counted : (n : ℕ) (r : Running) → (after_blocks n r).block ≡ r.block + n
blocks_counted zero r = omega arith
blocks_counted (suc n) r = omega (arith, blocks_counted n (after_block r))

-- ---- rows

row_stands : (n : ℕ) (sound_old sound_new replies_old replies_new : Option (List ℕ)) (old new : Running) → IsAtBoundary old → HasWritten sound_old sound_new replies_old replies_new (after_blocks n old) new → IsAtBoundary new
row_stands n sound_old sound_new replies_old replies_new old new stands w = record {
  standing = sym (ap (λ (r : Running). r.standing) w.parts) ∙ blocks_settled n old stands.standing;
  alone = sym (ap (λ (r : Running). length r.replies) w.parts ∙ as_many_behind w.replies_out new.replies) ∙ ((blocks_step n).clients old ∙ stands.alone);
}

-- how many blocks were done after a row
pub row_counted : (most : ℕ) (sound_old sound_new replies_old replies_new : Option (List ℕ)) (old new : Running) (w : IsRowWritten most sound_old sound_new replies_old replies_new old new) → new.block ≡ old.block + w.blocks
row_counted most sound_old sound_new replies_old replies_new old new w = sym (ap (λ (r : Running). r.block) w.written.parts) ∙ blocks_counted w.blocks old

pub goes_on : (first : Running) (total left most next : ℕ) (sound_old sound_mid sound_new replies_old replies_mid replies_new : Option (List ℕ)) (old new : Running) → IsGoing first total left sound_old sound_mid replies_old replies_mid old
    → (w : IsRowWritten most sound_mid sound_new replies_mid replies_new old new) → most ≤ left → next ≡ left - w.blocks → IsGoing first total next sound_old sound_new replies_old replies_new new
goes_on first total left most next sound_old sound_mid sound_new replies_old replies_mid replies_new old new g w few is =
    let n : ℕ = w.blocks in
    let all : n + next ≡ left = omega (arith, is, few, w.few) in record {
      play = after_blocks n g.play;
      plays = blocks_on n next g.play ∙ (ap (λ k. after_blocks k g.play) all ∙ g.plays);
      written = written_both sound_old sound_mid sound_new replies_old replies_mid replies_new (after_blocks n g.play) (after_blocks n old) new (written_step (after_blocks n) (blocks_step n) sound_old sound_mid replies_old replies_mid g.play old g.written) w.written;
      stands = row_stands n sound_mid sound_new replies_mid replies_new old new g.stands w.written;
      count = omega (arith, g.count, all, row_counted most sound_mid sound_new replies_mid replies_new old new w);
    }

-- a run that is cut short in a row
pub row_cut : (first : Running) (total left most : ℕ) (sound_old sound_mid sound_new replies_old replies_mid replies_new : Option (List ℕ)) (r : Running) → IsGoing first total left sound_old sound_mid replies_old replies_mid r
    → IsRowCut most sound_mid sound_new replies_mid replies_new r → most ≤ left → TakeFronts sound_old sound_new replies_old replies_new (to_end total first).sound (to_first (to_end total first).replies)
row_cut first total left most sound_old sound_mid sound_new replies_old replies_mid replies_new r g cut few =
    let n : ℕ = cut.blocks in
    let rest : ℕ = left - n in
    let all : n + rest ≡ left = omega (arith, few, cut.few) in
    let next : Running = after_blocks n g.play in
    let w = written_step (after_blocks n) (blocks_step n) sound_old sound_mid replies_old replies_mid g.play r g.written in
    let one : length (after_blocks n r).replies ≡ 1 = (blocks_step n).clients r ∙ g.stands.alone in
    let alone : length next.replies ≡ 1 = ap (λ (q : Running). length q.replies) w.parts ∙ (as_many_behind w.replies_out (after_blocks n r).replies ∙ one) in
    let end : to_end rest next ≡ to_end total first = ap at_boundary (blocks_on n rest g.play ∙ (ap (λ k. after_blocks k g.play) all ∙ g.plays)) in
    subst (λ (q : Running). TakeFronts sound_old sound_new replies_old replies_new q.sound (to_first q.replies)) end
    (fronts_within sound_old sound_new replies_old replies_new next (to_end rest next) (grows (to_end rest) (end_step rest) next alone)
    (written_fronts sound_old sound_mid sound_new replies_old replies_mid replies_new next (after_blocks n r) w one cut.fronts))

-- ---- one row

-- an engine of one client has it still
pub row_alone : (most : ℕ) (old new : Running) → IsRow most old new → length old.replies ≡ 1 → length new.replies ≡ 1
row_alone most old new row alone = ap (λ (r : Running). length r.replies) row.played ∙ ((blocks_step row.blocks).clients old ∙ alone)
