-- The words of a block after its samples were changed.
use Rattle.std.proofs.Common.{◌≡◌, ℕ, ◌+◌, List, ℤ, pos, ◌+ℤ◌, replicate, get_or, ap, sym, ◌∙◌}
use Rattle.std.proofs.lemmas.List.{get_or-replicate}
use Rattle.sn_fixed.specs.Fixed.{sat}
use Rattle.sn_mem.specs.Blocks.{sample_in, samples_at, table, word_for}
use Rattle.sn_mem.proofs.Windows.{table_at, table_same}
use Rattle.sn_io.specs.OverWords.{summed, overwritten}
use Rattle.sn_io.proofs.Samples.{once_more}

-- the sums of the samples that were there and a signal's
pub summed_words : (ws : List ℕ) (at : ℕ) (xs held sums : List ℤ) → held ≡ samples_at ws at → sums ≡ table (λ k. sat (get_or held k (pos 0) +ℤ sat (get_or xs k (pos 0)))) 64
    → table (λ k. word_for (get_or sums k (pos 0))) 64 ≡ table (λ k. summed (get_or ws (at + k) 0) (get_or xs k (pos 0))) 64
summed_words ws at xs held sums e f = table_same (λ k. word_for (get_or sums k (pos 0))) (λ k. summed (get_or ws (at + k) 0) (get_or xs k (pos 0))) 64
    (λ k lt. ap word_for (ap (λ (ys : List ℤ). get_or ys k (pos 0)) f
    ∙ (table_at (λ k. sat (get_or held k (pos 0) +ℤ sat (get_or xs k (pos 0)))) 64 k (pos 0) lt
    ∙ ap (λ y. sat (y +ℤ sat (get_or xs k (pos 0)))) (ap (λ (ys : List ℤ). get_or ys k (pos 0)) e ∙ table_at (λ k. sample_in (get_or ws (at + k) 0)) 64 k (pos 0) lt))))

-- a signal's samples alone
pub alone_words : (xs sums : List ℤ) → sums ≡ table (λ k. sat (get_or (replicate 64 (pos 0)) k (pos 0) +ℤ sat (get_or xs k (pos 0)))) 64
    → table (λ k. word_for (get_or sums k (pos 0))) 64 ≡ table (λ k. overwritten (get_or xs k (pos 0))) 64
alone_words xs sums f = table_same (λ k. word_for (get_or sums k (pos 0))) (λ k. overwritten (get_or xs k (pos 0))) 64
    (λ k lt. ap word_for (ap (λ (ys : List ℤ). get_or ys k (pos 0)) f
    ∙ (table_at (λ k. sat (get_or (replicate 64 (pos 0)) k (pos 0) +ℤ sat (get_or xs k (pos 0)))) 64 k (pos 0) lt
    ∙ ap (λ y. sat (y +ℤ sat (get_or xs k (pos 0)))) (get_or-replicate 64 k (pos 0) (pos 0) lt) ∙ sym (once_more (get_or xs k (pos 0))))))
