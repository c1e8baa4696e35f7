-- The samples of a buffer in its words.
use Rattle.std.proofs.Common.{◌≡◌, ◌<◌, ℕ, ◌+◌, ◌*◌, List, ℤ, pos, get_or, set, SFits, w32, ap, sym, ◌∙◌, arith}
use Rattle.std.proofs.lemmas.List.{get_or-map}
use Rattle.sn_fixed.specs.Fixed.{sat}
use Rattle.sn_mem.specs.declared.buffers.BufferPlace.{BufferPlace}
use Rattle.sn_mem.specs.declared.extents.Extent.{Extent}
use Rattle.sn_mem.specs.Blocks.{window, sample, sample_in, word_for}
use Rattle.sn_mem.specs.Buffers.{samples_of}
use Rattle.sn_mem.proofs.Steps.{length-window}
use Rattle.sn_mem.proofs.Windows.{window_at}
use Rattle.sn_io.specs.BufferUnits.{set_frame}
use Rattle.sn_io.specs.BuffersOverWords.{set_word}
use Rattle.sn_io.proofs.Samples.{sat_same}
use Rattle.sn_io.proofs.Walking.{frame_more}

pub samples_at : (ws : List ℕ) (e : Extent) (j : ℕ) → j < e.len → get_or (samples_of ws e) j (pos 0) ≡ sample_in (get_or ws (e.at + j) 0)
samples_at ws e j lt = get_or-map sample_in (window ws e.at e.len) j 0 (pos 0) (omega (arith, length-window ws e.at e.len, lt)) ∙ ap sample_in (window_at ws e.at e.len j lt)

-- what is loaded from the word of a sample
pub sample_there : (ws : List ℕ) (p : BufferPlace) (i c a w : ℕ) (x : ℤ) → a ≡ p.extent.at + (i * p.channels + c) → i * p.channels + c < p.extent.len → w ≡ get_or ws a 0 → x ≡ sample_in w → x ≡ get_or (samples_of ws p.extent) (i * p.channels + c) (pos 0)
sample_there ws p i c a w x place inside load is = is ∙ (ap sample_in (load ∙ ap (λ n. get_or ws n 0) place) ∙ sym (samples_at ws p.extent (i * p.channels + c) inside))

-- one more sample of a frame is stored
pub frame_step : (at : ℕ) (inputs : List (List ℤ)) (first k place c : ℕ) (ws us vs : List ℕ) (a w : ℕ) (x : ℤ) → us ≡ set_frame (set_word at) inputs first k place c ws → a ≡ at + (place + c) → w ≡ word_for x → x ≡ sample inputs (first + c) k → SFits w32 x → vs ≡ set us a w
    → vs ≡ set_frame (set_word at) inputs first k place (c + 1) ws
frame_step at inputs first k place c ws us vs a w x e there word is fits stored =
    let before : List ℕ = set_frame (set_word at) inputs first k place c ws in
    stored ∙ (ap (λ (us : List ℕ). set us a w) e ∙ (ap (λ n. set before n w) there ∙ (ap (λ n. set before (at + (place + c)) n) (word ∙ ap word_for (sym (sat_same x fits) ∙ ap sat is))
    ∙ sym (frame_more (set_word at) inputs first k place c ws))))
