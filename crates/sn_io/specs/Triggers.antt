-- SendTrig, DetectSilence, FreeSelf and PauseSelf: units whose state words tell what is to be settled after a block.
use Rattle.std.specs.Prelude.{ℕ, ◌+◌, ◌-◌, ◌%◌, ◌==◌, max, nat_lt, nat_le, Bool, false, not, ◌&&◌, cond, List, [], ◌∷◌, Option, Some, None, slice_index, ℤ, pos, int_lt, unsigned_abs}
use Rattle.sn_fixed.specs.Fixed.{frames_of}
use Rattle.sn_fixed.specs.Triggers.{rises}
use Rattle.sn_def.specs.declared.kind.Kind.{Kind}
use Rattle.sn_def.specs.declared.kind.Kind.TheVariants as kinds
use Rattle.sn_def.specs.declared.control.Now.{Now}
use Rattle.sn_def.specs.declared.table.Family.TheVariants as families
use Rattle.sn_def.specs.Facts.{is_of}
use Rattle.sn_def.specs.Histories.{one_output}
use Rattle.sn_mem.specs.Blocks.{sample, sample_in, word_for, recurrence}
use Rattle.sn_mem.specs.Done.{ended}
use Rattle.sn_io.specs.declared.triggers.Sent.{Sent}
use Rattle.sn_io.specs.declared.triggers.Quiet.{Quiet}
use Rattle.sn_io.specs.declared.triggers.DoneWord.{DoneWord}

-- ---- SendTrig

-- Its four words. The first is the number of the last block in which the trigger rose plus 1, or 0. Then come the id
-- and the value at the frame of the first rise in that block, and the trigger's last sample. So block b sends a trigger
-- exactly if the first word after it is b + 1.
abbrev pub sent_in : List ℕ → Sent
sent_in ws = record { rose = slice_index ws 0; id = sample_in (slice_index ws 1); value = sample_in (slice_index ws 2); trigger = sample_in (slice_index ws 3) }

abbrev pub sent_words : Sent → List ℕ
sent_words s = s.rose ∷ word_for s.id ∷ word_for s.value ∷ word_for s.trigger ∷ []

-- SendTrig trig id value: the first rise of a block is kept
abbrev pub send_trig : ℕ → Sent → List (List ℤ) → ℕ → Sent × ℤ
send_trig b s inputs k =
    let t = sample inputs 0 k in (
      cond (rises s.trigger t && not (s.rose == b + 1))
          (record { rose = b + 1; id = sample inputs 1 k; value = sample inputs 2 k; trigger = t })
          (record { rose = s.rose; id = s.id; value = s.value; trigger = t }),
      pos 0,
    )

-- ---- DetectSilence

-- how many frames were quiet since the last one that was not, if there was one: none before, which is word 0
abbrev pub count_in : ℕ → Option ℕ
count_in w = cond (w == 0) None (Some (w - 1))

abbrev pub count_word : Option ℕ → ℕ
count_word None = 0
count_word (Some n) = n + 1

-- Its two words: the done word, and that of the count.
abbrev pub quiet_in : List ℕ → Quiet
quiet_in ws = record { done = slice_index ws 0; count = count_in (slice_index ws 1 % 4294967296) }

abbrev pub quiet_words : Quiet → List ℕ
quiet_words s = s.done ∷ count_word s.count ∷ []

-- One more, if there was a frame that was not quiet. The count stops at a number that no time reaches.
abbrev pub one_quieter : Option ℕ → Option ℕ
one_quieter None = None
one_quieter (Some n) = Some (cond (nat_lt n 4294967294) (n + 1) n)

-- the count after a frame, if it is quiet and if it isn't
abbrev pub counted : Bool → Option ℕ → Option ℕ
counted quiet count = cond quiet (one_quieter count) (Some 0)

-- a frame is quiet if the distance of the signal from 0 is less than amp
abbrev pub is_quiet : List (List ℤ) → ℕ → Bool
is_quiet inputs k = int_lt (pos (unsigned_abs (sample inputs 0 k))) (sample inputs 1 k)

-- the unit ends if the count reaches the time, at least one frame
abbrev pub is_silent : ℕ → ℤ → Option ℕ → Bool
is_silent rate time None = false
is_silent rate time (Some n) = nat_le (max 1 (frames_of time rate)) n

abbrev pub quieter : ℕ → Quiet → List (List ℤ) → ℕ → Quiet
quieter rate s inputs k =
    let count = counted (is_quiet inputs k) s.count in
    record { done = cond (is_silent rate (sample inputs 2 k) count) (ended s.done) s.done; count = count }

-- DetectSilence x amp time done!: 1.0 from the end on
abbrev pub detect_silence : ℕ → Quiet → List (List ℤ) → ℕ → Quiet × ℤ
detect_silence rate s inputs k = let q = quieter rate s inputs k in (q, cond (q.done == 0) (pos 0) (pos 16777216))

-- ---- FreeSelf and PauseSelf

-- their word is the done word
abbrev pub ending_in : List ℕ → DoneWord
ending_in ws = record { done = slice_index ws 0 }

abbrev pub ending_words : DoneWord → List ℕ
ending_words s = s.done ∷ []

-- FreeSelf x, PauseSelf x: the unit ends at the first frame with x above 0
abbrev pub end_self : DoneWord → List (List ℤ) → ℕ → DoneWord × ℤ
end_self s inputs k = (record { done = cond (int_lt (pos 0) (sample inputs 0 k)) (ended s.done) s.done }, pos 0)

-- ---- blocks

abbrev pub is_trigger : Kind → Bool
is_trigger kind = is_of families.Trigger kind

-- the state words after a block, and the output blocks
unfoldable pub trigger_block : Kind → Now → List ℕ → List (List ℤ) → List ℕ × List (List ℤ)
trigger_block kinds.SendTrig now state inputs = ((recurrence sent_in sent_words (send_trig now.block) state inputs).0, [])
trigger_block kinds.DetectSilence now state inputs = one_output (recurrence quiet_in quiet_words (detect_silence now.rate) state inputs)
trigger_block kinds.FreeSelf now state inputs = ((recurrence ending_in ending_words end_self state inputs).0, [])
trigger_block kinds.PauseSelf now state inputs = ((recurrence ending_in ending_words end_self state inputs).0, [])
trigger_block _ now state inputs = (state, [])
