-- The samples in the copies are the sound of their blocks.
use Rattle.std.proofs.Common.{◌≡◌, ℕ, zero, suc, ◌+◌, ◌*◌, ◌<◌, ◌≤◌, List, [], ◌++◌, ℤ, length, length-append, get_or, refl, sym, ap, ◌∙◌, arith, add-one}
use Rattle.sn_mem.specs.Blocks.{sample_in, table}
use Rattle.sn_mem.specs.Buses.{heard, silent}
use Rattle.sn_mem.specs.Layout.{audio_place}
use Rattle.sn_mem.specs.declared.extents.Extent.{Extent}
use Rattle.sn_mem.proofs.Windows.{table_same}
use Rattle.sn_mem.proofs.Tables.{length-table}
use Rattle.sn_world.specs.World.{World, world_of}
use Rattle.sn_world.specs.declared.stage.Stage.{Stage}
use Rattle.sn_quiet.specs.Walks.{walks}
use Rattle.sn_play.specs.Spans.{ArePlayed}
use Rattle.sn_engine.specs.Outputs.{copied_frame, copied_frames, frame_of, frames_of}

-- ---- frames, one more each time

pub copied_made : (channels at : ℕ) (ws : List ℕ) (n : ℕ) → length (copied_frames channels at ws n) ≡ n * channels
unfolding copied_frames
copied_made channels at ws zero = omega arith
copied_made channels at ws (suc n) = omega (arith, length-append (copied_frames channels at ws n) (copied_frame channels at ws n), copied_made channels at ws n, length-table (λ c. sample_in (get_or ws (at + 64 * c + n) 0)) channels)

pub few_copied : (channels at : ℕ) (ws : List ℕ) (k : ℕ) (items : List ℤ) → channels ≤ 8 → k ≡ 64 → items ≡ copied_frames channels at ws k → length items ≤ 512
few_copied channels at ws k items few last are = let size : length items ≡ 64 * channels = ap length are ∙ ap (λ n. length (copied_frames channels at ws n)) last ∙ copied_made channels at ws 64 in omega (arith, size, few)

pub none_copied : (channels at : ℕ) (ws : List ℕ) (items : List ℤ) → items ≡ [] → items ≡ copied_frames channels at ws 0
unfolding copied_frames
none_copied channels at ws items none = none

pub next_copied : (channels at : ℕ) (ws us : List ℕ) (k : ℕ) (items new : List ℤ) → items ≡ copied_frames channels at ws k → us ≡ ws → new ≡ items ++ copied_frame channels at us k → new ≡ copied_frames channels at ws (k + 1)
unfolding copied_frames
next_copied channels at ws us k items new so_far same put =
    put
    ∙ ap (λ (xs : List ℤ). xs ++ copied_frame channels at us k) so_far
    ∙ ap (λ (vs : List ℕ). copied_frames channels at ws k ++ copied_frame channels at vs k) same
    ∙ ap (λ (m : ℕ). copied_frames channels at ws m) (sym (add-one k))

pub same_channels : (one other : ℕ) (outputs : List Extent) → outputs ≡ table audio_place one → outputs ≡ table audio_place other → one ≡ other
same_channels one other outputs is also = sym (length-table audio_place one) ∙ (ap (λ (es : List Extent). length es) (sym is ∙ also) ∙ length-table audio_place other)

-- ---- those of a span are the sound of its blocks

module _ (stage : Stage) (b n copies channels : ℕ) (words us : List ℕ) (played : ArePlayed stage b n copies channels words us) where
  abbrev world : ℕ → World
  world k = walks b (k + 1) (world_of stage words)

  frame_is : (k frame : ℕ) → k < n → frame < 64 → copied_frame channels (copies + 512 * k) us frame ≡ frame_of channels (b + k) (world k) frame
  frame_is k frame l low = table_same (λ c. sample_in (get_or us (copies + 512 * k + 64 * c + frame) 0)) (λ c. heard (b + k) (get_or (world k).audio_buses c silent) frame) channels (λ c m. played.sound k c frame l m low)

  pub frames_are : (k frames : ℕ) → k < n → frames ≤ 64 → copied_frames channels (copies + 512 * k) us frames ≡ frames_of channels (b + k) (world k) frames
  unfolding copied_frames frames_of
  frames_are k zero l few = refl
  frames_are k (suc frames) l few =
      ap (λ (xs : List ℤ). xs ++ copied_frame channels (copies + 512 * k) us frames) (frames_are k frames l (omega (arith, few)))
      ∙ ap (λ (xs : List ℤ). frames_of channels (b + k) (world k) frames ++ xs) (frame_is k frames l (omega (arith, few)))
