-- A unit changes no word but those that may be written.
use Rattle.std.proofs.Common.{◌≡◌, ◌≤◌, ◌<◌, ◌⊎◌, ℕ, zero, suc, ◌+◌, ◌*◌, Bool, true, false, List, ℤ, Option, Some, None, length, get_or, refl, ap, sym, ◌∙◌, ⊎_elim, inl, inr, arith, true≢false}
use Rattle.std.proofs.lemmas.Bool.{cases_lt}
use Rattle.sn_def.specs.declared.kind.Kind.{Kind}
use Rattle.sn_def.specs.declared.kind.Kind.TheVariants as kinds
use Rattle.sn_def.specs.declared.control.Now.{Now}
use Rattle.sn_def.specs.declared.table.StateSize.{StateSize}
use Rattle.sn_def.specs.declared.table.StateSize.TheVariants.{Fixed}
use Rattle.sn_def.specs.Units.{row_of}
use Rattle.sn_def.specs.StateWords.{words_of}
use Rattle.sn_mem.specs.declared.extents.Foot.{Foot}
use Rattle.sn_mem.specs.Words.{MayWrite, writes}
use Rattle.sn_mem.specs.Blocks.{block, window, put}
use Rattle.sn_mem.proofs.Steps.{length-window}
use Rattle.sn_mem.proofs.Feet.{may_write}
use Rattle.sn_mem.proofs.Windows.{apart_put}
use Rattle.sn_io.specs.Channels.{audio_channel, control_channel, channels, signals}
use Rattle.sn_io.specs.Triggers.{trigger_block}
use Rattle.sn_io.specs.OverWords.{onto_audio, onto_control, onto_audio_channel, onto_control_channel, bus_unit_over}
use Rattle.sn_io.specs.Conditions.{MayWriteAudio, MayWriteControl, MayReach}
use Rattle.sn_io.proofs.Mixing.{onto_apart}
use Rattle.sn_io.proofs.Setting.{value_apart}
use Rattle.sn_io.proofs.Meaning.{trigger_long}

pub off_run : (f : Foot) (at n j : ℕ) → MayWrite f at n → writes f j ≡ false → (j < at) ⊎ (at + n ≤ j)
off_run f at n j may off = ⊎_elim (λ (l : j < at). inl l)
    (λ (r : at ≤ j). ⊎_elim (λ (k : j < at + n). absurd (true≢false (sym (may_write f f at n j may refl r k) ∙ off))) (λ (k : at + n ≤ j). inr k) (cases_lt j (at + n)))
    (cases_lt j at)

audio_keeps : (f : Foot) (adds : Bool) (b : ℕ) (ws : List ℕ) (o : Option ℕ) (xs : List ℤ) (j : ℕ) → MayWriteAudio f o → writes f j ≡ false → get_or (onto_audio adds b ws o xs) j 0 ≡ get_or ws j 0
audio_keeps f adds b ws None xs j may off = refl
audio_keeps f adds b ws (Some n) xs j may off = onto_apart adds b ws (65 * n) xs j (off_run f (65 * n) 65 j may off)

audio_channels_keep : (f : Foot) (adds : Bool) (b : ℕ) (inputs : List (List ℤ)) (m : ℕ) (ws : List ℕ) (j : ℕ) → ((i : ℕ) → i < m → MayWriteAudio f (audio_channel inputs i)) → writes f j ≡ false → get_or (channels (onto_audio_channel adds b inputs) inputs m ws) j 0 ≡ get_or ws j 0
unfolding channels
audio_channels_keep f adds b inputs zero ws j may off = refl
audio_channels_keep f adds b inputs (suc i) ws j may off =
    audio_keeps f adds b (channels (onto_audio_channel adds b inputs) inputs i ws) (audio_channel inputs i) (block inputs (suc i)) j (may i (omega arith)) off
    ∙ audio_channels_keep f adds b inputs i ws j (λ k lt. may k (omega arith)) off

control_keeps : (f : Foot) (b : ℕ) (ws : List ℕ) (o : Option ℕ) (xs : List ℤ) (j : ℕ) → MayWriteControl f o → writes f j ≡ false → get_or (onto_control b ws o xs) j 0 ≡ get_or ws j 0
control_keeps f b ws None xs j may off = refl
control_keeps f b ws (Some n) xs j may off = value_apart b ws (8320 + 2 * n) _ j (off_run f (8320 + 2 * n) 2 j may off)

control_channels_keep : (f : Foot) (b : ℕ) (inputs : List (List ℤ)) (m : ℕ) (ws : List ℕ) (j : ℕ) → ((i : ℕ) → i < m → MayWriteControl f (control_channel inputs i)) → writes f j ≡ false → get_or (channels (onto_control_channel b inputs) inputs m ws) j 0 ≡ get_or ws j 0
unfolding channels
control_channels_keep f b inputs zero ws j may off = refl
control_channels_keep f b inputs (suc i) ws j may off =
    control_keeps f b (channels (onto_control_channel b inputs) inputs i ws) (control_channel inputs i) (block inputs (suc i)) j (may i (omega arith)) off
    ∙ control_channels_keep f b inputs i ws j (λ k lt. may k (omega arith)) off

trigger_keeps : (k : Kind) (now : Now) (f : Foot) (ws : List ℕ) (at n frames : ℕ) (inputs : List (List ℤ)) (j : ℕ) → MayWrite f at n → n ≡ words_of (row_of k).words frames → writes f j ≡ false → get_or (put ws at (trigger_block k now (window ws at n) inputs).0) j 0 ≡ get_or ws j 0
trigger_keeps k now f ws at n frames inputs j state size off =
    let xs : List ℕ = (trigger_block k now (window ws at n) inputs).0 in
    let wide : length (window ws at n) ≡ n = length-window ws at n in
    let long : length xs ≡ n = trigger_long k now (window ws at n) inputs frames (wide ∙ size) ∙ wide in
    apart_put ws at j xs (⊎_elim (λ (l : j < at). inl l) (λ (h : at + n ≤ j). inr (omega (arith, long, h))) (off_run f at n j state off))

pub bus_unit_keeps : (k : Kind) (now : Now) (f : Foot) (c : ℕ) (ws : List ℕ) (at n frames : ℕ) (inputs : List (List ℤ)) (j : ℕ) → MayWrite f at n → n ≡ words_of (row_of k).words frames → MayReach k f c inputs → writes f j ≡ false → get_or (bus_unit_over k now c ws at n inputs).0 j 0 ≡ get_or ws j 0
unfolding row_of bus_unit_over
bus_unit_keeps kinds.Inar now f c ws at n frames inputs j state size may off = refl
bus_unit_keeps kinds.InFeedback now f c ws at n frames inputs j state size may off = refl
bus_unit_keeps kinds.Inkr now f c ws at n frames inputs j state size may off = refl
bus_unit_keeps kinds.Outar now f c ws at n frames inputs j state size may off = audio_channels_keep f true now.block inputs (signals inputs) ws j (λ i lt. may.writes refl i (omega (arith, lt))) off
bus_unit_keeps kinds.ReplaceOut now f c ws at n frames inputs j state size may off = audio_channels_keep f false now.block inputs (signals inputs) ws j (λ i lt. may.writes refl i (omega (arith, lt))) off
bus_unit_keeps kinds.Outkr now f c ws at n frames inputs j state size may off = control_channels_keep f now.block inputs (signals inputs) ws j (λ i lt. may.sets refl i (omega (arith, lt))) off
bus_unit_keeps k now f c ws at n frames inputs j state size may off = trigger_keeps k now f ws at n frames inputs j state size off

-- the words us after a unit
pub run_keeps : (k : Kind) (now : Now) (f : Foot) (c : ℕ) (ws us : List ℕ) (at n : ℕ) (inputs : List (List ℤ)) → us ≡ (bus_unit_over k now c ws at n inputs).0 → MayWrite f at n → (row_of k).words ≡ Fixed n → MayReach k f c inputs → (j : ℕ) → writes f j ≡ false → get_or us j 0 ≡ get_or ws j 0
run_keeps k now f c ws us at n inputs e state size may j off = ap (λ (us : List ℕ). get_or us j 0) e ∙ bus_unit_keeps k now f c ws at n 0 inputs j state (sym (ap (λ (w : StateSize). words_of w 0) size)) may off
