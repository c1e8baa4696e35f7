-- What a unit on buses makes of words depends on those that it may touch.
use Rattle.std.proofs.Common.{◌≡◌, ◌<◌, ℕ, zero, suc, ◌+◌, ◌*◌, ◌==◌, Bool, true, false, ◌&&◌, cond, List, [], ℤ, pos, ◌+ℤ◌, replicate, Option, Some, None, length, get_or, set, refl, ap, sym, subst, ◌∙◌, arith}
use Rattle.sn_fixed.specs.Fixed.{sat}
use Rattle.sn_def.specs.declared.kind.Kind.{Kind}
use Rattle.sn_def.specs.declared.kind.Kind.TheVariants as kinds
use Rattle.sn_def.specs.declared.control.Now.{Now}
use Rattle.sn_def.specs.Units.{row_of}
use Rattle.sn_mem.specs.declared.extents.Foot.{Foot}
use Rattle.sn_mem.specs.Words.{MayWrite, touches}
use Rattle.sn_mem.specs.Blocks.{block, window, put, word_for, sample_in, changed}
use Rattle.sn_mem.specs.Buses.{AudioBus, ControlBus, audio_buses, control_buses, silent, resting}
use Rattle.sn_mem.proofs.Steps.{length-put}
use Rattle.sn_mem.proofs.Feet.{may_touch, may_read}
use Rattle.sn_mem.proofs.Windows.{table_same}
use Rattle.sn_mem.proofs.BusLaws.{audio_bus_same, control_bus_same, audio_at, control_at}
use Rattle.sn_io.specs.Channels.{audio_channel, control_channel, channels, signals}
use Rattle.sn_io.specs.BusInputs.{heard_block, audio_in, control_in, audio_inputs, control_inputs}
use Rattle.sn_io.specs.Triggers.{trigger_block}
use Rattle.sn_io.specs.OverWords.{summed, overwritten, onto_block, onto_audio, held_at, onto_value, onto_control, onto_audio_channel, onto_control_channel, bus_unit_over}
use Rattle.sn_io.specs.Conditions.{MayReadAudio, MayReadControl, MayWriteAudio, MayWriteControl, MayReach}
use Rattle.sn_io.specs.ByFoot.{Agree, BlocksAgree}
use Rattle.sn_io.proofs.Agreeing.{AreSeen, agree_set, agree_changed, agree_state}
use Rattle.sn_io.proofs.Mixing.{number_bound, onto_by, onto_long}
use Rattle.sn_io.proofs.Setting.{control_bound, value_long}

-- ---- reading

audio_heard : (f : Foot) (feedback : Bool) (b : ℕ) (us ws : List ℕ) (o : Option ℕ) → MayReadAudio f o → ((n : ℕ) → o ≡ Some n → n < 128) → Agree (touches f) us ws → audio_in feedback b (audio_buses us) o ≡ audio_in feedback b (audio_buses ws) o
audio_heard f feedback b us ws None may low a = refl
audio_heard f feedback b us ws (Some n) may low a =
    let l : n < 128 = low n refl in
    ap (λ (bus : AudioBus). heard_block feedback b bus)
    (audio_at us n silent l ∙ (audio_bus_same us ws n (λ j p q. a.same j (may_read f f (65 * n) 65 j may refl p q)) ∙ sym (audio_at ws n silent l)))

audio_inputs_same : (f : Foot) (feedback : Bool) (b : ℕ) (us ws : List ℕ) (inputs : List (List ℤ)) (c : ℕ) → ((i : ℕ) → i < c → MayReadAudio f (audio_channel inputs i)) → Agree (touches f) us ws → audio_inputs feedback b inputs c (audio_buses us) ≡ audio_inputs feedback b inputs c (audio_buses ws)
audio_inputs_same f feedback b us ws inputs c may a =
    table_same (λ i. audio_in feedback b (audio_buses us) (audio_channel inputs i)) (λ i. audio_in feedback b (audio_buses ws) (audio_channel inputs i)) c
    (λ i lt. audio_heard f feedback b us ws (audio_channel inputs i) (may i lt) (number_bound (get_or (get_or inputs 0 []) 0 (pos 0) +ℤ pos i)) a)

pub control_read : (f : Foot) (us ws : List ℕ) (n : ℕ) → n < 1024 → MayReadControl f (Some n) → Agree (touches f) us ws → get_or (control_buses us) n resting ≡ get_or (control_buses ws) n resting
control_read f us ws n l may a = control_at us n resting l ∙ (control_bus_same us ws n (λ j p q. a.same j (may_read f f (8320 + 2 * n) 2 j may refl p (omega (arith, q)))) ∙ sym (control_at ws n resting l))

control_heard : (f : Foot) (us ws : List ℕ) (o : Option ℕ) → MayReadControl f o → ((n : ℕ) → o ≡ Some n → n < 1024) → Agree (touches f) us ws → control_in (control_buses us) o ≡ control_in (control_buses ws) o
control_heard f us ws None may low a = refl
control_heard f us ws (Some n) may low a = ap (λ (bus : ControlBus). replicate 64 bus.value) (control_read f us ws n (low n refl) may a)

control_inputs_same : (f : Foot) (us ws : List ℕ) (inputs : List (List ℤ)) (c : ℕ) → ((i : ℕ) → i < c → MayReadControl f (control_channel inputs i)) → Agree (touches f) us ws → control_inputs inputs c (control_buses us) ≡ control_inputs inputs c (control_buses ws)
control_inputs_same f us ws inputs c may a =
    table_same (λ i. control_in (control_buses us) (control_channel inputs i)) (λ i. control_in (control_buses ws) (control_channel inputs i)) c
    (λ i lt. control_heard f us ws (control_channel inputs i) (may i lt) (control_bound (get_or (get_or inputs 0 []) 0 (pos 0) +ℤ pos i)) a)

-- ---- writing

by_agrees : (seen : ℕ → Bool) (t : Bool) (b : ℕ) (us ws : List ℕ) (at : ℕ) (xs : List ℤ) → AreSeen seen at 65 → Agree seen us ws → Agree seen (onto_by t b us at xs) (onto_by t b ws at xs)
unfolding onto_by
by_agrees seen true b us ws at xs on a = agree_changed seen summed us ws (at + 1) xs (λ j p q. on j (omega arith) (omega arith)) a
by_agrees seen false b us ws at xs on a =
    agree_set seen (changed (λ w. overwritten) us (at + 1) xs) (changed (λ w. overwritten) ws (at + 1) xs) at (b + 1) (agree_changed seen (λ w. overwritten) us ws (at + 1) xs (λ j p q. on j (omega arith) (omega arith)) a)

pub block_agrees : (seen : ℕ → Bool) (adds : Bool) (b : ℕ) (us ws : List ℕ) (at : ℕ) (xs : List ℤ) → AreSeen seen at 65 → Agree seen us ws → Agree seen (onto_block adds b us at xs) (onto_block adds b ws at xs)
unfolding onto_by
block_agrees seen adds b us ws at xs on a =
    let P : ℕ → Type 0 = λ w. Agree seen (onto_by (adds && get_or us at 0 == b + 1) b us at xs) (onto_by (adds && w == b + 1) b ws at xs) in
    subst P (a.same at (on at (omega arith) (omega arith))) (by_agrees seen (adds && get_or us at 0 == b + 1) b us ws at xs on a)

audio_agrees : (f : Foot) (adds : Bool) (b : ℕ) (us ws : List ℕ) (o : Option ℕ) (xs : List ℤ) → MayWriteAudio f o → Agree (touches f) us ws → Agree (touches f) (onto_audio adds b us o xs) (onto_audio adds b ws o xs)
audio_agrees f adds b us ws None xs may a = a
audio_agrees f adds b us ws (Some n) xs may a = block_agrees (touches f) adds b us ws (65 * n) xs (λ j p q. may_touch f f (65 * n) 65 j may refl p q) a

audio_channels_agree : (f : Foot) (adds : Bool) (b : ℕ) (inputs : List (List ℤ)) (m : ℕ) (us ws : List ℕ) → ((i : ℕ) → i < m → MayWriteAudio f (audio_channel inputs i)) → Agree (touches f) us ws → Agree (touches f) (channels (onto_audio_channel adds b inputs) inputs m us) (channels (onto_audio_channel adds b inputs) inputs m ws)
unfolding channels
audio_channels_agree f adds b inputs zero us ws may a = a
audio_channels_agree f adds b inputs (suc i) us ws may a =
    audio_agrees f adds b (channels (onto_audio_channel adds b inputs) inputs i us) (channels (onto_audio_channel adds b inputs) inputs i ws) (audio_channel inputs i) (block inputs (suc i)) (may i (omega arith))
    (audio_channels_agree f adds b inputs i us ws (λ k lt. may k (omega arith)) a)

value_agrees : (seen : ℕ → Bool) (b : ℕ) (us ws : List ℕ) (at : ℕ) (x : ℤ) → AreSeen seen at 2 → Agree seen us ws → Agree seen (onto_value b us at x) (onto_value b ws at x)
value_agrees seen b us ws at x on a =
    let v : ℕ = word_for (sat (held_at b us at +ℤ x)) in
    let e : held_at b us at ≡ held_at b ws at =
    ap (λ w. cond (w == b + 1) (sample_in (get_or us (at + 1) 0)) (pos 0)) (a.same at (on at (omega arith) (omega arith)))
    ∙ ap (λ w. cond (get_or ws at 0 == b + 1) (sample_in w) (pos 0)) (a.same (at + 1) (on (at + 1) (omega arith) (omega arith))) in
    let P : ℤ → Type 0 = λ (z : ℤ). Agree seen (onto_value b us at x) (set (set ws (at + 1) (word_for (sat (z +ℤ x)))) at (b + 1)) in
    subst P e (agree_set seen (set us (at + 1) v) (set ws (at + 1) v) at (b + 1) (agree_set seen us ws (at + 1) v a))

control_agrees : (f : Foot) (b : ℕ) (us ws : List ℕ) (o : Option ℕ) (xs : List ℤ) → MayWriteControl f o → Agree (touches f) us ws → Agree (touches f) (onto_control b us o xs) (onto_control b ws o xs)
control_agrees f b us ws None xs may a = a
control_agrees f b us ws (Some n) xs may a = value_agrees (touches f) b us ws (8320 + 2 * n) (get_or xs 0 (pos 0)) (λ j p q. may_touch f f (8320 + 2 * n) 2 j may refl p q) a

control_channels_agree : (f : Foot) (b : ℕ) (inputs : List (List ℤ)) (m : ℕ) (us ws : List ℕ) → ((i : ℕ) → i < m → MayWriteControl f (control_channel inputs i)) → Agree (touches f) us ws → Agree (touches f) (channels (onto_control_channel b inputs) inputs m us) (channels (onto_control_channel b inputs) inputs m ws)
unfolding channels
control_channels_agree f b inputs zero us ws may a = a
control_channels_agree f b inputs (suc i) us ws may a =
    control_agrees f b (channels (onto_control_channel b inputs) inputs i us) (channels (onto_control_channel b inputs) inputs i ws) (control_channel inputs i) (block inputs (suc i)) (may i (omega arith))
    (control_channels_agree f b inputs i us ws (λ k lt. may k (omega arith)) a)

-- ---- units

trigger_agrees : (k : Kind) (now : Now) (f : Foot) (us ws : List ℕ) (at n : ℕ) (inputs : List (List ℤ)) → MayWrite f at n → Agree (touches f) us ws
    → BlocksAgree (touches f) (put us at (trigger_block k now (window us at n) inputs).0, (trigger_block k now (window us at n) inputs).1) (put ws at (trigger_block k now (window ws at n) inputs).0, (trigger_block k now (window ws at n) inputs).1)
trigger_agrees k now f us ws at n inputs state a = agree_state (touches f) (λ (st : List ℕ). trigger_block k now st inputs) us ws at n (λ j p q. may_touch f f at n j state refl p q) a

pub bus_unit_by_foot : (k : Kind) (now : Now) (f : Foot) (c : ℕ) (us ws : List ℕ) (at n : ℕ) (inputs : List (List ℤ)) → MayWrite f at n → MayReach k f c inputs → Agree (touches f) us ws
    → BlocksAgree (touches f) (bus_unit_over k now c us at n inputs) (bus_unit_over k now c ws at n inputs)
unfolding row_of bus_unit_over
bus_unit_by_foot kinds.Inar now f c us ws at n inputs state may a = record { words = a; outputs = audio_inputs_same f false now.block us ws inputs c (may.hears refl) a }
bus_unit_by_foot kinds.InFeedback now f c us ws at n inputs state may a = record { words = a; outputs = audio_inputs_same f true now.block us ws inputs c (may.hears refl) a }
bus_unit_by_foot kinds.Inkr now f c us ws at n inputs state may a = record { words = a; outputs = control_inputs_same f us ws inputs c (may.reads refl) a }
bus_unit_by_foot kinds.Outar now f c us ws at n inputs state may a = record { words = audio_channels_agree f true now.block inputs (signals inputs) us ws (λ i lt. may.writes refl i (omega (arith, lt))) a; outputs = refl }
bus_unit_by_foot kinds.ReplaceOut now f c us ws at n inputs state may a = record { words = audio_channels_agree f false now.block inputs (signals inputs) us ws (λ i lt. may.writes refl i (omega (arith, lt))) a; outputs = refl }
bus_unit_by_foot kinds.Outkr now f c us ws at n inputs state may a = record { words = control_channels_agree f now.block inputs (signals inputs) us ws (λ i lt. may.sets refl i (omega (arith, lt))) a; outputs = refl }
bus_unit_by_foot k now f c us ws at n inputs state may a = trigger_agrees k now f us ws at n inputs state a

-- ---- the number of the words

audio_long : (adds : Bool) (b : ℕ) (ws : List ℕ) (o : Option ℕ) (xs : List ℤ) → length (onto_audio adds b ws o xs) ≡ length ws
audio_long adds b ws None xs = refl
audio_long adds b ws (Some n) xs = onto_long adds b ws (65 * n) xs

audio_channels_long : (adds : Bool) (b : ℕ) (inputs : List (List ℤ)) (m : ℕ) (ws : List ℕ) → length (channels (onto_audio_channel adds b inputs) inputs m ws) ≡ length ws
unfolding channels
audio_channels_long adds b inputs zero ws = refl
audio_channels_long adds b inputs (suc i) ws = audio_long adds b (channels (onto_audio_channel adds b inputs) inputs i ws) (audio_channel inputs i) (block inputs (suc i)) ∙ audio_channels_long adds b inputs i ws

control_long : (b : ℕ) (ws : List ℕ) (o : Option ℕ) (xs : List ℤ) → length (onto_control b ws o xs) ≡ length ws
control_long b ws None xs = refl
control_long b ws (Some n) xs = value_long b ws (8320 + 2 * n) (get_or xs 0 (pos 0))

control_channels_long : (b : ℕ) (inputs : List (List ℤ)) (m : ℕ) (ws : List ℕ) → length (channels (onto_control_channel b inputs) inputs m ws) ≡ length ws
unfolding channels
control_channels_long b inputs zero ws = refl
control_channels_long b inputs (suc i) ws = control_long b (channels (onto_control_channel b inputs) inputs i ws) (control_channel inputs i) (block inputs (suc i)) ∙ control_channels_long b inputs i ws

pub bus_unit_long : (k : Kind) (now : Now) (c : ℕ) (ws : List ℕ) (at n : ℕ) (inputs : List (List ℤ)) → length (bus_unit_over k now c ws at n inputs).0 ≡ length ws
unfolding bus_unit_over
bus_unit_long kinds.Inar now c ws at n inputs = refl
bus_unit_long kinds.InFeedback now c ws at n inputs = refl
bus_unit_long kinds.Inkr now c ws at n inputs = refl
bus_unit_long kinds.Outar now c ws at n inputs = audio_channels_long true now.block inputs (signals inputs) ws
bus_unit_long kinds.ReplaceOut now c ws at n inputs = audio_channels_long false now.block inputs (signals inputs) ws
bus_unit_long kinds.Outkr now c ws at n inputs = control_channels_long now.block inputs (signals inputs) ws
bus_unit_long k now c ws at n inputs = length-put ws at (trigger_block k now (window ws at n) inputs).0
