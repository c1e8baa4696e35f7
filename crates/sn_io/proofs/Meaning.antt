-- The words after a unit's block hold the buses and the state words after it.
use Rattle.std.proofs.Common.{◌≡◌, ◌≤◌, ◌<◌, ◌⊎◌, ℕ, zero, suc, ◌+◌, ◌*◌, Bool, true, false, List, [], ◌∷◌, ℤ, Option, Some, None, length, take, get_or, refl, ap, sym, subst, ◌∙◌, ⊎_elim, inl, inr, arith}
use Rattle.std.proofs.lemmas.Bool.{cases_lt}
use Rattle.std.proofs.Math.Seq.{take-length}
use Rattle.sn_def.specs.declared.kind.Kind.{Kind}
use Rattle.sn_def.specs.declared.kind.Kind.TheVariants as kinds
use Rattle.sn_def.specs.declared.control.Now.{Now}
use Rattle.sn_def.specs.Units.{row_of}
use Rattle.sn_def.specs.declared.table.StateSize.{StateSize}
use Rattle.sn_def.specs.declared.table.StateSize.TheVariants.{Fixed}
use Rattle.sn_def.specs.StateWords.{words_of}
use Rattle.sn_mem.specs.declared.extents.Foot.{Foot}
use Rattle.sn_mem.specs.Words.{MayWrite, touches}
use Rattle.sn_mem.specs.Blocks.{window, put}
use Rattle.sn_mem.specs.Buses.{AudioBus, audio_buses, control_buses, buses_of}
use Rattle.sn_mem.proofs.Steps.{length-window, length-put}
use Rattle.sn_mem.proofs.Feet.{may_touch}
use Rattle.sn_mem.proofs.Puts.{window_of_put}
use Rattle.sn_mem.proofs.Windows.{apart_put}
use Rattle.sn_mem.proofs.BusLaws.{same_buses, audio_same, control_same, buses_same}
use Rattle.sn_io.specs.Channels.{audio_channel, control_channel, channels, signals}
use Rattle.sn_io.specs.BusOutputs.{mixed, replaced, control_mixed, audio_outputs, control_outputs}
use Rattle.sn_io.specs.Triggers.{trigger_block}
use Rattle.sn_io.specs.BusUnits.{UnitBlock, giving, writes_audio, writes_control, bus_unit}
use Rattle.sn_io.specs.OverWords.{onto_audio_channel, onto_control_channel, bus_unit_over}
use Rattle.sn_io.specs.Conditions.{MayWriteAudio, MayWriteControl, MayReach}
use Rattle.sn_io.proofs.Mixing.{IsInside, Mixes, channels_mix, out_mixes, replace_mixes}
use Rattle.sn_io.proofs.Setting.{IsControlInside, channels_set}

-- the words us and the outputs after a unit, whose state is at a place, against its block
pub record UnitMeans (at len : ℕ) (ws us : List ℕ) (outputs : List (List ℤ)) (r : UnitBlock) : Type 0 where
  pub buses : buses_of us ≡ r.buses
  pub state : window us at len ≡ r.state
  pub gives : outputs ≡ r.outputs
  pub long : length us ≡ length ws
  pub others : (j : ℕ) → 10368 ≤ j → (j < at) ⊎ (at + len ≤ j) → get_or us j 0 ≡ get_or ws j 0

-- a unit that reads
read_means : (at len : ℕ) (ws : List ℕ) (outputs : List (List ℤ)) → UnitMeans at len ws ws outputs (giving (window ws at len) outputs (buses_of ws))
read_means at len ws outputs = record { buses = refl; state = refl; gives = refl; long = refl; others = λ j high apart. refl }

none_same : (us ws : List ℕ) (at len : ℕ) → len ≡ 0 → window us at len ≡ window ws at len
unfolding window
none_same us ws at zero e = refl
none_same us ws at (suc n) e = absurd (omega arith)

-- units that write
audio_means : (adds : Bool) (change : AudioBus → List ℤ → AudioBus) (b at len : ℕ) (ws : List ℕ) (inputs : List (List ℤ)) → Mixes adds b change → len ≡ 0 → ((i : ℕ) → i < signals inputs → IsInside (length ws) (audio_channel inputs i))
    → UnitMeans at len ws (channels (onto_audio_channel adds b inputs) inputs (signals inputs) ws) [] (giving (window ws at len) [] (record (buses_of ws) { audio = audio_outputs change inputs (audio_buses ws) }))
audio_means adds change b at len ws inputs mixes none inside =
    let us : List ℕ = channels (onto_audio_channel adds b inputs) inputs (signals inputs) ws in
    let m = channels_mix adds b change inputs (signals inputs) ws mixes inside in record {
      buses = same_buses (audio_buses us) (audio_outputs change inputs (audio_buses ws)) (control_buses us) (control_buses ws) m.audio (control_same us ws (λ j low high. m.others j low));
      state = none_same us ws at len none;
      gives = refl;
      long = m.long;
      others = λ j high apart. m.others j (omega (arith, high));
    }

control_means : (b at len : ℕ) (ws : List ℕ) (inputs : List (List ℤ)) → len ≡ 0 → ((i : ℕ) → i < signals inputs → IsControlInside (length ws) (control_channel inputs i))
    → UnitMeans at len ws (channels (onto_control_channel b inputs) inputs (signals inputs) ws) [] (giving (window ws at len) [] (record (buses_of ws) { control = control_outputs (control_mixed b) inputs (control_buses ws) }))
control_means b at len ws inputs none inside =
    let us : List ℕ = channels (onto_control_channel b inputs) inputs (signals inputs) ws in
    let m = channels_set b inputs (signals inputs) ws inside in record {
      buses = same_buses (audio_buses us) (audio_buses ws) (control_buses us) (control_outputs (control_mixed b) inputs (control_buses ws)) (audio_same us ws (λ j low. m.others j (inl low))) m.control;
      state = none_same us ws at len none;
      gives = refl;
      long = m.long;
      others = λ j high apart. m.others j (inr high);
    }

-- a trigger keeps the number of its state words
pub trigger_long : (k : Kind) (now : Now) (state : List ℕ) (inputs : List (List ℤ)) (frames : ℕ) → length state ≡ words_of (row_of k).words frames → length (trigger_block k now state inputs).0 ≡ length state
unfolding row_of trigger_block
trigger_long kinds.SendTrig now state inputs frames h = sym h
trigger_long kinds.DetectSilence now state inputs frames h = sym h
trigger_long kinds.FreeSelf now state inputs frames h = sym h
trigger_long kinds.PauseSelf now state inputs frames h = sym h
trigger_long _ now state inputs frames h = refl

-- if a state has none of the buses' words
pub no_bus : (at n j : ℕ) → (0 < n → 10368 ≤ at) → j < 10368 → (j < at) ⊎ (at + n ≤ j)
no_bus at zero j apart low = ⊎_elim (λ (l : j < at). inl l) (λ (r : at ≤ j). inr (omega arith)) (cases_lt j at)
no_bus at (suc n) j apart low = let a : 10368 ≤ at = apart (omega arith) in inl (omega arith)

pub put_there : (ws : List ℕ) (at len : ℕ) (xs : List ℕ) → length xs ≡ len → (0 < len → at + len ≤ length ws) → window (put ws at xs) at len ≡ xs
unfolding window put
put_there ws at zero [] long inside = refl
put_there ws at zero (x ∷ xs) long inside = absurd (omega arith)
put_there ws at (suc n) xs long inside = window_of_put ws at (suc n) xs (omega arith) (omega (arith, long, inside (omega arith))) ∙ (ap (λ m. take m xs) (sym long) ∙ take-length xs)

trigger_means : (k : Kind) (now : Now) (at len frames : ℕ) (ws : List ℕ) (inputs : List (List ℤ)) → len ≡ words_of (row_of k).words frames → (0 < len → 10368 ≤ at) → (0 < len → at + len ≤ length ws)
    → UnitMeans at len ws (put ws at (trigger_block k now (window ws at len) inputs).0) (trigger_block k now (window ws at len) inputs).1 (giving (trigger_block k now (window ws at len) inputs).0 (trigger_block k now (window ws at len) inputs).1 (buses_of ws))
trigger_means k now at len frames ws inputs size apart inside =
    let st : List ℕ = window ws at len in
    let xs : List ℕ = (trigger_block k now st inputs).0 in
    let wide : length st ≡ len = length-window ws at len in
    let long : length xs ≡ len = trigger_long k now st inputs frames (wide ∙ size) ∙ wide in
    let off : (j : ℕ) → (j < at) ⊎ (at + len ≤ j) → get_or (put ws at xs) j 0 ≡ get_or ws j 0 = λ j a. apart_put ws at j xs (⊎_elim (λ (l : j < at). inl l) (λ (r : at + len ≤ j). inr (omega (arith, long, r))) a) in
    record {
      buses = buses_same (put ws at xs) ws (λ j low. off j (no_bus at len j apart low));
      state = put_there ws at len xs long inside;
      gives = refl;
      long = length-put ws at xs;
      others = λ j high a. off j a;
    }

-- ---- any of these units

-- Where the state lies: it has none of the buses' words, it is inside the words, and so are the buses that are written.
pub record Lies (k : Kind) (at len words : ℕ) (inputs : List (List ℤ)) : Type 0 where
  pub apart : 0 < len → 10368 ≤ at
  pub inside : 0 < len → at + len ≤ words
  pub audio : writes_audio k ≡ true → (i : ℕ) → i < signals inputs → IsInside words (audio_channel inputs i)
  pub control : writes_control k ≡ true → (i : ℕ) → i < signals inputs → IsControlInside words (control_channel inputs i)

pub unit_means : (k : Kind) (now : Now) (n at len frames : ℕ) (ws : List ℕ) (inputs : List (List ℤ)) → len ≡ words_of (row_of k).words frames → Lies k at len (length ws) inputs
    → UnitMeans at len ws (bus_unit_over k now n ws at len inputs).0 (bus_unit_over k now n ws at len inputs).1 (bus_unit k now n (window ws at len) inputs (buses_of ws))
unfolding row_of bus_unit_over bus_unit
unit_means kinds.Inar now n at len frames ws inputs size lies = read_means at len ws _
unit_means kinds.InFeedback now n at len frames ws inputs size lies = read_means at len ws _
unit_means kinds.Inkr now n at len frames ws inputs size lies = read_means at len ws _
unit_means kinds.Outar now n at len frames ws inputs size lies = audio_means true (mixed now.block) now.block at len ws inputs (out_mixes now.block) size (lies.audio refl)
unit_means kinds.ReplaceOut now n at len frames ws inputs size lies = audio_means false (replaced now.block) now.block at len ws inputs (replace_mixes now.block) size (lies.audio refl)
unit_means kinds.Outkr now n at len frames ws inputs size lies = control_means now.block at len ws inputs size (lies.control refl)
unit_means k now n at len frames ws inputs size lies = trigger_means k now at len frames ws inputs size lies.apart lies.inside

-- ---- what may be written lies in the words

pub audio_inside : (f : Foot) (words : ℕ) (o : Option ℕ) → ((x : ℕ) → touches f x ≡ true → x < words) → MayWriteAudio f o → IsInside words o
audio_inside f words None inside may = tt
audio_inside f words (Some n) inside may = let last : 65 * n + 64 < words = inside (65 * n + 64) (may_touch f f (65 * n) 65 (65 * n + 64) may refl (omega arith) (omega arith)) in omega arith

pub control_inside : (f : Foot) (words : ℕ) (o : Option ℕ) → ((x : ℕ) → touches f x ≡ true → x < words) → MayWriteControl f o → IsControlInside words o
control_inside f words None inside may = tt
control_inside f words (Some n) inside may = let last : 8320 + 2 * n + 1 < words = inside (8320 + 2 * n + 1) (may_touch f f (8320 + 2 * n) 2 (8320 + 2 * n + 1) may refl (omega arith) (omega arith)) in omega arith

pub state_inside : (f : Foot) (at len words : ℕ) → MayWrite f at len → ((x : ℕ) → touches f x ≡ true → x < words) → 0 < len → at + len ≤ words
state_inside f at zero words may inside some = absurd (omega (arith, some))
state_inside f at (suc n) words may inside some = let last : at + n < words = inside (at + n) (may_touch f f at (suc n) (at + n) may refl (omega arith) (omega arith)) in omega arith

pub lies_in : (k : Kind) (f : Foot) (n at len words : ℕ) (inputs : List (List ℤ)) → (0 < len → 10368 ≤ at) → MayWrite f at len → MayReach k f n inputs → ((x : ℕ) → touches f x ≡ true → x < words) → Lies k at len words inputs
lies_in k f n at len words inputs apart state may inside = record {
  apart = apart;
  inside = state_inside f at len words state inside;
  audio = λ w i lt. audio_inside f words (audio_channel inputs i) inside (may.writes w i (omega (arith, lt)));
  control = λ w i lt. control_inside f words (control_channel inputs i) inside (may.sets w i (omega (arith, lt)));
}

pub run_means : (k : Kind) (now : Now) (n at len : ℕ) (f : Foot) (ws us : List ℕ) (inputs outputs : List (List ℤ)) → (row_of k).words ≡ Fixed len → (0 < len → 10368 ≤ at) → MayWrite f at len → MayReach k f n inputs → ((x : ℕ) → touches f x ≡ true → x < length ws)
    → us ≡ (bus_unit_over k now n ws at len inputs).0 → outputs ≡ (bus_unit_over k now n ws at len inputs).1 → UnitMeans at len ws us outputs (bus_unit k now n (window ws at len) inputs (buses_of ws))
run_means k now n at len f ws us inputs outputs size apart state may inside e o =
    let r : UnitBlock = bus_unit k now n (window ws at len) inputs (buses_of ws) in
    let w : List ℕ × List (List ℤ) = bus_unit_over k now n ws at len inputs in
    let P : List ℕ → Type 0 = λ (us : List ℕ). UnitMeans at len ws us outputs r in
    let Q : List (List ℤ) → Type 0 = λ (outputs : List (List ℤ)). UnitMeans at len ws w.0 outputs r in
    subst P (sym e) (subst Q (sym o) (unit_means k now n at len 0 ws inputs (sym (ap (λ (w : StateSize). words_of w 0) size)) (lies_in k f n at len (length ws) inputs apart state may inside)))
