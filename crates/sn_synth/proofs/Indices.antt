-- The index of a unit on buses or on a buffer is the same whatever the wires and the control buses hold.
use Rattle.std.proofs.Common.{◌≡◌, ◌≤◌, ◌<◌, ℕ, zero, suc, ◌+◌, ◌==◌, List, [], ◌∷◌, ℤ, pos, ◌+ℤ◌, Bool, true, length, get_or, refl, ap, sym, subst, ◌∙◌, arith, All, lit<, Option, Some, None}
use Rattle.std.specs.Prelude.{zip}
use Rattle.std.specs.List.{list_any}
use Rattle.std.proofs.lemmas.Bool.{eq-eqb, or_left, or_right}
use Rattle.std.proofs.lemmas.List.Elements.{All-head, All-tail}
use Rattle.std.proofs.lemmas.List.{get_or-replicate, get_or-map, length-map}
use Rattle.sn_def.specs.declared.table.Mark.{Mark}
use Rattle.sn_def.specs.declared.table.Mark.TheVariants.{Index}
use Rattle.sn_def.specs.declared.table.Access.TheVariants as accesses
use Rattle.sn_def.specs.declared.table.Bank.TheVariants as banks
use Rattle.sn_def.specs.declared.control.Control.{Control as SynthControl}
use Rattle.sn_def.specs.declared.unit.Input.{Input}
use Rattle.sn_def.specs.declared.unit.Input.TheVariants.{Literal, Control, Wire}
use Rattle.sn_def.specs.declared.unit.Unit.{Unit as UnitLine}
use Rattle.sn_def.specs.Units.{row_of}
use Rattle.sn_def.specs.Definition.{Definition}
use Rattle.sn_def.specs.Asked.{is_index_input, has_index, is_index}
use Rattle.sn_def.specs.WellFormed.{AreAllowed, UnitFits, UnitsFit}
use Rattle.sn_mem.specs.declared.extents.Foot.{Foot}
use Rattle.sn_mem.specs.declared.buffers.BufferPlace.{BufferPlace}
use Rattle.sn_mem.specs.Blocks.{sample}
use Rattle.sn_mem.specs.Buffers.{MayBePlace}
use Rattle.sn_mem.specs.Buses.{ControlBus, audio_number}
use Rattle.sn_io.specs.Channels.{control_number}
use Rattle.sn_io.specs.BufferUnits.{is_buffer_unit, numbered}
use Rattle.sn_io.specs.Conditions.{MayReadAudio, MayReadControl, MayWriteAudio, MayWriteControl, MayReadBuffer, MayWriteBuffer, IsWholeIfSome}
use Rattle.sn_synth.specs.Synths.{followed, control_value, control_values, input_block, input_blocks}
use Rattle.sn_synth.specs.Conditions.{AreControlsOf, no_control, index_value, index_of, MayPlay, MayPlayAll, Reaches, MayOutput}
use Rattle.sn_def.proofs.RowLaws.{first_index, bus_index, on_a_buffer}

any_at : {A : Type 0} (p : A → Bool) (xs : List A) (k : ℕ) (d : A) → k < length xs → p (get_or xs k d) ≡ true → list_any p xs ≡ true
any_at p [] k d lt h = absurd (omega arith)
any_at p (x ∷ xs) zero d lt h = or_left (p x) (list_any p xs) h
any_at p (x ∷ xs) (suc k) d lt h = or_right (p x) (list_any p xs) (any_at p xs k d (omega arith) h)

pub fit_at : (c w : ℕ) (us : List UnitLine) (k : ℕ) (d : UnitLine) → UnitsFit c w us → k < length us → (w' : ℕ) × UnitFits c w' (get_or us k d)
fit_at c w [] k d h lt = absurd (omega arith)
fit_at c w (u ∷ us) zero d h lt = (w, h.0)
fit_at c w (u ∷ us) (suc k) d h lt = fit_at c (w + u.outputs) us k d h.1 (omega arith)

-- a control with a bus of its own stands at its value
own_value : (buses : List ControlBus) (controls : List SynthControl) (k : ℕ) → k < length controls → (get_or controls k no_control).bus ≡ None → get_or (control_values buses controls) k (pos 0) ≡ (get_or controls k no_control).value
own_value buses controls k lt e = get_or-map (control_value buses) controls k no_control (pos 0) lt ∙ ap (followed buses (get_or controls k no_control).value) e

index_input : (d : Definition) (controls : List SynthControl) (buses : List ControlBus) (wires : List (List ℤ)) (ms : List Mark) (w : ℕ) (xs : List Input) → AreControlsOf d controls → AreAllowed (Index ∷ ms) (length d.controls) w 0 xs → 1 ≤ length xs
    → ((k : ℕ) → list_any (λ p. is_index_input k p.0 p.1) (zip (Index ∷ ms) xs) ≡ true → is_index d k ≡ true)
    → sample (input_blocks (control_values buses controls) wires xs) 0 0 ≡ index_value controls (get_or xs 0 (Literal (pos 0)))
index_input d controls buses wires ms w [] are a long h = absurd (omega arith)
index_input d controls buses wires ms w (Literal v ∷ xs) are a long h = get_or-replicate 64 0 v (pos 0) (lit< tt)
index_input d controls buses wires ms w (Control k ∷ xs) are a long h =
    let low : k < length controls = let e = are.one_each in let l : k < length d.controls = a.0 in omega arith in
    get_or-replicate 64 0 (get_or (control_values buses controls) k (pos 0)) (pos 0) (lit< tt)
    ∙ own_value buses controls k low (are.indices k (h k (or_left (k == k) (list_any (λ p. is_index_input k p.0 p.1) (zip ms xs)) (eq-eqb k k refl))))
index_input d controls buses wires ms w (Wire k ∷ xs) are a long h = absurd a.0

has_index_of : (u : UnitLine) (ms : List Mark) (k : ℕ) → (row_of u.kind).inputs ≡ Index ∷ ms → list_any (λ p. is_index_input k p.0 p.1) (zip (Index ∷ ms) u.inputs) ≡ true → has_index k u ≡ true
unfolding has_index
has_index_of u ms k e h = let P : List Mark → Type 0 = λ (marks : List Mark). list_any (λ p. is_index_input k p.0 p.1) (zip marks u.inputs) ≡ true in subst P (sym e) h

pub index_is : (d : Definition) (controls : List SynthControl) (buses : List ControlBus) (wires : List (List ℤ)) (ms : List Mark) (k : ℕ) (e : UnitLine) → AreControlsOf d controls → UnitsFit (length d.controls) 0 d.units → k < length d.units → (row_of (get_or d.units k e).kind).inputs ≡ Index ∷ ms
    → sample (input_blocks (control_values buses controls) wires (get_or d.units k e).inputs) 0 0 ≡ index_of controls (get_or d.units k e)
index_is d controls buses wires ms k e are fit lt first =
    let u : UnitLine = get_or d.units k e in
    let (w, fits) = fit_at (length d.controls) 0 d.units k e fit lt in
    let P : List Mark → Type 0 = λ (marks : List Mark). AreAllowed marks (length d.controls) w 0 u.inputs in
    let count : length (row_of u.kind).inputs ≡ suc (length ms) = ap (λ (marks : List Mark). length marks) first in
    let least = fits.fewest_inputs in
    index_input d controls buses wires ms w u.inputs are (subst P first fits.inputs) (omega arith) (λ n h. any_at (has_index n) d.units k e lt (has_index_of u ms n first h))

-- what is at the number of a buffer
whole_of : (p : Option BufferPlace) → MayBePlace p → IsWholeIfSome p
whole_of None is = tt
whole_of (Some p) is = record { some = is.frames; short = is.short; size = is.size }

whole_at : (n : ℕ) (ps : List (Option BufferPlace)) → All MayBePlace ps → IsWholeIfSome (get_or ps n None)
whole_at n [] are = tt
whole_at zero (p ∷ ps) are = whole_of p (All-head MayBePlace p ps are)
whole_at (suc n) (p ∷ ps) are = whole_at n ps (All-tail MayBePlace p ps are)

whole : (o : Option ℕ) (ps : List (Option BufferPlace)) → All MayBePlace ps → IsWholeIfSome (numbered o ps)
whole None ps are = tt
whole (Some n) ps are = whole_at n ps are

-- what a unit reaches, by the blocks of its inputs
pub reaches : (f : Foot) (places : List (Option BufferPlace)) (d : Definition) (controls : List SynthControl) (buses : List ControlBus) (wires : List (List ℤ)) (k : ℕ) (e : UnitLine) → AreControlsOf d controls → UnitsFit (length d.controls) 0 d.units → k < length d.units → All MayBePlace places → MayPlay f places controls (get_or d.units k e)
    → Reaches (get_or d.units k e).kind f places (get_or d.units k e).outputs (input_blocks (control_values buses controls) wires (get_or d.units k e).inputs)
reaches f places d controls buses wires k e are fit lt each may =
    let u : UnitLine = get_or d.units k e in
    let inputs : List (List ℤ) = input_blocks (control_values buses controls) wires u.inputs in
    let index : (row_of u.kind).inputs ≡ Index ∷ [] → sample inputs 0 0 ≡ index_of controls u = index_is d controls buses wires [] k e are fit lt in
    let first : is_buffer_unit u.kind ≡ true → sample inputs 0 0 ≡ index_of controls u = λ h. let (ms, is) = first_index u.kind h in index_is d controls buses wires ms k e are fit lt is in
    let long : length inputs ≡ length u.inputs = length-map u.inputs (input_block (control_values buses controls) wires) in
    record {
      buses = record {
        hears = λ is i low. let P : ℤ → Type 0 = λ (z : ℤ). MayReadAudio f (audio_number (z +ℤ pos i)) in subst P (sym (index (bus_index accesses.Read banks.Audio u.kind refl is))) (may.hears is i low);
        reads = λ is i low. let P : ℤ → Type 0 = λ (z : ℤ). MayReadControl f (control_number (z +ℤ pos i)) in subst P (sym (index (bus_index accesses.Read banks.Control u.kind refl is))) (may.reads is i low);
        writes = λ is i low. let P : ℤ → Type 0 = λ (z : ℤ). MayWriteAudio f (audio_number (z +ℤ pos i)) in subst P (sym (index (bus_index accesses.Write banks.Audio u.kind refl is))) (may.writes is i (omega (arith, long, low)));
        sets = λ is i low. let P : ℤ → Type 0 = λ (z : ℤ). MayWriteControl f (control_number (z +ℤ pos i)) in subst P (sym (index (bus_index accesses.Write banks.Control u.kind refl is))) (may.sets is i (omega (arith, long, low)));
      };
      buffer = record {
        whole = whole (control_number (sample inputs 0 0)) places each;
        reads = λ is. let P : ℤ → Type 0 = λ (z : ℤ). MayReadBuffer f (numbered (control_number z) places) in subst P (sym (first (on_a_buffer accesses.Read u.kind is))) (may.plays is);
        writes = λ is. let P : ℤ → Type 0 = λ (z : ℤ). MayWriteBuffer f (numbered (control_number z) places) in subst P (sym (first (on_a_buffer accesses.Write u.kind is))) (may.records is);
      };
    }

pub may_output : (f f' : Foot) (places : List (Option BufferPlace)) (d : Definition) (controls : List SynthControl) (buses : List ControlBus) (values : List ℤ) (us : List UnitLine) → AreControlsOf d controls → UnitsFit (length d.controls) 0 d.units → All MayBePlace places → MayPlayAll f places controls d → f' ≡ f → values ≡ control_values buses controls → us ≡ d.units → All (MayOutput f' places values) us
may_output f f' places d controls buses values us are fit each may e v s =
    let F : Foot → Type 0 = λ (f : Foot). All (MayOutput f places values) us in
    let V : List ℤ → Type 0 = λ (values : List ℤ). All (MayOutput f places values) us in
    let U : List UnitLine → Type 0 = λ (us : List UnitLine). All (MayOutput f places (control_values buses controls)) us in
    subst F (sym e) (subst V (sym v) (subst U (sym s) (λ k d' lt wires. reaches f places d controls buses wires k d' are fit lt each (may k d' lt))))
