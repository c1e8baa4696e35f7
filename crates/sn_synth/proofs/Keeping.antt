-- A synth changes no word but those that may be written.
use Rattle.std.proofs.Common.{◌≡◌, ◌≤◌, ◌<◌, ℕ, ◌+◌, Option, Bool, true, false, List, [], ◌∷◌, ℤ, length, get_or, refl, ap, sym, subst, ◌∙◌, ⊎_elim, inl, inr, arith, All}
use Rattle.std.specs.Prelude.{if◌then◌else◌}
use Rattle.std.proofs.lemmas.List.Elements.{All-head, All-tail}
use Rattle.sn_fixed.specs.Fixed.{frames_of}
use Rattle.sn_def.specs.declared.kind.Kind.{Kind}
use Rattle.sn_def.specs.declared.control.Now.{Now}
use Rattle.sn_def.specs.declared.unit.Unit.{Unit as UnitLine}
use Rattle.sn_def.specs.Units.{row_of}
use Rattle.sn_def.specs.StateWords.{unit_words, units_words, state_words, words_of, longest}
use Rattle.sn_def.specs.WellFormed.{UnitsFit}
use Rattle.sn_def.specs.Definition.{Definition}
use Rattle.sn_def.specs.declared.control.Control.{Control as SynthControl}
use Rattle.sn_mem.specs.declared.extents.Foot.{Foot}
use Rattle.sn_mem.specs.declared.buffers.BufferPlace.{BufferPlace}
use Rattle.sn_mem.specs.Words.{MayWrite, writes}
use Rattle.sn_mem.specs.Buffers.{MayBePlace}
use Rattle.sn_mem.specs.Blocks.{window, put}
use Rattle.sn_mem.specs.Buses.{control_buses}
use Rattle.sn_mem.proofs.Steps.{length-window}
use Rattle.sn_mem.proofs.Feet.{part_at}
use Rattle.sn_mem.proofs.Windows.{apart_put}
use Rattle.sn_io.specs.BusUnits.{is_bus_unit}
use Rattle.sn_io.specs.OverWords.{bus_unit_over}
use Rattle.sn_io.specs.Conditions.{MayReach}
use Rattle.sn_io.proofs.Keeping.{off_run, bus_unit_keeps}
use Rattle.sn_io.specs.BufferUnits.{is_buffer_unit}
use Rattle.sn_io.specs.BuffersOverWords.{buffer_unit_over}
use Rattle.sn_io.proofs.BufferKeeping.{buffer_unit_keeps}
use Rattle.sn_synth.specs.UnitBlocks.{inner}
use Rattle.sn_synth.specs.Synths.{now_of, input_blocks, control_values}
use Rattle.sn_synth.specs.Words.{plain_after, unit_after, Going, after_unit, after_units, begun, synth_words}
use Rattle.sn_synth.specs.Conditions.{AreControlsOf, MayPlayAll, Reaches, MayOutput}
use Rattle.sn_synth.proofs.RowLaws.{state_long}
use Rattle.sn_synth.proofs.Indices.{may_output}
use Rattle.sn_synth.proofs.Picturing.{further}

either : (t : Bool) (a b : List ℕ × List (List ℤ)) (ws : List ℕ) (j : ℕ) → (t ≡ true → get_or a.0 j 0 ≡ get_or ws j 0) → (t ≡ false → get_or b.0 j 0 ≡ get_or ws j 0) → (let w : List ℕ × List (List ℤ) = if t then a else b in get_or w.0 j 0 ≡ get_or ws j 0)
either true a b ws j h k = h refl
either false a b ws j h k = k refl

plain_keeps : (k : Kind) (now : Now) (f : Foot) (c : ℕ) (ws : List ℕ) (at n frames : ℕ) (inputs : List (List ℤ)) (j : ℕ) → MayWrite f at n → n ≡ words_of (row_of k).words frames → MayReach k f c inputs → writes f j ≡ false → get_or (plain_after k now c ws at n inputs).0 j 0 ≡ get_or ws j 0
plain_keeps k now f c ws at n frames inputs j state size may off =
    let r : List ℕ × List (List ℤ) = inner k now (window ws at n) inputs in
    let wide : length (window ws at n) ≡ n = length-window ws at n in
    let long : length r.0 ≡ n = state_long k now (window ws at n) inputs frames (wide ∙ size) ∙ wide in
    either (is_bus_unit k) (bus_unit_over k now c ws at n inputs) (put ws at r.0, r.1) ws j
    (λ is_bus. bus_unit_keeps k now f c ws at n frames inputs j state size may off)
    (λ not_bus. apart_put ws at j r.0 (⊎_elim (λ (l : j < at). inl l) (λ (h : at + n ≤ j). inr (omega (arith, long, h))) (off_run f at n j state off)))

unit_keeps : (k : Kind) (now : Now) (f : Foot) (c : ℕ) (places : List (Option BufferPlace)) (ws : List ℕ) (at n frames : ℕ) (inputs : List (List ℤ)) (j : ℕ) → MayWrite f at n → n ≡ words_of (row_of k).words frames → Reaches k f places c inputs → writes f j ≡ false → get_or (unit_after k now c places ws at n inputs).0 j 0 ≡ get_or ws j 0
unit_keeps k now f c places ws at n frames inputs j state size may off =
    either (is_buffer_unit k) (buffer_unit_over k now c places ws at n inputs) (plain_after k now c ws at n inputs) ws j
    (λ is_buffer. buffer_unit_keeps k now f c places ws at n frames inputs j state (sym size) may.buffer off)
    (λ not_buffer. plain_keeps k now f c ws at n frames inputs j state size may.buses off)

step_keeps : (rate b : ℕ) (node : ℤ) (places : List (Option BufferPlace)) (values : List ℤ) (f : Foot) (g : Going) (u : UnitLine) (j : ℕ) → MayWrite f g.at (unit_words rate u) → MayOutput f places values u → writes f j ≡ false → get_or (after_unit rate b node places values g u).words j 0 ≡ get_or g.words j 0
unfolding after_unit unit_words
step_keeps rate b node places values f g u j state may off =
    let ins : List (List ℤ) = input_blocks values g.wires u.inputs in
    let frames : ℕ = frames_of (longest (row_of u.kind).inputs u.inputs) rate in
    unit_keeps u.kind (now_of rate b node g.number) f u.outputs places g.words g.at (words_of (row_of u.kind).words frames) frames ins j state refl (may g.wires) off

pub units_keep : (rate b : ℕ) (node : ℤ) (places : List (Option BufferPlace)) (values : List ℤ) (f : Foot) (us : List UnitLine) (g : Going) (j : ℕ) → MayWrite f g.at (units_words rate us) → All (MayOutput f places values) us → writes f j ≡ false → get_or (after_units rate b node places values us g).words j 0 ≡ get_or g.words j 0
units_keep rate b node places values f [] g j state may off = refl
units_keep rate b node places values f (u ∷ us) g j state may off =
    let g' : Going = after_unit rate b node places values g u in
    let P : ℕ → Type 0 = λ at. MayWrite f at (units_words rate us) in
    let rest : MayWrite f g'.at (units_words rate us) = subst P (sym (further rate b node places values g u)) (part_at f f g.at (unit_words rate u + units_words rate us) (g.at + unit_words rate u) (units_words rate us) state refl (omega arith) (omega arith)) in
    units_keep rate b node places values f us g' j rest (All-tail (MayOutput f places values) u us may) off
    ∙ step_keeps rate b node places values f g u j (part_at f f g.at (unit_words rate u + units_words rate us) g.at (unit_words rate u) state refl (omega arith) (omega arith)) (All-head (MayOutput f places values) u us may) off

-- the words us after a synth's block
pub run_keeps : (rate b : ℕ) (node : ℤ) (f : Foot) (places : List (Option BufferPlace)) (d : Definition) (controls : List SynthControl) (at len : ℕ) (ws us : List ℕ) → us ≡ synth_words rate b node d controls places at ws → AreControlsOf d controls → UnitsFit (length d.controls) 0 d.units → All MayBePlace places → MayPlayAll f places controls d → len ≡ state_words rate d → MayWrite f at len
    → (j : ℕ) → writes f j ≡ false → get_or us j 0 ≡ get_or ws j 0
run_keeps rate b node f places d controls at len ws us e are fit each may size state j off =
    let values : List ℤ = control_values (control_buses ws) controls in
    let outputs : All (MayOutput f places values) d.units = may_output f f places d controls (control_buses ws) values d.units are fit each may refl refl refl in
    let P : ℕ → Type 0 = λ n. MayWrite f at n in
    ap (λ (us : List ℕ). get_or us j 0) e ∙ units_keep rate b node places values f d.units (begun ws at) j (subst P size state) outputs off
