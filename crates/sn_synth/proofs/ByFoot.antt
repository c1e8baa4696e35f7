-- What a synth makes of words depends on those that it may touch.
use Rattle.std.proofs.Common.{◌≡◌, ℕ, ◌+◌, Option, Some, None, Bool, true, false, List, [], ◌∷◌, ◌++◌, ℤ, length, refl, ap, subst, ◌∙◌, arith, All}
use Rattle.std.specs.Prelude.{if◌then◌else◌}
use Rattle.std.proofs.lemmas.List.Elements.{All-head, All-tail}
use Rattle.sn_def.specs.declared.kind.Kind.{Kind}
use Rattle.sn_def.specs.declared.control.Now.{Now}
use Rattle.sn_def.specs.declared.unit.Unit.{Unit as UnitLine}
use Rattle.sn_def.specs.StateWords.{unit_words, units_words, state_words}
use Rattle.sn_def.specs.WellFormed.{UnitsFit}
use Rattle.sn_def.specs.Definition.{Definition}
use Rattle.sn_def.specs.declared.control.Control.{Control as SynthControl}
use Rattle.sn_mem.specs.declared.extents.Extent.{Extent}
use Rattle.sn_mem.specs.declared.extents.Foot.{Foot}
use Rattle.sn_mem.specs.declared.buffers.BufferPlace.{BufferPlace}
use Rattle.sn_mem.specs.Words.{MayWrite, touches}
use Rattle.sn_mem.specs.Buffers.{MayBePlace}
use Rattle.sn_mem.specs.Blocks.{window, put}
use Rattle.sn_mem.specs.Buses.{ControlBus, control_buses}
use Rattle.sn_mem.proofs.Steps.{length-put}
use Rattle.sn_mem.proofs.Feet.{part_at, may_touch}
use Rattle.sn_io.specs.BusUnits.{is_bus_unit}
use Rattle.sn_io.specs.OverWords.{bus_unit_over}
use Rattle.sn_io.specs.Conditions.{MayReach, MayReadControl}
use Rattle.sn_io.specs.ByFoot.{Agree, BlocksAgree, IsByFoot}
use Rattle.sn_io.proofs.Agreeing.{agree_state}
use Rattle.sn_io.proofs.BusByFoot.{control_read, bus_unit_by_foot, bus_unit_long}
use Rattle.sn_io.specs.BufferUnits.{is_buffer_unit}
use Rattle.sn_io.specs.BuffersOverWords.{buffer_unit_over}
use Rattle.sn_io.proofs.BufferByFoot.{buffer_unit_by_foot}
use Rattle.sn_io.proofs.BufferKeeping.{buffer_unit_long}
use Rattle.sn_synth.specs.UnitBlocks.{inner}
use Rattle.sn_synth.specs.Synths.{now_of, followed, control_values, input_blocks}
use Rattle.sn_synth.specs.Words.{plain_after, unit_after, Going, after_unit, after_units, begun, synth_words}
use Rattle.sn_synth.specs.Conditions.{AreControlsOf, IsFollowed, MayFollow, MayRun, Reaches, MayOutput}
use Rattle.sn_synth.proofs.Indices.{may_output}
use Rattle.sn_synth.proofs.Keeping.{run_keeps}

-- ---- one unit

either_agrees : (seen : ℕ → Bool) (t : Bool) (a b a' b' : List ℕ × List (List ℤ)) → (t ≡ true → BlocksAgree seen a a') → (t ≡ false → BlocksAgree seen b b') → BlocksAgree seen (if t then a else b) (if t then a' else b')
either_agrees seen true a b a' b' h k = h refl
either_agrees seen false a b a' b' h k = k refl

inner_agrees : (k : Kind) (now : Now) (f : Foot) (us ws : List ℕ) (at n : ℕ) (inputs : List (List ℤ)) → MayWrite f at n → Agree (touches f) us ws
    → BlocksAgree (touches f) (put us at (inner k now (window us at n) inputs).0, (inner k now (window us at n) inputs).1) (put ws at (inner k now (window ws at n) inputs).0, (inner k now (window ws at n) inputs).1)
inner_agrees k now f us ws at n inputs state a = agree_state (touches f) (λ (st : List ℕ). inner k now st inputs) us ws at n (λ j p q. may_touch f f at n j state refl p q) a

plain_by_foot : (k : Kind) (now : Now) (f : Foot) (c : ℕ) (us ws : List ℕ) (at n : ℕ) (inputs : List (List ℤ)) → MayWrite f at n → MayReach k f c inputs → Agree (touches f) us ws → BlocksAgree (touches f) (plain_after k now c us at n inputs) (plain_after k now c ws at n inputs)
plain_by_foot k now f c us ws at n inputs state may a =
    either_agrees (touches f) (is_bus_unit k) (bus_unit_over k now c us at n inputs) (put us at (inner k now (window us at n) inputs).0, (inner k now (window us at n) inputs).1) (bus_unit_over k now c ws at n inputs) (put ws at (inner k now (window ws at n) inputs).0, (inner k now (window ws at n) inputs).1)
    (λ is_bus. bus_unit_by_foot k now f c us ws at n inputs state may a)
    (λ not_bus. inner_agrees k now f us ws at n inputs state a)

pub unit_by_foot : (k : Kind) (now : Now) (f : Foot) (c : ℕ) (places : List (Option BufferPlace)) (us ws : List ℕ) (at n : ℕ) (inputs : List (List ℤ)) → MayWrite f at n → Reaches k f places c inputs → Agree (touches f) us ws → BlocksAgree (touches f) (unit_after k now c places us at n inputs) (unit_after k now c places ws at n inputs)
unit_by_foot k now f c places us ws at n inputs state may a =
    either_agrees (touches f) (is_buffer_unit k) (buffer_unit_over k now c places us at n inputs) (plain_after k now c us at n inputs) (buffer_unit_over k now c places ws at n inputs) (plain_after k now c ws at n inputs)
    (λ is_buffer. buffer_unit_by_foot k now f c places us ws at n inputs state may.buffer a)
    (λ not_buffer. plain_by_foot k now f c us ws at n inputs state may.buses a)

-- ---- units in order

-- where a synth stands, over these words
unfoldable pub standing : List (List ℤ) → ℕ → ℕ → List ℕ → Going
standing wires at number words = record { words = words; wires = wires; at = at; number = number }

units_by_foot : (rate b : ℕ) (node : ℤ) (places : List (Option BufferPlace)) (values : List ℤ) (f : Foot) (lines : List UnitLine) (wires : List (List ℤ)) (at number : ℕ) (us ws : List ℕ) → MayWrite f at (units_words rate lines) → All (MayOutput f places values) lines → Agree (touches f) us ws
    → Agree (touches f) (after_units rate b node places values lines (standing wires at number us)).words (after_units rate b node places values lines (standing wires at number ws)).words
unfolding after_unit standing
units_by_foot rate b node places values f [] wires at number us ws state may a = a
units_by_foot rate b node places values f (u ∷ lines) wires at number us ws state may a =
    let len : ℕ = unit_words rate u in
    let ins : List (List ℤ) = input_blocks values wires u.inputs in
    let now : Now = now_of rate b node number in
    let r : List ℕ × List (List ℤ) = unit_after u.kind now u.outputs places us at len ins in
    let s : List ℕ × List (List ℤ) = unit_after u.kind now u.outputs places ws at len ins in
    let one : BlocksAgree (touches f) r s = unit_by_foot u.kind now f u.outputs places us ws at len ins (part_at f f at (len + units_words rate lines) at len state refl (omega arith) (omega arith)) (All-head (MayOutput f places values) u lines may wires) a in
    let rest : MayWrite f (at + len) (units_words rate lines) = part_at f f at (len + units_words rate lines) (at + len) (units_words rate lines) state refl (omega arith) (omega arith) in
    let P : List (List ℤ) → Type 0 = λ (outs : List (List ℤ)). Agree (touches f) (after_units rate b node places values lines (standing (wires ++ r.1) (at + len) (number + 1) r.0)).words (after_units rate b node places values lines (standing (wires ++ outs) (at + len) (number + 1) s.0)).words in
    subst P one.outputs (units_by_foot rate b node places values f lines (wires ++ r.1) (at + len) (number + 1) r.0 s.0 rest (All-tail (MayOutput f places values) u lines may) one.words)

-- ---- the number of the words

either_long : (t : Bool) (a b : List ℕ × List (List ℤ)) (n : ℕ) → length a.0 ≡ n → length b.0 ≡ n → (let w : List ℕ × List (List ℤ) = if t then a else b in length w.0 ≡ n)
either_long true a b n h k = h
either_long false a b n h k = k

unit_long : (k : Kind) (now : Now) (c : ℕ) (places : List (Option BufferPlace)) (ws : List ℕ) (at n : ℕ) (inputs : List (List ℤ)) → length (unit_after k now c places ws at n inputs).0 ≡ length ws
unit_long k now c places ws at n inputs =
    either_long (is_buffer_unit k) (buffer_unit_over k now c places ws at n inputs) (plain_after k now c ws at n inputs) (length ws)
    (buffer_unit_long k now c places ws at n inputs)
    (either_long (is_bus_unit k) (bus_unit_over k now c ws at n inputs) (put ws at (inner k now (window ws at n) inputs).0, (inner k now (window ws at n) inputs).1) (length ws)
    (bus_unit_long k now c ws at n inputs)
    (length-put ws at (inner k now (window ws at n) inputs).0))

pub units_long : (rate b : ℕ) (node : ℤ) (places : List (Option BufferPlace)) (values : List ℤ) (lines : List UnitLine) (g : Going) → length (after_units rate b node places values lines g).words ≡ length g.words
unfolding after_unit
units_long rate b node places values [] g = refl
units_long rate b node places values (u ∷ lines) g =
    units_long rate b node places values lines (after_unit rate b node places values g u)
    ∙ unit_long u.kind (now_of rate b node g.number) u.outputs places g.words g.at (unit_words rate u) (input_blocks values g.wires u.inputs)

-- ---- a synth

value_same : (f : Foot) (us ws : List ℕ) (own : ℤ) (o : Option ℕ) → MayReadControl f o → IsFollowed o → Agree (touches f) us ws → followed (control_buses us) own o ≡ followed (control_buses ws) own o
value_same f us ws own None may is a = refl
value_same f us ws own (Some n) may is a = ap (λ (bus : ControlBus). bus.value) (control_read f us ws n is may a)

pub values_same : (f : Foot) (us ws : List ℕ) (controls : List SynthControl) → MayFollow f controls → All (λ (c : SynthControl). IsFollowed c.bus) controls → Agree (touches f) us ws → control_values (control_buses us) controls ≡ control_values (control_buses ws) controls
values_same f us ws [] may are a = refl
values_same f us ws (c ∷ controls) may are a = λ i.
    value_same f us ws c.value c.bus (All-head (λ (c : SynthControl). MayReadControl f c.bus) c controls may) (All-head (λ (c : SynthControl). IsFollowed c.bus) c controls are) a i
    ∷ values_same f us ws controls (All-tail (λ (c : SynthControl). MayReadControl f c.bus) c controls may) (All-tail (λ (c : SynthControl). IsFollowed c.bus) c controls are) a i

synth_agrees : (rate b : ℕ) (node : ℤ) (f : Foot) (places : List (Option BufferPlace)) (d : Definition) (controls : List SynthControl) (state : Extent) (us ws : List ℕ)
    → AreControlsOf d controls → UnitsFit (length d.controls) 0 d.units → All MayBePlace places → state.len ≡ state_words rate d → MayRun f places controls d state
    → Agree (touches f) us ws → Agree (touches f) (synth_words rate b node d controls places state.at us) (synth_words rate b node d controls places state.at ws)
unfolding standing
synth_agrees rate b node f places d controls state us ws are fit each size may a =
    let values : List ℤ = control_values (control_buses us) controls in
    let same : values ≡ control_values (control_buses ws) controls = values_same f us ws controls may.follows are.followed a in
    let outputs : All (MayOutput f places values) d.units = may_output f f places d controls (control_buses us) values d.units are fit each may.plays refl refl refl in
    let P : ℕ → Type 0 = λ n. MayWrite f state.at n in
    let Q : List ℤ → Type 0 = λ (values : List ℤ). Agree (touches f) (synth_words rate b node d controls places state.at us) (after_units rate b node places values d.units (begun ws state.at)).words in
    subst Q same (units_by_foot rate b node places values f d.units [] state.at 0 us ws (subst P size may.keeps) outputs a)

pub synth_by_foot : (rate b : ℕ) (node : ℤ) (f : Foot) (places : List (Option BufferPlace)) (d : Definition) (controls : List SynthControl) (state : Extent)
    → AreControlsOf d controls → UnitsFit (length d.controls) 0 d.units → All MayBePlace places → state.len ≡ state_words rate d → MayRun f places controls d state
    → IsByFoot f (synth_words rate b node d controls places state.at)
synth_by_foot rate b node f places d controls state are fit each size may = record {
  long = λ ws. units_long rate b node places (control_values (control_buses ws) controls) d.units (begun ws state.at);
  keeps = λ ws x off. run_keeps rate b node f places d controls state.at state.len ws (synth_words rate b node d controls places state.at ws) refl are fit each may.plays size may.keeps x off;
  agree = λ us ws a. synth_agrees rate b node f places d controls state us ws are fit each size may a;
}
