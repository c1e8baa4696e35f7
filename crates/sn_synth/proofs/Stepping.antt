-- One more unit.
use Rattle.std.proofs.Common.{◌≡◌, ◌≤◌, ◌<◌, ℕ, ◌+◌, Option, List, [], ◌∷◌, ◌++◌, ℤ, length, get_or, take, drop, refl, ap, sym, subst, ◌∙◌, arith, All}
use Rattle.std.proofs.lemmas.List.{drop_more, length-map}
use Rattle.std.proofs.lemmas.List.Sums.{fold_more}
use Rattle.std.proofs.lemmas.List.Elements.{All-nil, All-cons}
use Rattle.sn_def.specs.declared.control.Now.{Now}
use Rattle.sn_def.specs.declared.table.Mark.{Mark}
use Rattle.sn_def.specs.declared.table.Mark.TheVariants.{Signal, Index, Constant, Longest}
use Rattle.sn_def.specs.declared.unit.Input.{Input}
use Rattle.sn_def.specs.declared.unit.Input.TheVariants.{Literal, Control, Wire}
use Rattle.sn_def.specs.declared.unit.Unit.{Unit as UnitLine}
use Rattle.sn_def.specs.Units.{row_of}
use Rattle.sn_def.specs.Reading.{mark_at}
use Rattle.sn_def.specs.StateWords.{unit_words, units_words, words_of}
use Rattle.sn_filt.specs.Rings.{most_frames}
use Rattle.sn_def.specs.WellFormed.{IsAllowed, AreAllowed, UnitFits, UnitsFit, outputs_of}
use Rattle.sn_mem.specs.declared.extents.Foot.{Foot}
use Rattle.sn_mem.specs.declared.buffers.BufferPlace.{BufferPlace}
use Rattle.sn_mem.specs.Words.{MayWrite}
use Rattle.sn_mem.specs.Buffers.{AreApart}
use Rattle.sn_mem.proofs.BufferWords.{part_apart}
use Rattle.sn_mem.proofs.Feet.{part_at}
use Rattle.sn_synth.specs.Synths.{input_block, input_blocks, now_of}
use Rattle.sn_synth.specs.Words.{unit_after, Going, after_unit, after_units}
use Rattle.sn_synth.specs.Conditions.{IsKnown, AreKnown, Reaches, MayOutput, CanRun}
use Rattle.sn_def.proofs.RowLaws.{inputs_few}
use Rattle.sn_synth.proofs.RowLaws.{played, same_words, outputs_long}

-- ---- what a unit line that fits allows

known_one : (m : Mark) (c w : ℕ) (x : Input) → IsAllowed m c w x → IsKnown c w x
known_one m c w (Literal v) h = tt
known_one Signal c w (Control k) h = h
known_one Index c w (Control k) h = h
known_one Constant c w (Control k) h = absurd h
known_one Longest c w (Control k) h = absurd h
known_one Signal c w (Wire k) h = h
known_one Index c w (Wire k) h = absurd h
known_one Constant c w (Wire k) h = absurd h
known_one Longest c w (Wire k) h = absurd h

known : (marks : List Mark) (c w i : ℕ) (xs : List Input) → AreAllowed marks c w i xs → All (IsKnown c w) xs
known marks c w i [] h = All-nil (IsKnown c w)
known marks c w i (x ∷ xs) h = All-cons (IsKnown c w) x xs (known_one (mark_at marks i) c w x h.0) (known marks c w (i + 1) xs h.1)

pub inputs_known : (c w c' w' : ℕ) (u : UnitLine) → c' ≡ c → w' ≡ w → UnitFits c w u → AreKnown c' w' u.inputs
inputs_known c w c' w' u e e' fits =
    let P : ℕ → Type 0 = λ (c : ℕ). AreKnown c w' u.inputs in let Q : ℕ → Type 0 = λ (w : ℕ). AreKnown c w u.inputs in
    subst P (sym e) (subst Q (sym e') (known (row_of u.kind).inputs c w 0 u.inputs fits.inputs))

pub inputs_at_most : (c w : ℕ) (u : UnitLine) → UnitFits c w u → length u.inputs ≤ 12
inputs_at_most c w u fits = let few = inputs_few u.kind in let most = fits.most_inputs in omega arith

long_blocks : (values : List ℤ) (wires : List (List ℤ)) (xs : List Input) → length (input_blocks values wires xs) ≡ length xs
long_blocks values wires xs = length-map xs (input_block values wires)

size_is : (rate c w : ℕ) (values : List ℤ) (wires : List (List ℤ)) (u : UnitLine) → UnitFits c w u → words_of (row_of u.kind).words (most_frames rate (input_blocks values wires u.inputs)) ≡ unit_words rate u
unfolding unit_words
size_is rate c w values wires u fits = let least = fits.fewest_inputs in same_words u.kind rate c w values wires u.inputs fits.inputs (omega arith)

pub can_run : (rate : ℕ) (f : Foot) (places : List (Option BufferPlace)) (at c w n len : ℕ) (values : List ℤ) (wires : List (List ℤ)) (u : UnitLine) → UnitFits c w u → MayOutput f places values u → n ≡ u.outputs → len ≡ unit_words rate u → (0 < len → 10368 ≤ at) → MayWrite f at len → AreApart (record { at = at; len = len }) places → CanRun u.kind rate f places n at len (input_blocks values wires u.inputs)
can_run rate f places at c w n len values wires u fits may many size apart state buffers =
    let long = long_blocks values wires u.inputs in
    let least = fits.fewest_inputs in
    let P : ℕ → Type 0 = λ n. Reaches u.kind f places n (input_blocks values wires u.inputs) in
    record {
      played = played u.kind;
      enough = omega arith;
      size = size_is rate c w values wires u fits ∙ sym size;
      apart = apart;
      state = state;
      buffers = buffers;
      reach = subst P (sym many) (may wires);
    }

pub outputs_are : (c w n : ℕ) (u : UnitLine) (now : Now) (places : List (Option BufferPlace)) (ws : List ℕ) (at len : ℕ) (inputs : List (List ℤ)) → UnitFits c w u → n ≡ u.outputs → length (unit_after u.kind now n places ws at len inputs).1 ≡ u.outputs
outputs_are c w n u now places ws at len inputs fits many =
    let P : ℕ → Type 0 = λ n. length (unit_after u.kind now n places ws at len inputs).1 ≡ u.outputs in
    subst P (sym many) (outputs_long u.kind now places ws at len inputs u.outputs fits.fewest_outputs fits.most_outputs)

-- ---- the units to come

-- they fit after so many wires, and their state words begin at a place
pub record Ahead (rate controls wires place end : ℕ) (us : List UnitLine) : Type 0 where
  pub fit : UnitsFit controls wires us
  pub room : wires + outputs_of us ≤ 512
  pub size : place + units_words rate us ≡ end

-- the next of them, and those after it
pub record Next (rate controls wires place end : ℕ) (u : UnitLine) (us : List UnitLine) : Type 0 where
  pub fits : UnitFits controls wires u
  pub room : wires + u.outputs ≤ 512
  pub size : place + unit_words rate u ≤ end
  pub ahead : Ahead rate controls (wires + u.outputs) (place + unit_words rate u) end us

next_of : (rate c w p end : ℕ) (u : UnitLine) (us : List UnitLine) → Ahead rate c w p end (u ∷ us) → Next rate c w p end u us
next_of rate c w p end u us a = let r = a.room in let s = a.size in record {
  fits = a.fit.0;
  room = omega arith;
  size = omega arith;
  ahead = record { fit = a.fit.1; room = omega arith; size = omega arith };
}

pub next_at : (rate c w p end : ℕ) (us : List UnitLine) (k : ℕ) (u : UnitLine) → k < length us → u ≡ get_or us k u → Ahead rate c w p end (drop k us) → Next rate c w p end u (drop (k + 1) us)
next_at rate c w p end us k u lt is a =
    let P : List UnitLine → Type 0 = λ (xs : List UnitLine). Ahead rate c w p end xs in
    let Q : UnitLine → Type 0 = λ (v : UnitLine). Next rate c w p end v (drop (k + 1) us) in
    subst Q (sym is) (next_of rate c w p end (get_or us k u) (drop (k + 1) us) (subst P (drop_more us k u lt) a))

pub ahead_at : (rate c w p w' p' end : ℕ) (us : List UnitLine) → w' ≡ w → p' ≡ p → Ahead rate c w p end us → Ahead rate c w' p' end us
ahead_at rate c w p w' p' end us e e' a =
    let P : ℕ → Type 0 = λ (w : ℕ). Ahead rate c w p' end us in let Q : ℕ → Type 0 = λ (p : ℕ). Ahead rate c w p end us in
    subst P (sym e) (subst Q (sym e') a)

-- ---- the fold

one : (rate b : ℕ) (node : ℤ) (places : List (Option BufferPlace)) (values : List ℤ) (g : Going) (u : UnitLine) (now : Now) (ws : List ℕ) (ins outs wires : List (List ℤ)) (many len : ℕ)
    → ins ≡ input_blocks values g.wires u.inputs → now ≡ now_of rate b node g.number → many ≡ u.outputs → len ≡ unit_words rate u
    → ws ≡ (unit_after u.kind now many places g.words g.at len ins).0 → outs ≡ (unit_after u.kind now many places g.words g.at len ins).1 → wires ≡ g.wires ++ outs
    → ◌≡◌ {A = Going} (record { words = ws; wires = wires; at = g.at + len; number = g.number + 1 }) (after_unit rate b node places values g u)
unfolding after_unit
one rate b node places values g u now ws ins outs wires many len i n m s w o a =
    let F : Now → ℕ → ℕ → List (List ℤ) → Going = λ (now : Now) (many len : ℕ) (ins : List (List ℤ)). record { words = (unit_after u.kind now many places g.words g.at len ins).0; wires = g.wires ++ (unit_after u.kind now many places g.words g.at len ins).1; at = g.at + len; number = g.number + 1 } in
    let e : ◌≡◌ {A = Going} (record { words = ws; wires = wires; at = g.at + len; number = g.number + 1 }) (F now many len ins) =
    ap (λ (ws : List ℕ). record { words = ws; wires = wires; at = g.at + len; number = g.number + 1 }) w
    ∙ ap (λ (wires : List (List ℤ)). record { words = (unit_after u.kind now many places g.words g.at len ins).0; wires = wires; at = g.at + len; number = g.number + 1 }) (a ∙ ap (λ (o : List (List ℤ)). g.wires ++ o) o) in
    e ∙ (ap (λ (now : Now). F now many len ins) n ∙ (ap (λ (many : ℕ). F (now_of rate b node g.number) many len ins) m ∙ (ap (λ (len : ℕ). F (now_of rate b node g.number) u.outputs len ins) s
    ∙ ap (λ (ins : List (List ℤ)). F (now_of rate b node g.number) u.outputs (unit_words rate u) ins) i)))

pub unit_more : (rate b : ℕ) (node : ℤ) (places : List (Option BufferPlace)) (values : List ℤ) (us : List UnitLine) (start g : Going) (k : ℕ) (u : UnitLine) (now : Now) (ws : List ℕ) (ins outs wires : List (List ℤ)) (many len : ℕ)
    → k < length us → u ≡ get_or us k u → g ≡ after_units rate b node places values (take k us) start
    → ins ≡ input_blocks values g.wires u.inputs → now ≡ now_of rate b node g.number → many ≡ u.outputs → len ≡ unit_words rate u
    → ws ≡ (unit_after u.kind now many places g.words g.at len ins).0 → outs ≡ (unit_after u.kind now many places g.words g.at len ins).1 → wires ≡ g.wires ++ outs
    → ◌≡◌ {A = Going} (record { words = ws; wires = wires; at = g.at + len; number = g.number + 1 }) (after_units rate b node places values (take (k + 1) us) start)
unit_more rate b node places values us start g k u now ws ins outs wires many len lt is e i n m s w o a =
    one rate b node places values g u now ws ins outs wires many len i n m s w o a
    ∙ (ap (λ (g : Going). after_unit rate b node places values g u) e
    ∙ (ap (after_unit rate b node places values (after_units rate b node places values (take k us) start)) is
    ∙ sym (fold_more (after_unit rate b node places values) start us k u lt)))

-- ---- the same for what a loop holds

pub known_at : (c w c' w' : ℕ) (u : UnitLine) (xs : List Input) → xs ≡ u.inputs → c' ≡ c → w' ≡ w → UnitFits c w u → AreKnown c' w' xs
known_at c w c' w' u xs e p q fits = let P : List Input → Type 0 = λ (xs : List Input). AreKnown c' w' xs in subst P (sym e) (inputs_known c w c' w' u p q fits)

pub gathered : (values values' : List ℤ) (wires ins : List (List ℤ)) (u : UnitLine) (xs : List Input) → ins ≡ input_blocks values' wires xs → xs ≡ u.inputs → values' ≡ values → ins ≡ input_blocks values wires u.inputs
gathered values values' wires ins u xs e p q = e ∙ (ap (input_blocks values' wires) p ∙ ap (λ (vs : List ℤ). input_blocks vs wires u.inputs) q)

pub can_at : (rate rate' : ℕ) (f f' : Foot) (places : List (Option BufferPlace)) (at total place c w n len : ℕ) (values : List ℤ) (wires ins : List (List ℤ)) (us : List UnitLine) (k : ℕ) (u : UnitLine)
    → k < length us → u ≡ get_or us k u → UnitFits c w u → All (MayOutput f places values) us → n ≡ u.outputs → len ≡ unit_words rate u → (0 < total → 10368 ≤ at) → MayWrite f at total → AreApart (record { at = at; len = total }) places
    → f' ≡ f → at ≤ place → place + unit_words rate u ≤ at + total → ins ≡ input_blocks values wires u.inputs → rate' ≡ rate → CanRun u.kind rate' f' places n place len ins
can_at rate rate' f f' places at total place c w n len values wires ins us k u lt is fits may many size apart state buffers e low high gather same =
    let P : UnitLine → Type 0 = λ (v : UnitLine). MayOutput f places values v in
    let F : Foot → Type 0 = λ (f : Foot). CanRun u.kind rate f places n place len ins in
    let I : List (List ℤ) → Type 0 = λ (ins : List (List ℤ)). CanRun u.kind rate f places n place len ins in
    let R : ℕ → Type 0 = λ rate. CanRun u.kind rate f' places n place len ins in
    let behind : 0 < len → 10368 ≤ place = λ some. let from : 10368 ≤ at = apart (omega (arith, some)) in omega arith in
    subst R (sym same) (subst F (sym e) (subst I (sym gather) (can_run rate f places place c w n len values wires u fits (subst P (sym is) (may k u lt)) many size behind (part_at f f at total place len state refl low (omega arith))
    (part_apart (record { at = at; len = total }) (record { at = place; len = len }) places low (omega arith) buffers))))
