-- The words after a synth's block hold the buses and the state words after it.
use Rattle.std.proofs.Common.{◌≡◌, ◌≤◌, ◌<◌, ◌⊎◌, ℕ, zero, suc, ◌+◌, ◌-◌, Bool, true, false, Option, List, [], ◌∷◌, ◌++◌, ℤ, length, get_or, refl, ap, sym, subst, ◌∙◌, ⊎_elim, inl, inr, arith, All}
use Rattle.std.specs.Prelude.{if◌then◌else◌}
use Rattle.std.proofs.lemmas.Bool.{cases_lt}
use Rattle.std.proofs.lemmas.Bool.Decides.{leb_tells}
use Rattle.std.proofs.lemmas.List.{ext_get_or}
use Rattle.std.proofs.lemmas.List.Elements.{All-head, All-tail}
use Rattle.sn_fixed.specs.Fixed.{frames_of}
use Rattle.sn_def.specs.declared.kind.Kind.{Kind}
use Rattle.sn_def.specs.declared.control.Now.{Now}
use Rattle.sn_def.specs.declared.unit.Unit.{Unit as UnitLine}
use Rattle.sn_def.specs.Units.{row_of}
use Rattle.sn_def.specs.StateWords.{unit_words, units_words, state_words, words_of, longest}
use Rattle.sn_def.specs.WellFormed.{UnitsFit}
use Rattle.sn_def.specs.Definition.{Definition}
use Rattle.sn_def.specs.declared.control.Control.{Control as SynthControl}
use Rattle.sn_mem.specs.declared.extents.Foot.{Foot}
use Rattle.sn_mem.specs.Words.{MayWrite, touches}
use Rattle.sn_mem.specs.Blocks.{window, put}
use Rattle.sn_mem.specs.declared.buffers.BufferPlace.{BufferPlace}
use Rattle.sn_mem.specs.Buses.{Buses, control_buses, buses_of}
use Rattle.sn_mem.specs.Buffers.{Buffer, buffers_of, Resources, resources_of, overlaps, live_places, MayBePlace, AreApart}
use Rattle.sn_mem.proofs.BufferWords.{AgreesOn, same_buffers, places_behind, in_extent, outside, part_apart}
use Rattle.sn_mem.proofs.Steps.{length-window, length-put}
use Rattle.sn_mem.proofs.Feet.{may_touch}
use Rattle.sn_mem.proofs.Puts.{in_put}
use Rattle.sn_mem.proofs.Windows.{window_at, window_window, window_put, apart_put}
use Rattle.sn_mem.proofs.BusLaws.{buses_same}
use Rattle.sn_io.specs.Channels.{audio_channel, control_channel}
use Rattle.sn_io.specs.BusUnits.{UnitBlock, is_bus_unit, bus_unit}
use Rattle.sn_io.specs.BufferUnits.{BufferBlock, is_buffer_unit, buffer_unit}
use Rattle.sn_io.specs.BuffersOverWords.{buffer_unit_over}
use Rattle.sn_io.specs.OverWords.{bus_unit_over}
use Rattle.sn_io.specs.Conditions.{MayReach, MayReachBuffer}
use Rattle.sn_io.proofs.Meaning.{UnitMeans as BusMeans, unit_means as bus_unit_means, audio_inside, control_inside, no_bus as off_buses}
use Rattle.sn_synth.specs.UnitBlocks.{inner, inner_block, plain_block, UnitEffect, on_buses, on_buffers, unit_block}
use Rattle.sn_synth.specs.Synths.{Playing, now_of, input_blocks, control_values, play_unit, play_units, before_units, synth_block}
use Rattle.sn_synth.specs.Words.{plain_after, unit_after, Going, after_unit, after_units, begun, synth_words}
use Rattle.sn_synth.specs.Conditions.{AreControlsOf, MayPlayAll, Reaches, MayOutput}
use Rattle.sn_synth.proofs.RowLaws.{state_long}
use Rattle.sn_synth.proofs.Indices.{may_output}
use Rattle.sn_io.proofs.BufferMeaning.{BufferMeans, buffer_unit_means}
use Rattle.sn_io.proofs.Standing.{no_buffers, stands}

-- Where the state lies: it has none of the buses' words, it is inside the words, and so is each word of the foot.
pub record Lies (f : Foot) (at len words : ℕ) : Type 0 where
  pub apart : 0 < len → 10368 ≤ at
  pub inside : 0 < len → at + len ≤ words
  pub foot : (x : ℕ) → touches f x ≡ true → x < words

-- ---- one unit that has no buffer

-- the words us and the outputs after a unit, whose part of the state begins at p, against its block
pub record PlainMeans (at len p : ℕ) (ws us : List ℕ) (outputs : List (List ℤ)) (r : UnitBlock) : Type 0 where
  pub buses : buses_of us ≡ r.buses
  pub state : window us at len ≡ put (window ws at len) p r.state
  pub gives : outputs ≡ r.outputs
  pub long : length us ≡ length ws
  pub others : (j : ℕ) → 10368 ≤ j → (j < at) ⊎ (at + len ≤ j) → get_or us j 0 ≡ get_or ws j 0

no_bus : (at len p n j : ℕ) → (0 < len → 10368 ≤ at) → p + n ≤ len → j < 10368 → (j < at + p) ⊎ (at + p + n ≤ j)
no_bus at len p n j apart le low = off_buses (at + p) n j (λ some. let from : 10368 ≤ at = apart (omega (arith, some, le)) in omega arith) low

put_inside : (ws : List ℕ) (at len p : ℕ) (xs : List ℕ) → p + length xs ≤ len → (0 < len → at + len ≤ length ws) → window (put ws (at + p) xs) at len ≡ put (window ws at len) p xs
unfolding put
put_inside ws at len p [] le inside = refl
put_inside ws at len p (x ∷ xs) le inside = window_put ws at len p (x ∷ xs) le (inside (omega (arith, le)))

inner_means : (k : Kind) (now : Now) (f : Foot) (ws : List ℕ) (at len p n frames : ℕ) (inputs : List (List ℤ)) → Lies f at len (length ws) → p + n ≤ len → n ≡ words_of (row_of k).words frames
    → PlainMeans at len p ws (put ws (at + p) (inner k now (window ws (at + p) n) inputs).0) (inner k now (window ws (at + p) n) inputs).1 (inner_block k now (window (window ws at len) p n) inputs (buses_of ws))
inner_means k now f ws at len p n frames inputs lies le size =
    let st : List ℕ = window ws (at + p) n in
    let xs : List ℕ = (inner k now st inputs).0 in
    let there : window (window ws at len) p n ≡ st = window_window ws at len p n le in
    let wide : length st ≡ n = length-window ws (at + p) n in
    let long : length xs ≡ n = state_long k now st inputs frames (wide ∙ size) ∙ wide in
    record {
      buses = buses_same (put ws (at + p) xs) ws (λ j low. apart_put ws (at + p) j xs (⊎_elim (λ (l : j < at + p). inl l) (λ (r : at + p + n ≤ j). inr (omega (arith, long, r))) (no_bus at len p n j lies.apart le low)));
      state = put_inside ws at len p xs (omega (arith, long, le)) lies.inside ∙ ap (λ (st : List ℕ). put (window ws at len) p (inner k now st inputs).0) (sym there);
      gives = ap (λ (st : List ℕ). (inner k now st inputs).1) (sym there);
      long = length-put ws (at + p) xs;
      others = λ j high apart. apart_put ws (at + p) j xs (⊎_elim (λ (l : j < at). inl (omega (arith, l))) (λ (r : at + len ≤ j). inr (omega (arith, long, le, r))) apart);
    }

-- a part of a window is changed, and the rest stays
spliced : (us ws : List ℕ) (at len p n : ℕ) → p + n ≤ len → ((j : ℕ) → at ≤ j → j < at + len → (j < at + p) ⊎ (at + p + n ≤ j) → get_or us j 0 ≡ get_or ws j 0) → window us at len ≡ put (window ws at len) p (window us (at + p) n)
spliced us ws at len p n le off =
    let xs : List ℕ = window us (at + p) n in
    let wide : length (window ws at len) ≡ len = length-window ws at len in
    let long : length xs ≡ n = length-window us (at + p) n in
    ext_get_or 0 (window us at len) (put (window ws at len) p xs) (length-window us at len ∙ sym (length-put (window ws at len) p xs ∙ wide))
    (λ k lt.
    let l : k < len = omega (arith, lt, length-window us at len) in
    let outside : (k < p) ⊎ (p + n ≤ k) → get_or us (at + k) 0 ≡ get_or (put (window ws at len) p xs) k 0 = λ o.
    off (at + k) (omega arith) (omega (arith, l)) (⊎_elim (λ (a : k < p). inl (omega (arith, a))) (λ (b : p + n ≤ k). inr (omega (arith, b))) o)
    ∙ (sym (window_at ws at len k l) ∙ sym (apart_put (window ws at len) p k xs (⊎_elim (λ (a : k < p). inl a) (λ (b : p + n ≤ k). inr (omega (arith, b, long))) o))) in
    window_at us at len k l ∙ ⊎_elim
    (λ (a : k < p). outside (inl a))
    (λ (a : p ≤ k). ⊎_elim
    (λ (b : k < p + n).
    let j : ℕ = k - p in
    let there : p + j ≡ k = omega (arith, a) in
    ap (λ m. get_or us m 0) (omega (arith, a))
    ∙ (sym (window_at us (at + p) n j (omega (arith, a, b)))
    ∙ (sym (in_put (window ws at len) p j xs (omega (arith, a, b, long)) (omega (arith, wide, long, le)))
    ∙ ap (λ m. get_or (put (window ws at len) p xs) m 0) there)))
    (λ (b : p + n ≤ k). outside (inr b))
    (cases_lt k (p + n)))
    (cases_lt k p))

bus_means : (k : Kind) (now : Now) (f : Foot) (c : ℕ) (ws : List ℕ) (at len p n frames : ℕ) (inputs : List (List ℤ)) → Lies f at len (length ws) → p + n ≤ len → n ≡ words_of (row_of k).words frames → MayReach k f c inputs
    → PlainMeans at len p ws (bus_unit_over k now c ws (at + p) n inputs).0 (bus_unit_over k now c ws (at + p) n inputs).1 (bus_unit k now c (window (window ws at len) p n) inputs (buses_of ws))
bus_means k now f c ws at len p n frames inputs lies le size may =
    let w : List ℕ × List (List ℤ) = bus_unit_over k now c ws (at + p) n inputs in
    let m : BusMeans (at + p) n ws w.0 w.1 (bus_unit k now c (window ws (at + p) n) inputs (buses_of ws)) = bus_unit_means k now c (at + p) n frames ws inputs size (record {
      apart = λ some. let from : 10368 ≤ at = lies.apart (omega (arith, some, le)) in omega arith;
      inside = λ some. let fits : at + len ≤ length ws = lies.inside (omega (arith, some, le)) in omega (arith, fits, le);
      audio = λ is i lt. audio_inside f (length ws) (audio_channel inputs i) lies.foot (may.writes is i (omega (arith, lt)));
      control = λ is i lt. control_inside f (length ws) (control_channel inputs i) lies.foot (may.sets is i (omega (arith, lt)));
    }) in
    let P : List ℕ → Type 0 = λ (st : List ℕ). PlainMeans at len p ws w.0 w.1 (bus_unit k now c st inputs (buses_of ws)) in
    subst P (sym (window_window ws at len p n le)) (record {
      buses = m.buses;
      state = spliced w.0 ws at len p n le (λ j low high apart. let from : 10368 ≤ at = lies.apart (omega (arith, low, high)) in m.others j (omega (arith, from, low)) apart) ∙ ap (λ (st : List ℕ). put (window ws at len) p st) m.state;
      gives = m.gives;
      long = m.long;
      others = λ j high apart. m.others j high (⊎_elim (λ (l : j < at). inl (omega (arith, l))) (λ (r : at + len ≤ j). inr (omega (arith, le, r))) apart);
    })

either : (t : Bool) (at len p : ℕ) (ws : List ℕ) (a b : List ℕ × List (List ℤ)) (r s : UnitBlock) → (t ≡ true → PlainMeans at len p ws a.0 a.1 r) → (t ≡ false → PlainMeans at len p ws b.0 b.1 s)
    → (let w : List ℕ × List (List ℤ) = if t then a else b in PlainMeans at len p ws w.0 w.1 (if t then r else s))
either true at len p ws a b r s h k = h refl
either false at len p ws a b r s h k = k refl

plain_means : (k : Kind) (now : Now) (f : Foot) (c : ℕ) (ws : List ℕ) (at len p a n frames : ℕ) (inputs : List (List ℤ)) → Lies f at len (length ws) → at + p ≡ a → p + n ≤ len → n ≡ words_of (row_of k).words frames → MayReach k f c inputs
    → PlainMeans at len p ws (plain_after k now c ws a n inputs).0 (plain_after k now c ws a n inputs).1 (plain_block k now c (window (window ws at len) p n) inputs (buses_of ws))
plain_means k now f c ws at len p a n frames inputs lies e le size may =
    let P : ℕ → Type 0 = λ a. PlainMeans at len p ws (plain_after k now c ws a n inputs).0 (plain_after k now c ws a n inputs).1 (plain_block k now c (window (window ws at len) p n) inputs (buses_of ws)) in
    let r : List ℕ × List (List ℤ) = inner k now (window ws (at + p) n) inputs in
    subst P e (either (is_bus_unit k) at len p ws (bus_unit_over k now c ws (at + p) n inputs) (put ws (at + p) r.0, r.1)
    (bus_unit k now c (window (window ws at len) p n) inputs (buses_of ws)) (inner_block k now (window (window ws at len) p n) inputs (buses_of ws))
    (λ is_bus. bus_means k now f c ws at len p n frames inputs lies le size may)
    (λ not_bus. inner_means k now f ws at len p n frames inputs lies le size))

-- ---- one unit

-- the words us and the outputs after any unit, whose part of the state begins at p, against its block
pub record UnitMeans (at len p : ℕ) (places : List (Option BufferPlace)) (ws us : List ℕ) (outputs : List (List ℤ)) (r : UnitEffect) : Type 0 where
  pub resources : resources_of places us ≡ r.resources
  pub state : window us at len ≡ put (window ws at len) p r.state
  pub gives : outputs ≡ r.outputs
  pub long : length us ≡ length ws
  pub others : (j : ℕ) → 10368 ≤ j → (j < at) ⊎ (at + len ≤ j) → overlaps j (live_places places) ≡ 0 → get_or us j 0 ≡ get_or ws j 0

same_resources : (b b' : Buses) (f f' : List (Option Buffer)) → b ≡ b' → f ≡ f' → ◌≡◌ {A = Resources} (record { buses = b; buffers = f }) (record { buses = b'; buffers = f' })
same_resources b b' f f' p q = cc

-- it leaves the words of the buffers
of_plain : (at len p : ℕ) (places : List (Option BufferPlace)) (ws us : List ℕ) (outputs : List (List ℤ)) (r : UnitBlock) → AreApart (record { at = at; len = len }) places → PlainMeans at len p ws us outputs r
    → UnitMeans at len p places ws us outputs (on_buses (buffers_of ws places) r)
unfolding AgreesOn
of_plain at len p places ws us outputs r apart m = record {
  resources = same_resources (buses_of us) r.buses (buffers_of us places) (buffers_of ws places) m.buses (same_buffers places us ws (λ x more.
      m.others x (places_behind places x apart.each more) (outside (record { at = at; len = len }) x (omega (arith, apart.apart x, more)))));
  state = m.state;
  gives = m.gives;
  long = m.long;
  others = λ j high off free. m.others j high off;
}

none_below : (places : List (Option BufferPlace)) (j : ℕ) → All MayBePlace places → j < 10368 → overlaps j (live_places places) ≡ 0
none_below places j are low = elim (leb_tells 1 (overlaps j (live_places places))) [
  | inl q ↦ absurd (omega (arith, low, places_behind places j are q.1))
  | inr q ↦ omega (arith, q.1)
]

-- it leaves the words of the buses
of_buffer : (f : Foot) (at len p n : ℕ) (places : List (Option BufferPlace)) (ws us : List ℕ) (outputs : List (List ℤ)) (r : BufferBlock) → Lies f at len (length ws) → p + n ≤ len → AreApart (record { at = at; len = len }) places → BufferMeans (at + p) n places ws us outputs r
    → UnitMeans at len p places ws us outputs (on_buffers (buses_of ws) r)
of_buffer f at len p n places ws us outputs r lies le apart m = record {
  resources = same_resources (buses_of us) (buses_of ws) (buffers_of us places) r.buffers
      (buses_same us ws (λ j low. m.others j (no_bus at len p n j lies.apart le low) (no_buffers places j (none_below places j apart.each low)))) m.buffers;
  state = spliced us ws at len p n le (λ j low high off. m.others j off (no_buffers places j (omega (arith, apart.apart j, in_extent (record { at = at; len = len }) j low high))))
      ∙ ap (λ (st : List ℕ). put (window ws at len) p st) m.state;
  gives = m.gives;
  long = m.long;
  others = λ j high off free. m.others j (⊎_elim (λ (l : j < at). inl (omega (arith, l))) (λ (r : at + len ≤ j). inr (omega (arith, le, r))) off) (no_buffers places j free);
}

buffer_means : (k : Kind) (now : Now) (f : Foot) (c : ℕ) (places : List (Option BufferPlace)) (ws : List ℕ) (at len p n frames : ℕ) (inputs : List (List ℤ)) → Lies f at len (length ws) → AreApart (record { at = at; len = len }) places → p + n ≤ len → n ≡ words_of (row_of k).words frames → is_buffer_unit k ≡ true → MayReachBuffer k f inputs places
    → UnitMeans at len p places ws (buffer_unit_over k now c places ws (at + p) n inputs).0 (buffer_unit_over k now c places ws (at + p) n inputs).1 (on_buffers (buses_of ws) (buffer_unit k now c (window (window ws at len) p n) inputs (buffers_of ws places)))
buffer_means k now f c places ws at len p n frames inputs lies apart le size is may =
    let w : List ℕ × List (List ℤ) = buffer_unit_over k now c places ws (at + p) n inputs in
    let part = part_apart (record { at = at; len = len }) (record { at = at + p; len = n }) places (omega arith) (omega (arith, le)) apart in
    let inside : 0 < n → at + p + n ≤ length ws = λ some. let fits : at + len ≤ length ws = lies.inside (omega (arith, some, le)) in omega (arith, fits, le) in
    let m = buffer_unit_means k now c (at + p) n frames places ws inputs is (sym size) (stands k f (at + p) n (length ws) places inputs part inside lies.foot may) in
    let P : List ℕ → Type 0 = λ (st : List ℕ). UnitMeans at len p places ws w.0 w.1 (on_buffers (buses_of ws) (buffer_unit k now c st inputs (buffers_of ws places))) in
    subst P (sym (window_window ws at len p n le)) (of_buffer f at len p n places ws w.0 w.1 (buffer_unit k now c (window ws (at + p) n) inputs (buffers_of ws places)) lies le apart m)

any : (t : Bool) (at len p : ℕ) (places : List (Option BufferPlace)) (ws : List ℕ) (a b : List ℕ × List (List ℤ)) (r s : UnitEffect) → (t ≡ true → UnitMeans at len p places ws a.0 a.1 r) → (t ≡ false → UnitMeans at len p places ws b.0 b.1 s)
    → (let w : List ℕ × List (List ℤ) = if t then a else b in UnitMeans at len p places ws w.0 w.1 (if t then r else s))
any true at len p places ws a b r s h k = h refl
any false at len p places ws a b r s h k = k refl

unit_means : (k : Kind) (now : Now) (f : Foot) (c : ℕ) (places : List (Option BufferPlace)) (ws : List ℕ) (at len p a n frames : ℕ) (inputs : List (List ℤ)) → Lies f at len (length ws) → AreApart (record { at = at; len = len }) places → at + p ≡ a → p + n ≤ len → n ≡ words_of (row_of k).words frames → Reaches k f places c inputs
    → UnitMeans at len p places ws (unit_after k now c places ws a n inputs).0 (unit_after k now c places ws a n inputs).1 (unit_block k now c (window (window ws at len) p n) inputs (resources_of places ws))
unit_means k now f c places ws at len p a n frames inputs lies apart e le size may =
    let P : ℕ → Type 0 = λ a. UnitMeans at len p places ws (unit_after k now c places ws a n inputs).0 (unit_after k now c places ws a n inputs).1 (unit_block k now c (window (window ws at len) p n) inputs (resources_of places ws)) in
    let plain : List ℕ × List (List ℤ) = plain_after k now c ws (at + p) n inputs in
    let block : UnitBlock = plain_block k now c (window (window ws at len) p n) inputs (buses_of ws) in
    subst P e (any (is_buffer_unit k) at len p places ws (buffer_unit_over k now c places ws (at + p) n inputs) plain
    (on_buffers (buses_of ws) (buffer_unit k now c (window (window ws at len) p n) inputs (buffers_of ws places))) (on_buses (buffers_of ws places) block)
    (λ is_buffer. buffer_means k now f c places ws at len p n frames inputs lies apart le size is_buffer may.buffer)
    (λ not_buffer. of_plain at len p places ws plain.0 plain.1 block apart (plain_means k now f c ws at len p (at + p) n frames inputs lies refl le size may.buses)))

-- ---- one unit after the other

-- what a synth's words hold between two units
unfoldable pub picture : List (Option BufferPlace) → ℕ → ℕ → Going → Playing
picture places at len g = record { resources = resources_of places g.words; state = window g.words at len; wires = g.wires; place = g.at - at; number = g.number }

same_playing : (b b' : Resources) (s s' : List ℕ) (w w' : List (List ℤ)) (p p' n : ℕ) → b ≡ b' → s ≡ s' → w ≡ w' → p ≡ p' → ◌≡◌ {A = Playing} (record { resources = b; state = s; wires = w; place = p; number = n }) (record { resources = b'; state = s'; wires = w'; place = p'; number = n })
same_playing b b' s s' w w' p p' n e f h i = cc

-- what stays through a unit or more
pub record Stays (at len : ℕ) (places : List (Option BufferPlace)) (ws us : List ℕ) : Type 0 where
  pub long : length us ≡ length ws
  pub others : (j : ℕ) → 10368 ≤ j → (j < at) ⊎ (at + len ≤ j) → overlaps j (live_places places) ≡ 0 → get_or us j 0 ≡ get_or ws j 0

step : (rate b : ℕ) (node : ℤ) (places : List (Option BufferPlace)) (values : List ℤ) (f : Foot) (at len : ℕ) (g : Going) (u : UnitLine) → Lies f at len (length g.words) → AreApart (record { at = at; len = len }) places → MayOutput f places values u → at ≤ g.at → (g.at - at) + unit_words rate u ≤ len
    → (play_unit rate b node values (picture places at len g) u ≡ picture places at len (after_unit rate b node places values g u)) × Stays at len places g.words (after_unit rate b node places values g u).words
unfolding play_unit after_unit picture unit_words
step rate b node places values f at len g u lies apart may low le =
    let ins : List (List ℤ) = input_blocks values g.wires u.inputs in
    let frames : ℕ = frames_of (longest (row_of u.kind).inputs u.inputs) rate in
    let n : ℕ = words_of (row_of u.kind).words frames in
    let p : ℕ = g.at - at in
    let now : Now = now_of rate b node g.number in
    let w : List ℕ × List (List ℤ) = unit_after u.kind now u.outputs places g.words g.at n ins in
    let r : UnitEffect = unit_block u.kind now u.outputs (window (window g.words at len) p n) ins (resources_of places g.words) in
    let means : UnitMeans at len p places g.words w.0 w.1 r = unit_means u.kind now f u.outputs places g.words at len p g.at n frames ins lies apart (omega arith) le refl (may g.wires) in (
      same_playing r.resources (resources_of places w.0) (put (window g.words at len) p r.state) (window w.0 at len) (g.wires ++ r.outputs) (g.wires ++ w.1) (p + n) (g.at + n - at) (g.number + 1)
          (sym means.resources) (sym means.state) (ap (λ (o : List (List ℤ)). g.wires ++ o) (sym means.gives)) (omega arith),
      record { long = means.long; others = means.others },
    )

pub further : (rate b : ℕ) (node : ℤ) (places : List (Option BufferPlace)) (values : List ℤ) (g : Going) (u : UnitLine) → (after_unit rate b node places values g u).at ≡ g.at + unit_words rate u
unfolding after_unit
further rate b node places values g u = refl

lies_at : (f : Foot) (at len words words' : ℕ) → words' ≡ words → Lies f at len words → Lies f at len words'
lies_at f at len words words' e lies = let P : ℕ → Type 0 = λ n. Lies f at len n in subst P (sym e) lies

pub units_mean : (rate b : ℕ) (node : ℤ) (places : List (Option BufferPlace)) (values : List ℤ) (f : Foot) (at len : ℕ) (us : List UnitLine) (g : Going) → Lies f at len (length g.words) → AreApart (record { at = at; len = len }) places → All (MayOutput f places values) us → at ≤ g.at → (g.at - at) + units_words rate us ≤ len
    → (play_units rate b node values us (picture places at len g) ≡ picture places at len (after_units rate b node places values us g)) × Stays at len places g.words (after_units rate b node places values us g).words
units_mean rate b node places values f at len [] g lies apart may low le = (refl, record { long = refl; others = λ j high off free. refl })
units_mean rate b node places values f at len (u ∷ us) g lies apart may low le =
    let g' : Going = after_unit rate b node places values g u in
    let (same, stays) = step rate b node places values f at len g u lies apart (All-head (MayOutput f places values) u us may) low (omega (arith, le)) in
    let far : g'.at ≡ g.at + unit_words rate u = further rate b node places values g u in
    let (rest, stay) = units_mean rate b node places values f at len us g' (lies_at f at len (length g.words) (length g'.words) stays.long lies) apart (All-tail (MayOutput f places values) u us may) (omega (arith, far, low)) (omega (arith, far, le, low)) in (
      ap (λ (q : Playing). play_units rate b node values us q) same ∙ rest,
      record { long = stay.long ∙ stays.long; others = λ j high off free. stay.others j high off free ∙ stays.others j high off free },
    )

-- ---- a synth

begins : (places : List (Option BufferPlace)) (at len : ℕ) (ws : List ℕ) → before_units (resources_of places ws) (window ws at len) ≡ picture places at len (begun ws at)
unfolding picture
begins places at len ws = same_playing (resources_of places ws) (resources_of places ws) (window ws at len) (window ws at len) [] [] 0 (at - at) 0 refl refl refl (omega arith)

-- the words us after a synth's block, against the block
pub record SynthMeans (at len : ℕ) (places : List (Option BufferPlace)) (ws us : List ℕ) (p : Playing) : Type 0 where
  pub resources : resources_of places us ≡ p.resources
  pub state : window us at len ≡ p.state
  pub long : length us ≡ length ws
  pub others : (j : ℕ) → 10368 ≤ j → (j < at) ⊎ (at + len ≤ j) → overlaps j (live_places places) ≡ 0 → get_or us j 0 ≡ get_or ws j 0

pictured : (at len : ℕ) (places : List (Option BufferPlace)) (ws : List ℕ) (g : Going) (p : Playing) → p ≡ picture places at len g → Stays at len places ws g.words → SynthMeans at len places ws g.words p
unfolding picture
pictured at len places ws g p e stays = record {
  resources = sym (ap (λ (p : Playing). p.resources) e);
  state = sym (ap (λ (p : Playing). p.state) e);
  long = stays.long;
  others = stays.others;
}

synth_means : (rate b : ℕ) (node : ℤ) (f : Foot) (places : List (Option BufferPlace)) (d : Definition) (controls : List SynthControl) (at len : ℕ) (ws : List ℕ) → AreControlsOf d controls → UnitsFit (length d.controls) 0 d.units → MayPlayAll f places controls d → len ≡ state_words rate d → Lies f at len (length ws) → AreApart (record { at = at; len = len }) places
    → SynthMeans at len places ws (synth_words rate b node d controls places at ws) (synth_block rate b node d controls (resources_of places ws) (window ws at len))
synth_means rate b node f places d controls at len ws are fit may size lies apart =
    let values : List ℤ = control_values (control_buses ws) controls in
    let outputs : All (MayOutput f places values) d.units = may_output f f places d controls (control_buses ws) values d.units are fit apart.each may refl refl refl in
    let (same, stays) = units_mean rate b node places values f at len d.units (begun ws at) lies apart outputs (omega arith) (omega arith) in
    pictured at len places ws (after_units rate b node places values d.units (begun ws at)) (synth_block rate b node d controls (resources_of places ws) (window ws at len)) (ap (λ (p : Playing). play_units rate b node values d.units p) (begins places at len ws) ∙ same) stays

-- where the state lies, by what may be written
state_lies : (f : Foot) (at len words : ℕ) → (0 < len → 10368 ≤ at) → MayWrite f at len → ((x : ℕ) → touches f x ≡ true → x < words) → Lies f at len words
state_lies f at zero words apart may inside = record { apart = apart; inside = λ some. absurd (omega (arith, some)); foot = inside }
state_lies f at (suc n) words apart may inside = record {
  apart = apart;
  inside = λ some. let last : at + n < words = inside (at + n) (may_touch f f at (suc n) (at + n) may refl (omega arith) (omega arith)) in omega arith;
  foot = inside;
}

pub run_means : (rate b : ℕ) (node : ℤ) (f : Foot) (places : List (Option BufferPlace)) (d : Definition) (controls : List SynthControl) (at len : ℕ) (ws us : List ℕ) → us ≡ synth_words rate b node d controls places at ws → AreControlsOf d controls → UnitsFit (length d.controls) 0 d.units → MayPlayAll f places controls d → len ≡ state_words rate d
    → (0 < len → 10368 ≤ at) → MayWrite f at len → ((x : ℕ) → touches f x ≡ true → x < length ws) → AreApart (record { at = at; len = len }) places
    → SynthMeans at len places ws us (synth_block rate b node d controls (resources_of places ws) (window ws at len))
run_means rate b node f places d controls at len ws us e are fit may size from state inside apart =
    let P : List ℕ → Type 0 = λ (us : List ℕ). SynthMeans at len places ws us (synth_block rate b node d controls (resources_of places ws) (window ws at len)) in
    subst P (sym e) (synth_means rate b node f places d controls at len ws are fit may size (state_lies f at len (length ws) from state inside) apart)
