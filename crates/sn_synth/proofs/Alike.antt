-- What a synth makes of words does not depend on buses that it only mixes, and onto each of them it puts one signal.
use Rattle.std.proofs.Common.{◌≡◌, ◌≤◌, ◌<◌, ◌⊎◌, inl, inr, ⊎_elim, ℕ, suc, ◌+◌, ◌*◌, Bool, true, false, List, [], ◌∷◌, ◌++◌, ℤ, Option, Some, length, get_or, refl, ap, sym, subst, ◌∙◌, arith, All}
use Rattle.std.specs.Prelude.{◌&&◌, nat_le, nat_lt}
use Rattle.std.proofs.lemmas.Bool.{and_from, and_parts, le-leb, leb-true, lt-ltb, ltb-true}
use Rattle.std.proofs.lemmas.List.Elements.{All-head, All-tail}
use Rattle.std.proofs.lemmas.List.Sums.{fold-append}
use Rattle.sn_def.specs.declared.kind.Kind.{Kind}
use Rattle.sn_def.specs.declared.kind.Kind.TheVariants as kinds
use Rattle.sn_def.specs.declared.control.Now.{Now}
use Rattle.sn_def.specs.declared.unit.Unit.{Unit as UnitLine}
use Rattle.sn_def.specs.StateWords.{unit_words, units_words}
use Rattle.sn_def.specs.Units.{row_of}
use Rattle.sn_mem.specs.declared.extents.Foot.{Foot}
use Rattle.sn_mem.specs.declared.buffers.BufferPlace.{BufferPlace}
use Rattle.sn_mem.specs.Blocks.{block}
use Rattle.sn_mem.specs.Words.{MayWrite, touches, writes}
use Rattle.sn_mem.proofs.Feet.{part_at}
use Rattle.sn_io.specs.BusUnits.{is_bus_unit}
use Rattle.sn_io.specs.BufferUnits.{is_buffer_unit}
use Rattle.sn_io.specs.ByFoot.{Agree, BlocksAgree}
use Rattle.sn_io.specs.Channels.{audio_channel, channels, signals}
use Rattle.sn_io.specs.OverWords.{bus_unit_over, onto_audio_channel, onto_block}
use Rattle.sn_io.proofs.Alike.{IsWhole, channels_alike, one_put}
use Rattle.sn_io.proofs.BusByFoot.{block_agrees}
use Rattle.sn_synth.specs.Conditions.{MayOutput}
use Rattle.sn_synth.specs.Synths.{input_blocks, now_of}
use Rattle.sn_synth.specs.Words.{Going, after_unit, after_units, plain_after, unit_after}
use Rattle.sn_synth.proofs.ByFoot.{standing, unit_by_foot, units_long}
use Rattle.sn_synth.proofs.Keeping.{units_keep}
use Rattle.sn_synth.proofs.Picturing.{further}

-- what Out.ar makes of words
out_after : (now : Now) (c : ℕ) (places : List (Option BufferPlace)) (ws : List ℕ) (at n : ℕ) (inputs : List (List ℤ)) → unit_after kinds.Outar now c places ws at n inputs ≡ (channels (onto_audio_channel true now.block inputs) inputs (signals inputs) ws, [])
unfolding row_of bus_unit_over
out_after now c places ws at n inputs = refl

-- a unit that adds signals to buses of which each is seen whole, or not at all
pub record IsMixer (f : Foot) (values : List ℤ) (u : UnitLine) : Type 0 where
  pub kind : u.kind ≡ kinds.Outar
  pub whole : (wires : List (List ℤ)) (i : ℕ) → i < signals (input_blocks values wires u.inputs) → IsWhole (touches f) (audio_channel (input_blocks values wires u.inputs) i)

abbrev pub IsAlike : Foot → List (Option BufferPlace) → List ℤ → UnitLine → Type 0
IsAlike f places values u = MayOutput f places values u ⊎ IsMixer f values u

pub mixer_alike : (k : Kind) (now : Now) (f : Foot) (c : ℕ) (places : List (Option BufferPlace)) (us ws : List ℕ) (at n : ℕ) (inputs : List (List ℤ)) → k ≡ kinds.Outar → ((i : ℕ) → i < signals inputs → IsWhole (touches f) (audio_channel inputs i)) → Agree (touches f) us ws
    → BlocksAgree (touches f) (unit_after k now c places us at n inputs) (unit_after k now c places ws at n inputs)
mixer_alike k now f c places us ws at n inputs is whole a =
    let out : List ℕ → List ℕ × List (List ℤ) = λ vs. (channels (onto_audio_channel true now.block inputs) inputs (signals inputs) vs, []) in
    let both : BlocksAgree (touches f) (out us) (out ws) = record { words = channels_alike (touches f) true now.block inputs (signals inputs) us ws whole a; outputs = refl } in
    let P : Kind → Type 0 = λ (kind : Kind). BlocksAgree (touches f) (unit_after kind now c places us at n inputs) (unit_after kind now c places ws at n inputs) in
    subst P (sym is)
    (subst (λ (r : List ℕ × List (List ℤ)). BlocksAgree (touches f) r (unit_after kinds.Outar now c places ws at n inputs)) (sym (out_after now c places us at n inputs))
    (subst (λ (r : List ℕ × List (List ℤ)). BlocksAgree (touches f) (out us) r) (sym (out_after now c places ws at n inputs)) both))

pub units_alike : (rate b : ℕ) (node : ℤ) (places : List (Option BufferPlace)) (values : List ℤ) (f : Foot) (lines : List UnitLine) (wires : List (List ℤ)) (at number : ℕ) (us ws : List ℕ) → MayWrite f at (units_words rate lines) → All (IsAlike f places values) lines → Agree (touches f) us ws
    → Agree (touches f) (after_units rate b node places values lines (standing wires at number us)).words (after_units rate b node places values lines (standing wires at number ws)).words
    × ((after_units rate b node places values lines (standing wires at number us)).wires ≡ (after_units rate b node places values lines (standing wires at number ws)).wires)
unfolding after_unit standing
units_alike rate b node places values f [] wires at number us ws state are a = (a, refl)
units_alike rate b node places values f (u ∷ lines) wires at number us ws state are a =
    let len : ℕ = unit_words rate u in
    let ins : List (List ℤ) = input_blocks values wires u.inputs in
    let now : Now = now_of rate b node number in
    let r : List ℕ × List (List ℤ) = unit_after u.kind now u.outputs places us at len ins in
    let s : List ℕ × List (List ℤ) = unit_after u.kind now u.outputs places ws at len ins in
    let own : MayWrite f at len = part_at f f at (len + units_words rate lines) at len state refl (omega arith) (omega arith) in
    let one : BlocksAgree (touches f) r s = ⊎_elim
    (λ (may : MayOutput f places values u). unit_by_foot u.kind now f u.outputs places us ws at len ins own (may wires) a)
    (λ (is : IsMixer f values u). mixer_alike u.kind now f u.outputs places us ws at len ins is.kind (λ i lt. is.whole wires i lt) a)
    (All-head (IsAlike f places values) u lines are) in
    let rest : MayWrite f (at + len) (units_words rate lines) = part_at f f at (len + units_words rate lines) (at + len) (units_words rate lines) state refl (omega arith) (omega arith) in
    let P : List (List ℤ) → Type 0 = λ (outs : List (List ℤ)). Agree (touches f) (after_units rate b node places values lines (standing (wires ++ r.1) (at + len) (number + 1) r.0)).words (after_units rate b node places values lines (standing (wires ++ outs) (at + len) (number + 1) s.0)).words × ((after_units rate b node places values lines (standing (wires ++ r.1) (at + len) (number + 1) r.0)).wires ≡ (after_units rate b node places values lines (standing (wires ++ outs) (at + len) (number + 1) s.0)).wires) in
    subst P one.outputs (units_alike rate b node places values f lines (wires ++ r.1) (at + len) (number + 1) r.0 s.0 rest (All-tail (IsAlike f places values) u lines are) one.words)

-- ---- the signal on one bus

abbrev in_bus : ℕ → ℕ → Bool
in_bus n x = nat_le (65 * n) x && nat_lt x (65 * n + 65)

module _ (rate b : ℕ) (node : ℤ) (places : List (Option BufferPlace)) (values : List ℤ) (f : Foot) (n : ℕ) (off : (x : ℕ) → 65 * n ≤ x → x < 65 * n + 65 → writes f x ≡ false) where
  first_at : (us : List UnitLine) (g : Going) → (after_units rate b node places values us g).at ≡ g.at + units_words rate us
  first_at [] g = omega arith
  first_at (u ∷ us) g = first_at us (after_unit rate b node places values g u) ∙ omega (arith, further rate b node places values g u)

  put_by : (u : UnitLine) (h : Going) → u.kind ≡ kinds.Outar → (let ins : List (List ℤ) = input_blocks values h.wires u.inputs in (after_unit rate b node places values h u).words ≡ channels (onto_audio_channel true b ins) ins (signals ins) h.words)
  unfolding after_unit
  put_by u h is =
      let ins : List (List ℤ) = input_blocks values h.wires u.inputs in
      let now : Now = now_of rate b node h.number in
      ap (λ (kind : Kind). (unit_after kind now u.outputs places h.words h.at (unit_words rate u) ins).0) is
      ∙ ap (λ (r : List ℕ × List (List ℤ)). r.0) (out_after now u.outputs places h.words h.at (unit_words rate u) ins)

  -- The units before and after one leave the bus. It puts a signal onto it, and so does the synth.
  pub signal_is : (first last : List UnitLine) (u : UnitLine) (i : ℕ) (g : Going) → u.kind ≡ kinds.Outar → All (MayOutput f places values) first → All (MayOutput f places values) last
      → MayWrite f g.at (units_words rate first) → MayWrite f (g.at + units_words rate first + unit_words rate u) (units_words rate last)
      → (let ins : List (List ℤ) = input_blocks values (after_units rate b node places values first g).wires u.inputs in
      i < signals ins → audio_channel ins i ≡ Some n → (x : ℕ) → 65 * n ≤ x → x < 65 * n + 65
      → get_or (after_units rate b node places values (first ++ u ∷ last) g).words x 0 ≡ get_or (onto_block true b g.words (65 * n) (block ins (suc i))) x 0)
  signal_is first last u i g is before behind state more lt on x low high =
      let h : Going = after_units rate b node places values first g in
      let k : Going = after_unit rate b node places values h u in
      let ins : List (List ℤ) = input_blocks values h.wires u.inputs in
      let xs : List ℤ = block ins (suc i) in
      let kept : Agree (in_bus n) h.words g.words = record {
        long = units_long rate b node places values first g;
        same = λ y t.
            let p = and_parts (nat_le (65 * n) y) (nat_lt y (65 * n + 65)) t in
            units_keep rate b node places values f first g y state before (off y (leb-true (65 * n) y p.0) (ltb-true y (65 * n + 65) p.1));
      } in
      let covered : (y : ℕ) → 65 * n ≤ y → y < 65 * n + 65 → in_bus n y ≡ true = λ y l m. and_from (nat_le (65 * n) y) (nat_lt y (65 * n + 65)) (le-leb (65 * n) y l) (lt-ltb y (65 * n + 65) m) in
      let begins : k.at ≡ g.at + units_words rate first + unit_words rate u = further rate b node places values h u ∙ ap (λ m. m + unit_words rate u) (first_at first g) in
      let rest : MayWrite f k.at (units_words rate last) = subst (λ (at : ℕ). MayWrite f at (units_words rate last)) (sym begins) more in
      ap (λ (r : Going). get_or r.words x 0) (fold-append (after_unit rate b node places values) g first (u ∷ last))
      ∙ units_keep rate b node places values f last k x rest behind (off x low high)
      ∙ ap (λ (ws : List ℕ). get_or ws x 0) (put_by u h is)
      ∙ one_put true b ins (signals ins) i n h.words on lt x low high
      ∙ (block_agrees (in_bus n) true b h.words g.words (65 * n) xs covered kept).same x (covered x low high)
