-- A node that moves buses which its reach only mixes.
use Rattle.std.proofs.Common.{◌≡◌, ◌≤◌, ◌<◌, inl, inr, ⊎_elim, ℕ, ◌+◌, ◌*◌, nat_lt, Bool, true, false, ◌&&◌, ◌||◌, List, [], ◌∷◌, ◌++◌, get_or, ℤ, Option, Some, None, sym, refl, ap, subst, ◌∙◌, arith, All, true≢false}
use Rattle.std.specs.List.{list_any}
use Rattle.std.specs.Prelude.{nat_le, not}
use Rattle.std.proofs.lemmas.Bool.{and_parts, leb-true, ltb-true, or_cases}
use Rattle.std.proofs.lemmas.List.Elements.{All-head}
use Rattle.sn_mem.specs.declared.extents.Extent.{Extent}
use Rattle.sn_mem.specs.declared.extents.Foot.{Foot}
use Rattle.sn_foot.specs.declared.reach.Reach.{Reach}
use Rattle.sn_mem.specs.declared.moves.Moved.{Moved}
use Rattle.sn_mem.specs.declared.buffers.BufferPlace.{BufferPlace}
use Rattle.sn_mem.specs.Lanes.{buses_in, words_where}
use Rattle.sn_mem.specs.Layout.{audio_place, control_place}
use Rattle.sn_mem.specs.Through.{where_is}
use Rattle.sn_mem.specs.Words.{covers, has, touches, writes}
use Rattle.sn_foot.specs.Reaches.{unmoved}
use Rattle.sn_def.specs.Definition.{Definition}
use Rattle.sn_def.specs.Defs.{definition_of}
use Rattle.sn_def.proofs.Forming.{formed}
use Rattle.sn_io.specs.Queues.{IsAmong, Puts}
use Rattle.sn_world.specs.Pictures.{has_synth}
use Rattle.sn_world.specs.WalkWords.{held_words}
use Rattle.sn_world.specs.declared.stage.Held.{Held}
use Rattle.sn_world.specs.declared.stage.Held.TheVariants as held
use Rattle.sn_world.proofs.BufferLaws.{are_places}
use Rattle.sn_foot.specs.declared.resource.Resource.{Resource}
use Rattle.sn_foot.specs.declared.resource.Resource.TheVariants.{Audio, Control, Buffer}
use Rattle.sn_foot.specs.Footprints.{buffer_words, footprint_of, foot_of, held_mixes, is_there, place_of, lies_in, synth_mixes}
use Rattle.sn_foot.specs.Suffices.{AreOfWorld, Suffices}
use Rattle.sn_foot.proofs.Containing.{in_range, its_words}
use Rattle.sn_foot.proofs.NodesByFoot.{foot_inside}
use Rattle.sn_foot.proofs.OnlyMixed.{IsOfSynth, left, still_touches, no_touch, was_touched, synth_puts}
use Rattle.sn_foot.proofs.Sufficing.{foot_suffices}
use Rattle.sn_foot.proofs.WholeBuses.{buffer_behind, covered_behind, numbered_behind}

-- a foot with all words of a reach but those of the buses of some moves, and what a change puts onto these
pub record MixesOnto (b size : ℕ) (reach : Reach) (ms : List Moved) (change : List ℕ → List ℕ) : Type 0 where
  pub foot : Foot
  pub puts : Puts b foot ms change
  pub within : (x : ℕ) → touches foot x ≡ true → touches (unmoved reach) x ≡ true
  pub written : (x : ℕ) → writes foot x ≡ true → writes (unmoved reach) x ≡ true
  pub off : (x : ℕ) → has (buses_in ms) x ≡ true → touches foot x ≡ false
  pub kept : (x : ℕ) → touches (unmoved reach) x ≡ true → has (buses_in ms) x ≡ false → touches foot x ≡ true

alone : (b : Bool) → (b || false) ≡ true → b ≡ true
alone true h = h
alone false h = h

-- a word of an audio bus that is mixed is one of a bus that the synth mixes
mixed_bus : (rate : ℕ) (region : Extent) (buffers : List (Option BufferPlace)) (h : Held) (n : ℕ) → n < 128 → AreOfWorld rate region buffers (h ∷ []) → has (foot_of buffers (h ∷ [])).mixes (65 * n) ≡ true → held_mixes h (Audio n) ≡ true
mixed_bus rate region buffers h n low world on =
    let u = ((its_words buffers (h ∷ [])).mixes (65 * n)).0 on in
    by u.0 (alone (held_mixes h u.0) (and_parts (is_there buffers u.0) (list_any (λ (g : Held). held_mixes g u.0) (h ∷ [])) u.1.0).1) u.1.1
  where
    by : (r : Resource) → held_mixes h r ≡ true → lies_in (65 * n) (place_of buffers r) ≡ true → held_mixes h (Audio n) ≡ true
    by (Audio k) m l =
        let (few, lies) = in_range k 128 (Some (audio_place k)) (65 * n) l in
        let p = and_parts (nat_le (65 * k) (65 * n)) (nat_lt (65 * n) (65 * k + 65)) lies in
        let same : k ≡ n = omega (arith, leb-true (65 * k) (65 * n) p.0, ltb-true (65 * n) (65 * k + 65) p.1) in
        subst (λ j. held_mixes h (Audio j) ≡ true) same m
    by (Control k) m l =
        let (few, lies) = in_range k 1024 (Some (control_place k)) (65 * n) l in
        absurd (omega (arith, low, covered_behind (control_place k) (65 * n) lies))
    by (Buffer k) m l = absurd (omega (arith, low, world.base, buffer_behind region buffers k (65 * n) world.each (in_range k 1024 (buffer_words (get_or buffers k None)) (65 * n) l).1))

pub held_mixes_onto : (rate b : ℕ) (id : ℤ) (region : Extent) (buffers : List (Option BufferPlace)) (h : Held) (size : ℕ) (ms : List Moved) → 4294967296 ≤ size → has_synth h ≡ true → AreOfWorld rate region buffers (h ∷ [])
    → ((m : Moved) → IsAmong ms m → (n : ℕ) × ((n < 128) × ((m.bus ≡ audio_place n) × (has (foot_of buffers (h ∷ [])).mixes (65 * n) ≡ true))))
    → MixesOnto b size (foot_of buffers (h ∷ [])) ms (held_words rate b id buffers h)
held_mixes_onto rate b id region buffers held.Group size ms big some world buses = absurd (true≢false (sym some))
held_mixes_onto rate b id region buffers (held.Synth def controls state) size ms big some world buses =
    let h : Held = held.Synth def controls state in
    let d : Definition = definition_of def.value in
    let reach : Reach = foot_of buffers (h ∷ []) in
    let whole : Foot = unmoved reach in
    let words = its_words buffers (h ∷ []) in
    let own = world.held 0 h (omega arith) in
    let inside : (x : ℕ) → touches whole x ≡ true → x < size = λ x t. let l = foot_inside rate region buffers (h ∷ []) reach x world words t in omega (arith, l, world.bounded, big) in
    let within = own.within in
    let is : IsOfSynth rate size whole buffers d controls state =
    record {
      are = own.each;
      fit = (formed d def.value.written).fit;
      each = are_places region buffers world.base world.each;
      long = own.size;
      may = All-head (Suffices whole buffers) h [] (foot_suffices rate region buffers (h ∷ []) reach world words);
      big = big;
      inside = inside;
      behind = omega (arith, within.0, world.base);
      buffers = λ o p e. let l = numbered_behind region buffers o p world.each e in omega (arith, l, world.base);
    } in
    let mixed : (m : Moved) → IsAmong ms m → (n : ℕ) × ((n < 128) × ((m.bus ≡ audio_place n) × (synth_mixes d.units controls (Audio n) ≡ true))) =
    λ m i. let q = buses m i in (q.0, (q.1.0, (q.1.1.0, mixed_bus rate region buffers h q.0 q.1.0 world q.1.1.1))) in
    let off : ℕ → Bool = λ x. has (buses_in ms) x in
    record {
      foot = left rate b id size whole buffers d controls state is ms mixed;
      puts = synth_puts rate b id size whole buffers d controls state is ms mixed;
      within = λ x t. was_touched size big whole off x t;
      written = λ x w. (and_parts (has whole.writes x) (not (off x)) (where_is (λ x. has whole.writes x && not (off x)) size x w).1).0;
      off = λ x h. no_touch size big whole off x h;
      kept = λ x t o. still_touches size big whole off x (inside x t) t o;
    }
