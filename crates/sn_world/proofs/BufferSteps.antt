-- A buffer that is made, changed or given back: what the stage, its words and the world are after it.
use Rattle.std.proofs.Common.{◌≡◌, ◌≤◌, ◌<◌, ◌+◌, ℕ, zero, suc, ℤ, List, [], ◌∷◌, length, get_or, set, Bool, true, false, Option, Some, None, refl, ap, sym, subst, ◌∙◌, arith, length-set}
use Rattle.std.specs.Prelude.{if◌then◌else◌}
use Rattle.std.specs.Option.{option_map}
use Rattle.std.proofs.lemmas.List.{set-set}
use Rattle.sn_mem.specs.declared.extents.Extent.{Extent}
use Rattle.sn_mem.specs.Words.{covers}
use Rattle.sn_mem.specs.Buses.{AudioBus, ControlBus}
use Rattle.sn_mem.proofs.BusLaws.{audio_same, control_same}
use Rattle.sn_mem.specs.declared.buffers.BufferPlace.{BufferPlace}
use Rattle.sn_pool.specs.Pools.{same_extent, times}
use Rattle.sn_tree.specs.Trees.{Nodes, with_payloads}
use Rattle.sn_tree.specs.Model.{NodeTree}
use Rattle.sn_world.specs.declared.stage.Held.{Held}
use Rattle.sn_world.specs.declared.stage.Stage.{Stage}
use Rattle.sn_world.specs.Definitions.{Definitions, definitions_of}
use Rattle.sn_world.specs.Nodes.{Content, content_of}
use Rattle.sn_mem.specs.Buffers.{Buffer, buffer_of, buffers_of, place_extents, live_places, overlaps}
use Rattle.sn_world.specs.Buffers.{MayBeBuffer, AreEach, AreBuffers}
use Rattle.sn_world.specs.Pictures.{amount, live_held, AreHeld, Pictures}
use Rattle.sn_world.specs.World.{World, world_of}
use Rattle.sn_world.proofs.Counting.{amount-append, times-amount, overlaps-amount}
use Rattle.sn_mem.proofs.BufferWords.{AgreesOn, places-parts, same_buffers}
use Rattle.sn_world.proofs.Walking.{same_nodes}
use Rattle.sn_world.proofs.BufferLaws.{places_from}

-- ---- another entry in the list of places

amount-places : (weight : Extent → ℕ) (p : Option BufferPlace) (ps : List (Option BufferPlace)) → amount weight (live_places (p ∷ ps)) ≡ amount weight (place_extents p) + amount weight (live_places ps)
unfolding live_places
amount-places weight p ps = amount-append weight (place_extents p) (live_places ps)

-- the extents of one entry go, and those of another come
amount-set : (weight : Extent → ℕ) (ps : List (Option BufferPlace)) (n : ℕ) (o : Option BufferPlace) → n < length ps
    → amount weight (live_places (set ps n o)) + amount weight (place_extents (get_or ps n None)) ≡ amount weight (live_places ps) + amount weight (place_extents o)
amount-set weight [] n o lt = absurd (omega arith)
amount-set weight (p ∷ ps) zero o lt = omega (arith, amount-places weight o ps, amount-places weight p ps)
amount-set weight (p ∷ ps) (suc n) o lt = omega (arith, amount-places weight p (set ps n o), amount-places weight p ps, amount-set weight ps n o (omega arith))

pub times-set : (e : Extent) (ps : List (Option BufferPlace)) (n : ℕ) (o : Option BufferPlace) → n < length ps
    → times e (live_places (set ps n o)) + times e (place_extents (get_or ps n None)) ≡ times e (live_places ps) + times e (place_extents o)
times-set e ps n o lt =
    omega (arith, amount-set (λ y. if same_extent e y then 1 else 0) ps n o lt, times-amount e (live_places (set ps n o)), times-amount e (place_extents (get_or ps n None)), times-amount e (live_places ps), times-amount e (place_extents o))

pub overlaps-set : (x : ℕ) (ps : List (Option BufferPlace)) (n : ℕ) (o : Option BufferPlace) → n < length ps
    → overlaps x (live_places (set ps n o)) + overlaps x (place_extents (get_or ps n None)) ≡ overlaps x (live_places ps) + overlaps x (place_extents o)
overlaps-set x ps n o lt =
    omega (arith, amount-set (λ e. if covers e x then 1 else 0) ps n o lt, overlaps-amount x (live_places (set ps n o)), overlaps-amount x (place_extents (get_or ps n None)), overlaps-amount x (live_places ps), overlaps-amount x (place_extents o))

each-set : (region : Extent) (ps : List (Option BufferPlace)) (n : ℕ) (o : Option BufferPlace) → AreEach region ps → MayBeBuffer region o → AreEach region (set ps n o)
unfolding AreEach
each-set region [] n o are is = tt
each-set region (p ∷ ps) zero o are is = (is, are.1)
each-set region (p ∷ ps) (suc n) o are is = (are.0, each-set region ps n o are.1 is)

pub each-at : (region : Extent) (ps : List (Option BufferPlace)) (n : ℕ) → AreEach region ps → MayBeBuffer region (get_or ps n None)
unfolding AreEach
each-at region [] n are = tt
each-at region (p ∷ ps) zero are = are.0
each-at region (p ∷ ps) (suc n) are = each-at region ps n are.1

pub buffers-set : (ws : List ℕ) (ps : List (Option BufferPlace)) (n : ℕ) (o : Option BufferPlace) → buffers_of ws (set ps n o) ≡ set (buffers_of ws ps) n (option_map (buffer_of ws) o)
unfolding buffers_of
buffers-set ws [] n o = refl
buffers-set ws (p ∷ ps) zero o = refl
buffers-set ws (p ∷ ps) (suc n) o = ap (λ (bs : List (Option Buffer)). option_map (buffer_of ws) p ∷ bs) (buffers-set ws ps n o)

pub buffers-at : (ws : List ℕ) (ps : List (Option BufferPlace)) (n : ℕ) → get_or (buffers_of ws ps) n None ≡ option_map (buffer_of ws) (get_or ps n None)
unfolding buffers_of
buffers-at ws [] n = refl
buffers-at ws (p ∷ ps) zero = refl
buffers-at ws (p ∷ ps) (suc n) = buffers-at ws ps n

-- ---- a stage and its words with another buffer, or none, at a number

-- If there is a buffer, no other and no synth has its words. If there was one before, it is not live any more. No other
-- word has changed.
pub record IsSet (n : ℕ) (o : Option BufferPlace) (old : Stage) (ws : List ℕ) (new : Stage) (us : List ℕ) : Type 0 where
  pub number : n < 1024
  pub place : MayBeBuffer old.pool.region o
  pub free : (x : ℕ) → 0 < overlaps x (place_extents o) → overlaps x (live_held old.tree.attached) + overlaps x (live_places (set old.buffers n None)) ≡ 0
  pub buffers : new.buffers ≡ set old.buffers n o
  pub live : (e : Extent) → 1 ≤ e.len → times e new.pool.live + times e (place_extents (get_or old.buffers n None)) ≡ times e old.pool.live + times e (place_extents o)
  pub region : new.pool.region ≡ old.pool.region
  pub journal : new.pool.journal ≡ None
  pub tree : new.tree ≡ old.tree
  pub rate : new.rate ≡ old.rate
  pub defs : new.defs ≡ old.defs
  pub notify : new.notify ≡ old.notify
  pub next : new.next_id ≡ old.next_id
  pub length : length us ≡ length ws
  pub others : (x : ℕ) → overlaps x (place_extents o) ≡ 0 → get_or us x 0 ≡ get_or ws x 0

alone : (region : Extent) (p : Option BufferPlace) → MayBeBuffer region p → AreEach region (p ∷ [])
unfolding AreEach
alone region p may = (may, tt)

one_at_most : (o : Option BufferPlace) (x : ℕ) → overlaps x (place_extents o) ≤ 1
one_at_most None x = omega arith
one_at_most (Some p) x = at (covers p.extent x)
  where
    at : (b : Bool) → (if b then 1 else 0) + 0 ≤ 1
    at true = omega arith
    at false = omega arith

module _ (n : ℕ) (o : Option BufferPlace) (old : Stage) (ws : List ℕ) (new : Stage) (us : List ℕ) (is : IsSet n o old ws new us) (before : Pictures old ws) where
  within : n < length old.buffers
  within = omega (arith, is.number, before.buffers.number)

  held_same : (x : ℕ) → overlaps x (live_held new.tree.attached) ≡ overlaps x (live_held old.tree.attached)
  held_same x = ap (λ (t : NodeTree Held). overlaps x (live_held t.attached)) is.tree

  places_now : (x : ℕ) → overlaps x (live_places new.buffers) ≡ overlaps x (live_places (set old.buffers n o))
  places_now x = ap (λ (ps : List (Option BufferPlace)). overlaps x (live_places ps)) is.buffers

  nothing : (x : ℕ) → overlaps x (place_extents None) ≡ 0
  nothing x = refl

  set_once : (x : ℕ) → overlaps x (live_held new.tree.attached) + overlaps x (live_places new.buffers) ≤ 1
  set_once x = at (overlaps x (place_extents o)) refl
    where
      at : (m : ℕ) → overlaps x (place_extents o) ≡ m → overlaps x (live_held new.tree.attached) + overlaps x (live_places new.buffers) ≤ 1
      at zero e = omega (arith, e, before.apart x, held_same x, places_now x, overlaps-set x old.buffers n o within)
      at (suc m) e = omega (arith, is.free x (omega (arith, e)), one_at_most o x, held_same x, places_now x, overlaps-set x old.buffers n o within, overlaps-set x old.buffers n None within, nothing x)

  set_live : (e : Extent) → 1 ≤ e.len → times e new.pool.live ≡ times e (live_held new.tree.attached) + times e (live_places new.buffers)
  set_live e some = omega (arith, is.live e some, before.live e some, times-set e old.buffers n o within, ap (λ (t : NodeTree Held). times e (live_held t.attached)) is.tree, ap (λ (ps : List (Option BufferPlace)). times e (live_places ps)) is.buffers)

  are_set : AreBuffers old.pool.region (set old.buffers n o)
  are_set = record { number = length-set old.buffers n o ∙ before.buffers.number; each = each-set old.pool.region old.buffers n o before.buffers.each is.place }

  pub set_pictures : Pictures new us
  set_pictures = record {
    rate = omega (arith, is.rate, before.rate);
    rate_fits = omega (arith, is.rate, before.rate_fits);
    base = ap (λ (e : Extent). e.at) is.region ∙ before.base;
    bounded = omega (arith, ap (λ (e : Extent). e.len) is.region, before.bounded);
    fits = omega (arith, ap (λ (e : Extent). e.len) is.region, before.fits, is.length);
    synths = subst (λ (r : ℕ). AreHeld r new.pool.region new.tree.attached) (sym is.rate) (subst (λ (g : Extent). AreHeld old.rate g new.tree.attached) (sym is.region)
        (subst (λ (t : NodeTree Held). AreHeld old.rate old.pool.region t.attached) (sym is.tree) before.synths));
    buffers = subst (λ (g : Extent). AreBuffers g new.buffers) (sym is.region) (subst (AreBuffers old.pool.region) (sym is.buffers) are_set);
    live = set_live;
    apart = set_once;
    attached = ap (λ (t : NodeTree Held). t.detached) is.tree ∙ before.attached;
    settled = ap (λ (t : NodeTree Held). t.journal) is.tree ∙ before.settled;
    closed = is.journal;
  }

  own_from : (p : Option BufferPlace) (x : ℕ) → MayBeBuffer old.pool.region p → 0 < overlaps x (place_extents p) → 10368 ≤ x
  own_from p x may more = omega (arith, before.base, places_from old.pool.region (p ∷ []) x (alone old.pool.region p may) (omega (arith, more, places-parts p [] x)))

  behind : (x : ℕ) → x < 10368 → overlaps x (place_extents o) ≡ 0
  behind x low = at (overlaps x (place_extents o)) refl
    where
      at : (m : ℕ) → overlaps x (place_extents o) ≡ m → m ≡ 0
      at zero e = refl
      at (suc m) e = absurd (omega (arith, low, own_from o x is.place (omega (arith, e))))

  -- no word of another buffer or of a synth has changed
  agrees : (x : ℕ) → 0 < overlaps x (live_held old.tree.attached) + overlaps x (live_places (set old.buffers n None)) → get_or us x 0 ≡ get_or ws x 0
  agrees x more = is.others x (at (overlaps x (place_extents o)) refl)
    where
      at : (m : ℕ) → overlaps x (place_extents o) ≡ m → overlaps x (place_extents o) ≡ 0
      at zero e = e
      at (suc m) e = absurd (omega (arith, more, is.free x (omega (arith, e))))

  set_nodes : with_payloads (content_of us) new.tree.attached ≡ with_payloads (content_of ws) old.tree.attached
  unfolding AgreesOn
  set_nodes = ap (λ (t : NodeTree Held). with_payloads (content_of us) t.attached) is.tree ∙ same_nodes old.tree.attached us ws (λ x more. agrees x (omega (arith, more)))

  other_buffers : buffers_of us (set old.buffers n None) ≡ buffers_of ws (set old.buffers n None)
  unfolding AgreesOn
  other_buffers = same_buffers (set old.buffers n None) us ws (λ x more. agrees x (omega (arith, more)))

  set_buffers : buffers_of us new.buffers ≡ set (buffers_of ws old.buffers) n (option_map (buffer_of us) o)
  set_buffers =
      ap (buffers_of us) (is.buffers ∙ sym (set-set old.buffers n None o))
      ∙ buffers-set us (set old.buffers n None) n o
      ∙ ap (λ (bs : List (Option Buffer)). set bs n (option_map (buffer_of us) o)) (other_buffers ∙ buffers-set ws old.buffers n None)
      ∙ set-set (buffers_of ws old.buffers) n None (option_map (buffer_of us) o)

  abbrev world_with : Nodes Content → Definitions → List AudioBus → List ControlBus → List (Option Buffer) → List Bool → Option ℤ → ℕ → Extent → World
  world_with nodes definitions audio control buffers notify next rate region = record { nodes = nodes; definitions = definitions; audio_buses = audio; control_buses = control; buffers = buffers; notify = notify; next_id = next; rate = rate; region = region }

  -- the world with the buffer
  pub set_world : world_of new us ≡ record (world_of old ws) { buffers = set (buffers_of ws old.buffers) n (option_map (buffer_of us) o) }
  set_world = λ i. world_with (set_nodes i) (definitions_of (is.defs i))
      (audio_same us ws (λ j low. is.others j (behind j (omega arith))) i)
      (control_same us ws (λ j from low. is.others j (behind j low)) i)
      (set_buffers i) (is.notify i) (is.next i) (is.rate i) (is.region i)
