-- In a stage that stands for a world, buses, buffers and states share no words, and all have numbers.
use Rattle.std.proofs.Common.{◌≡◌, ◌≤◌, ◌<◌, ⊎_elim, ℕ, ◌+◌, true, false, List, [], ◌∷◌, ◌++◌, Option, Some, None, sym, ◌∙◌, arith, true≢false}
use Rattle.std.specs.List.{All}
use Rattle.std.proofs.lemmas.Bool.{or_cases}
use Rattle.std.proofs.lemmas.List.Elements.{All-nil, All-cons, All-append}
use Rattle.sn_mem.specs.declared.extents.Extent.{Extent}
use Rattle.sn_mem.specs.declared.buffers.BufferPlace.{BufferPlace}
use Rattle.sn_mem.specs.Words.{covers, has}
use Rattle.sn_mem.specs.Buffers.{MayBePlace, live_places, place_extents}
use Rattle.sn_tree.specs.Trees.{Nodes, none, node}
use Rattle.sn_world.specs.declared.stage.Held.{Held}
use Rattle.sn_world.specs.declared.stage.Held.TheVariants as held
use Rattle.sn_world.specs.declared.stage.Stage.{Stage}
use Rattle.sn_world.specs.Buffers.{AreEach, MayBeBuffer}
use Rattle.sn_world.specs.Pictures.{AreHeld, IsHeld, Pictures, held_extents, live_held}
use Rattle.sn_foot.specs.Canonical.{Ends}
use Rattle.sn_foot.proofs.Runs.{has_append}
use Rattle.sn_graph.specs.Disjoint.{AreDisjoint}
use Rattle.sn_graph.proofs.Resources.{covers_from}

module _ (region : Extent) (base : region.at ≡ 10368) (bounded : 10368 + region.len < 4294967296) where
  ends_in : (e : Extent) → (region.at ≤ e.at) × (e.at + e.len ≤ region.at + region.len) → Ends e
  ends_in e l = omega (arith, l.0, l.1, base, bounded)

  place_ends : (p : Option BufferPlace) → MayBeBuffer region p → All Ends (place_extents p)
  place_ends None b = All-nil Ends
  place_ends (Some p) b = All-cons Ends p.extent [] (ends_in p.extent b.within) (All-nil Ends)

  places_end : (ps : List (Option BufferPlace)) → AreEach region ps → All Ends (live_places ps)
  unfolding AreEach live_places
  places_end [] b = All-nil Ends
  places_end (p ∷ ps) b = All-append Ends (place_extents p) (live_places ps) (place_ends p b.0) (places_end ps b.1)

  may_be_place : (p : Option BufferPlace) → MayBeBuffer region p → MayBePlace p
  may_be_place None b = tt
  may_be_place (Some p) b = record { frames = b.frames; short = b.short; channels = b.channels; few = b.few; size = b.size; behind = omega (arith, b.within.0, base) }

  may_be_places : (ps : List (Option BufferPlace)) → AreEach region ps → All MayBePlace ps
  unfolding AreEach
  may_be_places [] b = All-nil MayBePlace
  may_be_places (p ∷ ps) b = All-cons MayBePlace p ps (may_be_place p b.0) (may_be_places ps b.1)

  module _ (rate : ℕ) where
    held_ends : (h : Held) → IsHeld rate region h → All Ends (held_extents h)
    held_ends held.Group i = All-nil Ends
    held_ends (held.Synth def controls state) i = All-cons Ends state [] (ends_in state i.within) (All-nil Ends)

    states_end : (t : Nodes Held) → AreHeld rate region t → All Ends (live_held t)
    states_end none i = All-nil Ends
    states_end (node label below after) i =
        All-append Ends (held_extents label.payload) (live_held below ++ live_held after) (held_ends label.payload i.0)
        (All-append Ends (live_held below) (live_held after) (states_end below i.1.0) (states_end after i.1.1))

    held_behind : (x : ℕ) (h : Held) → IsHeld rate region h → has (held_extents h) x ≡ true → 10368 ≤ x
    held_behind x held.Group i t = absurd (true≢false (sym t))
    held_behind x (held.Synth def controls state) i t = ⊎_elim
        (λ (c : covers state x ≡ true). omega (arith, (covers_from state x c).0, i.within.0, base))
        (λ (c : false ≡ true). absurd (true≢false (sym c)))
        (or_cases (covers state x) false t)

    states_behind : (x : ℕ) (t : Nodes Held) → AreHeld rate region t → has (live_held t) x ≡ true → 10368 ≤ x
    states_behind x none i t = absurd (true≢false (sym t))
    states_behind x (node label below after) i t = ⊎_elim
        (λ (c : has (held_extents label.payload) x ≡ true). held_behind x label.payload i.0 c)
        (λ (c : has (live_held below ++ live_held after) x ≡ true). ⊎_elim
        (λ (d : has (live_held below) x ≡ true). states_behind x below i.1.0 d)
        (λ (d : has (live_held after) x ≡ true). states_behind x after i.1.1 d)
        (or_cases (has (live_held below) x) (has (live_held after) x) (sym (has_append (live_held below) (live_held after) x) ∙ c)))
        (or_cases (has (held_extents label.payload) x) (has (live_held below ++ live_held after) x) (sym (has_append (held_extents label.payload) (live_held below ++ live_held after) x) ∙ t))

pub world_buffers : (stage : Stage) (words : List ℕ) → Pictures stage words → All Ends (live_places stage.buffers)
world_buffers stage words p = places_end stage.pool.region p.base p.bounded stage.buffers p.buffers.each

pub world_states : (stage : Stage) (words : List ℕ) → Pictures stage words → All Ends (live_held stage.tree.attached)
world_states stage words p = states_end stage.pool.region p.base p.bounded stage.rate stage.tree.attached p.synths

pub world_disjoint : (stage : Stage) (words : List ℕ) → Pictures stage words → AreDisjoint stage.buffers (live_held stage.tree.attached)
world_disjoint stage words p = record {
  places = may_be_places stage.pool.region p.base p.bounded stage.buffers p.buffers.each;
  behind = λ x h. states_behind stage.pool.region p.base p.bounded stage.rate x stage.tree.attached p.synths h;
  apart = p.apart;
}
