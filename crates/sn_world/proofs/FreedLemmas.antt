-- Freed nodes that end, one after the other.
use Rattle.std.proofs.Common.{◌≡◌, ◌≤◌, ◌+◌, ℕ, Bool, true, false, [], ◌∷◌, Option, Some, None, refl, ap, ◌∙◌, arith}
use Rattle.std.specs.Prelude.{if◌then◌else◌}
use Rattle.std.specs.Option.{option_map}
use Rattle.sn_mem.specs.declared.extents.Extent.{Extent}
use Rattle.sn_pool.specs.Pools.{Journal, same_extent, times, mark_of, room_of, HasRoom, one_given}
use Rattle.sn_pool.proofs.Counts.{same_itself, same_is}
use Rattle.sn_tree.specs.Trees.{Label, Nodes, none, node, count, joined, first_label, without_first}
use Rattle.sn_world.specs.declared.stage.Held.{Held}
use Rattle.sn_world.specs.Freed.{HasRoomFor}
use Rattle.sn_world.specs.Pictures.{held_extents, live_held, amount}
use Rattle.sn_world.proofs.Counting.{amount-parts, amount-joined, times-amount}

-- ---- one extent

pub own_group : (h : Held) (e : Extent) → held_extents h ≡ [] → times e (held_extents h) ≡ 0
unfolding times
own_group h e is = ap (times e) is

one : (b : Bool) → b ≡ true → ◌≡◌ {A = ℕ} (if b then 1 else 0) 1
one b e = ap (λ (c : Bool). let n : ℕ = if c then 1 else 0 in n) e

pub own_synth : (h : Held) (e state : Extent) → held_extents h ≡ state ∷ [] → times e (held_extents h) ≡ (if same_extent e state then 1 else 0)
unfolding times
own_synth h e state is = ap (times e) is ∙ omega arith

pub own_self : (h : Held) (state : Extent) → held_extents h ≡ state ∷ [] → times state (held_extents h) ≡ 1
own_self h state is = own_synth h state state is ∙ one (same_extent state state) (same_itself state)

pub own_amount : (h : Held) (state : Extent) → held_extents h ≡ state ∷ [] → amount (λ e. 1) (held_extents h) ≡ 1
unfolding amount
own_amount h state is = ap (amount (λ e. 1)) is

pub own_empty : (h : Held) (e state : Extent) → held_extents h ≡ state ∷ [] → state.len ≤ 0 → 1 ≤ e.len → times e (held_extents h) ≡ 0
own_empty h e state is empty some = own_synth h e state is ∙ at (same_extent e state) refl
  where
    at : (b : Bool) → same_extent e state ≡ b → ◌≡◌ {A = ℕ} (if b then 1 else 0) 0
    at true same = absurd (omega (arith, empty, some, ap (λ (y : Extent). y.len) (same_is e state same)))
    at false other = refl

pub room_given : (j : Option Journal) → room_of j ≤ 1 + room_of (one_given j)
room_given None = omega arith
room_given (Some j) = omega arith

-- ---- the journal's room

-- if the room that is left is known
pub room_for : (n : ℕ) (j : Option Journal) → n ≤ room_of j → HasRoomFor n j
room_for n None few = tt
room_for n (Some journal) few = few

pub room_for_one : (n : ℕ) (j : Option Journal) → 1 ≤ n → HasRoomFor n j → HasRoom j
room_for_one n None some room = tt
room_for_one n (Some journal) some room = omega (arith, some, room)

pub room_for_part : (n all : ℕ) (j : Option Journal) → n ≤ all → HasRoomFor all j → HasRoomFor n j
room_for_part n all None within room = tt
room_for_part n all (Some journal) within room = omega (arith, within, room)

-- once some were given back
pub room_left : (given left all : ℕ) (old new : Option Journal) → given + left ≤ all → mark_of new ≡ mark_of old → room_of old ≤ given + room_of new → HasRoomFor all old → HasRoomFor left new
room_left given left all old None within mark less room = tt
room_left given left all None (Some journal) within mark less room = absurd cc
room_left given left all (Some before) (Some journal) within mark less room = omega (arith, within, less, room)

pub none_open : (j : Option Journal) → mark_of j ≡ None → j ≡ None
none_open None mark = refl
none_open (Some journal) mark = absurd cc

-- ---- the first of the detached nodes

pub first_amount : (weight : Extent → ℕ) (t : Nodes Held) (h : Held) → Some h ≡ option_map (λ (l : Label Held). l.payload) (first_label t)
    → amount weight (live_held t) ≡ amount weight (held_extents h) + amount weight (live_held (without_first t))
first_amount weight none h is = absurd cc
first_amount weight (node l below after) h is =
    omega (arith, amount-parts weight l below after, amount-joined weight below after, ap (λ (g : Held). amount weight (held_extents g)) (payload_is h l.payload is))
  where
    payload_is : (g k : Held) → Some g ≡ Some k → g ≡ k
    payload_is g k e = ap (λ (o : Option Held). at o) e
      where
        at : Option Held → Held
        at None = g
        at (Some x) = x

pub first_times : (e : Extent) (t : Nodes Held) (h : Held) → Some h ≡ option_map (λ (l : Label Held). l.payload) (first_label t)
    → times e (live_held t) ≡ times e (held_extents h) + times e (live_held (without_first t))
first_times e t h is =
    omega (arith, first_amount (λ y. if same_extent e y then 1 else 0) t h is, times-amount e (live_held t), times-amount e (held_extents h), times-amount e (live_held (without_first t)))

pub count-joined : (s t : Nodes Held) → count (joined s t) ≡ count s + count t
count-joined none t = omega arith
count-joined (node l below after) t = omega (arith, count-joined after t)

pub first_count : (t : Nodes Held) (h : Held) → Some h ≡ option_map (λ (l : Label Held). l.payload) (first_label t) → count t ≡ 1 + count (without_first t)
first_count none h is = absurd cc
first_count (node l below after) h is = omega (arith, count-joined below after)

pub first_none : (t : Nodes Held) → None ≡ option_map (λ (l : Label Held). l.payload) (first_label t) → t ≡ none
first_none none is = refl
first_none (node l below after) is = absurd cc

pub none_times : (e : Extent) (t : Nodes Held) → None ≡ option_map (λ (l : Label Held). l.payload) (first_label t) → times e (live_held t) ≡ 0
unfolding times
none_times e none is = refl
none_times e (node l below after) is = absurd cc
