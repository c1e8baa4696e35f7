-- What each call of the order makes of what is seen of it.
use Rattle.std.proofs.Common.{◌≡◌, ℕ, ◌+◌, ◌≤◌, ℤ, Bool, true, false, Option, Some, None, sym, refl, ap, ◌∙◌, subst, arith}
use Rattle.std.specs.Prelude.{if◌then◌else◌}
use Rattle.sn_forest.specs.Trees.{Trees, none, tree, uses, count}
use Rattle.sn_forest.specs.Places.{put, shifted}
use Rattle.sn_forest.specs.Walking.{behind_node, behind_tree}
use Rattle.sn_forest.specs.declared.place.Place.{Place}
use Rattle.sn_tree.specs.declared.node.AddAction.{AddAction}
use Rattle.sn_tree.specs.declared.node.NodeKind.{NodeKind}
use Rattle.sn_tree.specs.Faults.{is_beside_root}
use Rattle.sn_tree.specs.Trees.{without_first}
use Rattle.sn_tree.specs.Arranged.{Arranged}
use Rattle.sn_tree.specs.Saving.{SavedNodes, HasSpare as HasSpareSaved, spent, noted}
use Rattle.sn_tree.specs.Steps.{inserting, setting}
use Rattle.sn_tree.specs.declared.item.Item.{Item}
use Rattle.sn_tree.specs.Keyed.{front, sides, named, placed, flagged, with_behind}
use Rattle.sn_tree.specs.Stored.{IsSound, IsSpot, IsAmong}
use Rattle.sn_tree.specs.Undoing.{restored}
use Rattle.sn_tree.specs.Journals.{Steps, HasSpare}
use Rattle.sn_tree.specs.Ordered.{Ordered, ordered_by, saved_by, restored_nodes, AreFew, IsReady}
use Rattle.sn_tree.proofs.Sums.{count_sum, in_front}
use Rattle.sn_tree.proofs.FlagLaws.{flag_front}
use Rattle.sn_tree.proofs.OrderLaws.{spot_among, inserted_sides, run_sides, freed_sides}
use Rattle.sn_tree.proofs.OrderShifts.{Shifts}
use Rattle.sn_tree.proofs.StepLaws.{Followed, FollowedNew}

-- room for a step, and no journal, as they are seen
pub spare_of : (t : Trees Item) (journal : Option Steps) → HasSpareSaved (saved_by t journal) → HasSpare journal
spare_of t None h = tt
spare_of t (Some journal) h = h

pub spare_noted : (key : ℕ) (saved : Option SavedNodes) → HasSpareSaved saved → HasSpareSaved (noted key saved)
spare_noted key None h = tt
spare_noted key (Some saved) h = h

pub closed_of : (t : Trees Item) (journal : Option Steps) → saved_by t journal ≡ None → journal ≡ None
closed_of t None h = refl
closed_of t (Some journal) h = cc

-- an order as it is seen after a call
pub record Gives (now : Trees Item) (new : Option Steps) (nodes : Arranged) (saved : Option SavedNodes) : Type 0 where
  pub shows : ordered_by now new ≡ record { now = nodes; saved = saved }
  pub ready : IsReady now new
  pub few : AreFew now

shown_by : (now : Trees Item) (new : Option Steps) (nodes : Arranged) (saved : Option SavedNodes) → sides now ≡ nodes → saved_by now new ≡ saved → ordered_by now new ≡ record { now = nodes; saved = saved }
shown_by now new nodes saved e f = (λ i. let o : Ordered = record { now = e i; saved = f i } in o)

pub shift_gives : (t now : Trees Item) (journal new : Option Steps) (key : ℕ) (place : Place) (nodes : Arranged) → Shifts t key place nodes → now ≡ shifted key place t → Followed t now journal new → Gives now new nodes (spent 1 (saved_by t journal))
shift_gives t now journal new key place nodes s g f = record {
  shows = shown_by now new nodes (spent 1 (saved_by t journal)) (ap sides g ∙ s.shows) f.kept;
  ready = f.ready;
  few = subst AreFew (sym g) s.few;
}

pub run_gives : (t now : Trees Item) (journal new : Option Steps) (id : ℤ) (key : ℕ) (on : Bool) → ((j : ℕ) → uses j t ≤ 1) → IsSound t → AreFew t → 1 ≤ named id key (front t) → now ≡ flagged key on t → Followed t now journal new
    → Gives now new (setting id on (sides t)) (spent 1 (saved_by t journal))
run_gives none now journal new id key on once h few u g f = absurd (omega (arith, u))
run_gives (tree r root below after) now journal new id key on once h few u g f = record {
  shows = shown_by now new (setting id on (sides (tree r root below after))) (spent 1 (saved_by (tree r root below after) journal)) (ap sides g ∙ run_sides r root below after once h id key on u) f.kept;
  ready = f.ready;
  few = subst AreFew (sym g) (omega (arith, few, flag_front (λ (t : Trees Item). count t) count_sum (λ key on item. refl) key on (tree r root below after)));
}

-- a place by its spot is among the attached nodes
pub spot_is_among : (t : Trees Item) (action : AddAction) (target : ℤ) (place : Place) → ((j : ℕ) → uses j t ≤ 1) → IsSound t → IsSpot t action target place → is_beside_root action target ≡ false → IsAmong t place
spot_is_among none action target place once h s beside = absurd (omega (arith, s.there))
spot_is_among (tree r root below after) action target place once h s beside =
    subst (λ p. IsAmong (tree r root below after) p) (sym s.is) (spot_among r root below after once h action target s.key s.there beside)

pub insert_gives : (t now : Trees Item) (journal new : Option Steps) (action : AddAction) (target : ℤ) (place : Place) (node : ℕ) (id : ℤ) (kind : NodeKind) (payload : Option ℕ) (key : ℕ) → ((j : ℕ) → uses j t ≤ 1) → IsSound t
    → IsSpot t action target place → is_beside_root action target ≡ false → count (front t) + 1 ≤ 4096
    → now ≡ put place (tree node (record { id = id; kind = kind; running = true; key = payload }) none none) t → FollowedNew t now journal new key
    → Gives now new (inserting id kind action target payload (sides t)) (noted key (saved_by t journal))
insert_gives none now journal new action target place node id kind payload key once h s beside few g f = absurd (omega (arith, s.there))
insert_gives (tree r root below after) now journal new action target place node id kind payload key once h s beside few g f =
    let t : Trees Item = tree r root below after in
    let item : Item = record { id = id; kind = kind; running = true; key = payload } in
    let among : IsAmong t place = spot_is_among t action target place once h s beside in
    let is : now ≡ put (placed action s.key) (tree node item none none) t = g ∙ ap (λ p. put p (tree node item none none) t) s.is in
    record {
      shows = shown_by now new (inserting id kind action target payload (sides t)) (noted key (saved_by t journal))
          (ap sides is ∙ inserted_sides r root below after once h action target s.key node id kind payload s.there beside) f.kept;
      ready = f.ready;
      few = subst AreFew (sym g)
          (omega (arith, few, in_front (λ (x : Trees Item). count x) count_sum r root below after once place node item none among.0, ap (λ b. count (if b then tree node item none none else none)) among.1));
    }

pub freed_gives : (t now : Trees Item) (journal : Option Steps) → journal ≡ None → AreFew t → now ≡ with_behind (behind_node (behind_tree t)) t
    → Gives now journal (record { attached = (sides t).attached; detached = without_first (sides t).detached }) None
freed_gives t now journal closed few g = record {
  shows = shown_by now journal (record { attached = (sides t).attached; detached = without_first (sides t).detached }) None (ap sides g ∙ freed_sides t) (ap (saved_by now) closed);
  ready = subst (IsReady now) (sym closed) tt;
  few = subst AreFew (sym g) (few_freed t few);
}
  where
    few_freed : (t : Trees Item) → AreFew t → AreFew (with_behind (behind_node (behind_tree t)) t)
    few_freed none h = h
    few_freed (tree r root below after) h = h

-- the saved nodes are back
pub undone_gives : (t now : Trees Item) (journal : Steps) → IsReady t (Some journal) → now ≡ restored journal.steps t → Gives now None (restored_nodes (sides t) (saved_by t (Some journal))) None
undone_gives t now journal h g = record {
  shows = shown_by now None (sides (restored journal.steps t)) None (ap sides g) refl;
  ready = tt;
  few = subst AreFew (sym g) h.1;
}
