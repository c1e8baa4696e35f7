-- What a step of an attached or a detached node asks of the nodes, and what it makes of both sides.
use Rattle.std.proofs.Common.{◌≡◌, ◌≢◌, ℕ, ◌+◌, ◌≤◌, ℤ, pos, Bool, true, false, ◌||◌, Option, Some, None, sym, refl, ap, ◌∙◌, subst, ⊎_elim, arith}
use Rattle.std.specs.Prelude.{if◌then◌else◌}
use Rattle.std.specs.Ordering.{int_eq}
use Rattle.std.proofs.lemmas.Bool.{cases_eq}
use Rattle.std.proofs.lemmas.Bool.Decides.{Decides-int_eq}
use Rattle.sn_forest.specs.Trees.{Trees, none, tree, one_at, uses, count, has_key, last_key, subtree as subtree_of, without as without_key}
use Rattle.sn_forest.specs.Places.{put as put_at, shifted, IsPlaceIn}
use Rattle.sn_forest.specs.declared.place.Place.{Place}
use Rattle.sn_forest.specs.declared.place.Place.TheVariants.{Before as PlaceBefore, After as PlaceAfter}
use Rattle.sn_forest.proofs.Keys.{some_or_none, one_same, one_other, apart, other_key, missing, present}
use Rattle.sn_forest.proofs.Walking.{some_first}
use Rattle.sn_tree.specs.declared.item.Item.{Item}
use Rattle.sn_tree.specs.declared.node.AddAction.{AddAction}
use Rattle.sn_tree.specs.declared.node.AddAction.TheVariants.{Before}
use Rattle.sn_tree.specs.declared.node.NodeKind.{NodeKind}
use Rattle.sn_tree.specs.Trees.{holds, shares}
use Rattle.sn_tree.specs.Faults.{is_beside_root}
use Rattle.sn_tree.specs.Arranged.{Arranged}
use Rattle.sn_tree.specs.Steps.{detaching, attaching, moving, replacing}
use Rattle.sn_tree.specs.Keyed.{labels, front, sides, counted, named, names, placed}
use Rattle.sn_tree.specs.Stored.{IsAmong, IsSound, IsMovable, IsAttachable}
use Rattle.sn_tree.specs.Undoing.{IsInner}
use Rattle.sn_tree.proofs.KeyedPaths.{is_held}
use Rattle.sn_tree.proofs.KeyedLaws.{named-uses, move_sides}
use Rattle.sn_tree.proofs.StoredLaws.{end_stored}
use Rattle.sn_tree.proofs.Sums.{named_sum, count_sum, uses_sum, has_not, out_all, out_front, in_all, in_front}
use Rattle.sn_tree.proofs.SoundLaws.{put_sound, out_sound, move_sound, attach_sound, detach_sound, move_number, attach_number, detach_number}
use Rattle.sn_tree.proofs.LabelLaws.{at, subtree_at}
use Rattle.sn_tree.proofs.OrderLaws.{not_root, is_below, spot_below, spot_among, inserted_sides, detached_sides, attached_sides, top_there, top_out, top_once}

-- a node may go to a place, and then both sides are these
pub record Shifts (t : Trees Item) (key : ℕ) (place : Place) (new : Arranged) : Type 0 where
  pub node : IsInner key t
  pub goes : IsPlaceIn (without_key key t) place
  pub sound : IsSound (shifted key place t)
  pub shows : sides (shifted key place t) ≡ new
  pub few : count (front (shifted key place t)) ≤ 4096

-- ids of some nodes that no other nodes have
shares_apart : (s t : Trees Item) → shares (labels s) (labels t) ≡ false → (id : ℤ) → 1 ≤ names id s → names id t ≡ 0
shares_apart none t h id u = absurd (omega (arith, u))
shares_apart (tree key item below after) t h id u =
    let mine : holds item.id (labels t) ≡ false = or_left (holds item.id (labels t)) (shares (labels below) (labels t) || shares (labels after) (labels t)) h in
    let more : (shares (labels below) (labels t) || shares (labels after) (labels t)) ≡ false = or_right (holds item.id (labels t)) (shares (labels below) (labels t) || shares (labels after) (labels t)) h in
    let inner : shares (labels below) (labels t) ≡ false = or_left (shares (labels below) (labels t)) (shares (labels after) (labels t)) more in
    let later : shares (labels after) (labels t) ≡ false = or_right (shares (labels below) (labels t)) (shares (labels after) (labels t)) more in
    ⊎_elim
    (λ (v : 1 ≤ names id below). shares_apart below t inner id v)
    (λ (v : names id below ≤ 0).
    ⊎_elim
    (λ (w : 1 ≤ names id after). shares_apart after t later id w)
    (λ (w : names id after ≤ 0). here (int_eq item.id id) refl (omega (arith, u, v, w)) mine)
    (some_or_none (names id after)))
    (some_or_none (names id below))
  where
    or_left : (a b : Bool) → (a || b) ≡ false → a ≡ false
    or_left true b f = f
    or_left false b f = refl

    or_right : (a b : Bool) → (a || b) ≡ false → b ≡ false
    or_right true b f = absurd (let c : true ≡ false = f in cc)
    or_right false b f = f

    no_names : (x : ℤ) → holds x (labels t) ≡ false → names x t ≡ 0
    no_names x f = ⊎_elim (λ (v : 1 ≤ names x t). absurd (let c : true ≡ false = sym (is_held x t v) ∙ f in cc)) (λ (v : names x t ≤ 0). omega (arith, v)) (some_or_none (names x t))

    here : (b : Bool) → b ≡ int_eq item.id id → 1 ≤ counted b → holds item.id (labels t) ≡ false → names id t ≡ 0
    here true e c f = subst (λ x. names x t ≡ 0) ((Decides-int_eq item.id id).0 (sym e)) (no_names item.id f)
    here false e c f = absurd (omega (arith, c))

module _ (r : ℕ) (root : Item) (below after : Trees Item) (once : (j : ℕ) → uses j (tree r root below after) ≤ 1) (h : IsSound (tree r root below after)) where
  abbrev all : Trees Item
  all = tree r root below after

  left_once : (k : ℕ) → 1 ≤ uses k all → (j : ℕ) → uses j (without_key k all) ≤ 1
  left_once k u j = omega (arith, once j, out_all (λ (t : Trees Item). uses j t) (uses_sum j) k all once u)

  is_inner : (k : ℕ) → 1 ≤ uses k all → r ≢ k → IsInner k all
  is_inner k u n = record { used = u; inner = λ e. n (some_first r k e) }

  -- a place of the attached nodes without a node
  among_left : (k : ℕ) (u : 1 ≤ uses k all) (n : r ≢ k) (b a : Trees Item) → without_key k all ≡ tree r root b a → (action : AddAction) (target : ℤ) (key : ℕ) → 1 ≤ named target key (front (without_key k all)) → is_beside_root action target ≡ false
      → IsAmong (without_key k all) (placed action key)
  among_left k u n b a e action target key there beside =
      subst (λ t. IsAmong t (placed action key)) (sym e)
      (spot_among r root b a (λ j. omega (arith, left_once k u j, ap (λ x. uses j x) e)) (subst IsSound e (out_sound r root below after once k u n h)) action target key
      (subst (λ t. 1 ≤ named target key (front t)) e there) beside)

  out_of : (k : ℕ) → r ≢ k → without_key k all ≡ tree r root (without_key k below) (without_key k after)
  out_of k n = ap (λ b. if b then without_key k after else tree r root (without_key k below) (without_key k after)) (other_key r k n)

  pub detach_shifts : (id : ℤ) (key end : ℕ) → 1 ≤ named id key (front all) → int_eq id (pos 0) ≡ false → last_key None all ≡ Some end → count (front all) ≤ 4096 + count (subtree_of key all) → Shifts all key (PlaceAfter end) (detaching id (sides all))
  detach_shifts id key end u n e some =
      let there : 1 ≤ uses key below = is_below r root below after once h id key u n in
      record {
        node = is_inner key (omega (arith, there)) (not_root r root below after once h id key u n);
        goes = end_stored all key end once there e;
        sound = detach_sound r root below after once key end there h e;
        shows = detached_sides r root below after once h id key end u n e;
        few = omega (arith, some, detach_number r root below after once key end there e);
      }

  pub move_shifts : (id : ℤ) (action : AddAction) (target : ℤ) (key : ℕ) (place : Place) → IsMovable all id action target key place → int_eq id (pos 0) ≡ false → is_beside_root action target ≡ false
      → count (front all) ≤ 4096 → Shifts all key place (moving id action target (sides all))
  move_shifts id action target key place m n beside some =
      let there : 1 ≤ uses key below = is_below r root below after once h id key m.node n in
      let used : 1 ≤ uses key all = omega (arith, there) in
      let apart_root : r ≢ key = not_root r root below after once h id key m.node n in
      let among : IsAmong (without_key key all) (placed action m.spot.key) =
      among_left key used apart_root (without_key key below) (without_key key after) (out_of key apart_root) action target m.spot.key m.spot.there beside in
      let goes : IsAmong (without_key key all) place = subst (λ p. IsAmong (without_key key all) p) (sym m.spot.is) among in
      record {
        node = is_inner key used apart_root;
        goes = goes.0;
        sound = move_sound r root below after once key place there h goes;
        shows = ap (λ p. sides (shifted key p all)) m.spot.is
            ∙ move_sides r root below after key once there id h.distinct m.node action target m.spot.key m.spot.there
            (spot_below r root (without_key key below) (without_key key after) (λ j. omega (arith, left_once key used j, ap (λ x. uses j x) (out_of key apart_root)))
            (subst IsSound (out_of key apart_root) (out_sound r root below after once key used apart_root h)) action target m.spot.key
            (subst (λ t. 1 ≤ named target m.spot.key (front t)) (out_of key apart_root) m.spot.there) beside);
        few = omega (arith, some, move_number r root below after once key place there goes);
      }

  pub attach_shifts : (id : ℤ) (action : AddAction) (target : ℤ) (key : ℕ) (place : Place) → IsAttachable all id action target key place → is_beside_root action target ≡ false
      → shares (labels (subtree_of key all)) (labels (front all)) ≡ false → count (front all) + count (subtree_of key all) ≤ 4096
      → Shifts all key place (attaching id action target (sides all))
  attach_shifts id action target key place m beside apart_ids some =
      let there : 1 ≤ uses key after = top_there r root below after once h id key m.node in
      let used : 1 ≤ uses key all = omega (arith, there) in
      let apart_root : r ≢ key = apart r key (omega (arith, once key, there)) in
      let front_same : front (without_key key all) ≡ front all = ap front (top_out r root below after once h id key m.node) in
      let among : IsAmong (without_key key all) (placed action m.spot.key) =
      among_left key used apart_root below (without_key key after) (top_out r root below after once h id key m.node) action target m.spot.key (subst (λ t. 1 ≤ named target m.spot.key t) (sym front_same) m.spot.there) beside in
      let goes : IsAmong (without_key key all) place = subst (λ p. IsAmong (without_key key all) p) (sym m.spot.is) among in
      let branch : subtree_of key all ≡ subtree_of key after =
      (λ i. if other_key r key apart_root i then tree r root below none else if missing key below (omega (arith, once key, there)) i then subtree_of key below else subtree_of key after) in
      let distinct : (x : ℤ) → names x (front all) + names x (subtree_of key all) ≤ 1 =
      λ x. ⊎_elim
      (λ (v : 1 ≤ names x (subtree_of key all)).
      omega (arith, shares_apart (subtree_of key all) (front all) apart_ids x v, ap (λ t. names x t) branch, top_once key after (λ j. omega (arith, once j)) h.aside m.node.there x))
      (λ (v : names x (subtree_of key all) ≤ 0). omega (arith, v, h.distinct x))
      (some_or_none (names x (subtree_of key all))) in
      record {
        node = is_inner key used apart_root;
        goes = goes.0;
        sound = attach_sound r root below after once key place there h goes distinct;
        shows = ap (λ p. sides (shifted key p all)) m.spot.is ∙ attached_sides r root below after once h id key m.node action target m.spot.key m.spot.there beside;
        few = omega (arith, some, attach_number r root below after once key place there goes);
      }

-- the same of nodes that are seen as one value
pub detach_any : (t : Trees Item) (id : ℤ) (key end : ℕ) → ((j : ℕ) → uses j t ≤ 1) → IsSound t → 1 ≤ named id key (front t) → int_eq id (pos 0) ≡ false → last_key None t ≡ Some end
    → count (front t) ≤ 4096 + count (subtree_of key t) → Shifts t key (PlaceAfter end) (detaching id (sides t))
detach_any none id key end once h u n e some = absurd (omega (arith, u))
detach_any (tree r root below after) id key end once h u n e some = detach_shifts r root below after once h id key end u n e some

pub attach_any : (t : Trees Item) (id : ℤ) (action : AddAction) (target : ℤ) (key : ℕ) (place : Place) → ((j : ℕ) → uses j t ≤ 1) → IsSound t → IsAttachable t id action target key place → is_beside_root action target ≡ false
    → shares (labels (subtree_of key t)) (labels (front t)) ≡ false → count (front t) + count (subtree_of key t) ≤ 4096 → Shifts t key place (attaching id action target (sides t))
attach_any none id action target key place once h m beside ids some = absurd (omega (arith, m.node.there))
attach_any (tree r root below after) id action target key place once h m beside ids some = attach_shifts r root below after once h id action target key place m beside ids some

pub move_any : (t : Trees Item) (id : ℤ) (action : AddAction) (target : ℤ) (key : ℕ) (place : Place) → ((j : ℕ) → uses j t ≤ 1) → IsSound t → IsMovable t id action target key place → int_eq id (pos 0) ≡ false → is_beside_root action target ≡ false
    → count (front t) ≤ 4096 → Shifts t key place (moving id action target (sides t))
move_any none id action target key place once h m n beside some = absurd (omega (arith, m.node))
move_any (tree r root below after) id action target key place once h m n beside some = move_shifts r root below after once h id action target key place m n beside some

-- a target that isn't in the tree of a node stays when that goes out
pub stays : (t : Trees Item) (id : ℤ) (key : ℕ) (action : AddAction) (target : ℤ) (at_key : ℕ) (place : Place) → ((j : ℕ) → uses j t ≤ 1) → IsSound t → 1 ≤ named id key (front t) → int_eq id (pos 0) ≡ false
    → 1 ≤ named target at_key (front t) → has_key at_key (subtree_of key t) ≡ false → place ≡ placed action at_key → IsMovable t id action target key place
stays none id key action target at_key place once h u n v out is = absurd (omega (arith, u))
stays (tree r root below after) id key action target at_key place once h u n v out is =
    let there : 1 ≤ uses key below = is_below r root below after once h id key u n in
    let gone : uses at_key (subtree_of key (tree r root below after)) ≡ 0 = has_not at_key (subtree_of key (tree r root below after)) out in
    let left : named target at_key (front (without_key key (tree r root below after))) + named target at_key (if has_key key (tree r root below none) then subtree_of key (tree r root below after) else none) ≡ named target at_key (tree r root below none) =
    out_front (named target at_key) (named_sum target at_key) r root below after once key (omega (arith, there)) (not_root r root below after once h id key u n) in
    let fewer : named target at_key (if has_key key (tree r root below none) then subtree_of key (tree r root below after) else none) ≡ named target at_key (subtree_of key (tree r root below after)) =
    ap (λ b. named target at_key (if b then subtree_of key (tree r root below after) else none)) (present key (tree r root below none) (omega (arith, there))) in
    record {
      node = u;
      spot = record { key = at_key; is = is; there = omega (arith, v, left, fewer, gone, named-uses target at_key (subtree_of key (tree r root below after))) };
    }

-- a new node takes the place of another: it goes in before that one, which then goes out
module _ (r : ℕ) (root : Item) (below after : Trees Item) (once : (j : ℕ) → uses j (tree r root below after) ≤ 1) (h : IsSound (tree r root below after)) (target : ℤ) (key : ℕ) (u : 1 ≤ named target key (tree r root below none)) (n : int_eq target (pos 0) ≡ false)
    (k : ℕ) (fresh : uses k (tree r root below after) ≡ 0) (id : ℤ) (kind : NodeKind) (payload : Option ℕ) (absent : names id (tree r root below none) ≡ 0) where
  abbrev new_item : Item
  new_item = record { id = id; kind = kind; running = true; key = payload }

  abbrev grown : Trees Item
  grown = put_at (PlaceBefore key) (tree k new_item none none) (tree r root below after)

  pub replace_among : IsAmong (tree r root below after) (PlaceBefore key)
  replace_among = spot_among r root below after once h Before target key u n

  grown_sound : IsSound grown
  grown_sound = put_sound r root below after once (PlaceBefore key) k new_item replace_among h absent

  grown_once : (j : ℕ) → uses j grown ≤ 1
  grown_once j =
      let more : uses j grown ≡ uses j (tree r root below after) + uses j (tree k new_item none none) =
      in_all (λ (t : Trees Item). uses j t) (uses_sum j) (PlaceBefore key) (tree r root below after) k new_item none once replace_among.0 in
      ⊎_elim
      (λ (e : k ≡ j). omega (arith, more, subst (λ x. uses x (tree r root below after) ≡ 0) e fresh, subst (λ x. one_at k x ≡ 1) e (one_same k)))
      (λ (d : k ≢ j). omega (arith, more, once j, one_other k j d))
      (cases_eq k j)

  grown_named : 1 ≤ named target key (front grown)
  grown_named =
      omega (arith, u, in_front (named target key) (named_sum target key) r root below after once (PlaceBefore key) k new_item none replace_among.0)

  grown_number : count (front grown) ≤ count (tree r root below none) + 1
  grown_number =
      omega (
        arith,
        in_front (λ (t : Trees Item). count t) count_sum r root below after once (PlaceBefore key) k new_item none replace_among.0,
        ap (λ b. count (if b then tree k new_item none none else none)) replace_among.1,
      )

  grown_some : 1 ≤ count (subtree_of key grown)
  grown_some = omega (arith, ap (λ (t : Trees Item). count t) (subtree_at grown target key (at grown target key grown_once (grown_sound.distinct target) grown_named)))

  pub replace_shifts : (end : ℕ) → last_key None grown ≡ Some end → count (tree r root below none) ≤ 4096 → Shifts grown key (PlaceAfter end) (replacing id kind target payload (sides (tree r root below after)))
  replace_shifts end e some =
      let s : Shifts grown key (PlaceAfter end) (detaching target (sides grown)) = detach_any grown target key end grown_once grown_sound grown_named n e (omega (arith, some, grown_number, grown_some)) in
      record {
        node = s.node;
        goes = s.goes;
        sound = s.sound;
        few = s.few;
        shows = s.shows ∙ ap (detaching target) (inserted_sides r root below after once h Before target key k id kind payload u n);
      }
