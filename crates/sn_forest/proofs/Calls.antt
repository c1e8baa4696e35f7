-- What the calls of a forest make of its slots.
use Rattle.std.proofs.Common.{◌≡◌, ◌≢◌, ℕ, ◌+◌, ◌<◌, ◌≤◌, List, Option, Some, None, sym, refl, ap, ◌∙◌, subst, arith}
use Rattle.std.specs.Prelude.{◌^◌}
use Rattle.std.specs.Option.{option_map}
use Rattle.slab.specs.Slab.{Slab, get, ContainsKey, Updates, slab_len}
use Rattle.sn_forest.specs.declared.links.Links.{Links}
use Rattle.sn_forest.specs.declared.slot.Slot.{Slot}
use Rattle.sn_forest.specs.declared.slot.Corner.{Corner}
use Rattle.sn_forest.specs.declared.place.Place.{Place}
use Rattle.sn_forest.specs.Trees.{Trees, none, tree, uses, first_key, without, below_of, value_of, with_value}
use Rattle.sn_forest.specs.Links.{slot_at, links_in, unlinked, end_without, inlinked, end_after, holding}
use Rattle.sn_forest.specs.Linked.{IsForest, trees_of}
use Rattle.sn_forest.specs.Places.{put, shifted, corner_at, IsPlaceIn}
use Rattle.sn_forest.proofs.Growing.{forest_is, forest_sound}
use Rattle.sn_forest.proofs.Loose.{IsLoose, fresh_loose, gone, held_once}
use Rattle.sn_forest.proofs.Holes.{pasted, IsCut, cut_out, now_valued}

module _ {T : Type 0} where
  -- what the slots stand for now
  pub record Shows (slots : List (Option (Slot T))) (root : ℕ) (end : Option ℕ) (trees : Trees T) : Type 0 where
    pub sound : IsForest slots root end (trees_of slots root)
    pub is : trees_of slots root ≡ trees

  pub shows : (slots : List (Option (Slot T))) (root : ℕ) (end : Option ℕ) (trees : Trees T) → IsForest slots root end trees → Shows slots root end trees
  shows slots root end trees h = record { sound = forest_sound slots root end trees h; is = forest_is slots root end trees h }

  put_in : (s out : Slab (Slot T)) (root : ℕ) (end last : Option ℕ) (place : Place) (corner : Corner) (k : ℕ) (value : T) (below rest : Trees T)
      → IsLoose s.slots root end k value below rest → IsPlaceIn rest place
      → corner ≡ corner_at place s.slots → out ≡ inlinked k corner s → last ≡ end_after corner.parent corner.next (Some k) end
      → IsForest out.slots root last (put place (tree k value below none) rest)
  put_in s out root end last place corner k value below rest h u c o l =
      subst (λ (x : Slab (Slot T)). IsForest x.slots root last (put place (tree k value below none) rest)) (sym o)
      (subst (λ x. IsForest (inlinked k corner s).slots root x (put place (tree k value below none) rest)) (sym l)
      (subst (λ (x : Corner). IsForest (inlinked k x s).slots root (end_after x.parent x.next (Some k) end) (put place (tree k value below none) rest)) (sym c)
      (pasted s root end place k value below rest h u)))

  taken_out : (s out : Slab (Slot T)) (root : ℕ) (end last : Option ℕ) (links : Links) (k : ℕ) (trees : Trees T) (c : IsCut s root end k trees)
      → links ≡ links_in (slot_at s.slots k) → out ≡ unlinked links s → last ≡ end_without links end
      → IsLoose out.slots root last k c.value c.below (without k trees)
  taken_out s out root end last links k trees c l o e =
      subst (λ (x : Slab (Slot T)). IsLoose x.slots root last k c.value c.below (without k trees)) (sym o)
      (subst (λ x. IsLoose (unlinked links s).slots root x k c.value c.below (without k trees)) (sym e)
      (subst (λ x. IsLoose (unlinked x s).slots root (end_without x end) k c.value c.below (without k trees)) (sym l) c.loose))

  pub moved_to : (s near out : Slab (Slot T)) (root : ℕ) (end middle last : Option ℕ) (k : ℕ) (place : Place) (links : Links) (corner : Corner) (trees : Trees T)
      → IsForest s.slots root end (trees_of s.slots root) → trees_of s.slots root ≡ trees → 1 ≤ uses k trees → first_key trees ≢ Some k → IsPlaceIn (without k trees) place
      → links ≡ links_in (slot_at s.slots k) → near ≡ unlinked links s → middle ≡ end_without links end
      → corner ≡ corner_at place near.slots → out ≡ inlinked k corner near → last ≡ end_after corner.parent corner.next (Some k) middle
      → Shows out.slots root last (shifted k place trees)
  moved_to s near out root end middle last k place links corner trees h t u n v l o e c p f =
      let cut : IsCut s root end k trees = cut_out s root end k trees (subst (λ x. IsForest s.slots root end x) t h) u n in
      shows out.slots root last (shifted k place trees)
      (subst (λ x. IsForest out.slots root last (put place x (without k trees))) (sym cut.top_is)
      (put_in near out root middle last place corner k cut.value cut.below (without k trees) (taken_out s near root end middle links k trees cut l o e) v c p f))

  pub inserted_at : (s room new out : Slab (Slot T)) (root : ℕ) (end last : Option ℕ) (k : ℕ) (place : Place) (slot : Slot T) (value : T) (corner : Corner) (trees : Trees T)
      → IsForest s.slots root end (trees_of s.slots root) → trees_of s.slots root ≡ trees → IsPlaceIn trees place
      → room ≡ record s { capacity = room.capacity } → get room k ≡ None → Updates room new k (Some slot) → slab_len new ≡ slab_len room + 1
      → slot.value ≡ value → slot.links ≡ record { parent = None; previous = None; next = None; first = None; last = None } → k < 2 ^ 32
      → corner ≡ corner_at place new.slots → out ≡ inlinked k corner new → last ≡ end_after corner.parent corner.next (Some k) end
      → Shows out.slots root last (put place (tree k value none none) trees)
  inserted_at s room new out root end last k place slot value corner trees h t u r vacant up long v l small c p f =
      let ready : IsForest room.slots root end trees = subst (λ (x : Slab (Slot T)). IsForest x.slots root end trees) (sym r) (subst (λ x. IsForest s.slots root end x) t h) in
      let loose : IsLoose new.slots root end k slot.value none trees = fresh_loose room new root end k slot.value slot.links trees ready vacant up long (ap (λ (x : Links). x.first) l) (ap (λ (x : Links). x.last) l) small in
      shows out.slots root last (put place (tree k value none none) trees)
      (put_in new out root end last place corner k value none trees (subst (λ x. IsLoose new.slots root end k x none trees) v loose) u c p f)

  pub record Removed (near out : Slab (Slot T)) (root : ℕ) (last : Option ℕ) (k : ℕ) (slot : Slot T) (trees : Trees T) : Type 0 where
    pub rest : Shows out.slots root last (without k trees)
    pub value : value_of k trees ≡ Some slot.value
    pub there : get near k ≡ Some slot

  pub removed_at : (s near out : Slab (Slot T)) (root : ℕ) (end last : Option ℕ) (k : ℕ) (links : Links) (slot : Slot T) (trees : Trees T)
      → IsForest s.slots root end (trees_of s.slots root) → trees_of s.slots root ≡ trees → 1 ≤ uses k trees → first_key trees ≢ Some k → below_of k trees ≡ none
      → links ≡ links_in (slot_at s.slots k) → near ≡ unlinked links s → last ≡ end_without links end
      → get near k ≡ Some slot → Updates near out k None → slab_len out + 1 ≡ slab_len near
      → Removed near out root last k slot trees
  removed_at s near out root end last k links slot trees h t u n b l o e g up long =
      let cut : IsCut s root end k trees = cut_out s root end k trees (subst (λ x. IsForest s.slots root end x) t h) u n in
      let loose : IsLoose near.slots root last k cut.value cut.below (without k trees) = taken_out s near root end last links k trees cut l o e in
      let leaf : IsLoose near.slots root last k cut.value none (without k trees) = subst (λ x. IsLoose near.slots root last k cut.value x (without k trees)) (sym cut.inside ∙ b) loose in
      record {
        rest = shows out.slots root last (without k trees) (gone near out root last k cut.value (without k trees) leaf up long);
        value = cut.holds ∙ ap (option_map (λ (x : Slot T). x.value)) (sym loose.slot ∙ g);
        there = g;
      }

  -- the slot of a node that is taken out is there
  pub still_there : (s near : Slab (Slot T)) (root : ℕ) (end last : Option ℕ) (k : ℕ) (links : Links) (trees : Trees T)
      → IsForest s.slots root end (trees_of s.slots root) → trees_of s.slots root ≡ trees → 1 ≤ uses k trees → first_key trees ≢ Some k
      → links ≡ links_in (slot_at s.slots k) → near ≡ unlinked links s → last ≡ end_without links end → ContainsKey near k
  still_there s near root end last k links trees h t u n l o e =
      let cut : IsCut s root end k trees = cut_out s root end k trees (subst (λ x. IsForest s.slots root end x) t h) u n in
      let loose : IsLoose near.slots root last k cut.value cut.below (without k trees) = taken_out s near root end last links k trees cut l o e in
      rw loose.slot refl

  pub set_at : (s out : Slab (Slot T)) (root : ℕ) (end : Option ℕ) (k : ℕ) (value : T) (trees : Trees T)
      → IsForest s.slots root end (trees_of s.slots root) → trees_of s.slots root ≡ trees → 1 ≤ uses k trees → out ≡ holding k value s
      → Shows out.slots root end (with_value k value trees)
  set_at s out root end k value trees h t u o =
      shows out.slots root end (with_value k value trees)
      (subst (λ (x : Slab (Slot T)). IsForest x.slots root end (with_value k value trees)) (sym o)
      (now_valued s.slots root end k value trees (subst (λ x. IsForest s.slots root end x) t h) u))

  pub once_shown : (slots : List (Option (Slot T))) (root : ℕ) (end : Option ℕ) (trees : Trees T)
      → IsForest slots root end (trees_of slots root) → trees_of slots root ≡ trees → (j : ℕ) → uses j trees ≤ 1
  once_shown slots root end trees h t j = omega (arith, h.filled j, held_once slots j, ap (λ x. uses j x) t)

  pub small_shown : (slots : List (Option (Slot T))) (root : ℕ) (end : Option ℕ) (trees : Trees T)
      → IsForest slots root end (trees_of slots root) → trees_of slots root ≡ trees → (j : ℕ) → 1 ≤ uses j trees → j < 2 ^ 32
  small_shown slots root end trees h t j u = h.fits j (omega (arith, u, ap (λ x. uses j x) t))
