-- A place is a hole, and what is put there fills it.
use Rattle.std.proofs.Common.{◌≡◌, ◌≢◌, ℕ, ◌+◌, ◌≤◌, List, Option, Some, None, sym, refl, ap, ◌∙◌, subst, arith}
use Rattle.std.specs.Option.{option_map}
use Rattle.slab.specs.Slab.{Slab}
use Rattle.sn_forest.specs.declared.links.Links.{Links}
use Rattle.sn_forest.specs.declared.slot.Slot.{Slot}
use Rattle.sn_forest.specs.declared.slot.Corner.{Corner}
use Rattle.sn_forest.specs.declared.place.Place.{Place}
use Rattle.sn_forest.specs.declared.place.Place.TheVariants.{First, Last, Before, After}
use Rattle.sn_forest.specs.Trees.{Trees, none, tree, one_at, uses, first_key, last_key, joined, subtree, without, below_of, value_of, with_value}
use Rattle.sn_forest.specs.Links.{slot_at, changed_at, links_in, unlinked, end_without, inlinked, end_after, valued}
use Rattle.sn_forest.specs.Linked.{slot_for, Linked, IsForest}
use Rattle.sn_forest.specs.Places.{key_of, put, corner_at, IsPlaceIn}
use Rattle.sn_forest.proofs.Keys.{one_same, differ, joined-none}
use Rattle.sn_forest.proofs.Frames.{at_changed, at_apart, linked_frame, path_frame}
use Rattle.sn_forest.proofs.Filling.{SameKeys, same_changed}
use Rattle.sn_forest.proofs.Paths.{Path, top, under, beside, plug, parent_of, previous_of, path_uses, LinkedPath, uses-plug, count-plug, path_linked, linked_path, Found, found}
use Rattle.sn_forest.proofs.Passing.{without_at, first_at, last_at, before_at, after_at, subtree_found, below_found, value_at, value_found}
use Rattle.sn_forest.proofs.Rejoining.{differ_path, rejoined, end_rejoined}
use Rattle.sn_forest.proofs.Loose.{IsLoose, IsInner, is_inner, first_plug, held_once, cut_loose, paste_loose}

module _ {T : Type 0} where
  -- the hole at a place of these trees
  pub record Gap (place : Place) (trees : Trees T) : Type 0 where
    pub path : Path T
    pub after : Trees T
    pub is : trees ≡ plug path after
    pub inner : IsInner path
    pub puts : (k : ℕ) (value : T) (below : Trees T) → put place (tree k value below none) trees ≡ plug path (tree k value below after)

  -- the same, and what the slots tell of it
  pub record Hole (slots : List (Option (Slot T))) (place : Place) (trees : Trees T) : Type 0 where
    pub gap : Gap place trees
    pub corner : corner_at place slots ≡ record { parent = parent_of gap.path; previous = previous_of gap.path; next = first_key gap.after }

  -- the slot of a node at the end of its path
  pub slot_is : (slots : List (Option (Slot T))) (p : Path T) (k : ℕ) (value : T) (below after : Trees T) → Linked slots None None (plug p (tree k value below after))
      → slot_at slots k ≡ Some (slot_for value (parent_of p) (previous_of p) (first_key after) (first_key below) (last_key None below))
  slot_is slots p k value below after h =
      let parts : LinkedPath slots (last_key None (plug p (tree k value below after))) p (Some k) (last_key (Some k) after) × Linked slots (parent_of p) (previous_of p) (tree k value below after) =
      path_linked slots (last_key None (plug p (tree k value below after))) p (tree k value below after) h refl in
      parts.1.0

  pub links_are : (slots : List (Option (Slot T))) (p : Path T) (k : ℕ) (value : T) (below after : Trees T) → Linked slots None None (plug p (tree k value below after))
      → links_in (slot_at slots k) ≡ record { parent = parent_of p; previous = previous_of p; next = first_key after; first = first_key below; last = last_key None below }
  links_are slots p k value below after h = ap links_in (slot_is slots p k value below after h)

  -- the hole at the end of a level
  abbrev along : Trees T → Path T → Path T
  along none p = p
  along (tree key value below after) p = along after (beside key value below p)

  along_plug : (t u : Trees T) (p : Path T) → plug (along t p) u ≡ plug p (joined t u)
  along_plug none u p = refl
  along_plug (tree key value below after) u p = along_plug after u (beside key value below p)

  along_parent : (t : Trees T) (p : Path T) → parent_of (along t p) ≡ parent_of p
  along_parent none p = refl
  along_parent (tree key value below after) p = along_parent after (beside key value below p)

  along_previous : (t : Trees T) (p : Path T) → previous_of (along t p) ≡ last_key (previous_of p) t
  along_previous none p = refl
  along_previous (tree key value below after) p = along_previous after (beside key value below p)

  along_inner : (t : Trees T) (p : Path T) → IsInner p → IsInner (along t p)
  along_inner none p i = i
  along_inner (tree key value below after) p i = along_inner after (beside key value below p) tt

  -- the hole at a place, by the path of the node that names it
  gap_in : (place : Place) (p : Path T) (value : T) (below after : Trees T) → path_uses (key_of place) p ≡ 0
      → IsPlaceIn (plug p (tree (key_of place) value below after)) place → Gap place (plug p (tree (key_of place) value below after))
  gap_in (First k) p value below after z w = record { path = under k value after p; after = below; is = refl; inner = tt; puts = λ j v b. first_at p k value below after (tree j v b none) z }
  gap_in (Last k) p value below after z w = record {
    path = along below (under k value after p);
    after = none;
    is = sym (along_plug below none (under k value after p) ∙ ap (λ x. plug p (tree k value x after)) (joined-none below));
    inner = along_inner below (under k value after p) tt;
    puts = λ j v b. last_at p k value below after (tree j v b none) z ∙ sym (along_plug below (tree j v b none) (under k value after p));
  }
  gap_in (Before k) p value below after z w = record { path = p; after = tree k value below after; is = refl; inner = is_inner p k value below after w.1; puts = λ j v b. before_at p k value below after (tree j v b none) z }
  gap_in (After k) p value below after z w = record { path = beside k value below p; after = after; is = refl; inner = tt; puts = λ j v b. after_at p k value below after (tree j v b none) z }

  hole_in : (slots : List (Option (Slot T))) (place : Place) (p : Path T) (value : T) (below after : Trees T) → path_uses (key_of place) p ≡ 0
      → IsPlaceIn (plug p (tree (key_of place) value below after)) place → Linked slots None None (plug p (tree (key_of place) value below after))
      → Hole slots place (plug p (tree (key_of place) value below after))
  unfolding gap_in
  hole_in slots (First k) p value below after z w h = record {
    gap = gap_in (First k) p value below after z w;
    corner = ap (λ (l : Links). let c : Corner = record { parent = Some k; previous = None; next = l.first } in c) (links_are slots p k value below after h);
  }
  hole_in slots (Last k) p value below after z w h = record {
    gap = gap_in (Last k) p value below after z w;
    corner = ap (λ (l : Links). let c : Corner = record { parent = Some k; previous = l.last; next = None } in c) (links_are slots p k value below after h)
        ∙ sym (λ i. let c : Corner = record { parent = along_parent below (under k value after p) i; previous = along_previous below (under k value after p) i; next = None } in c);
  }
  hole_in slots (Before k) p value below after z w h = record {
    gap = gap_in (Before k) p value below after z w;
    corner = ap (λ (l : Links). let c : Corner = record { parent = l.parent; previous = l.previous; next = Some k } in c) (links_are slots p k value below after h);
  }
  hole_in slots (After k) p value below after z w h = record {
    gap = gap_in (After k) p value below after z w;
    corner = ap (λ (l : Links). let c : Corner = record { parent = l.parent; previous = Some k; next = l.next } in c) (links_are slots p k value below after h);
  }

  pub place_used : (trees : Trees T) (place : Place) → IsPlaceIn trees place → 1 ≤ uses (key_of place) trees
  place_used trees (First k) h = h
  place_used trees (Last k) h = h
  place_used trees (Before k) h = h.0
  place_used trees (After k) h = h

  -- no other node of its path has the key of a node
  pub alone_on : (trees : Trees T) (k : ℕ) (f : Found k trees) → ((j : ℕ) → uses j trees ≤ 1) → path_uses k f.path ≡ 0
  alone_on trees k f once = omega (arith, once k, ap (λ x. uses k x) f.is, uses-plug k f.path (tree k f.value f.below f.after), one_same k)

  pub gap : (place : Place) (trees : Trees T) → ((j : ℕ) → uses j trees ≤ 1) → IsPlaceIn trees place → Gap place trees
  gap place trees once w =
      let f : Found (key_of place) trees = found (key_of place) top trees (place_used trees place w) in
      subst (λ x. Gap place x) (sym f.is) (gap_in place f.path f.value f.below f.after (alone_on trees (key_of place) f once) (subst (λ x. IsPlaceIn x place) f.is w))

  pub hole : (slots : List (Option (Slot T))) (place : Place) (trees : Trees T) → ((j : ℕ) → uses j trees ≤ 1) → Linked slots None None trees → IsPlaceIn trees place → Hole slots place trees
  hole slots place trees once h w =
      let f : Found (key_of place) trees = found (key_of place) top trees (place_used trees place w) in
      subst (λ x. Hole slots place x) (sym f.is)
      (hole_in slots place f.path f.value f.below f.after (alone_on trees (key_of place) f once) (subst (λ x. IsPlaceIn x place) f.is w) (subst (λ x. Linked slots None None x) f.is h))

  -- a loose node is put in at a place
  pub pasted : (s : Slab (Slot T)) (root : ℕ) (end : Option ℕ) (place : Place) (k : ℕ) (value : T) (below rest : Trees T)
      → IsLoose s.slots root end k value below rest → IsPlaceIn rest place
      → IsForest (inlinked k (corner_at place s.slots) s).slots root (end_after (corner_at place s.slots).parent (corner_at place s.slots).next (Some k) end) (put place (tree k value below none) rest)
  pasted s root end place k value below rest h u =
      let o : Hole s.slots place rest = hole s.slots place rest (λ j. omega (arith, h.filled j, held_once s.slots j)) h.linked u in
      let done = paste_loose s root end o.gap.path k value below o.gap.after (subst (λ x. IsLoose s.slots root end k value below x) o.gap.is h) o.gap.inner in
      subst (λ (c : Corner). IsForest (inlinked k c s).slots root (end_after c.parent c.next (Some k) end) (put place (tree k value below none) rest)) (sym o.corner)
      (subst (λ x. IsForest (inlinked k (record { parent = parent_of o.gap.path; previous = previous_of o.gap.path; next = first_key o.gap.after }) s).slots root (end_after (parent_of o.gap.path) (first_key o.gap.after) (Some k) end) x) (sym (o.gap.puts k value below)) done)

  -- a node is taken out

  pub record IsCut (s : Slab (Slot T)) (root : ℕ) (end : Option ℕ) (k : ℕ) (trees : Trees T) : Type 0 where
    pub value : T
    pub below : Trees T
    pub loose : IsLoose (unlinked (links_in (slot_at s.slots k)) s).slots root (end_without (links_in (slot_at s.slots k)) end) k value below (without k trees)
    pub top_is : subtree k trees ≡ tree k value below none
    pub inside : below_of k trees ≡ below
    pub holds : value_of k trees ≡ Some value

  cut_in : (s : Slab (Slot T)) (root : ℕ) (end : Option ℕ) (p : Path T) (k : ℕ) (value : T) (below after : Trees T)
      → IsForest s.slots root end (plug p (tree k value below after)) → first_key (plug p (tree k value below after)) ≢ Some k → IsCut s root end k (plug p (tree k value below after))
  cut_in s root end p k value below after h n =
      let once : path_uses k p + (one_at k k + (uses k below + uses k after)) ≤ 1 = omega (arith, uses-plug k p (tree k value below after), h.filled k, held_once s.slots k) in
      let none_here : path_uses k p ≡ 0 = omega (arith, once, one_same k) in
      let none_after : uses k after ≡ 0 = omega (arith, once, one_same k) in
      let loose = cut_loose s root end p k value below after h (is_inner p k value below after n) in
      record {
        value = value;
        below = below;
        loose = subst (λ (l : Links). IsLoose (unlinked l s).slots root (end_without l end) k value below (without k (plug p (tree k value below after)))) (sym (links_are s.slots p k value below after h.linked))
            (subst (λ x. IsLoose (rejoined p after (first_key after) (previous_of p) s).slots root (end_rejoined p after (previous_of p) end) k value below x) (sym (without_at p k value below after none_here none_after)) loose);
        top_is = subtree_found p k value below after none_here;
        inside = below_found p k value below after none_here;
        holds = value_found p k value below after none_here;
      }

  pub cut_out : (s : Slab (Slot T)) (root : ℕ) (end : Option ℕ) (k : ℕ) (trees : Trees T) → IsForest s.slots root end trees → 1 ≤ uses k trees → first_key trees ≢ Some k → IsCut s root end k trees
  cut_out s root end k trees h u n =
      let f : Found k trees = found k top trees u in
      subst (λ x. IsCut s root end k x) (sym f.is)
      (cut_in s root end f.path k f.value f.below f.after (subst (λ x. IsForest s.slots root end x) f.is h) (λ e. n (ap first_key f.is ∙ e)))

  -- a node holds another value

  valued_in : (slots : List (Option (Slot T))) (root : ℕ) (end : Option ℕ) (p : Path T) (k : ℕ) (value new : T) (below after : Trees T)
      → IsForest slots root end (plug p (tree k value below after)) → IsForest (changed_at k (valued new) slots) root end (plug p (tree k new below after))
  valued_in slots root end p k value new below after h =
      let out : List (Option (Slot T)) = changed_at k (valued new) slots in
      let once : path_uses k p + (one_at k k + (uses k below + uses k after)) ≤ 1 = omega (arith, uses-plug k p (tree k value below after), h.filled k, held_once slots k) in
      let parts : LinkedPath slots end p (Some k) (last_key (Some k) after) × Linked slots (parent_of p) (previous_of p) (tree k value below after) = path_linked slots end p (tree k value below after) h.linked h.ends in
      let path : LinkedPath out end p (Some k) (last_key (Some k) after) = path_frame slots out end p (Some k) (last_key (Some k) after)
      (λ j u. at_apart slots k (valued new) j (differ_path j k p u (omega (arith, once, one_same k)))) parts.0 in
      let slot : slot_at out k ≡ Some (slot_for new (parent_of p) (previous_of p) (first_key after) (first_key below) (last_key None below)) =
      at_changed slots k (valued new) ∙ ap (option_map (valued new)) parts.1.0 in
      let inside : Linked out (Some k) None below = linked_frame slots out (Some k) None below (λ j u. at_apart slots k (valued new) j (differ j k below u (omega (arith, once, one_same k)))) parts.1.1 in
      let rest : Linked out (parent_of p) (Some k) after = linked_frame slots out (parent_of p) (Some k) after (λ j u. at_apart slots k (valued new) j (differ j k after u (omega (arith, once, one_same k)))) parts.1.2 in
      let whole = linked_path out end p (tree k new below after) path (slot, inside, rest) in
      let same : SameKeys slots out = same_changed slots k (valued new) in
      record {
        linked = whole.0;
        ends = whole.1;
        begins = first_plug p (tree k new below after) (tree k value below after) refl ∙ h.begins;
        filled = λ j. omega (arith, uses-plug j p (tree k new below after), uses-plug j p (tree k value below after), h.filled j, same.keys j);
        full = omega (arith, count-plug p (tree k new below after), count-plug p (tree k value below after), h.full, same.number);
        fits = λ j u. h.fits j (omega (arith, uses-plug j p (tree k new below after), uses-plug j p (tree k value below after), u));
      }

  pub now_valued : (slots : List (Option (Slot T))) (root : ℕ) (end : Option ℕ) (k : ℕ) (new : T) (trees : Trees T)
      → IsForest slots root end trees → 1 ≤ uses k trees → IsForest (changed_at k (valued new) slots) root end (with_value k new trees)
  now_valued slots root end k new trees h u =
      let f : Found k trees = found k top trees u in
      let z : path_uses k f.path ≡ 0 = omega (arith, h.filled k, held_once slots k, ap (λ x. uses k x) f.is, uses-plug k f.path (tree k f.value f.below f.after), one_same k) in
      let to : with_value k new trees ≡ plug f.path (tree k new f.below f.after) = ap (with_value k new) f.is ∙ value_at f.path k f.value new f.below f.after z in
      subst (λ x. IsForest (changed_at k (valued new) slots) root end x) (sym to)
      (valued_in slots root end f.path k f.value new f.below f.after (subst (λ x. IsForest slots root end x) f.is h))
