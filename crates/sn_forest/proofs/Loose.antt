-- A node that is taken out with all below it, and put in at a hole.
use Rattle.std.proofs.Common.{◌≡◌, ◌≢◌, ℕ, ◌+◌, ◌<◌, ◌≤◌, Bool, true, false, List, Option, Some, None, is_some, count_by, sym, refl, ap, ◌∙◌, subst, ⊎_elim, arith}
use Rattle.std.specs.Prelude.{if◌then◌else◌, ◌^◌}
use Rattle.std.specs.Option.{option_map}
use Rattle.std.proofs.lemmas.Bool.{cases_eq}
use Rattle.slab.specs.Slab.{Slab, get, Updates, slab_len}
use Rattle.sn_forest.specs.declared.links.Links.{Links}
use Rattle.sn_forest.specs.declared.slot.Slot.{Slot}
use Rattle.sn_forest.specs.declared.slot.Corner.{Corner}
use Rattle.sn_forest.specs.Trees.{Trees, none, tree, one_at, count, uses, first_key, last_key}
use Rattle.sn_forest.specs.Links.{slot_at, forward, end_after, placed, moved_in, inlinked}
use Rattle.sn_forest.specs.Linked.{slot_for, Linked, held, IsForest}
use Rattle.sn_forest.proofs.Keys.{one_same, one_other, differ}
use Rattle.sn_forest.proofs.Frames.{at_changed, at_apart, linked_frame, path_frame}
use Rattle.sn_forest.proofs.Filling.{SameKeys, same_after, same_forward, same_backward, same_changed}
use Rattle.sn_forest.proofs.Paths.{Path, top, under, beside, plug, parent_of, previous_of, path_uses, LinkedPath, uses-plug, count-plug, path_linked, linked_path}
use Rattle.sn_forest.proofs.Rejoining.{differ_path, rejoined, end_rejoined, rejoin_path, rejoin_rest, rejoin_others}

one_at_most : (b : Bool) → ◌≤◌ (if b then 1 else 0) 1
one_at_most true = omega arith
one_at_most false = omega arith

module _ {T : Type 0} where
  pub held_once : (slots : List (Option (Slot T))) (j : ℕ) → held slots j ≤ 1
  held_once slots j = one_at_most (is_some (slot_at slots j))

  -- the hole isn't before the first tree of the top level
  abbrev pub IsInner : Path T → Type 0
  IsInner top = ⊥
  IsInner (under key value after p) = Unit {0}
  IsInner (beside key value below p) = Unit {0}

  pub first_plug : (p : Path T) (s t : Trees T) → first_key s ≡ first_key t → first_key (plug p s) ≡ first_key (plug p t)
  first_plug top s t e = e
  first_plug (under key value after p) s t e = first_plug p (tree key value s after) (tree key value t after) refl
  first_plug (beside key value below p) s t e = first_plug p (tree key value below s) (tree key value below t) refl

  pub inner_first : (p : Path T) → IsInner p → (s t : Trees T) → first_key (plug p s) ≡ first_key (plug p t)
  inner_first top i s t = absurd i
  inner_first (under key value after p) i s t = first_plug p (tree key value s after) (tree key value t after) refl
  inner_first (beside key value below p) i s t = first_plug p (tree key value below s) (tree key value below t) refl

  pub is_inner : (p : Path T) (k : ℕ) (value : T) (below after : Trees T) → first_key (plug p (tree k value below after)) ≢ Some k → IsInner p
  is_inner top k value below after n = n refl
  is_inner (under key v a p) k value below after n = tt
  is_inner (beside key v b p) k value below after n = tt

  -- a node by itself, with all below it, and the trees without it
  pub record IsLoose (slots : List (Option (Slot T))) (root : ℕ) (end : Option ℕ) (k : ℕ) (value : T) (below rest : Trees T) : Type 0 where
    pub linked : Linked slots None None rest
    pub ends : end ≡ last_key None rest
    pub begins : first_key rest ≡ Some root
    pub links : Links
    pub slot : slot_at slots k ≡ Some (record { links = links; value = value })
    pub first : links.first ≡ first_key below
    pub last : links.last ≡ last_key None below
    pub inside : Linked slots (Some k) None below
    pub filled : (j : ℕ) → one_at k j + (uses j below + uses j rest) ≡ held slots j
    pub full : count_by is_some slots ≡ 1 + (count below + count rest)
    pub fits : (j : ℕ) → 1 ≤ one_at k j + (uses j below + uses j rest) → j < 2 ^ 32

  module _ (s : Slab (Slot T)) (root : ℕ) (end : Option ℕ) (p : Path T) (k : ℕ) (value : T) (below after : Trees T) where
    -- the slots without the node

    abbrev cut_slots : Slab (Slot T)
    cut_slots = rejoined p after (first_key after) (previous_of p) s

    once_in : IsForest s.slots root end (plug p (tree k value below after)) → (j : ℕ) → path_uses j p + (one_at k j + (uses j below + uses j after)) ≤ 1
    once_in h j = omega (arith, uses-plug j p (tree k value below after), h.filled j, held_once s.slots j)

    pub cut_loose : IsForest s.slots root end (plug p (tree k value below after)) → IsInner p
        → IsLoose (rejoined p after (first_key after) (previous_of p) s).slots root (end_rejoined p after (previous_of p) end) k value below (plug p after)
    cut_loose h inner =
        let parts : LinkedPath s.slots end p (Some k) (last_key (Some k) after) × Linked s.slots (parent_of p) (previous_of p) (tree k value below after) = path_linked s.slots end p (tree k value below after) h.linked h.ends in
        let once : (j : ℕ) → path_uses j p + uses j after ≤ 1 = λ j. omega (arith, once_in h j) in
        let path : LinkedPath cut_slots.slots (end_rejoined p after (previous_of p) end) p (first_key after) (last_key (previous_of p) after) =
        rejoin_path s end p after (Some k) (first_key after) (Some k) (previous_of p) once parts.0 in
        let rest : Linked cut_slots.slots (parent_of p) (previous_of p) after = rejoin_rest s p after (first_key after) (Some k) (previous_of p) once parts.1.2 in
        let whole = linked_path cut_slots.slots (end_rejoined p after (previous_of p) end) p after path rest in
        let same : SameKeys s.slots cut_slots.slots = same_after (same_forward (parent_of p) (previous_of p) (first_key after) s) (same_backward (parent_of p) (first_key after) (previous_of p) (forward (parent_of p) (previous_of p) (first_key after) s)) in
        record {
          linked = whole.0;
          ends = whole.1;
          begins = inner_first p inner after (tree k value below after) ∙ h.begins;
          links = record { parent = parent_of p; previous = previous_of p; next = first_key after; first = first_key below; last = last_key None below };
          slot = rejoin_others s p after (first_key after) (previous_of p) k (omega (arith, once_in h k, one_same k)) (omega (arith, once_in h k, one_same k)) ∙ parts.1.0;
          first = refl;
          last = refl;
          inside = linked_frame s.slots cut_slots.slots (Some k) None below
              (λ j u. rejoin_others s p after (first_key after) (previous_of p) j (omega (arith, once_in h j, u)) (omega (arith, once_in h j, u))) parts.1.1;
          filled = λ j. omega (arith, uses-plug j p after, uses-plug j p (tree k value below after), h.filled j, same.keys j);
          full = omega (arith, count-plug p after, count-plug p (tree k value below after), h.full, same.number);
          fits = λ j u. h.fits j (omega (arith, uses-plug j p after, uses-plug j p (tree k value below after), u));
        }

    -- the slots with the node

    abbrev corner : Corner
    corner = record { parent = parent_of p; previous = previous_of p; next = first_key after }

    abbrev near : Slab (Slot T)
    near = rejoined p after (Some k) (Some k) s

    once_out : IsLoose s.slots root end k value below (plug p after) → (j : ℕ) → path_uses j p + (one_at k j + (uses j below + uses j after)) ≤ 1
    once_out h j = omega (arith, uses-plug j p after, h.filled j, held_once s.slots j)

    pub paste_loose : IsLoose s.slots root end k value below (plug p after) → IsInner p
        → IsForest (inlinked k (record { parent = parent_of p; previous = previous_of p; next = first_key after }) s).slots root (end_after (parent_of p) (first_key after) (Some k) end) (plug p (tree k value below after))
    paste_loose h inner =
        let out : Slab (Slot T) = placed k corner near in
        let parts : LinkedPath s.slots end p (first_key after) (last_key (previous_of p) after) × Linked s.slots (parent_of p) (previous_of p) after = path_linked s.slots end p after h.linked h.ends in
        let once : (j : ℕ) → path_uses j p + uses j after ≤ 1 = λ j. omega (arith, once_out h j) in
        let last : Option ℕ = end_after (parent_of p) (first_key after) (Some k) end in
        let path : LinkedPath near.slots last p (Some k) (last_key (Some k) after) = rejoin_path s end p after (first_key after) (Some k) (previous_of p) (Some k) once parts.0 in
        let rest : Linked near.slots (parent_of p) (Some k) after = rejoin_rest s p after (Some k) (previous_of p) (Some k) once parts.1 in
        let path' : LinkedPath out.slots last p (Some k) (last_key (Some k) after) = path_frame near.slots out.slots last p (Some k) (last_key (Some k) after)
        (λ j u. at_apart near.slots k (moved_in corner) j (differ_path j k p u (omega (arith, once_out h k, one_same k)))) path in
        let rest' : Linked out.slots (parent_of p) (Some k) after = linked_frame near.slots out.slots (parent_of p) (Some k) after
        (λ j u. at_apart near.slots k (moved_in corner) j (differ j k after u (omega (arith, once_out h k, one_same k)))) rest in
        let inside : Linked out.slots (Some k) None below = linked_frame s.slots out.slots (Some k) None below
        (λ j u. at_apart near.slots k (moved_in corner) j (differ j k below u (omega (arith, once_out h k, one_same k)))
        ∙ rejoin_others s p after (Some k) (Some k) j (omega (arith, once_out h j, u)) (omega (arith, once_out h j, u))) h.inside in
        let slot : slot_at out.slots k ≡ Some (slot_for value (parent_of p) (previous_of p) (first_key after) (first_key below) (last_key None below)) =
        at_changed near.slots k (moved_in corner)
        ∙ (ap (option_map (moved_in corner)) (rejoin_others s p after (Some k) (Some k) k (omega (arith, once_out h k, one_same k)) (omega (arith, once_out h k, one_same k)) ∙ h.slot)
        ∙ (λ i. Some (slot_for value (parent_of p) (previous_of p) (first_key after) (h.first i) (h.last i)))) in
        let whole = linked_path out.slots last p (tree k value below after) path' (slot, inside, rest') in
        let same : SameKeys s.slots out.slots = same_after (same_after (same_forward (parent_of p) (previous_of p) (Some k) s) (same_backward (parent_of p) (first_key after) (Some k) (forward (parent_of p) (previous_of p) (Some k) s))) (same_changed near.slots k (moved_in corner)) in
        record {
          linked = whole.0;
          ends = whole.1;
          begins = inner_first p inner (tree k value below after) after ∙ h.begins;
          filled = λ j. omega (arith, uses-plug j p after, uses-plug j p (tree k value below after), h.filled j, same.keys j);
          full = omega (arith, count-plug p after, count-plug p (tree k value below after), h.full, same.number);
          fits = λ j u. h.fits j (omega (arith, uses-plug j p after, uses-plug j p (tree k value below after), u));
        }

  -- a new node, in a slot that was empty
  pub fresh_loose : (old new : Slab (Slot T)) (root : ℕ) (end : Option ℕ) (k : ℕ) (value : T) (links : Links) (trees : Trees T)
      → IsForest old.slots root end trees → get old k ≡ None → Updates old new k (Some (record { links = links; value = value })) → slab_len new ≡ slab_len old + 1
      → links.first ≡ None → links.last ≡ None → k < 2 ^ 32
      → IsLoose new.slots root end k value none trees
  fresh_loose old new root end k value links trees h vacant u long f l small =
      let unused : uses k trees ≡ 0 = h.filled k ∙ ap (λ (o : Option (Slot T)). if is_some o then 1 else 0) vacant in
      record {
        linked = linked_frame old.slots new.slots None None trees (λ j used. u.others j (differ j k trees used unused)) h.linked;
        ends = h.ends;
        begins = h.begins;
        links = links;
        slot = u.changed;
        first = f;
        last = l;
        inside = tt;
        filled = λ j.
            ⊎_elim
            (λ (e : j ≡ k). subst (λ x. one_at k x + (0 + uses x trees) ≡ held new.slots x) (sym e)
            (let now : held new.slots k ≡ 1 = ap (λ (o : Option (Slot T)). if is_some o then 1 else 0) u.changed in omega (arith, now, unused, one_same k)))
            (λ n. let same : held new.slots j ≡ held old.slots j = ap (λ (o : Option (Slot T)). if is_some o then 1 else 0) (u.others j n) in omega (arith, same, h.filled j, one_other k j (λ e. n (sym e))))
            (cases_eq j k);
        full = omega (arith, long, h.full);
        fits = λ j used.
            ⊎_elim
            (λ (e : j ≡ k). subst (λ x. x < 2 ^ 32) (sym e) small)
            (λ n. h.fits j (omega (arith, used, one_other k j (λ e. n (sym e)))))
            (cases_eq j k);
      }

  -- a node with nothing below it, whose slot is emptied
  pub gone : (old new : Slab (Slot T)) (root : ℕ) (end : Option ℕ) (k : ℕ) (value : T) (trees : Trees T)
      → IsLoose old.slots root end k value none trees → Updates old new k None → slab_len new + 1 ≡ slab_len old
      → IsForest new.slots root end trees
  gone old new root end k value trees h u long =
      let unused : uses k trees ≡ 0 = (let here : one_at k k + (0 + uses k trees) ≡ held old.slots k = h.filled k in omega (arith, here, one_same k, held_once old.slots k)) in
      record {
        linked = linked_frame old.slots new.slots None None trees (λ j used. u.others j (differ j k trees used unused)) h.linked;
        ends = h.ends;
        begins = h.begins;
        filled = λ j.
            ⊎_elim
            (λ (e : j ≡ k). subst (λ x. uses x trees ≡ held new.slots x) (sym e) (unused ∙ sym (ap (λ (o : Option (Slot T)). if is_some o then 1 else 0) u.changed)))
            (λ n. let same : held new.slots j ≡ held old.slots j = ap (λ (o : Option (Slot T)). if is_some o then 1 else 0) (u.others j n) in omega (arith, same, h.filled j, one_other k j (λ e. n (sym e))))
            (cases_eq j k);
        full = omega (arith, long, h.full);
        fits = λ j used. h.fits j (omega (arith, used));
      }
