-- A hole whose trees are others than before: what stands before it and after it is linked again.
use Rattle.std.proofs.Common.{◌≡◌, ◌≢◌, ℕ, ◌+◌, ◌≤◌, Option, Some, None, refl, ◌∙◌, subst, arith}
use Rattle.slab.specs.Slab.{Slab}
use Rattle.sn_forest.specs.declared.slot.Slot.{Slot}
use Rattle.sn_forest.specs.declared.links.Link.TheVariants.{Previous, Next, First, Last}
use Rattle.sn_forest.specs.Trees.{Trees, none, tree, uses, first_key, last_key}
use Rattle.sn_forest.specs.Links.{slot_at, relinked, changed_at, forward, backward, end_after}
use Rattle.sn_forest.specs.Linked.{slot_for, Linked}
use Rattle.sn_forest.proofs.Keys.{one_same, differ}
use Rattle.sn_forest.proofs.Frames.{at_linked, at_other, linked_frame, path_frame}
use Rattle.sn_forest.proofs.Paths.{Path, top, under, beside, parent_of, previous_of, path_uses, LinkedPath}

module _ {T : Type 0} where
  pub differ_path : (j k : ℕ) (p : Path T) → 1 ≤ path_uses j p → path_uses k p ≡ 0 → j ≢ k
  differ_path j k p h z e = absurd (omega (arith, z, subst (λ x. 1 ≤ path_uses x p) e h))

  -- what stands before the hole names the node that follows there
  pub forward_path : (s : Slab (Slot T)) (end : Option ℕ) (p : Path T) (first first' last : Option ℕ)
      → ((j : ℕ) → path_uses j p ≤ 1) → LinkedPath s.slots end p first last
      → LinkedPath (forward (parent_of p) (previous_of p) first' s).slots end p first' last
  forward_path s end top first first' last once h = h
  forward_path s end (under key value after p) first first' last once h = (
    at_linked s.slots key First first' (slot_for value (parent_of p) (previous_of p) (first_key after) first last) h.0,
    linked_frame s.slots (changed_at key (relinked First first') s.slots) (parent_of p) (Some key) after
        (λ j u. at_other s.slots key First first' j (differ j key after u (omega (arith, once key, one_same key)))) h.1,
    path_frame s.slots (changed_at key (relinked First first') s.slots) end p (Some key) (last_key (Some key) after)
        (λ j u. at_other s.slots key First first' j (differ_path j key p u (omega (arith, once key, one_same key)))) h.2,
  )
  forward_path s end (beside key value below p) first first' last once h = (
    at_linked s.slots key Next first' (slot_for value (parent_of p) (previous_of p) first (first_key below) (last_key None below)) h.0,
    linked_frame s.slots (changed_at key (relinked Next first') s.slots) (Some key) None below
        (λ j u. at_other s.slots key Next first' j (differ j key below u (omega (arith, once key, one_same key)))) h.1,
    path_frame s.slots (changed_at key (relinked Next first') s.slots) end p (Some key) last
        (λ j u. at_other s.slots key Next first' j (differ_path j key p u (omega (arith, once key, one_same key)))) h.2,
  )

  -- what stands before the hole is on the path
  pub forward_others : (s : Slab (Slot T)) (p : Path T) (to : Option ℕ) (j : ℕ) → path_uses j p ≡ 0
      → slot_at (forward (parent_of p) (previous_of p) to s).slots j ≡ slot_at s.slots j
  forward_others s top to j z = refl
  forward_others s (under key value after p) to j z = at_other s.slots key First to j (λ e. absurd (omega (arith, one_same key, subst (λ x. path_uses x (under key value after p) ≡ 0) e z)))
  forward_others s (beside key value below p) to j z = at_other s.slots key Next to j (λ e. absurd (omega (arith, one_same key, subst (λ x. path_uses x (beside key value below p) ≡ 0) e z)))

  -- the parent is on the path, and no other node changes if the hole is the last of its level
  pub backward_others : (s : Slab (Slot T)) (p : Path T) (to : Option ℕ) (j : ℕ) → path_uses j p ≡ 0
      → slot_at (backward (parent_of p) None to s).slots j ≡ slot_at s.slots j
  backward_others s top to j z = refl
  backward_others s (under key value after p) to j z = at_other s.slots key Last to j (λ e. absurd (omega (arith, one_same key, subst (λ x. path_uses x (under key value after p) ≡ 0) e z)))
  backward_others s (beside key value below p) to j z = backward_others s p to j (omega (arith, z))

  -- the level of the hole ends with another node
  pub backward_path : (s : Slab (Slot T)) (end : Option ℕ) (p : Path T) (first last last' : Option ℕ)
      → ((j : ℕ) → path_uses j p ≤ 1) → LinkedPath s.slots end p first last
      → LinkedPath (backward (parent_of p) None last' s).slots (end_after (parent_of p) None last' end) p first last'
  backward_path s end top first last last' once h = refl
  backward_path s end (under key value after p) first last last' once h = (
    at_linked s.slots key Last last' (slot_for value (parent_of p) (previous_of p) (first_key after) first last) h.0,
    linked_frame s.slots (changed_at key (relinked Last last') s.slots) (parent_of p) (Some key) after
        (λ j u. at_other s.slots key Last last' j (differ j key after u (omega (arith, once key, one_same key)))) h.1,
    path_frame s.slots (changed_at key (relinked Last last') s.slots) end p (Some key) (last_key (Some key) after)
        (λ j u. at_other s.slots key Last last' j (differ_path j key p u (omega (arith, once key, one_same key)))) h.2,
  )
  backward_path s end (beside key value below p) first last last' once h = (
    backward_others s p last' key (omega (arith, once key, one_same key)) ∙ h.0,
    linked_frame s.slots (backward (parent_of p) None last' s).slots (Some key) None below
        (λ j u. backward_others s p last' j (omega (arith, once j, u))) h.1,
    backward_path s end p (Some key) last last' (λ j. omega (arith, once j)) h.2,
  )

  -- the first of some trees names another node before it
  pub backward_trees : (s : Slab (Slot T)) (parent previous previous' : Option ℕ) (key : ℕ) (value : T) (below after : Trees T)
      → ((j : ℕ) → uses j (tree key value below after) ≤ 1) → Linked s.slots parent previous (tree key value below after)
      → Linked (changed_at key (relinked Previous previous') s.slots) parent previous' (tree key value below after)
  backward_trees s parent previous previous' key value below after once h = (
    at_linked s.slots key Previous previous' (slot_for value parent previous (first_key after) (first_key below) (last_key None below)) h.0,
    linked_frame s.slots (changed_at key (relinked Previous previous') s.slots) (Some key) None below
        (λ j u. at_other s.slots key Previous previous' j (differ j key below u (omega (arith, once key, one_same key)))) h.1,
    linked_frame s.slots (changed_at key (relinked Previous previous') s.slots) parent (Some key) after
        (λ j u. at_other s.slots key Previous previous' j (differ j key after u (omega (arith, once key, one_same key)))) h.2,
  )

  -- the slots after both
  abbrev pub rejoined : Path T → Trees T → Option ℕ → Option ℕ → Slab (Slot T) → Slab (Slot T)
  rejoined p rest first previous s = backward (parent_of p) (first_key rest) previous (forward (parent_of p) (previous_of p) first s)

  abbrev pub end_rejoined : Path T → Trees T → Option ℕ → Option ℕ → Option ℕ
  end_rejoined p rest previous end = end_after (parent_of p) (first_key rest) previous end

  -- what fills the hole now begins with `first`, and goes on, after `previous`, with the rest
  pub rejoin_path : (s : Slab (Slot T)) (end : Option ℕ) (p : Path T) (rest : Trees T) (first first' previous previous' : Option ℕ)
      → ((j : ℕ) → path_uses j p + uses j rest ≤ 1)
      → LinkedPath s.slots end p first (last_key previous rest)
      → LinkedPath (rejoined p rest first' previous' s).slots (end_rejoined p rest previous' end) p first' (last_key previous' rest)
  rejoin_path s end p none first first' previous previous' once h =
      backward_path (forward (parent_of p) (previous_of p) first' s) end p first' previous previous' (λ j. omega (arith, once j))
      (forward_path s end p first first' previous (λ j. omega (arith, once j)) h)
  rejoin_path s end p (tree key value below after) first first' previous previous' once h =
      path_frame (forward (parent_of p) (previous_of p) first' s).slots (rejoined p (tree key value below after) first' previous' s).slots end p first' (last_key (Some key) after)
      (λ j u. at_other (forward (parent_of p) (previous_of p) first' s).slots key Previous previous' j (differ_path j key p u (omega (arith, once key, one_same key))))
      (forward_path s end p first first' (last_key (Some key) after) (λ j. omega (arith, once j)) h)

  pub rejoin_rest : (s : Slab (Slot T)) (p : Path T) (rest : Trees T) (first' previous previous' : Option ℕ)
      → ((j : ℕ) → path_uses j p + uses j rest ≤ 1)
      → Linked s.slots (parent_of p) previous rest
      → Linked (rejoined p rest first' previous' s).slots (parent_of p) previous' rest
  rejoin_rest s p none first' previous previous' once h = tt
  rejoin_rest s p (tree key value below after) first' previous previous' once h =
      backward_trees (forward (parent_of p) (previous_of p) first' s) (parent_of p) previous previous' key value below after (λ j. omega (arith, once j))
      (linked_frame s.slots (forward (parent_of p) (previous_of p) first' s).slots (parent_of p) previous (tree key value below after)
      (λ j u. forward_others s p first' j (omega (arith, once j, u))) h)

  -- no other slot changes
  pub rejoin_others : (s : Slab (Slot T)) (p : Path T) (rest : Trees T) (first' previous' : Option ℕ) (j : ℕ)
      → path_uses j p ≡ 0 → uses j rest ≡ 0 → slot_at (rejoined p rest first' previous' s).slots j ≡ slot_at s.slots j
  rejoin_others s p none first' previous' j z y =
      backward_others (forward (parent_of p) (previous_of p) first' s) p previous' j z ∙ forward_others s p first' j z
  rejoin_others s p (tree key value below after) first' previous' j z y =
      at_other (forward (parent_of p) (previous_of p) first' s).slots key Previous previous' j (λ e. absurd (omega (arith, one_same key, subst (λ x. uses x (tree key value below after) ≡ 0) e y)))
      ∙ forward_others s p first' j z
