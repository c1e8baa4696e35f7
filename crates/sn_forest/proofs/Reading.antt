-- What the slot of a key tells of trees.
use Rattle.std.proofs.Common.{◌≡◌, ℕ, ◌+◌, ◌<◌, ◌≤◌, List, [], Option, Some, None, is_some, count_by, sym, refl, ap, ◌∙◌, subst, ⊎_elim, arith}
use Rattle.std.specs.Prelude.{if◌then◌else◌, ◌^◌}
use Rattle.std.specs.Option.{option_map}
use Rattle.std.proofs.lemmas.Bool.{cases_eq}
use Rattle.slab.specs.Slab.{Slab, Updates, slab_len}
use Rattle.sn_forest.specs.declared.links.Links.{Links}
use Rattle.sn_forest.specs.declared.slot.Slot.{Slot}
use Rattle.sn_forest.specs.Trees.{Trees, none, tree, one_at, uses, first_key, last_key, value_of, links_from, links_of}
use Rattle.sn_forest.specs.Links.{slot_at}
use Rattle.sn_forest.specs.Linked.{Linked, held, IsForest, trees_of}
use Rattle.sn_forest.proofs.Keys.{some_or_none, one_same, one_other, other_key, apart, missing}
use Rattle.sn_forest.proofs.Paths.{top, path_uses, uses-plug, Found, found}
use Rattle.sn_forest.proofs.Passing.{value_found, links_found}
use Rattle.sn_forest.proofs.Loose.{held_once}
use Rattle.sn_forest.proofs.Holes.{slot_is}

empty_if : {A : Type 0} (o : Option A) → ◌≡◌ {A = ℕ} (if is_some o then 1 else 0) 0 → o ≡ None
empty_if None z = refl
empty_if (Some x) z = absurd (omega (arith, z))

module _ {T : Type 0} where
  pub value_absent : (k : ℕ) (t : Trees T) → uses k t ≡ 0 → value_of k t ≡ None
  value_absent k none z = refl
  value_absent k (tree key value below after) z =
      (λ i. if other_key key k (apart key k (omega (arith, z))) i then Some value else if missing k below (omega (arith, z)) i then value_of k below else value_of k after)
      ∙ value_absent k after (omega (arith, z))

  pub links_absent : (parent previous : Option ℕ) (k : ℕ) (t : Trees T) → uses k t ≡ 0 → links_from parent previous k t ≡ None
  links_absent parent previous k none z = refl
  links_absent parent previous k (tree key value below after) z =
      (λ i. if other_key key k (apart key k (omega (arith, z))) i then Some (record { parent = parent; previous = previous; next = first_key after; first = first_key below; last = last_key None below })
      else if missing k below (omega (arith, z)) i then links_from (Some key) None k below else links_from parent (Some key) k after)
      ∙ links_absent parent (Some key) k after (omega (arith, z))

  pub empty_at : (slots : List (Option (Slot T))) (root : ℕ) (end : Option ℕ) (trees : Trees T) → IsForest slots root end trees → (key : ℕ) → uses key trees ≡ 0 → slot_at slots key ≡ None
  empty_at slots root end trees h key z = empty_if (slot_at slots key) (sym (h.filled key) ∙ z)

  -- what a slot holds, and what it is linked with
  pub record Told (slots : List (Option (Slot T))) (trees : Trees T) (key : ℕ) : Type 0 where
    pub value : option_map (λ (s : Slot T). s.value) (slot_at slots key) ≡ value_of key trees
    pub links : option_map (λ (s : Slot T). s.links) (slot_at slots key) ≡ links_of key trees

  pub told : (slots : List (Option (Slot T))) (root : ℕ) (end : Option ℕ) (trees : Trees T) → IsForest slots root end trees → (key : ℕ) → Told slots trees key
  told slots root end trees h key =
      ⊎_elim
      (λ (u : 1 ≤ uses key trees).
      let f : Found key trees = found key top trees u in
      let z : path_uses key f.path ≡ 0 = omega (arith, h.filled key, held_once slots key, ap (λ x. uses key x) f.is, uses-plug key f.path (tree key f.value f.below f.after), one_same key) in
      let s = slot_is slots f.path key f.value f.below f.after (subst (λ x. Linked slots None None x) f.is h.linked) in
      record {
        value = ap (option_map (λ (s : Slot T). s.value)) s ∙ sym (ap (value_of key) f.is ∙ value_found f.path key f.value f.below f.after z);
        links = ap (option_map (λ (s : Slot T). s.links)) s ∙ sym (ap (links_of key) f.is ∙ links_found f.path key f.value f.below f.after z);
      })
      (λ (n : uses key trees ≤ 0).
      let z : uses key trees ≡ 0 = omega (arith, n) in
      let s = empty_at slots root end trees h key z in
      record {
        value = ap (option_map (λ (s : Slot T). s.value)) s ∙ sym (value_absent key trees z);
        links = ap (option_map (λ (s : Slot T). s.links)) s ∙ sym (links_absent None None key trees z);
      })
      (some_or_none (uses key trees))

  -- one node
  pub one_node : (old new : Slab (Slot T)) (key : ℕ) (slot : Slot T) → old.slots ≡ [] → Updates old new key (Some slot) → slab_len new ≡ slab_len old + 1
      → slot.links ≡ record { parent = None; previous = None; next = None; first = None; last = None } → key < 2 ^ 32
      → IsForest new.slots key (Some key) (tree key slot.value none none)
  one_node old new key slot e u long l small = record {
    linked = (u.changed ∙ ap (λ (x : Links). let s : Option (Slot T) = Some (record { links = x; value = slot.value }) in s) l, tt, tt);
    ends = refl;
    begins = refl;
    filled = λ j.
        ⊎_elim
        (λ (s : j ≡ key). let now : held new.slots j ≡ 1 = ap (held new.slots) s ∙ ap (λ (o : Option (Slot T)). if is_some o then 1 else 0) u.changed in omega (arith, now, subst (λ x. one_at key x ≡ 1) (sym s) (one_same key)))
        (λ n. let now : held new.slots j ≡ 0 = ap (λ (o : Option (Slot T)). if is_some o then 1 else 0) (u.others j n ∙ ap (λ l. slot_at l j) e) in omega (arith, now, one_other key j (λ s. n (sym s))))
        (cases_eq j key);
    full = let none_yet : ◌≡◌ {A = ℕ} (count_by is_some old.slots) 0 = ap (count_by is_some) e in omega (arith, long, none_yet);
    fits = λ j used.
        ⊎_elim
        (λ (s : j ≡ key). subst (λ x. x < 2 ^ 32) (sym s) small)
        (λ n. absurd (omega (arith, used, one_other key j (λ s. n (sym s)))))
        (cases_eq j key);
  }

  pub told_value : (slots : List (Option (Slot T))) (root : ℕ) (end : Option ℕ) (trees : Trees T) → IsForest slots root end (trees_of slots root) → trees_of slots root ≡ trees
      → (key : ℕ) (o : Option (Slot T)) → o ≡ slot_at slots key → option_map (λ (s : Slot T). s.value) o ≡ value_of key trees
  told_value slots root end trees h t key o e =
      ap (option_map (λ (s : Slot T). s.value)) e ∙ ((told slots root end (trees_of slots root) h key).value ∙ ap (value_of key) t)

  pub told_links : (slots : List (Option (Slot T))) (root : ℕ) (end : Option ℕ) (trees : Trees T) → IsForest slots root end (trees_of slots root) → trees_of slots root ≡ trees
      → (key : ℕ) (o : Option (Slot T)) → o ≡ slot_at slots key → option_map (λ (s : Slot T). s.links) o ≡ links_of key trees
  told_links slots root end trees h t key o e =
      ap (option_map (λ (s : Slot T). s.links)) e ∙ ((told slots root end (trees_of slots root) h key).links ∙ ap (links_of key) t)
