-- What stays linked if slots change elsewhere.
use Rattle.std.proofs.Common.{◌≡◌, ◌≢◌, ℕ, ◌<◌, ◌≤◌, List, length, Option, Some, None, sym, ap, ◌∙◌, ⊎_elim, arith}
use Rattle.std.specs.Option.{option_map}
use Rattle.std.proofs.lemmas.List.{get_or-set_same, get_or-set_other, get_or_past, set_past}
use Rattle.sn_forest.specs.declared.slot.Slot.{Slot}
use Rattle.sn_forest.specs.declared.links.Link.{Link}
use Rattle.sn_forest.specs.Trees.{Trees, none, tree, uses, last_key}
use Rattle.sn_forest.specs.Links.{slot_at, relinked, changed_at}
use Rattle.sn_forest.specs.Linked.{Linked}
use Rattle.sn_forest.proofs.Keys.{one_same, lt_or_le}
use Rattle.sn_forest.proofs.Paths.{Path, top, under, beside, parent_of, path_uses, LinkedPath}

module _ {T : Type 0} where
  pub at_changed : (slots : List (Option (Slot T))) (key : ℕ) (change : Slot T → Slot T) → slot_at (changed_at key change slots) key ≡ option_map change (slot_at slots key)
  at_changed slots key change =
      ⊎_elim
      (λ (h : key < length slots). get_or-set_same slots key (option_map change (slot_at slots key)) None h)
      (λ (h : length slots ≤ key).
      let nothing : slot_at slots key ≡ None = get_or_past slots key None h in
      ap (λ l. slot_at l key) (set_past slots key (option_map change (slot_at slots key)) h) ∙ (nothing ∙ sym (ap (option_map change) nothing)))
      (lt_or_le key (length slots))

  pub at_linked : (slots : List (Option (Slot T))) (key : ℕ) (link : Link) (to : Option ℕ) (s : Slot T)
      → slot_at slots key ≡ Some s → slot_at (changed_at key (relinked link to) slots) key ≡ Some (relinked link to s)
  at_linked slots key link to s h = at_changed slots key (relinked link to) ∙ ap (option_map (relinked link to)) h

  pub at_apart : (slots : List (Option (Slot T))) (key : ℕ) (change : Slot T → Slot T) (other : ℕ)
      → other ≢ key → slot_at (changed_at key change slots) other ≡ slot_at slots other
  at_apart slots key change other n = get_or-set_other slots key other (option_map change (slot_at slots key)) None n

  pub at_other : (slots : List (Option (Slot T))) (key : ℕ) (link : Link) (to : Option ℕ) (other : ℕ)
      → other ≢ key → slot_at (changed_at key (relinked link to) slots) other ≡ slot_at slots other
  at_other slots key link to other n = at_apart slots key (relinked link to) other n

  -- trees whose slots are the same
  pub linked_frame : (slots new : List (Option (Slot T))) (parent previous : Option ℕ) (t : Trees T)
      → ((j : ℕ) → 1 ≤ uses j t → slot_at new j ≡ slot_at slots j) → Linked slots parent previous t → Linked new parent previous t
  linked_frame slots new parent previous none same h = tt
  linked_frame slots new parent previous (tree key value below after) same h = (
    same key (omega (arith, one_same key)) ∙ h.0,
    linked_frame slots new (Some key) None below (λ j u. same j (omega (arith, u))) h.1,
    linked_frame slots new parent (Some key) after (λ j u. same j (omega (arith, u))) h.2,
  )

  -- a path whose slots are the same
  pub path_frame : (slots new : List (Option (Slot T))) (end : Option ℕ) (p : Path T) (first last : Option ℕ)
      → ((j : ℕ) → 1 ≤ path_uses j p → slot_at new j ≡ slot_at slots j) → LinkedPath slots end p first last → LinkedPath new end p first last
  path_frame slots new end top first last same h = h
  path_frame slots new end (under key value after p) first last same h = (
    same key (omega (arith, one_same key)) ∙ h.0,
    linked_frame slots new (parent_of p) (Some key) after (λ j u. same j (omega (arith, u))) h.1,
    path_frame slots new end p (Some key) (last_key (Some key) after) (λ j u. same j (omega (arith, u))) h.2,
  )
  path_frame slots new end (beside key value below p) first last same h = (
    same key (omega (arith, one_same key)) ∙ h.0,
    linked_frame slots new (Some key) None below (λ j u. same j (omega (arith, u))) h.1,
    path_frame slots new end p (Some key) last (λ j u. same j (omega (arith, u))) h.2,
  )
