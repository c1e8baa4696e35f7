-- What becomes of slots whose nodes are linked again.
use Rattle.std.specs.Prelude.{ℕ, List, Option, Some, None, slice_index_or, slice_set}
use Rattle.std.specs.Option.{option_map}
use Rattle.slab.specs.Slab.{Slab}
use Rattle.sn_forest.specs.declared.links.Link.{Link}
use Rattle.sn_forest.specs.declared.links.Link.TheVariants.{Parent, Previous, Next, First, Last}
use Rattle.sn_forest.specs.declared.links.Links.{Links}
use Rattle.sn_forest.specs.declared.slot.Slot.{Slot}
use Rattle.sn_forest.specs.declared.slot.Corner.{Corner}

-- another neighbour is named
abbrev pub pointed : Link → Option ℕ → Links → Links
pointed Parent to links = record links { parent = to }
pointed Previous to links = record links { previous = to }
pointed Next to links = record links { next = to }
pointed First to links = record links { first = to }
pointed Last to links = record links { last = to }

module _ {T : Type 0} where
  abbrev pub relinked : Link → Option ℕ → Slot T → Slot T
  relinked link to slot = record slot { links = pointed link to slot.links }

  -- the slot of a key
  abbrev pub slot_at : List (Option (Slot T)) → ℕ → Option (Slot T)
  slot_at slots key = slice_index_or slots key None

  -- the slot of a key is changed
  abbrev pub changed_at : ℕ → (Slot T → Slot T) → List (Option (Slot T)) → List (Option (Slot T))
  changed_at key change slots = slice_set slots key (option_map change (slot_at slots key))

  -- the node with a key names another neighbour
  abbrev pub with_link : ℕ → Link → Option ℕ → Slab (Slot T) → Slab (Slot T)
  with_link key link to slots = record slots { slots = changed_at key (relinked link to) slots.slots }

  -- what stands before a place names the node that follows there
  abbrev pub forward : Option ℕ → Option ℕ → Option ℕ → Slab (Slot T) → Slab (Slot T)
  forward parent (Some previous) to slots = with_link previous Next to slots
  forward (Some parent) None to slots = with_link parent First to slots
  forward None None to slots = slots

  -- what stands after a place names the node that precedes there
  abbrev pub backward : Option ℕ → Option ℕ → Option ℕ → Slab (Slot T) → Slab (Slot T)
  backward parent (Some next) to slots = with_link next Previous to slots
  backward (Some parent) None to slots = with_link parent Last to slots
  backward None None to slots = slots

-- the last tree of the top level, after that
abbrev pub end_after : Option ℕ → Option ℕ → Option ℕ → Option ℕ → Option ℕ
end_after parent (Some next) to end = end
end_after (Some parent) None to end = end
end_after None None to end = to

-- what a node in a slot is linked with, or nothing if the slot is empty
abbrev pub links_in : {T : Type 0} → Option (Slot T) → Links
links_in None = record { parent = None; previous = None; next = None; first = None; last = None }
links_in (Some slot) = slot.links

abbrev pub end_without : Links → Option ℕ → Option ℕ
end_without links end = end_after links.parent links.next links.previous end

module _ {T : Type 0} where
  -- what stands around a node with these links is linked together
  abbrev pub unlinked : Links → Slab (Slot T) → Slab (Slot T)
  unlinked links slots = backward links.parent links.next links.previous (forward links.parent links.previous links.next slots)

  -- a node is at this place, with what it has below it
  abbrev pub moved_in : Corner → Slot T → Slot T
  moved_in corner slot = record slot { links = record slot.links { parent = corner.parent; previous = corner.previous; next = corner.next } }

  abbrev pub placed : ℕ → Corner → Slab (Slot T) → Slab (Slot T)
  placed key corner slots = record slots { slots = changed_at key (moved_in corner) slots.slots }

  -- a node holds another value
  abbrev pub valued : T → Slot T → Slot T
  valued value slot = record slot { value = value }

  abbrev pub holding : ℕ → T → Slab (Slot T) → Slab (Slot T)
  holding key value slots = record slots { slots = changed_at key (valued value) slots.slots }

  -- what stands around a place is linked with a node that is put in there
  abbrev pub inlinked : ℕ → Corner → Slab (Slot T) → Slab (Slot T)
  inlinked key corner slots = placed key corner (backward corner.parent corner.next (Some key) (forward corner.parent corner.previous (Some key) slots))
