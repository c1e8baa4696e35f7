-- What a pass over nodes keeps, from the last node to the first.
use Rattle.std.specs.Prelude.{ℕ, ◌-◌, Bool, false, ◌||◌, ◌&&◌, if◌then◌else◌, List, [], ◌∷◌, ◌++◌, map, reverse, take, drop, length}
use Rattle.std.specs.List.{list_any}
use Rattle.sn_tree.specs.Trees.{Label}
use Rattle.sn_world.specs.declared.stage.Held.{Held}
use Rattle.sn_foot.specs.declared.resource.Resource.{Resource}
use Rattle.sn_foot.specs.Footprints.{Footprint, held_mixes, held_reads, held_writes, clash_on}
use Rattle.sn_clash.specs.declared.clash.Clash.{Clash}
use Rattle.sn_clash.specs.declared.subtree.Subtree.{Subtree}
use Rattle.sn_clash.specs.Clashing.{Member, clashes_among, is_parallel, resources}
use Rattle.sn_foot.specs.Uses.{footprint_in}

-- ---- footprints together

abbrev pub no_use : Footprint
no_use = record { reads = λ r. false; writes = λ r. false; mixes = λ r. false }

abbrev pub either : Footprint → Footprint → Footprint
either a b = record { reads = λ r. a.reads r || b.reads r; writes = λ r. a.writes r || b.writes r; mixes = λ r. a.mixes r || b.mixes r }

-- what members use, besides another footprint
abbrev pub gathered : Footprint → List Member → Footprint
gathered f [] = f
gathered f (m ∷ ms) = either (gathered f ms) m.uses

-- whether a member clashes with one of those after it
abbrev pub clashes_later : Member → List Member → Bool
clashes_later a bs = list_any (clash_on a.uses (gathered no_use bs)) resources

-- the first member that clashes with a later one, and those after it
abbrev pub from_first : List Member → List Member
from_first [] = []
from_first (a ∷ bs) = if clashes_later a bs then a ∷ bs else from_first bs

-- ---- nodes that were passed

-- a node with all below it: what they use, and how many clashes there were before them
abbrev pub member_of : (Resource → Bool) → Subtree → Member
member_of there e = record { id = e.id; uses = footprint_in there e.uses.items }

-- nodes are kept from the last to the first
abbrev pub members_of : (Resource → Bool) → List Subtree → List Member
members_of there es = reverse (map (member_of there) es)

pub record Slot : Type 0 where
  pub member : Member
  pub base : ℕ

abbrev pub slot_of : (Resource → Bool) → Subtree → Slot
slot_of there e = record { member = member_of there e; base = e.base }

-- the nodes beside each other that were passed, and the clashes that were found, from the last to the first
pub record Passed : Type 0 where
  pub slots : List Slot
  pub found : List Clash

abbrev pub passed_of : (Resource → Bool) → List Subtree → List Clash → Passed
passed_of there es found = record { slots = map (slot_of there) es; found = found }

-- how many clashes there were before these nodes, or this many if there are none
abbrev pub base_of : List Slot → ℕ → ℕ
base_of [] found = found
base_of (s ∷ ss) found = s.base

abbrev pub slot_members : List Slot → List Member
slot_members ss = reverse (map (λ s. s.member) ss)

module _ (there : Resource → Bool) where
  -- what a node uses by itself
  abbrev pub used_by : Held → Footprint
  used_by h = record { reads = λ r. there r && held_reads h r; writes = λ r. there r && held_writes h r; mixes = λ r. there r && held_mixes h r }

  -- what a node uses with all below it
  abbrev pub uses_at : Label Held → List Member → Footprint
  uses_at label below = if label.running then gathered (used_by label.payload) below else no_use

  -- the clashes after a node is passed: those below a paused node are dropped
  abbrev pub found_at : Label Held → List Member → ℕ → List Clash → List Clash
  found_at label below base found =
      if label.running
      then found ++ (if is_parallel label.kind then take 1 (clashes_among label.id below) else [])
      else take base found

  -- a node is passed, with so many of those beside each other just below it
  abbrev pub pass_one : Label Held × ℕ → Passed → Passed
  pass_one row s =
      let kept = length s.slots - row.1 in
      let kids = drop kept s.slots in
      let base = base_of kids (length s.found) in
      record {
        slots = take kept s.slots ++ (record { member = record { id = row.0.id; uses = uses_at row.0 (slot_members kids) }; base = base }) ∷ [];
        found = found_at row.0 (slot_members kids) base s.found;
      }

  -- all are passed, from the last to the first
  abbrev pub pass : List (Label Held × ℕ) → Passed → Passed
  pass [] s = s
  pass (row ∷ rows) s = pass_one row (pass rows s)

abbrev pub nothing : Passed
nothing = record { slots = []; found = [] }
