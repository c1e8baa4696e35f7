-- What undoes a step, and the nodes as an open journal restores them.
use Rattle.std.specs.Prelude.{◌≡◌, ◌≢◌, ℕ, ◌≤◌, List, [], ◌∷◌, Some}
use Rattle.sn_forest.specs.Trees.{Trees, none, uses, first_key, below_of, without}
use Rattle.sn_forest.specs.Places.{IsPlaceIn, shifted}
use Rattle.sn_tree.specs.declared.item.Item.{Item}
use Rattle.sn_tree.specs.declared.undo.Undo.{Undo}
use Rattle.sn_tree.specs.declared.undo.Undo.TheVariants.{Inserted, Moved, Ran}
use Rattle.sn_tree.specs.Keyed.{flagged}
use Rattle.sn_tree.specs.Stored.{IsSound}

-- the nodes before a step
abbrev pub undone : Undo → Trees Item → Trees Item
undone (Inserted key) trees = without key trees
undone (Moved key place) trees = shifted key place trees
undone (Ran key on) trees = flagged key on trees

-- a node that isn't the root
pub record IsInner (key : ℕ) (trees : Trees Item) : Type 0 where
  pub used : 1 ≤ uses key trees
  pub inner : first_key trees ≢ Some key

-- a step can be undone
abbrev pub CanUndo : Undo → Trees Item → Type 0
CanUndo (Inserted key) trees = IsInner key trees × (below_of key trees ≡ none)
CanUndo (Moved key place) trees = IsInner key trees × IsPlaceIn (without key trees) place × IsSound (shifted key place trees)
CanUndo (Ran key on) trees = 1 ≤ uses key trees

-- the nodes before all steps, the last of which stands first
abbrev pub restored : List Undo → Trees Item → Trees Item
restored [] trees = trees
restored (step ∷ steps) trees = restored steps (undone step trees)

-- each step can be undone, the last one first
abbrev pub IsUndoable : List Undo → Trees Item → Type 0
IsUndoable [] trees = Unit {0}
IsUndoable (step ∷ steps) trees = CanUndo step trees × IsUndoable steps (undone step trees)
