-- What each call makes of a tree.
use Rattle.std.specs.Prelude.{◌≡◌, ℕ, ◌+◌, ◌-◌, ◌<◌, ◌≤◌, ◌==◌, ℤ, Bool, if◌then◌else◌, List, [], ◌∷◌, ◌++◌, Option, Some, None}
use Rattle.sn_tree.specs.declared.node.NodeKind.{NodeKind}
use Rattle.sn_tree.specs.declared.node.AddAction.{AddAction}
use Rattle.sn_tree.specs.declared.node.AddAction.TheVariants.{Before}
use Rattle.sn_tree.specs.Trees.{Label, Nodes, Sides, none, node, put, leaf, without, subtree, joined, changed, with_running, with_payload, payloads, with_payloads, with_payloads_of, label_of, last_top, without_last, without_first}
use Rattle.sn_tree.specs.Model.{Journal, NodeTree}

-- how often a value is in a list, by a test of equality
abbrev pub occurrences : {A : Type 0} → (A → A → Bool) → A → List A → ℕ
occurrences same x [] = 0
occurrences same x (y ∷ ys) = (if same y x then 1 else 0) + occurrences same x ys

-- no value is in a list twice
abbrev pub AllDistinct : {A : Type 0} → (A → A → Bool) → List A → Type 0
AllDistinct same xs = (x : _) → occurrences same x xs ≤ 1

module _ {P : Type 0} where
  -- steps on the attached and the detached nodes

  abbrev pub inserting : ℤ → NodeKind → AddAction → ℤ → P → Sides P → Sides P
  inserting id kind action target payload sides = record sides { attached = put action target (leaf id kind payload) sides.attached }

  -- a subtree is put after those that were detached before
  abbrev pub detaching : ℤ → Sides P → Sides P
  detaching id sides = record { attached = without id sides.attached; detached = joined sides.detached (subtree id sides.attached) }

  -- a new node is put just before the target, and the target's subtree is detached
  abbrev pub replacing : ℤ → NodeKind → ℤ → P → Sides P → Sides P
  replacing id kind target payload sides = detaching target (inserting id kind Before target payload sides)

  -- the subtree with this top that was detached last is put in
  abbrev pub attaching : ℤ → AddAction → ℤ → Sides P → Sides P
  attaching id action target sides = record { attached = put action target (last_top id sides.detached) sides.attached; detached = without_last id sides.detached }

  -- a subtree is taken out and put in elsewhere
  abbrev pub moving : ℤ → AddAction → ℤ → Sides P → Sides P
  moving id action target sides = record sides { attached = put action target (subtree id sides.attached) (without id sides.attached) }

  abbrev pub setting : ℤ → Bool → Sides P → Sides P
  setting id on sides = record sides { attached = changed id (with_running on) sides.attached }

-- the mark of an attached node, if it was saved
abbrev pub mark_in : Option (Label (Option ℕ)) → Option ℕ
mark_in None = None
mark_in (Some label) = label.payload

module _ {P : Type 0} where
  abbrev pub IsOpen : Option (Journal P) → Type 0
  IsOpen None = ⊥
  IsOpen (Some journal) = Unit {0}

  -- an open journal has room for a step
  abbrev pub HasRoom : Option (Journal P) → Type 0
  HasRoom None = Unit {0}
  HasRoom (Some journal) = 0 < journal.room

  -- an open journal follows a step, of which it has room for so many
  abbrev pub followed : ℕ → (Sides (Option ℕ) → Sides (Option ℕ)) → Option (Journal P) → Option (Journal P)
  followed cost step None = None
  followed cost step (Some journal) = Some (record journal { room = journal.room - cost; marks = record journal.marks { present = step journal.marks.present } })

  abbrev pub stepped : ℕ → (Sides P → Sides P) → (Sides (Option ℕ) → Sides (Option ℕ)) → NodeTree P → NodeTree P
  stepped cost step mark_step tree =
      let sides : Sides P = step (record { attached = tree.attached; detached = tree.detached }) in
      record { attached = sides.attached; detached = sides.detached; journal = followed cost mark_step tree.journal }

  abbrev pub inserted : ℤ → NodeKind → AddAction → ℤ → P → NodeTree P → NodeTree P
  inserted id kind action target payload tree = stepped 0 (inserting id kind action target payload) (inserting id kind action target None) tree

  abbrev pub detached : ℤ → NodeTree P → NodeTree P
  detached id tree = stepped 1 (detaching id) (detaching id) tree

  abbrev pub replaced : ℤ → NodeKind → ℤ → P → NodeTree P → NodeTree P
  replaced id kind target payload tree = detached target (inserted id kind Before target payload tree)

  abbrev pub attached : ℤ → AddAction → ℤ → NodeTree P → NodeTree P
  attached id action target tree = stepped 1 (attaching id action target) (attaching id action target) tree

  abbrev pub moved : ℤ → AddAction → ℤ → NodeTree P → NodeTree P
  moved id action target tree = stepped 1 (moving id action target) (moving id action target) tree

  abbrev pub running : ℤ → Bool → NodeTree P → NodeTree P
  running id on tree = stepped 1 (setting id on) (setting id on) tree

  -- the first detached node is ended
  abbrev pub freed : NodeTree P → NodeTree P
  freed tree = record tree { detached = without_first tree.detached }

  -- the saved node with this mark has a payload
  abbrev pub remarked : ℕ → P → Nodes ℕ → Nodes P → Nodes P
  remarked mark payload none nodes = nodes
  remarked mark payload (node m ms ns) none = none
  remarked mark payload (node m ms ns) (node label below after) =
      node (if m.payload == mark then with_payload payload label else label) (remarked mark payload ms below) (remarked mark payload ns after)

  abbrev pub rewritten : Option ℕ → P → Journal P → Journal P
  rewritten None payload journal = journal
  rewritten (Some mark) payload journal = record journal {
    attached = remarked mark payload journal.marks.saved.attached journal.attached;
    detached = remarked mark payload journal.marks.saved.detached journal.detached;
  }

  abbrev pub saved_written : ℤ → P → Option (Journal P) → Option (Journal P)
  saved_written id payload None = None
  saved_written id payload (Some journal) = Some (rewritten (mark_in (label_of id journal.marks.present.attached)) payload journal)

  -- a value is written to the payload of an attached node, which undoing doesn't take back: if the node was there when
  -- the open journal was opened, it has that payload among the saved ones too
  abbrev pub written : ℤ → NodeTree P → P → NodeTree P
  written id tree payload = record tree { attached = changed id (with_payload payload) tree.attached; journal = saved_written id payload tree.journal }

  -- the same ids, kinds and run flags in the same places
  abbrev pub IsShapedAs : Nodes ℕ → Nodes P → Type 0
  IsShapedAs marks nodes = with_payloads {Q = ℕ} (λ m. 0) marks ≡ with_payloads {Q = ℕ} (λ p. 0) nodes

  -- a journal is opened: it has saved the tree, and no two nodes have one mark
  pub record IsOpened (steps : ℕ) (old new : NodeTree P) : Type 0 where
    pub journal : Journal P
    pub open_now : new ≡ record old { journal = Some journal }
    pub attached_now : journal.attached ≡ old.attached
    pub detached_now : journal.detached ≡ old.detached
    pub room : journal.room ≡ steps
    pub attached_marks : IsShapedAs journal.marks.saved.attached old.attached
    pub detached_marks : IsShapedAs journal.marks.saved.detached old.detached
    pub distinct : AllDistinct ◌==◌ (payloads journal.marks.saved.attached ++ payloads journal.marks.saved.detached)
    pub present : journal.marks.present ≡ with_payloads_of Some journal.marks.saved

  -- the saved nodes are back, and the journal is closed
  abbrev pub restored : Option (Journal P) → NodeTree P → NodeTree P
  restored None tree = tree
  restored (Some journal) tree = record { attached = journal.attached; detached = journal.detached; journal = None }

  abbrev pub undone : NodeTree P → NodeTree P
  undone tree = restored tree.journal tree

  abbrev pub committed : NodeTree P → NodeTree P
  committed tree = record tree { journal = None }
