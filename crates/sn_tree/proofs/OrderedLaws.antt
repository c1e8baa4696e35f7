-- The tree that an order and payloads stand for, after the order's calls.
use Rattle.std.proofs.Common.{◌≡◌, ℕ, ◌≤◌, ℤ, List, [], Option, Some, None, sym, refl, ap, ◌∙◌, subst, arith}
use Rattle.std.specs.Prelude.{Bool, Result, Ok, Err, OnOk, OnErr, slice_index_or}
use Rattle.std.specs.Option.{option_map}
use Rattle.slab.specs.Slab.{Slab, Updates}
use Rattle.sn_tree.specs.declared.node.AddAction.{AddAction}
use Rattle.sn_tree.specs.declared.node.TreeFault.{TreeFault}
use Rattle.sn_tree.specs.declared.node.Uninserted.{Uninserted}
use Rattle.sn_tree.specs.declared.node.Uninserted.TheVariants.{NoMemory, Fault}
use Rattle.sn_tree.specs.Trees.{Label, Nodes, none, node, with_payloads, first_label, without_first}
use Rattle.sn_tree.specs.Faults.{insert_fault_of, fault_of, detach_fault, attach_fault, move_fault, set_run_fault}
use Rattle.sn_tree.specs.Order.{Key}
use Rattle.sn_tree.specs.Arranged.{Arranged}
use Rattle.sn_tree.specs.Saving.{SavedNodes, spent}
use Rattle.sn_tree.specs.Model.{NodeTree}
use Rattle.sn_tree.specs.Steps.{IsOpen, IsOpened, detaching, attaching, moving, setting, detached, attached, moved, running, undone, committed, freed}
use Rattle.sn_tree.specs.Kept.{times, payload_of, IsKept, shown}
use Rattle.sn_tree.specs.Ordered.{Ordered, restored_nodes, made_by, fault_in}
use Rattle.sn_tree.proofs.Following.{same_kept, same_shown, detach_root, detach_keeps, detach_gives, attach_keeps, attach_gives, move_root, move_there, move_keeps, move_gives, run_keeps, run_gives}
use Rattle.sn_tree.proofs.Journaling.{closed, begin_shows, undo_gives, free_keeps, free_gives}

-- an order and payloads stand for a tree
pub record Stands {P : Type 0} (root : P) (slots : List (Option P)) (order : Ordered) (tree : NodeTree P) : Type 0 where
  pub kept : IsKept slots order.now order.saved
  pub shows : shown root slots order.now order.saved ≡ tree

pub uninserted_is : {P : Type 0} (u : Uninserted P) → insert_fault_of {A = Unit {0}} (Err u) ≡ fault_in u
uninserted_is (NoMemory payload) = refl
uninserted_is (Fault fault payload) = refl

module _ {P : Type 0} (root : P) (slots : List (Option P)) where
  -- nothing was changed
  pub stays_same : (old new : Ordered) (slots' : List (Option P)) (tree : NodeTree P) → Stands root slots old tree → slots' ≡ slots → new ≡ old → Stands root slots' new tree
  stays_same old new slots' tree h s e = record {
    kept = same_kept slots slots' old.now new.now old.saved new.saved h.kept s (ap (λ (o : Ordered). o.now) e) (ap (λ (o : Ordered). o.saved) e);
    shows = same_shown root slots slots' old.now new.now old.saved new.saved tree h.shows s (ap (λ (o : Ordered). o.now) e) (ap (λ (o : Ordered). o.saved) e);
  }

  -- a journal is opened
  pub begin_keeps : (old new : Ordered) (steps : ℕ) (tree : NodeTree P) → Stands root slots old tree → new ≡ record { now = old.now; saved = Some (record { nodes = old.now; room = steps; made = [] }) } → IsKept slots new.now new.saved
  begin_keeps old new steps tree h e =
      subst (λ (o : Ordered). IsKept slots o.now o.saved) (sym e)
      (record { now = h.kept.now; rooted = h.kept.rooted; distinct = h.kept.distinct; aside = h.kept.aside; before = (λ key. omega (arith, h.kept.now.keys key), h.kept.rooted, h.kept.distinct, h.kept.aside) })

  pub begin_opens : (old new : Ordered) (steps : ℕ) (tree : NodeTree P) → Stands root slots old tree → tree.journal ≡ None → new ≡ record { now = old.now; saved = Some (record { nodes = old.now; room = steps; made = [] }) }
      → IsOpened steps tree (shown root slots new.now new.saved)
  begin_opens old new steps tree h shut e =
      subst (λ (o : Ordered). IsOpened steps tree (shown root slots o.now o.saved)) (sym e)
      (begin_shows root slots old.now old.now old.saved (Some (record { nodes = old.now; room = steps; made = [] })) tree steps h.kept h.shows shut refl refl)

  -- it is closed
  pub commit_stands : (old new : Ordered) (tree : NodeTree P) → Stands root slots old tree → new ≡ record { now = old.now; saved = None } → Stands root slots new (committed tree)
  commit_stands old new tree h e =
      subst (λ (o : Ordered). Stands root slots o (committed tree)) (sym e)
      (record { kept = record { now = h.kept.now; rooted = h.kept.rooted; distinct = h.kept.distinct; aside = h.kept.aside; before = tt }; shows = ap committed h.shows })

  -- it is undone
  pub undo_stands : (slots' : List (Option P)) (now : Arranged) (saved : Option SavedNodes) (new : Ordered) (made : List ℕ) (tree : NodeTree P) → IsKept slots now saved → shown root slots now saved ≡ tree
      → Some made ≡ made_by saved → new ≡ record { now = restored_nodes now saved; saved = None }
      → ((key : ℕ) → times (Some key) made ≡ 0 → slice_index_or slots' key None ≡ slice_index_or slots key None)
      → ((key : ℕ) → 1 ≤ times (Some key) made → slice_index_or slots' key None ≡ None)
      → Stands root slots' new (undone tree)
  undo_stands slots' now None new made tree k e m n same dropped = absurd cc
  undo_stands slots' now (Some s) new made tree k e m n same dropped =
      let g = undo_gives root slots slots' now new.now (Some s) new.saved s made tree k e refl (ap (λ (o : Ordered). o.now) n) (same_list m) (ap (λ (o : Ordered). o.saved) n) same dropped in
      record { kept = g.0; shows = g.1 }
    where
      same_list : Some made ≡ Some s.made → made ≡ s.made
      same_list q = cc

  pub nothing_open : (now : Arranged) (saved : Option SavedNodes) (tree : NodeTree P) → shown root slots now saved ≡ tree → None ≡ made_by saved → IsOpen tree.journal → ⊥
  nothing_open now None tree e m open_now = subst (λ (t : NodeTree P). IsOpen t.journal) (sym e) open_now
  nothing_open now (Some s) tree e m open_now = absurd cc

-- a call that can be refused was answered: a refusal changes nothing
pub record Answered {A E P : Type 0} (root : P) (slots : List (Option P)) (new : Ordered) (tree : NodeTree P) (gives : Type 0) (r : Result A E) : Type 0 where
  pub kept : IsKept slots new.now new.saved
  pub ok : OnOk r gives
  pub refused : OnErr r (shown root slots new.now new.saved ≡ tree)

module _ {P : Type 0} (root : P) (slots : List (Option P)) (old new : Ordered) (tree : NodeTree P) (h : Stands root slots old tree) where
  unchanged_by : new ≡ old → Stands root slots new tree
  unchanged_by stays = stays_same root slots old new slots tree h refl stays

  pub detach_answered : {A : Type 0} (id : ℤ) (r : Result A TreeFault) → fault_of r ≡ detach_fault id old.now.attached → OnOk r (new ≡ record { now = detaching id old.now; saved = spent 1 old.saved }) → OnErr r (new ≡ old) → Answered root slots new tree (shown root slots new.now new.saved ≡ detached id tree) r
  detach_answered id (Ok a) fault ok stays = record {
    kept = detach_keeps root slots old.now new.now old.saved new.saved tree h.shows h.kept (ap (λ (o : Ordered). o.saved) ok) id (ap (λ (o : Ordered). o.now) ok) (detach_root id old.now.attached (sym fault));
    ok = detach_gives root slots old.now new.now old.saved new.saved tree h.shows h.kept (ap (λ (o : Ordered). o.saved) ok) id (ap (λ (o : Ordered). o.now) ok);
    refused = tt;
  }
  detach_answered id (Err e) fault ok stays = record { kept = (unchanged_by stays).kept; ok = tt; refused = (unchanged_by stays).shows }

  pub attach_answered : {A : Type 0} (id : ℤ) (action : AddAction) (target : ℤ) (r : Result A TreeFault) → fault_of r ≡ attach_fault id action target old.now.attached old.now.detached → OnOk r (new ≡ record { now = attaching id action target old.now; saved = spent 1 old.saved }) → OnErr r (new ≡ old) → Answered root slots new tree (shown root slots new.now new.saved ≡ attached id action target tree) r
  attach_answered id action target (Ok a) fault ok stays = record {
    kept = attach_keeps root slots old.now new.now old.saved new.saved tree h.shows h.kept (ap (λ (o : Ordered). o.saved) ok) id action target (ap (λ (o : Ordered). o.now) ok) (sym fault);
    ok = attach_gives root slots old.now new.now old.saved new.saved tree h.shows h.kept (ap (λ (o : Ordered). o.saved) ok) id action target (ap (λ (o : Ordered). o.now) ok);
    refused = tt;
  }
  attach_answered id action target (Err e) fault ok stays = record { kept = (unchanged_by stays).kept; ok = tt; refused = (unchanged_by stays).shows }

  pub move_answered : {A : Type 0} (id : ℤ) (action : AddAction) (target : ℤ) (r : Result A TreeFault) → fault_of r ≡ move_fault id action target old.now.attached → OnOk r (new ≡ record { now = moving id action target old.now; saved = spent 1 old.saved }) → OnErr r (new ≡ old) → Answered root slots new tree (shown root slots new.now new.saved ≡ moved id action target tree) r
  move_answered id action target (Ok a) fault ok stays = record {
    kept = move_keeps root slots old.now new.now old.saved new.saved tree h.shows h.kept (ap (λ (o : Ordered). o.saved) ok) id action target (ap (λ (o : Ordered). o.now) ok) (move_root id action target old.now.attached (sym fault)).0 (move_root id action target old.now.attached (sym fault)).1 (move_there id action target old.now.attached (sym fault));
    ok = move_gives root slots old.now new.now old.saved new.saved tree h.shows h.kept (ap (λ (o : Ordered). o.saved) ok) id action target (ap (λ (o : Ordered). o.now) ok);
    refused = tt;
  }
  move_answered id action target (Err e) fault ok stays = record { kept = (unchanged_by stays).kept; ok = tt; refused = (unchanged_by stays).shows }

  pub run_answered : {A : Type 0} (id : ℤ) (on : Bool) (r : Result A TreeFault) → fault_of r ≡ set_run_fault id old.now.attached → OnOk r (new ≡ record { now = setting id on old.now; saved = spent 1 old.saved }) → OnErr r (new ≡ old) → Answered root slots new tree (shown root slots new.now new.saved ≡ running id on tree) r
  run_answered id on (Ok a) fault ok stays = record {
    kept = run_keeps root slots old.now new.now old.saved new.saved tree h.shows h.kept (ap (λ (o : Ordered). o.saved) ok) id on (ap (λ (o : Ordered). o.now) ok);
    ok = run_gives root slots old.now new.now old.saved new.saved tree h.shows h.kept (ap (λ (o : Ordered). o.saved) ok) id on (ap (λ (o : Ordered). o.now) ok);
    refused = tt;
  }
  run_answered id on (Err e) fault ok stays = record { kept = (unchanged_by stays).kept; ok = tt; refused = (unchanged_by stays).shows }

  pub begin_answered : {A E : Type 0} (steps : ℕ) (r : Result A E) → tree.journal ≡ None → OnOk r (new ≡ record { now = old.now; saved = Some (record { nodes = old.now; room = steps; made = [] }) }) → OnErr r (new ≡ old)
      → Answered root slots new tree (IsOpened steps tree (shown root slots new.now new.saved)) r
  begin_answered steps (Ok a) shut ok stays = record { kept = begin_keeps root slots old new steps tree h ok; ok = begin_opens root slots old new steps tree h shut ok; refused = tt }
  begin_answered steps (Err e) shut ok stays = record { kept = (unchanged_by stays).kept; ok = tt; refused = (unchanged_by stays).shows }

-- the first detached node has ended
module _ {P : Type 0} (root : P) (s0 s1 : Slab P) (old new : Ordered) (tree : NodeTree P) (key : ℕ) (h : Stands root s0.slots old tree) (shut : tree.journal ≡ None)
    (first : Some (Some key) ≡ option_map (λ (l : Label Key). l.payload) (first_label old.now.detached))
    (is : new ≡ record { now = record old.now { detached = without_first old.now.detached }; saved = None }) (updates : Updates s0 s1 key None) where
  pub now_is : new.now ≡ record old.now { detached = without_first old.now.detached }
  now_is = ap (λ (o : Ordered). o.now) is

  saved_is : new.saved ≡ old.saved
  saved_is = ap (λ (o : Ordered). o.saved) is ∙ sym (closed root s0.slots old.now old.saved tree h.shows shut)

  pub free_stands : Stands root s1.slots new (freed tree)
  free_stands = record {
    kept = subst (λ q. IsKept s1.slots new.now q) (sym saved_is) (free_keeps root s0 s1 old.now new.now old.saved tree key h.kept h.shows shut first now_is updates);
    shows = ap (shown root s1.slots new.now) saved_is ∙ free_gives root s0 s1 old.now new.now old.saved tree key h.kept h.shows shut first now_is updates;
  }

-- none was left
module _ {P : Type 0} (root : P) (slots : List (Option P)) (old new : Ordered) (tree : NodeTree P) (h : Stands root slots old tree) (shut : tree.journal ≡ None)
    (none_left : None ≡ option_map (λ (l : Label Key). l.payload) (first_label old.now.detached))
    (is : new ≡ record { now = record old.now { detached = without_first old.now.detached }; saved = None }) where
  empty : (t : Nodes Key) → None ≡ option_map (λ (l : Label Key). l.payload) (first_label t) → t ≡ none
  empty none e = refl
  empty (node label below after) e = absurd cc

  unchanged : new ≡ old
  unchanged =
      is
      ∙ (λ i. let o : Ordered = record {
        now = record { attached = old.now.attached; detached = (ap without_first (empty old.now.detached none_left) ∙ sym (empty old.now.detached none_left)) i };
        saved = sym (closed root slots old.now old.saved tree h.shows shut) i;
      } in o)

  pub none_freed : Stands root slots new (freed tree)
  none_freed =
      let same : Stands root slots new tree = stays_same root slots old new slots tree h refl unchanged in
      record { kept = same.kept; shows = same.shows ∙ none_left_of }
    where
      no_detached : tree.detached ≡ none
      no_detached = ap (λ (t : NodeTree P). t.detached) (sym h.shows) ∙ ap (with_payloads (payload_of root slots)) (empty old.now.detached none_left)

      none_left_of : tree ≡ freed tree
      none_left_of = (λ i. let t : NodeTree P = record tree { detached = (no_detached ∙ sym (ap without_first no_detached)) i } in t)
