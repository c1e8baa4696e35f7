-- Controls that are set leave the layout as it is, if it has none of them.
use Rattle.std.proofs.Common.{◌≡◌, ℕ, ℤ, zero, suc, ◌+◌, Bool, true, false, ◌||◌, List, [], ◌∷◌, get_or, set, length, Option, Some, None, Ok, refl, ap, ◌∙◌}
use Rattle.std.specs.Prelude.{if◌then◌else◌, is_some}
use Rattle.std.specs.List.{list_any}
use Rattle.std.specs.Ordering.{int_eq}
use Rattle.std.proofs.lemmas.Bool.{or_parts, or_from, not-true}
use Rattle.std.proofs.lemmas.List.Folds.{list_any-append}
use Rattle.sn_def.specs.declared.control.Control.{Control}
use Rattle.sn_def.specs.Definition.{Definition}
use Rattle.sn_def.specs.Asked.{is_index}
use Rattle.sn_synth.specs.Conditions.{no_control}
use Rattle.sn_tree.specs.Trees.{Label, Nodes, none, node, holds, subtree, with_payload, with_payloads}
use Rattle.sn_tree.specs.Members.{members}
use Rattle.sn_tree.specs.Reworking.{reworked}
use Rattle.sn_tree.proofs.PayloadLaws.{relabelled}
use Rattle.sn_world.specs.declared.stage.Held.{Held}
use Rattle.sn_world.specs.Nodes.{Content, group, synth}
use Rattle.sn_world.specs.World.{Turn}
use Rattle.sn_world.specs.Mappings.{any_node}
use Rattle.sn_world.specs.NewSynth.{control_of}
use Rattle.sn_world.specs.ControlRuns.{ControlRun, ForNode, with_values_from, with_run, with_runs, in_synth, judge_node, set_controls, set_outcome}
use Rattle.sn_layout.specs.Layout.{kept_values, laid, layout_of}
use Rattle.sn_layout.specs.Leaving.{any_laid, any_laid_at, is_laid, lays, runs_laid, runs_plain}
use Rattle.sn_layout.proofs.Values.{plain, set_unseen, same_buses}
use Rattle.sn_layout.proofs.Rows.{Leaves, unless_leaves}

-- ---- nodes of which none passes a test

module _ {P : Type 0} where
  never : (t : Nodes P) → any_node (λ (p : P). false) t ≡ false
  never none = refl
  never (node label below after) = or_from (any_node (λ (p : P). false) below) (any_node (λ (p : P). false) after) (never below) (never after)

  neither : (a b : P → Bool) (t : Nodes P) → any_node a t ≡ false → any_node b t ≡ false → any_node (λ (p : P). a p || b p) t ≡ false
  neither a b none f g = refl
  neither a b (node label below after) f g =
      let fs = or_parts (a label.payload) (any_node a below || any_node a after) f in
      let gs = or_parts (b label.payload) (any_node b below || any_node b after) g in
      let f2 = or_parts (any_node a below) (any_node a after) fs.1 in
      let g2 = or_parts (any_node b below) (any_node b after) gs.1 in
      or_from (a label.payload || b label.payload) (any_node (λ (p : P). a p || b p) below || any_node (λ (p : P). a p || b p) after)
      (or_from (a label.payload) (b label.payload) fs.0 gs.0)
      (or_from (any_node (λ (p : P). a p || b p) below) (any_node (λ (p : P). a p || b p) after) (neither a b below f2.0 g2.0) (neither a b after f2.1 g2.1))

-- the same of a list of nodes
module _ (test : Held → Bool) where
  abbrev pub any_member : List (Label Held × ℕ) → Bool
  any_member ms = list_any (λ (m : Label Held × ℕ). test m.0.payload) ms

  pub any_walked : (t : Nodes Held) → any_member (members t) ≡ any_node test t
  any_walked none = refl
  any_walked (node l below after) = ap (λ b. test l.payload || b) (list_any-append (λ (m : Label Held × ℕ). test m.0.payload) (members below) (members after) ∙ (λ i. any_walked below i || any_walked after i))

-- ---- a change of payloads that is not seen in those that do not pass a test

module _ (change : Content → Content) (test : Content → Bool) (unseen : (c : Content) → test c ≡ false → laid (change c) ≡ laid c) where
  all_unseen : (t : Nodes Content) → any_node test t ≡ false → with_payloads laid (with_payloads change t) ≡ with_payloads laid t
  all_unseen none f = refl
  all_unseen (node label below after) f =
      let fs = or_parts (test label.payload) (any_node test below || any_node test after) f in
      let rest = or_parts (any_node test below) (any_node test after) fs.1 in
      λ i. node (record { id = label.id; kind = label.kind; running = label.running; payload = unseen label.payload fs.0 i }) (all_unseen below rest.0 i) (all_unseen after rest.1 i)

  pub rework_unseen : (id : ℤ) (t : Nodes Content) → any_node test (subtree id t) ≡ false → with_payloads laid (reworked change id t) ≡ with_payloads laid t
  rework_unseen id none f = refl
  rework_unseen id (node label below after) f = at (int_eq label.id id) (holds id below) (rework_unseen id below) (rework_unseen id after) f
    where
      at : (here under : Bool)
          → (any_node test (subtree id below) ≡ false → with_payloads laid (reworked change id below) ≡ with_payloads laid below)
          → (any_node test (subtree id after) ≡ false → with_payloads laid (reworked change id after) ≡ with_payloads laid after)
          → any_node test (if here then node label below none else if under then subtree id below else subtree id after) ≡ false
          → with_payloads laid (if here then node (with_payload (change label.payload) label) (with_payloads change below) after else if under then node label (reworked change id below) after else node label below (reworked change id after)) ≡ with_payloads laid (node label below after)
      at true under in_below in_after f =
          let fs = or_parts (test label.payload) (any_node test below || false) f in
          let rest = or_parts (any_node test below) false fs.1 in
          λ i. node (record { id = label.id; kind = label.kind; running = label.running; payload = unseen label.payload fs.0 i }) (all_unseen below rest.0 i) (with_payloads laid after)
      at false true in_below in_after f = ap (λ (u : Nodes Content). node (relabelled laid label) u (with_payloads laid after)) (in_below f)
      at false false in_below in_after f = ap (λ (u : Nodes Content). node (relabelled laid label) (with_payloads laid below) u) (in_after f)

-- ---- controls that are set

no_bus : (o : Option ℕ) → is_some o ≡ false → o ≡ None
no_bus None f = refl
no_bus (Some n) f = absurd cc

module _ (d : Definition) where
  one_unseen : (cs : List Control) (k : ℕ) (v : ℤ) → is_laid d cs k ≡ false → kept_values (is_index d) (set cs k (plain v)) ≡ kept_values (is_index d) cs
  one_unseen cs k v f =
      let fs = or_parts (is_index d k) (is_some (get_or cs k no_control).bus) f in
      set_unseen (is_index d) cs k v fs.0 (no_bus (get_or cs k no_control).bus fs.1)

  same_laid : (cs : List Control) (k : ℕ) (v : ℤ) → is_laid d cs k ≡ false → (j : ℕ) → is_laid d (set cs k (plain v)) j ≡ is_laid d cs j
  same_laid cs k v f j =
      let fs = or_parts (is_index d k) (is_some (get_or cs k no_control).bus) f in
      ap (λ (o : Option ℕ). is_index d j || is_some o) (same_buses cs k v (no_bus (get_or cs k no_control).bus fs.1) j)

  same_any : (cs : List Control) (k : ℕ) (v : ℤ) → is_laid d cs k ≡ false → (j n : ℕ) → any_laid d (set cs k (plain v)) j n ≡ any_laid d cs j n
  same_any cs k v f j zero = refl
  same_any cs k v f j (suc n) = λ i. same_laid cs k v f j i || same_any cs k v f (j + 1) n i

  -- values from a control on
  values_unseen : (cs : List Control) (k : ℕ) (vs : List ℤ) → any_laid d cs k (length vs) ≡ false → kept_values (is_index d) (with_values_from k vs cs) ≡ kept_values (is_index d) cs
  values_unseen cs k [] f = refl
  values_unseen cs k (v ∷ vs) f =
      let fs = or_parts (is_laid d cs k) (any_laid d cs (k + 1) (length vs)) f in
      values_unseen (set cs k (plain v)) (k + 1) vs (same_any cs k v fs.0 (k + 1) (length vs) ∙ fs.1) ∙ one_unseen cs k v fs.0

  values_same : (cs : List Control) (k : ℕ) (vs : List ℤ) → any_laid d cs k (length vs) ≡ false → (j n : ℕ) → any_laid d (with_values_from k vs cs) j n ≡ any_laid d cs j n
  values_same cs k [] f j n = refl
  values_same cs k (v ∷ vs) f j n =
      let fs = or_parts (is_laid d cs k) (any_laid d cs (k + 1) (length vs)) f in
      values_same (set cs k (plain v)) (k + 1) vs (same_any cs k v fs.0 (k + 1) (length vs) ∙ fs.1) j n ∙ same_any cs k v fs.0 j n

  -- a run
  run_unseen : (cs : List Control) (o : Option ℕ) (vs : List ℤ) → any_laid_at d cs o (length vs) ≡ false → kept_values (is_index d) (with_run o vs cs) ≡ kept_values (is_index d) cs
  run_unseen cs None vs f = refl
  run_unseen cs (Some k) vs f = values_unseen cs k vs f

  run_same : (cs : List Control) (o : Option ℕ) (vs : List ℤ) → any_laid_at d cs o (length vs) ≡ false → (p : Option ℕ) (n : ℕ) → any_laid_at d (with_run o vs cs) p n ≡ any_laid_at d cs p n
  run_same cs None vs f p n = refl
  run_same cs (Some k) vs f None n = refl
  run_same cs (Some k) vs f (Some j) n = values_same cs k vs f j n

  -- runs one after the other
  abbrev sets_in : List Control → List ControlRun → Bool
  sets_in cs rs = list_any (λ r. any_laid_at d cs (control_of d r.control) (length r.values)) rs

  sets_same : (cs : List Control) (o : Option ℕ) (vs : List ℤ) (rs : List ControlRun) → any_laid_at d cs o (length vs) ≡ false → sets_in (with_run o vs cs) rs ≡ sets_in cs rs
  sets_same cs o vs [] f = refl
  sets_same cs o vs (r ∷ rs) f = λ i. run_same cs o vs f (control_of d r.control) (length r.values) i || sets_same cs o vs rs f i

  runs_unseen : (cs : List Control) (rs : List ControlRun) → sets_in cs rs ≡ false → kept_values (is_index d) (with_runs rs d cs) ≡ kept_values (is_index d) cs
  runs_unseen cs [] f = refl
  runs_unseen cs (r ∷ rs) f =
      let o = control_of d r.control in
      let fs = or_parts (any_laid_at d cs o (length r.values)) (sets_in cs rs) f in
      runs_unseen (with_run o r.values cs) rs (sets_same cs o r.values rs fs.0 ∙ fs.1) ∙ run_unseen cs o r.values fs.0

-- ---- nodes whose controls are set

abbrev any_sets : List ControlRun → Content → Bool
any_sets rs c = list_any (λ r. lays r.control (length r.values) c) rs

content_unseen : (rs : List ControlRun) (c : Content) → any_sets rs c ≡ false → laid (in_synth (with_runs rs) c) ≡ laid c
content_unseen rs group f = refl
content_unseen rs (synth s) f =
    ap (λ (cs : List Control). synth (record s { controls = cs; state = [] })) (runs_unseen s.definition s.controls rs f)

none_set : (t : Nodes Content) (rs : List ControlRun) → runs_laid lays t rs ≡ false → any_node (any_sets rs) t ≡ false
none_set t [] f = never t
none_set t (r ∷ rs) f =
    let fs = or_parts (any_node (lays r.control (length r.values)) t) (runs_laid lays t rs) f in
    neither (lays r.control (length r.values)) (any_sets rs) t fs.0 (none_set t rs fs.1)

-- ---- the rows of `/n_set`, `/n_setn` and `/n_fill`

set_leaves : (r : ForNode ControlRun) (t : Turn) → runs_laid lays (subtree r.id t.world.nodes) r.all ≡ false → Leaves t (set_outcome (Some r) t)
set_leaves r t f =
    unless_leaves t (judge_node t.world r.id) (Ok (record t { world = set_controls r t.world }))
    (ap (λ (ns : Nodes Content). record (layout_of t.world) { nodes = ns })
    (rework_unseen (in_synth (with_runs r.all)) (any_sets r.all) (content_unseen r.all) r.id t.world.nodes (none_set (subtree r.id t.world.nodes) r.all f)))

pub set_outcome_leaves : (o : Option (ForNode ControlRun)) (t : Turn) → runs_plain lays t.world.nodes o ≡ true → Leaves t (set_outcome o t)
set_outcome_leaves None t h = tt
set_outcome_leaves (Some r) t h = set_leaves r t (not-true (runs_laid lays (subtree r.id t.world.nodes) r.all) h)
