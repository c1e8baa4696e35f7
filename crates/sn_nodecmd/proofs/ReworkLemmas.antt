-- Controls that are changed in a node and in all nodes below it: what the stage and its words stand for after it.
use Rattle.std.proofs.Common.{◌≡◌, ℕ, zero, suc, ◌+◌, ℤ, Bool, true, false, List, [], ◌∷◌, ◌++◌, get_or, set, Option, Some, None, Result, Ok, Err, refl, ap, sym, subst, ◌∙◌, length-set}
use Rattle.std.specs.Prelude.{if◌then◌else◌}
use Rattle.std.specs.Ordering.{int_eq}
use Rattle.std.proofs.lemmas.Bool.{cond_both}
use Rattle.std.proofs.lemmas.List.Elements.{All-set}
use Rattle.sn_mem.specs.declared.extents.Extent.{Extent}
use Rattle.sn_def.specs.declared.control.Control.{Control}
use Rattle.sn_def.specs.Definition.{Definition}
use Rattle.sn_def.specs.Defs.{definition_of}
use Rattle.sn_synth.specs.Conditions.{AreControlsOf, IsFollowed, no_control}
use Rattle.sn_reply.specs.declared.reason.Reason.{Reason}
use Rattle.sn_reply.specs.Replies.{ReplyShape}
use Rattle.sn_tree.specs.declared.node.NodeKind.{NodeKind}
use Rattle.sn_tree.specs.declared.node.NodeKind.TheVariants as kinds
use Rattle.sn_tree.specs.Trees.{Nodes, none, node, holds, with_payload, with_payloads}
use Rattle.sn_tree.specs.Reworking.{reworked, changed_below}
use Rattle.sn_tree.proofs.PayloadLaws.{relabelled, holds-payloads}
use Rattle.sn_world.specs.declared.stage.Held.{Held}
use Rattle.sn_world.specs.declared.stage.Held.TheVariants as held
use Rattle.sn_world.specs.declared.stage.Stage.{Stage}
use Rattle.sn_world.specs.Nodes.{content_of}
use Rattle.sn_world.specs.Pictures.{Pictures, held_extents, live_held, has_synth, IsHeld, KindAgrees, AreHeld}
use Rattle.sn_world.specs.World.{Turn, world_of, turn_of}
use Rattle.sn_world.specs.Rows.{unless}
use Rattle.sn_world.specs.NewSynth.{control_of, with_value}
use Rattle.sn_world.specs.ControlRuns.{ControlRun, ForNode, in_synth, with_values_from, with_run, with_runs, judge_node, set_controls, set_outcome}
use Rattle.sn_nodecmd.specs.Reworks.{held_with}
use Rattle.sn_world.proofs.HeldKinds.{kind-below}
use Rattle.sn_world.proofs.Turning.{pictures-tree, with_nodes}

-- ---- payloads changed by themselves, and as they are seen

choose : {A B : Type 0} (g : A → B) (c c' d d' : Bool) (x y z : B) (x' y' z' : A) → c ≡ c' → d ≡ d' → x ≡ g x' → y ≡ g y' → z ≡ g z'
    → (if c then x else if d then y else z) ≡ g (if c' then x' else if d' then y' else z')
choose g c c' d d' x y z x' y' z' e f p q r = ap (λ b. if b then x else if d then y else z) e ∙ ap (λ b. if c' then x else if b then y else z) f ∙ at c' d'
  where
    at : (a b : Bool) → (if a then x else if b then y else z) ≡ g (if a then x' else if b then y' else z')
    at true b = p
    at false true = q
    at false false = r

module _ {P Q : Type 0} (f : P → Q) (h : P → P) (g : Q → Q) (same : (p : P) → g (f p) ≡ f (h p)) where
  all-seen : (t : Nodes P) → with_payloads g (with_payloads f t) ≡ with_payloads f (with_payloads h t)
  all-seen none = refl
  all-seen (node l below after) = λ i. node (relabelled (λ (p : P). same p i) l) (all-seen below i) (all-seen after i)

  pub reworked-seen : (id : ℤ) (t : Nodes P) → reworked g id (with_payloads f t) ≡ with_payloads f (reworked h id t)
  reworked-seen id none = refl
  reworked-seen id (node l below after) =
      choose (with_payloads f) (int_eq l.id id) (int_eq l.id id) (holds id (with_payloads f below)) (holds id below)
      (node (with_payload (g (f l.payload)) (relabelled f l)) (with_payloads g (with_payloads f below)) (with_payloads f after))
      (node (relabelled f l) (reworked g id (with_payloads f below)) (with_payloads f after))
      (node (relabelled f l) (with_payloads f below) (reworked g id (with_payloads f after)))
      (node (with_payload (h l.payload) l) (with_payloads h below) after)
      (node l (reworked h id below) after)
      (node l below (reworked h id after))
      refl (holds-payloads f id below)
      (λ i. node (relabelled (λ (p : P). same p i) l) (all-seen below i) (with_payloads f after))
      (ap (λ (t : Nodes Q). node (relabelled f l) t (with_payloads f after)) (reworked-seen id below))
      (ap (λ (t : Nodes Q). node (relabelled f l) (with_payloads f below) t) (reworked-seen id after))

-- ---- what holds of each node

same-synth : (change : Definition → List Control → List Control) (h : Held) → has_synth (held_with change h) ≡ has_synth h
same-synth change held.Group = refl
same-synth change (held.Synth def controls state) = refl

pub kind-held : (change : Definition → List Control → List Control) (kind : NodeKind) (h : Held) (below : Nodes Held) → KindAgrees kind h below → KindAgrees kind (held_with change h) (with_payloads (held_with change) below)
kind-held change kinds.Synth h below is = (same-synth change h ∙ is.0, ap (with_payloads (held_with change)) is.1)
kind-held change kinds.Group h below is = same-synth change h ∙ is
kind-held change kinds.Parallel h below is = same-synth change h ∙ is

module _ (change : Definition → List Control → List Control) (good : (d : Definition) (cs : List Control) → AreControlsOf d cs → AreControlsOf d (change d cs)) where
  one-held : (rate : ℕ) (region : Extent) (h : Held) → IsHeld rate region h → IsHeld rate region (held_with change h)
  one-held rate region held.Group is = is
  one-held rate region (held.Synth def controls state) is = record { each = good (definition_of def.value) controls is.each; size = is.size; within = is.within }

  all-held : (rate : ℕ) (region : Extent) (t : Nodes Held) → AreHeld rate region t → AreHeld rate region (with_payloads (held_with change) t)
  all-held rate region none h = h
  all-held rate region (node l below after) h = (one-held rate region l.payload h.0, (all-held rate region below h.1.0, all-held rate region after h.1.1), kind-held change l.kind l.payload below h.2)

  pub held-reworked : (id : ℤ) (rate : ℕ) (region : Extent) (t : Nodes Held) → AreHeld rate region t → AreHeld rate region (reworked (held_with change) id t)
  held-reworked id rate region none h = h
  held-reworked id rate region (node l below after) h =
      cond_both (int_eq l.id id) (node (with_payload (held_with change l.payload) l) (with_payloads (held_with change) below) after) (if holds id below then node l (reworked (held_with change) id below) after else node l below (reworked (held_with change) id after)) (AreHeld rate region)
      (λ _. (one-held rate region l.payload h.0, (all-held rate region below h.1.0, h.1.1), kind-held change l.kind l.payload below h.2))
      (λ _. cond_both (holds id below) (node l (reworked (held_with change) id below) after) (node l below (reworked (held_with change) id after)) (AreHeld rate region)
      (λ e. (h.0, (held-reworked id rate region below h.1.0, h.1.1), kind-below l.kind l.payload below (reworked (held_with change) id below) id h.2 e))
      (λ _. (h.0, (h.1.0, held-reworked id rate region after h.1.1), h.2)))

module _ (change : Definition → List Control → List Control) where
  same-extents : (h : Held) → held_extents (held_with change h) ≡ held_extents h
  same-extents held.Group = refl
  same-extents (held.Synth def controls state) = refl

  all-live : (t : Nodes Held) → live_held (with_payloads (held_with change) t) ≡ live_held t
  all-live none = refl
  all-live (node l below after) = λ i. same-extents l.payload i ++ (all-live below i ++ all-live after i)

  pub live-reworked : (id : ℤ) (t : Nodes Held) → live_held (reworked (held_with change) id t) ≡ live_held t
  live-reworked id none = refl
  live-reworked id (node l below after) =
      cond_both (int_eq l.id id) (node (with_payload (held_with change l.payload) l) (with_payloads (held_with change) below) after) (if holds id below then node l (reworked (held_with change) id below) after else node l below (reworked (held_with change) id after)) (λ (t : Nodes Held). live_held t ≡ live_held (node l below after))
      (λ _. λ i. same-extents l.payload i ++ (all-live below i ++ live_held after))
      (λ _. cond_both (holds id below) (node l (reworked (held_with change) id below) after) (node l below (reworked (held_with change) id after)) (λ (t : Nodes Held). live_held t ≡ live_held (node l below after))
      (λ _. ap (λ es. held_extents l.payload ++ (es ++ live_held after)) (live-reworked id below))
      (λ _. ap (λ es. held_extents l.payload ++ (live_held below ++ es)) (live-reworked id after)))

  same-content : (words : List ℕ) (h : Held) → in_synth change (content_of words h) ≡ content_of words (held_with change h)
  same-content words held.Group = refl
  same-content words (held.Synth def controls state) = refl

  pub world-reworked : (stage : Stage) (words : List ℕ) (replies : List ReplyShape) (id : ℤ)
      → turn_of (record stage { tree = changed_below (held_with change) id stage.tree }) words replies ≡ with_nodes stage words replies (reworked (in_synth change) id (with_payloads (content_of words) stage.tree.attached))
  world-reworked stage words replies id =
      ap (with_nodes stage words replies) (sym (reworked-seen (content_of words) (held_with change) (in_synth change) (same-content words) id stage.tree.attached))

pub pictures-reworked : (change : Definition → List Control → List Control) → ((d : Definition) (cs : List Control) → AreControlsOf d cs → AreControlsOf d (change d cs)) → (stage : Stage) (words : List ℕ) (id : ℤ)
    → Pictures stage words → Pictures (record stage { tree = changed_below (held_with change) id stage.tree }) words
pictures-reworked change good stage words id p =
    pictures-tree stage (changed_below (held_with change) id stage.tree) words (λ rate region h. held-reworked change good id rate region stage.tree.attached h) (live-reworked change id stage.tree.attached) refl p.settled p

-- ---- controls that are set

set-keeps : (P : Control → Type 0) (cs : List Control) (k j : ℕ) (new d : Control) → P new → P (get_or cs j d) → P (get_or (set cs k new) j d)
set-keeps P [] k j new d pn h = h
set-keeps P (c ∷ cs) zero zero new d pn h = pn
set-keeps P (c ∷ cs) zero (suc j) new d pn h = h
set-keeps P (c ∷ cs) (suc k) zero new d pn h = h
set-keeps P (c ∷ cs) (suc k) (suc j) new d pn h = set-keeps P cs k j new d pn h

-- a control that follows no bus
pub good-set : (d : Definition) (cs : List Control) (k : ℕ) (c : Control) → c.bus ≡ None → AreControlsOf d cs → AreControlsOf d (set cs k c)
good-set d cs k c free are = record {
  one_each = length-set cs k c ∙ are.one_each;
  followed = All-set (λ (x : Control). IsFollowed x.bus) cs k c (subst IsFollowed (sym free) tt) are.followed;
  indices = λ j index. set-keeps (λ (x : Control). x.bus ≡ None) cs k j c no_control free (are.indices j index);
}

good-values : (d : Definition) (k : ℕ) (vs : List ℤ) (cs : List Control) → AreControlsOf d cs → AreControlsOf d (with_values_from k vs cs)
good-values d k [] cs are = are
good-values d k (v ∷ vs) cs are = good-values d (k + 1) vs (with_value (Some k) v cs) (good-set d cs k (record { value = v; bus = None }) refl are)

good-run : (d : Definition) (o : Option ℕ) (vs : List ℤ) (cs : List Control) → AreControlsOf d cs → AreControlsOf d (with_run o vs cs)
good-run d None vs cs are = are
good-run d (Some k) vs cs are = good-values d k vs cs are

pub good-runs : (rs : List ControlRun) (d : Definition) (cs : List Control) → AreControlsOf d cs → AreControlsOf d (with_runs rs d cs)
good-runs [] d cs are = are
good-runs (r ∷ rs) d cs are = good-runs rs d (with_run (control_of d r.control) r.values cs) (good-run d (control_of d r.control) r.values cs are)

-- ---- the row

pub set-done : (stage : Stage) (words : List ℕ) (replies : List ReplyShape) (r : ForNode ControlRun) → judge_node (world_of stage words) r.id ≡ None
    → set_outcome (Some r) (turn_of stage words replies) ≡ Ok (turn_of (record stage { tree = changed_below (held_with (with_runs r.all)) r.id stage.tree }) words replies)
set-done stage words replies r judged =
    ap (λ (o : Option Reason). unless o (Ok (with_nodes stage words replies (set_controls r (world_of stage words)).nodes))) judged
    ∙ ap (λ (t : Turn). let o : Result Turn Reason = Ok t in o) (sym (world-reworked (with_runs r.all) stage words replies r.id))

pub set-refused : (stage : Stage) (words : List ℕ) (replies : List ReplyShape) (r : ForNode ControlRun) (reason : Reason) → judge_node (world_of stage words) r.id ≡ Some reason
    → set_outcome (Some r) (turn_of stage words replies) ≡ Err reason
set-refused stage words replies r reason judged =
    ap (λ (o : Option Reason). unless o (Ok (with_nodes stage words replies (set_controls r (world_of stage words)).nodes))) judged
