-- `/n_map`: what is against it, and controls that follow buses.
use Rattle.std.proofs.Common.{◌≡◌, ◌||◌, ℕ, zero, suc, ℤ, pos, negsuc, Bool, true, false, not, List, [], ◌∷◌, get_or, set, Option, Some, None, Result, Ok, Err, refl, ap, sym, subst, ◌∙◌, length-set}
use Rattle.std.specs.Prelude.{if◌then◌else◌}
use Rattle.std.specs.List.{list_any}
use Rattle.std.specs.Ordering.{int_eq}
use Rattle.std.proofs.lemmas.Bool.{cond_both, ltb-true}
use Rattle.std.proofs.lemmas.List.Elements.{All-set}
use Rattle.std.proofs.lemmas.List.Folds.{list_any-append}
use Rattle.sn_mem.specs.declared.extents.Extent.{Extent}
use Rattle.sn_def.specs.declared.control.Control.{Control}
use Rattle.sn_def.specs.Definition.{Definition}
use Rattle.sn_def.specs.Defs.{definition_of}
use Rattle.sn_def.specs.Asked.{is_index}
use Rattle.sn_synth.specs.Conditions.{AreControlsOf, IsFollowed, no_control}
use Rattle.sn_ports.specs.declared.failed.NoMemory.{NoMemory}
use Rattle.sn_reply.specs.declared.reason.Reason.{Reason}
use Rattle.sn_reply.specs.declared.reason.Reason.TheVariants.{Bus, IndexControl}
use Rattle.sn_reply.specs.Replies.{ReplyShape}
use Rattle.sn_tree.specs.Trees.{Label, Nodes, none, node, holds, subtree, with_payload, with_payloads}
use Rattle.sn_tree.specs.Members.{members}
use Rattle.sn_tree.specs.Model.{NodeTree}
use Rattle.sn_tree.specs.Reworking.{reworked, changed_below}
use Rattle.sn_tree.proofs.PayloadLaws.{subtree-payloads}
use Rattle.sn_world.specs.declared.stage.Held.{Held}
use Rattle.sn_world.specs.declared.stage.Held.TheVariants as held
use Rattle.sn_world.specs.declared.stage.Stage.{Stage}
use Rattle.sn_world.specs.Nodes.{content_of}
use Rattle.sn_world.specs.Pictures.{Pictures, IsHeld, AreHeld}
use Rattle.sn_world.specs.World.{Turn, world_of, turn_of}
use Rattle.sn_world.specs.Rows.{unless, or_else, first_of, first_refusal}
use Rattle.sn_world.specs.NewSynth.{ControlName, control_of}
use Rattle.sn_world.specs.ControlRuns.{ForNode, judge_node}
use Rattle.sn_world.specs.Mappings.{Mapping, is_followable, followed_bus, with_bus, with_buses, is_index_of, is_index_in, any_node, judge_mapping, map_buses, map_outcome}
use Rattle.sn_world.specs.Answers.{Follows, UnlessFollowed}
use Rattle.sn_nodecmd.specs.Reworks.{held_with}
use Rattle.sn_nodecmd.specs.Mapped.{takes_index, refusal_in, IsMapped}
use Rattle.sn_world.proofs.HeldKinds.{kind-below}
use Rattle.sn_world.proofs.Turning.{with_tree, pictures-tree}
use Rattle.sn_nodecmd.proofs.ReworkLemmas.{kind-held, live-reworked, world-reworked}

-- ---- the walk over a node and all nodes below it

module _ (test : Held → Bool) where
  abbrev pub any_member : List (Label Held × ℕ) → Bool
  any_member ms = list_any (λ (m : Label Held × ℕ). test m.0.payload) ms

  pub any-walked : (t : Nodes Held) → any_member (members t) ≡ any_node test t
  any-walked none = refl
  any-walked (node l below after) = ap (λ b. test l.payload || b) (list_any-append (λ (m : Label Held × ℕ). test m.0.payload) (members below) (members after) ∙ (λ i. any-walked below i || any-walked after i))

  pub any-found : (ms : List (Label Held × ℕ)) (m : Label Held × ℕ) (rest : List (Label Held × ℕ)) → ms ≡ m ∷ rest → true ≡ test m.0.payload → true ≡ any_member ms
  any-found ms m rest e h = ap (λ (b : Bool). b || any_member rest) h ∙ sym (ap any_member e)

-- ---- the reasons as the world has them

takes-seen : (words : List ℕ) (c : ControlName) (h : Held) → is_index_in c (content_of words h) ≡ takes_index c h
takes-seen words c held.Group = refl
takes-seen words c (held.Synth def controls state) = refl

any-seen : (words : List ℕ) (c : ControlName) (t : Nodes Held) → any_node (is_index_in c) (with_payloads (content_of words) t) ≡ any_node (takes_index c) t
any-seen words c none = refl
any-seen words c (node l below after) = λ i. takes-seen words c l.payload i || (any-seen words c below i || any-seen words c after i)

refusal-seen : (words : List ℕ) (id : ℤ) (t : Nodes Held) (m : Mapping) → judge_mapping (subtree id (with_payloads (content_of words) t)) m ≡ refusal_in (subtree id t) m
refusal-seen words id t m =
    ap (λ (b : Bool). first_of ((not (is_followable m.bus), Bus) ∷ (b, IndexControl) ∷ []))
    (ap (any_node (is_index_in m.control)) (subtree-payloads (content_of words) id t) ∙ any-seen words m.control (subtree id t))

refusals-seen : (words : List ℕ) (id : ℤ) (t : Nodes Held) (ms : List Mapping) → first_refusal (judge_mapping (subtree id (with_payloads (content_of words) t))) ms ≡ first_refusal (refusal_in (subtree id t)) ms
refusals-seen words id t [] = refl
refusals-seen words id t (m ∷ ms) = λ i. or_else (refusal-seen words id t m i) (refusals-seen words id t ms i)

-- ---- what is not refused

-- a mapping that a definition's synths can take
record IsFine (d : Definition) (m : Mapping) : Type 0 where
  pub followable : is_followable m.bus ≡ true
  pub free : is_index_of d (control_of d m.control) ≡ false

abbrev AreFine : List Mapping → Definition → Type 0
AreFine [] d = Unit {0}
AreFine (m ∷ ms) d = IsFine d m × AreFine ms d

abbrev FineIn : List Mapping → Held → Type 0
FineIn ms held.Group = Unit {0}
FineIn ms (held.Synth def controls state) = AreFine ms (definition_of def.value)

abbrev AllFine : List Mapping → Nodes Held → Type 0
AllFine ms none = Unit {0}
AllFine ms (node l below after) = FineIn ms l.payload × (AllFine ms below × AllFine ms after)

or-left : (a b : Bool) → (a || b) ≡ false → a ≡ false
or-left true b h = h
or-left false b h = refl

or-right : (a b : Bool) → (a || b) ≡ false → b ≡ false
or-right true b h = absurd cc
or-right false b h = h

none-fine-in : (h : Held) → FineIn [] h
none-fine-in held.Group = tt
none-fine-in (held.Synth def controls state) = tt

none-fine : (t : Nodes Held) → AllFine [] t
none-fine none = tt
none-fine (node l below after) = (none-fine-in l.payload, (none-fine below, none-fine after))

more-fine-in : (m : Mapping) (ms : List Mapping) (h : Held) → is_followable m.bus ≡ true → takes_index m.control h ≡ false → FineIn ms h → FineIn (m ∷ ms) h
more-fine-in m ms held.Group follows free fine = tt
more-fine-in m ms (held.Synth def controls state) follows free fine = (record { followable = follows; free = free }, fine)

more-fine : (m : Mapping) (ms : List Mapping) (t : Nodes Held) → is_followable m.bus ≡ true → any_node (takes_index m.control) t ≡ false → AllFine ms t → AllFine (m ∷ ms) t
more-fine m ms none follows free fine = tt
more-fine m ms (node l below after) follows free fine =
    let here : Bool = takes_index m.control l.payload in
    let under : Bool = any_node (takes_index m.control) below in
    let later : Bool = any_node (takes_index m.control) after in
    let others : (under || later) ≡ false = or-right here (under || later) free in
    (more-fine-in m ms l.payload follows (or-left here (under || later) free) fine.0, (more-fine m ms below follows (or-left under later others) fine.1.0, more-fine m ms after follows (or-right under later others) fine.1.1))

passed : (follows takes : Bool) → first_of ((not follows, Bus) ∷ (takes, IndexControl) ∷ []) ≡ None → (follows ≡ true) × (takes ≡ false)
passed false takes h = absurd cc
passed true true h = absurd cc
passed true false h = (refl, refl)

neither : (o p : Option Reason) → or_else o p ≡ None → (o ≡ None) × (p ≡ None)
neither None p h = (refl, h)
neither (Some x) p h = absurd cc

all-fine : (t : Nodes Held) (ms : List Mapping) → first_refusal (refusal_in t) ms ≡ None → AllFine ms t
all-fine t [] h = none-fine t
all-fine t (m ∷ ms) h =
    let both = neither (refusal_in t m) (first_refusal (refusal_in t) ms) h in
    let pass = passed (is_followable m.bus) (any_node (takes_index m.control) t) both.0 in
    more-fine m ms t pass.0 pass.1 (all-fine t ms both.1)

-- ---- controls that follow buses

-- each control as it was, except for the one that is set
set-keeps-but : (P : Control → Type 0) (cs : List Control) (k j : ℕ) (new d : Control) → (j ≡ k → P new) → P (get_or cs j d) → P (get_or (set cs k new) j d)
set-keeps-but P [] k j new d pn h = h
set-keeps-but P (c ∷ cs) zero zero new d pn h = pn refl
set-keeps-but P (c ∷ cs) zero (suc j) new d pn h = h
set-keeps-but P (c ∷ cs) (suc k) zero new d pn h = h
set-keeps-but P (c ∷ cs) (suc k) (suc j) new d pn h = set-keeps-but P cs k j new d (λ e. pn (ap suc e)) h

never : {A : Type 0} → true ≡ false → A
never h = absurd cc

is-followed : (bus : ℤ) → is_followable bus ≡ true → IsFollowed (followed_bus bus)
is-followed (pos n) h = ltb-true n 1024 h
is-followed (negsuc n) h = tt

good-bus : (d : Definition) (o : Option ℕ) (bus : ℤ) (cs : List Control) → is_followable bus ≡ true → is_index_of d o ≡ false → AreControlsOf d cs → AreControlsOf d (with_bus o bus cs)
good-bus d None bus cs follows free are = are
good-bus d (Some k) bus cs follows free are =
    let c : Control = record { value = (get_or cs k no_control).value; bus = followed_bus bus } in
    record {
      one_each = length-set cs k c ∙ are.one_each;
      followed = All-set (λ (x : Control). IsFollowed x.bus) cs k c (is-followed bus follows) are.followed;
      indices = λ j index. set-keeps-but (λ (x : Control). x.bus ≡ None) cs k j c no_control (λ e. never (sym index ∙ ap (is_index d) e ∙ free)) (are.indices j index);
    }

good-buses : (ms : List Mapping) (d : Definition) (cs : List Control) → AreFine ms d → AreControlsOf d cs → AreControlsOf d (with_buses ms d cs)
good-buses [] d cs fine are = are
good-buses (m ∷ ms) d cs fine are = good-buses ms d (with_bus (control_of d m.control) m.bus cs) fine.1 (good-bus d (control_of d m.control) m.bus cs fine.0.followable fine.0.free are)

-- ---- what holds of each node

module _ (ms : List Mapping) (rate : ℕ) (region : Extent) where
  abbrev change : Held → Held
  change h = held_with (with_buses ms) h

  one-held : (h : Held) → FineIn ms h → IsHeld rate region h → IsHeld rate region (change h)
  one-held held.Group fine is = is
  one-held (held.Synth def controls state) fine is = record { each = good-buses ms (definition_of def.value) controls fine is.each; size = is.size; within = is.within }

  all-held : (t : Nodes Held) → AllFine ms t → AreHeld rate region t → AreHeld rate region (with_payloads change t)
  all-held none fine h = h
  all-held (node l below after) fine h = (one-held l.payload fine.0 h.0, (all-held below fine.1.0 h.1.0, all-held after fine.1.1 h.1.1), kind-held (with_buses ms) l.kind l.payload below h.2)

  held-mapped : (id : ℤ) (t : Nodes Held) → AllFine ms (subtree id t) → AreHeld rate region t → AreHeld rate region (reworked change id t)
  held-mapped id none fine h = h
  held-mapped id (node l below after) fine h =
      let reached : Bool → Bool → Nodes Held = λ here inner. if here then node l below none else if inner then subtree id below else subtree id after in
      cond_both (int_eq l.id id) (node (with_payload (change l.payload) l) (with_payloads change below) after) (if holds id below then node l (reworked change id below) after else node l below (reworked change id after)) (AreHeld rate region)
      (λ e. let f : AllFine ms (node l below none) = subst (λ (b : Bool). AllFine ms (reached b (holds id below))) e fine in (one-held l.payload f.0 h.0, (all-held below f.1.0 h.1.0, h.1.1), kind-held (with_buses ms) l.kind l.payload below h.2))
      (λ e. let f : AllFine ms (reached false (holds id below)) = subst (λ (b : Bool). AllFine ms (reached b (holds id below))) e fine in
      cond_both (holds id below) (node l (reworked change id below) after) (node l below (reworked change id after)) (AreHeld rate region)
      (λ e2. let f2 : AllFine ms (subtree id below) = subst (λ (b : Bool). AllFine ms (reached false b)) e2 f in (h.0, (held-mapped id below f2 h.1.0, h.1.1), kind-below l.kind l.payload below (reworked change id below) id h.2 e2))
      (λ e2. let f2 : AllFine ms (subtree id after) = subst (λ (b : Bool). AllFine ms (reached false b)) e2 f in (h.0, (h.1.0, held-mapped id after f2 h.1.1), h.2)))

-- ---- the row

module _ (stage : Stage) (words : List ℕ) (replies : List ReplyShape) (r : ForNode Mapping) where
  abbrev pub refusals : Option Reason
  refusals = first_refusal (refusal_in (subtree r.id stage.tree.attached)) r.all

  abbrev pub after_map : Option Reason → Result Turn Reason
  after_map o = unless o (Ok (record { world = map_buses r (world_of stage words); replies = replies }))

  pub judged : (o p : Option Reason) → judge_node (world_of stage words) r.id ≡ o → refusals ≡ p → map_outcome (Some r) (turn_of stage words replies) ≡ after_map (or_else o p)
  judged o p is_node is = λ i. after_map (or_else (is_node i) ((refusals-seen words r.id stage.tree.attached r.all ∙ is) i))

  pub map-done : judge_node (world_of stage words) r.id ≡ None → refusals ≡ None
      → map_outcome (Some r) (turn_of stage words replies) ≡ Ok (turn_of (record stage { tree = changed_below (held_with (with_buses r.all)) r.id stage.tree }) words replies)
  map-done is_node is = judged None None is_node is ∙ ap (λ (t : Turn). let o : Result Turn Reason = Ok t in o) (sym (world-reworked (with_buses r.all) stage words replies r.id))

  pub map-missing : (reason : Reason) → judge_node (world_of stage words) r.id ≡ Some reason → map_outcome (Some r) (turn_of stage words replies) ≡ Err reason
  map-missing reason is_node = judged (Some reason) refusals is_node refl

  pub map-refused : (reason : Reason) → judge_node (world_of stage words) r.id ≡ None → refusals ≡ Some reason → map_outcome (Some r) (turn_of stage words replies) ≡ Err reason
  map-refused reason is_node is = judged None (Some reason) is_node is

pub pictures-mapped : (ms : List Mapping) (stage : Stage) (words : List ℕ) (id : ℤ) → first_refusal (refusal_in (subtree id stage.tree.attached)) ms ≡ None
    → Pictures stage words → Pictures (record stage { tree = changed_below (held_with (with_buses ms)) id stage.tree }) words
pictures-mapped ms stage words id is p =
    pictures-tree stage (changed_below (held_with (with_buses ms)) id stage.tree) words (λ rate region h. held-mapped ms rate region id stage.tree.attached (all-fine (subtree id stage.tree.attached) ms is) h) (live-reworked (with_buses ms) id stage.tree.attached) refl p.settled p

-- ---- a tree that is mapped

module _ (stage : Stage) (words : List ℕ) (tree : NodeTree Held) where
  pub mapped-row : (replies : List ReplyShape) (r : ForNode Mapping) (result : Result (Option Reason) NoMemory) → judge_node (world_of stage words) r.id ≡ None → IsMapped result r.all r.id stage.tree tree
      → Follows result (map_outcome (Some r) (turn_of stage words replies)) (turn_of (with_tree tree stage) words replies)
  mapped-row replies r (Ok None) there is = map-done stage words replies r there is.0 ∙ ap (λ (t : NodeTree Held). let o : Result Turn Reason = Ok (turn_of (with_tree t stage) words replies) in o) (sym is.1)
  mapped-row replies r (Ok (Some reason)) there is = map-refused stage words replies r reason there is.0
  mapped-row replies r (Err e) there is = tt

  pub mapped-unchanged : (ms : List Mapping) (id : ℤ) (result : Result (Option Reason) NoMemory) → IsMapped result ms id stage.tree tree → UnlessFollowed result (with_tree tree stage ≡ stage)
  mapped-unchanged ms id (Ok None) is = tt
  mapped-unchanged ms id (Ok (Some reason)) is = ap (λ (t : NodeTree Held). with_tree t stage) is.1
  mapped-unchanged ms id (Err e) is = ap (λ (t : NodeTree Held). with_tree t stage) is

  pub mapped-pictures : (ms : List Mapping) (id : ℤ) (result : Result (Option Reason) NoMemory) → IsMapped result ms id stage.tree tree → Pictures stage words → Pictures (with_tree tree stage) words
  mapped-pictures ms id (Ok None) is p = subst (λ (t : NodeTree Held). Pictures (with_tree t stage) words) (sym is.1) (pictures-mapped ms stage words id is.0 p)
  mapped-pictures ms id (Ok (Some reason)) is p = subst (λ (t : NodeTree Held). Pictures (with_tree t stage) words) (sym is.1) p
  mapped-pictures ms id (Err e) is p = subst (λ (t : NodeTree Held). Pictures (with_tree t stage) words) (sym is) p
