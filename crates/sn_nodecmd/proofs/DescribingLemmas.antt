-- `/g_queryTree`: the walk over a node and all nodes below it, and what is told of each.
use Rattle.std.proofs.Common.{◌≡◌, ◌≤◌, ◌<◌, ◌+◌, ◌*◌, ℕ, ℤ, pos, Bool, true, false, not, List, [], ◌∷◌, ◌++◌, length, drop, get_or, Option, Some, None, is_some, refl, ap, sym, subst, ◌∙◌, arith, append_assoc, append-nil, length-append}
use Rattle.std.specs.Prelude.{if◌then◌else◌, codes}
use Rattle.std.specs.Ordering.{int_eq}
use Rattle.sn_osc.specs.Shape.{Argument, int, arguments, MessageShape}
use Rattle.sn_reply.specs.declared.reason.Reason.{Reason}
use Rattle.sn_reply.specs.declared.reason.Reason.TheVariants as Reasons
use Rattle.sn_tree.specs.Trees.{Label, Nodes, none, node, holds, label_of, children, subtree, count, with_payloads}
use Rattle.sn_tree.specs.Members.{tops, members}
use Rattle.sn_tree.specs.Faults.{is_synth, labels_synth}
use Rattle.sn_tree.proofs.PayloadLaws.{holds-payloads, synth-payloads, children-payloads}
use Rattle.sn_world.specs.declared.tree_query.TreeQuery.{TreeQuery}
use Rattle.sn_world.specs.declared.stage.Held.{Held}
use Rattle.sn_world.specs.declared.stage.Held.TheVariants as held
use Rattle.sn_world.specs.declared.stage.Stage.{Stage}
use Rattle.sn_world.specs.Nodes.{content_of}
use Rattle.sn_world.specs.World.{world_of}
use Rattle.sn_world.specs.Rows.{first_of}
use Rattle.sn_world.specs.TreeQueries.{node_arguments, listed, tree_message, judge_tree}
use Rattle.sn_nodecmd.specs.Describing.{held_arguments, described, HaveFew, tree_reply}
use Rattle.sn_nodecmd.proofs.OrderLemmas.{label_there}

-- ---- the walk tells of each node what the world says of it

described-append : (xs ys : List (Label Held × ℕ)) → described (xs ++ ys) ≡ described xs ++ described ys
described-append [] ys = refl
described-append (m ∷ ms) ys =
    let one : List Argument = held_arguments m.0.id m.0.payload m.1 in
    ap (λ rest. one ++ rest) (described-append ms ys) ∙ sym (append_assoc one (described ms) (described ys))

module _ (words : List ℕ) where
  tops-seen : (t : Nodes Held) → tops (with_payloads (content_of words) t) ≡ tops t
  tops-seen none = refl
  tops-seen (node l below after) = ap (λ n. 1 + n) (tops-seen after)

  arguments-seen : (id : ℤ) (h : Held) (n : ℕ) → held_arguments id h n ≡ node_arguments id (content_of words h) n
  arguments-seen id held.Group n = refl
  arguments-seen id (held.Synth def controls state) n = refl

  listed-seen : (t : Nodes Held) → described (members t) ≡ listed (with_payloads (content_of words) t)
  listed-seen none = refl
  listed-seen (node l below after) =
      (λ i. held_arguments l.id l.payload (tops below) ++ described-append (members below) (members after) i)
      ∙ (λ i. (arguments-seen l.id l.payload (tops below) ∙ ap (node_arguments l.id (content_of words l.payload)) (sym (tops-seen below))) i ++ (listed-seen below i ++ listed-seen after i))

-- ---- the walk begins with the node itself

-- a node, and then the nodes below it
abbrev pub walked : Option (Label Held) → Nodes Held → List (Label Held × ℕ)
walked None below = []
walked (Some l) below = (l, tops below) ∷ members below

by_choice : (a b : Bool) (x y z : Nodes Held) (o p q : Option (Label Held)) (u v w : Nodes Held) → members x ≡ walked o u → members y ≡ walked p v → members z ≡ walked q w
    → members (if a then x else if b then y else z) ≡ walked (if a then o else if b then p else q) (if a then u else if b then v else w)
by_choice true b x y z o p q u v w e f g = e
by_choice false true x y z o p q u v w e f g = f
by_choice false false x y z o p q u v w e f g = g

pub walk-begins : (id : ℤ) (t : Nodes Held) → members (subtree id t) ≡ walked (label_of id t) (children id t)
walk-begins id none = refl
walk-begins id (node l below after) =
    by_choice (int_eq l.id id) (holds id below) (node l below none) (subtree id below) (subtree id after) (Some l) (label_of id below) (label_of id after) below (children id below) (children id after)
    (ap (λ ms. (l, tops below) ∷ ms) (append-nil (members below))) (walk-begins id below) (walk-begins id after)

-- ---- numbers

all-append : (xs ys : List (Label Held × ℕ)) → HaveFew xs → HaveFew ys → HaveFew (xs ++ ys)
all-append [] ys h k = k
all-append (m ∷ ms) ys h k = (h.0, all-append ms ys h.1 k)

tops-count : (t : Nodes Held) → tops t ≤ count t
tops-count none = omega arith
tops-count (node l below after) = omega (arith, tops-count after)

pub length-members : (t : Nodes Held) → length (members t) ≡ count t
length-members none = refl
length-members (node l below after) = omega (arith, length-append (members below) (members after), length-members below, length-members after)

few-members : (t : Nodes Held) → count t ≤ 4096 → HaveFew (members t)
few-members none h = tt
few-members (node l below after) h = (omega (arith, tops-count below), all-append (members below) (members after) (few-members below (omega arith)) (few-members after (omega arith)))

length-one : (id : ℤ) (h : Held) (n : ℕ) → length (held_arguments id h n) ≤ 3
length-one id held.Group n = omega arith
length-one id (held.Synth def controls state) n = omega arith

length-described : (ms : List (Label Held × ℕ)) → length (described ms) ≤ 3 * length ms
length-described [] = omega arith
length-described (m ∷ ms) = omega (arith, length-append (held_arguments m.0.id m.0.payload m.1) (described ms), length-one m.0.id m.0.payload m.1, length-described ms)

pub few-told : (a b c d : List Argument) (x y z : Argument) (ms : List (Label Held × ℕ)) → a ≡ [] → b ≡ a ++ x ∷ [] → c ≡ b ++ y ∷ z ∷ [] → d ≡ c ++ described ms → length ms ≤ 4096 → length d < 16777216
few-told a b c d x y z ms e f g h few =
    let long : length d ≡ length (c ++ described ms) = ap length h in
    let third : length c ≡ length (b ++ y ∷ z ∷ []) = ap length g in
    let second : length b ≡ length (a ++ x ∷ []) = ap length f in
    let first : length a ≡ 0 = ap length e in
    omega (arith, length-append c (described ms), length-append b (y ∷ z ∷ []), length-append a (x ∷ []), length-described ms)

count-by : (a b : Bool) (x y z : Nodes Held) (n : ℕ) → count x ≤ n → count y ≤ n → count z ≤ n → count (if a then x else if b then y else z) ≤ n
count-by true b x y z n e f g = e
count-by false true x y z n e f g = f
count-by false false x y z n e f g = g

count-children : (id : ℤ) (t : Nodes Held) → count (children id t) ≤ count t
count-children id none = omega arith
count-children id (node l below after) =
    count-by (int_eq l.id id) (holds id below) below (children id below) (children id after) (1 + count below + count after) (omega arith)
    (omega (arith, count-children id below)) (omega (arith, count-children id after))

-- the nodes below a node of a tree are few, and so are their children
pub record AreFew (tops_below : ℕ) (ms : List (Label Held × ℕ)) : Type 0 where
  pub children : tops_below ≤ 4096
  pub each : HaveFew ms
  pub all : length ms ≤ 4096

few-below : (id : ℤ) (t : Nodes Held) → count t ≤ 4096 → AreFew (tops (children id t)) (members (children id t))
few-below id t few =
    let less = count-children id t in
    record {
      children = omega (arith, tops-count (children id t));
      each = few-members (children id t) (omega arith);
      all = omega (arith, length-members (children id t));
    }

-- ---- what is against it

refusal_of : Option (Label Held) → Option Reason
refusal_of None = Some Reasons.NoSuchNode
refusal_of (Some l) = if is_synth l.kind then Some Reasons.NotGroup else None

judged : (o : Option (Label Held)) → first_of ((not (is_some o), Reasons.NoSuchNode) ∷ (labels_synth o, Reasons.NotGroup) ∷ []) ≡ refusal_of o
unfolding refusal_of
judged None = refl
judged (Some l) = refl

nothing-by : (o : Option (Label Held)) (below : Nodes Held) → [] ≡ walked o below → o ≡ None
nothing-by None below h = refl
nothing-by (Some l) below h = absurd cc

-- the first node of a walk, and the others
pub record First (o : Option (Label Held)) (below : Nodes Held) (m : Label Held × ℕ) (others : List (Label Held × ℕ)) : Type 0 where
  pub label : o ≡ Some m.0
  pub children : tops below ≡ m.1
  pub rest : members below ≡ others

first-by : (o : Option (Label Held)) (below : Nodes Held) (m : Label Held × ℕ) (rest : List (Label Held × ℕ)) → walked o below ≡ m ∷ rest → First o below m rest
first-by None below m rest h = absurd cc
first-by (Some l) below m rest h =
    let head : (l, tops below) ≡ m = ap (λ ms. get_or ms 0 m) h in
    record { label = ap (λ (p : Label Held × ℕ). Some p.0) head; children = ap (λ (p : Label Held × ℕ). p.1) head; rest = ap (drop 1) h }

module _ (stage : Stage) (words : List ℕ) (r : TreeQuery) where
  abbrev nodes : Nodes Held
  nodes = stage.tree.attached

  judge-is : judge_tree (world_of stage words) r ≡ refusal_of (label_of r.group nodes)
  judge-is =
      (λ i. first_of ((not (holds-payloads (content_of words) r.group nodes i), Reasons.NoSuchNode) ∷ (synth-payloads (content_of words) r.group nodes i, Reasons.NotGroup) ∷ []))
      ∙ ap (λ b. first_of ((not b, Reasons.NoSuchNode) ∷ (labels_synth (label_of r.group nodes), Reasons.NotGroup) ∷ [])) (sym (label_there r.group nodes))
      ∙ judged (label_of r.group nodes)

  -- what is told of the nodes below
  message-is : tree_reply r.group (tops (children r.group nodes)) (members (children r.group nodes)) ≡ tree_message r.group (children r.group (world_of stage words).nodes)
  message-is =
      let below : Nodes Held = children r.group nodes in
      (λ i. told (sym (tops-seen words below) i) (listed-seen words below i))
      ∙ ap (tree_message r.group) (sym (children-payloads (content_of words) r.group nodes))
    where
      told : ℕ → List Argument → MessageShape
      told n xs = record { address = codes "/g_queryTree.reply"; body = arguments (int (pos 0) ∷ int r.group ∷ int (pos n) ∷ xs) }

  pub missing : [] ≡ members (subtree r.group nodes) → judge_tree (world_of stage words) r ≡ Some Reasons.NoSuchNode
  unfolding refusal_of
  missing none_left = judge-is ∙ ap refusal_of (nothing-by (label_of r.group nodes) (children r.group nodes) (none_left ∙ walk-begins r.group nodes))

  module _ (m : Label Held × ℕ) (rest : List (Label Held × ℕ)) (first : members (subtree r.group nodes) ≡ m ∷ rest) where
    parts : First (label_of r.group nodes) (children r.group nodes) m rest
    parts = first-by (label_of r.group nodes) (children r.group nodes) m rest (sym (walk-begins r.group nodes) ∙ first)

    pub refused : is_synth m.0.kind ≡ true → judge_tree (world_of stage words) r ≡ Some Reasons.NotGroup
    unfolding refusal_of
    refused synth = judge-is ∙ ap refusal_of parts.label ∙ ap (λ b. if b then Some Reasons.NotGroup else None) synth

    pub accepted : is_synth m.0.kind ≡ false → judge_tree (world_of stage words) r ≡ None
    unfolding refusal_of
    accepted group = judge-is ∙ ap refusal_of parts.label ∙ ap (λ b. if b then Some Reasons.NotGroup else None) group

    pub few : count nodes ≤ 4096 → AreFew m.1 rest
    few h = subst (λ n. AreFew n rest) parts.children (subst (AreFew (tops (children r.group nodes))) parts.rest (few-below r.group nodes h))

    pub answered : tree_reply r.group m.1 rest ≡ tree_message r.group (children r.group (world_of stage words).nodes)
    answered = (λ i. tree_reply r.group (sym parts.children i) (sym parts.rest i)) ∙ message-is
