-- Going over a node and all nodes below it.
use Rattle.std.proofs.Common.{◌≡◌, ℕ, ◌+◌, ◌≤◌, ℤ, List, [], ◌∷◌, ◌++◌, Option, Some, None, sym, refl, ap, ◌∙◌, append_assoc, arith}
use Rattle.sn_forest.specs.Trees.{Trees, count}
use Rattle.sn_forest.specs.Walking.{behind_node}
use Rattle.sn_forest.proofs.Keys.{count-joined}
use Rattle.sn_tree.specs.declared.item.Item.{Item}
use Rattle.sn_tree.specs.Trees.{Nodes, none, node, joined, subtree, running_labels, with_payloads}
use Rattle.sn_tree.specs.Order.{Key}
use Rattle.sn_tree.specs.Arranged.{Arranged}
use Rattle.sn_tree.specs.Saving.{SavedNodes}
use Rattle.sn_tree.specs.Model.{NodeTree}
use Rattle.sn_tree.specs.Kept.{uses, payload_of, IsFilled, shown}
use Rattle.sn_tree.specs.Keyed.{labels, first_row, below_first}
use Rattle.sn_tree.specs.Walking.{payload_at, left_of, IsLeft}
use Rattle.sn_tree.specs.Members.{tops, members, members_of}
use Rattle.sn_tree.proofs.PayloadLaws.{joined-payloads, subtree-payloads}
use Rattle.sn_tree.proofs.Keeping.{uses-parts}
use Rattle.sn_tree.proofs.KeyedLaws.{labels-joined}
use Rattle.sn_tree.proofs.RowLaws.{Begins, begins, no_first}
use Rattle.sn_tree.proofs.Walking.{first_held}

pub tops-payloads : {P Q : Type 0} (f : P → Q) (t : Nodes P) → tops (with_payloads f t) ≡ tops t
tops-payloads f none = refl
tops-payloads f (node label below after) = ap (λ n. 1 + n) (tops-payloads f after)

pub members-joined : {P : Type 0} (s t : Nodes P) → members (joined s t) ≡ members s ++ members t
members-joined none t = refl
members-joined (node label below after) t =
    ap (λ l. (label, tops below) ∷ (members below ++ l)) (members-joined after t)
    ∙ ap (λ l. (label, tops below) ∷ l) (sym (append_assoc (members below) (members after) (members t)))

-- the walk is at its end
pub members_end : {P : Type 0} (root : P) (slots : List (Option P)) (t : Trees Item) → None ≡ first_row t → members_of root slots t ≡ []
members_end root slots t e = ap (members_of root slots) (no_first t e)

-- how many nodes are left
pub few_below : (t : Trees Item) (key : ℕ) (item : Item) (most : ℕ) → Some (key, item) ≡ first_row t → count t ≤ most → count (below_first t) ≤ most
few_below t key item most e l =
    let b : Begins t key item = begins t key item e in
    omega (arith, l, ap (λ (x : Trees Item). count x) b.is, ap (λ (x : Trees Item). count (below_first x)) b.is)

pub few_next : (t now : Trees Item) (key : ℕ) (item : Item) (most : ℕ) → Some (key, item) ≡ first_row t → now ≡ behind_node t → count t ≤ most → count now ≤ most
few_next t now key item most e f l =
    let b : Begins t key item = begins t key item e in
    omega (arith, l, ap (λ (x : Trees Item). count x) b.is, ap (λ (x : Trees Item). count x) (f ∙ ap behind_node b.is), count-joined b.below b.after)

-- the walk gives the node to which it has come, and goes on
pub member_given : {P : Type 0} (root : P) (slots : List (Option P)) (t now : Trees Item) (key : ℕ) (item : Item) (id : ℤ) (payload : P) (children : ℕ) → IsLeft slots t → Some (key, item) ≡ first_row t → now ≡ behind_node t
    → id ≡ item.id → Some payload ≡ payload_at root slots item.key → children ≡ tops (labels (below_first t))
    → members_of root slots t ≡ ((record { id = id; kind = item.kind; running = item.running; payload = payload }), children) ∷ members_of root slots now
member_given {P = P} root slots t now key item id payload children left e f i p c =
    let g : Key → P = payload_of root slots in
    let b : Begins t key item = begins t key item e in
    let here : g item.key ≡ payload = same_of (sym (first_held root slots t key item left e) ∙ sym p) in
    let number : tops (with_payloads g (labels b.below)) ≡ children = tops-payloads g (labels b.below) ∙ sym (c ∙ ap (λ x. tops (labels (below_first x))) b.is) in
    let rest : members (with_payloads g (labels b.below)) ++ members (with_payloads g (labels b.after)) ≡ members_of root slots now =
    sym (members-joined (with_payloads g (labels b.below)) (with_payloads g (labels b.after)))
    ∙ (ap members (joined-payloads g (labels b.below) (labels b.after))
    ∙ (ap (λ x. members (with_payloads g x)) (sym (labels-joined b.below b.after)) ∙ sym (ap (members_of root slots) (f ∙ ap behind_node b.is)))) in
    ap (members_of root slots) b.is
    ∙ (λ j. ((record { id = sym i j; kind = item.kind; running = item.running; payload = here j }), number j) ∷ rest j)
  where
    same_of : {A : Type 0} {a b : A} → Some a ≡ Some b → a ≡ b
    same_of q = cc

-- the whole walk

module _ {P : Type 0} (root : P) (slots : List (Option P)) (nodes : Arranged) (id : ℤ) (t : Trees Item) (value : labels t ≡ subtree id nodes.attached) where
  pub members_left : IsFilled slots nodes → IsLeft slots t
  members_left kept key = omega (arith, ap (uses key) value, uses-parts key id nodes.attached, kept.keys key)

  pub members_shown : (saved : Option SavedNodes) (tree : NodeTree P) → shown root slots nodes saved ≡ tree → members_of root slots t ≡ members (subtree id tree.attached)
  members_shown saved tree view =
      ap (λ x. members (with_payloads (payload_of root slots) x)) value
      ∙ (ap members (sym (subtree-payloads (payload_of root slots) id nodes.attached)) ∙ ap (λ (x : NodeTree P). members (subtree id x.attached)) view)

  pub walk_shown : (saved : Option SavedNodes) (tree : NodeTree P) → shown root slots nodes saved ≡ tree → left_of root slots t ≡ running_labels (subtree id tree.attached)
  walk_shown saved tree view =
      ap (λ x. running_labels (with_payloads (payload_of root slots) x)) value
      ∙ (ap running_labels (sym (subtree-payloads (payload_of root slots) id nodes.attached)) ∙ ap (λ (x : NodeTree P). running_labels (subtree id x.attached)) view)
