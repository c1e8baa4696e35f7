-- What a contract sees of a tree.
use Rattle.std.specs.Prelude.{◌≡◌, ℕ, zero, suc, ◌≤◌, ℤ, Bool, List, [], ◌∷◌, ◌++◌, length, take, drop, Option, refl}
use Rattle.std.specs.Coded.{Coded, code_by, coded×, coded_ℕ, coded_ℤ, coded_bool, coded_list, coded_option}
use Rattle.std.proofs.Common.{sym, arith, length-append}
use Rattle.sn_tree.specs.declared.node.NodeKind.{NodeKind}
use Rattle.sn_tree.specs.declared.node.NodeKind.TheVariants.{Synth, Group, Parallel}
use Rattle.sn_tree.specs.Trees.{Label, Nodes, Sides, none, node, count}
use Rattle.sn_tree.specs.Order.{take_at, drop_at}

-- which present node is which saved one: a mark for each saved node, and for each present one the mark of the saved
-- node that it is, or none if it was inserted since
pub record Marks : Type 0 where
  pub saved : Sides ℕ
  pub present : Sides (Option ℕ)

-- what a journal keeps: the nodes as undoing restores them, how many steps it has room for, and which node is which
pub record Journal (P : Type 0) : Type 0 where
  pub attached : Nodes P
  pub detached : Nodes P
  pub room : ℕ
  pub marks : Marks

-- a tree: the attached nodes, which are the root and all below it; the detached subtrees in the order of their
-- detaching; and the open journal, if there is one
pub record NodeTree (P : Type 0) : Type 0 where
  pub attached : Nodes P
  pub detached : Nodes P
  pub journal : Option (Journal P)

-- nodes are stored as the list of their labels, each with the number of nodes below it

abbrev pub rows : {P : Type 0} → Nodes P → List (Label P × ℕ)
rows none = []
rows (node label below after) = (label, count below) ∷ (rows below ++ rows after)

abbrev pub from_rows : {P : Type 0} → ℕ → List (Label P × ℕ) → Nodes P
from_rows zero rs = none
from_rows (suc k) [] = none
from_rows (suc k) (r ∷ rs) = node r.0 (from_rows k (take r.1 rs)) (from_rows k (drop r.1 rs))

abbrev pub nodes_of : {P : Type 0} → List (Label P × ℕ) → Nodes P
nodes_of rs = from_rows (length rs) rs

pub length-rows : {P : Type 0} (t : Nodes P) → length (rows t) ≡ count t
length-rows none = refl
length-rows (node label below after) = omega (arith, length-append (rows below) (rows after), length-rows below, length-rows after)

pub from_rows-rows : {P : Type 0} (k : ℕ) (t : Nodes P) → length (rows t) ≤ k → from_rows k (rows t) ≡ t
from_rows-rows zero none h = refl
from_rows-rows (suc k) none h = refl
from_rows-rows zero (node label below after) h = absurd (omega arith)
from_rows-rows (suc k) (node label below after) h =
    let a : from_rows k (rows below) ≡ below = from_rows-rows k below (omega (arith, length-append (rows below) (rows after))) in
    let b : from_rows k (rows after) ≡ after = from_rows-rows k after (omega (arith, length-append (rows below) (rows after))) in
    rw (take_at (count below) (rows below) (rows after) (sym (length-rows below)), drop_at (count below) (rows below) (rows after) (sym (length-rows below)), a, b) refl

pub nodes_of-rows : {P : Type 0} (t : Nodes P) → nodes_of (rows t) ≡ t
nodes_of-rows t = from_rows-rows (length (rows t)) t (omega arith)

abbrev kind_number : NodeKind → ℕ
kind_number Synth = 0
kind_number Group = 1
kind_number Parallel = 2

abbrev kind_at : ℕ → NodeKind
kind_at zero = Synth
kind_at (suc zero) = Group
kind_at (suc (suc n)) = Parallel

pub kind_back : (k : NodeKind) → kind_at (kind_number k) ≡ k
kind_back Synth = refl
kind_back Group = refl
kind_back Parallel = refl

abbrev kind_code : Coded NodeKind
kind_code = code_by ℕ coded_ℕ kind_number kind_at kind_back

module _ {P : Type 0} (code : Coded P) where
  abbrev pub label_code : Coded (Label P)
  label_code = code_by (ℤ × (NodeKind × (Bool × P))) (coded× coded_ℤ (coded× kind_code (coded× coded_bool code)))
      (λ l. (l.id, (l.kind, (l.running, l.payload)))) (λ p. record { id = p.0; kind = p.1.0; running = p.1.1.0; payload = p.1.1.1 }) (λ _. refl)

  abbrev pub nodes_code : Coded (Nodes P)
  nodes_code = code_by (List (Label P × ℕ)) (coded_list (coded× label_code coded_ℕ)) rows nodes_of nodes_of-rows

  abbrev pub sides_code : Coded (Sides P)
  sides_code = code_by (Nodes P × Nodes P) (coded× nodes_code nodes_code)
      (λ s. (s.attached, s.detached)) (λ p. record { attached = p.0; detached = p.1 }) (λ _. refl)

abbrev pub marks_code : Coded Marks
marks_code = code_by (Sides ℕ × Sides (Option ℕ)) (coded× (sides_code coded_ℕ) (sides_code (coded_option coded_ℕ)))
    (λ m. (m.saved, m.present)) (λ p. record { saved = p.0; present = p.1 }) (λ _. refl)

module _ {P : Type 0} (code : Coded P) where
  abbrev pub journal_code : Coded (Journal P)
  journal_code = code_by (Nodes P × (Nodes P × (ℕ × Marks))) (coded× (nodes_code code) (coded× (nodes_code code) (coded× coded_ℕ marks_code)))
      (λ j. (j.attached, (j.detached, (j.room, j.marks)))) (λ p. record { attached = p.0; detached = p.1.0; room = p.1.1.0; marks = p.1.1.1 }) (λ _. refl)

  abbrev pub tree_code : Coded (NodeTree P)
  tree_code = code_by (Nodes P × (Nodes P × Option (Journal P))) (coded× (nodes_code code) (coded× (nodes_code code) (coded_option journal_code)))
      (λ t. (t.attached, (t.detached, t.journal))) (λ p. record { attached = p.0; detached = p.1.0; journal = p.1.1 }) (λ _. refl)
