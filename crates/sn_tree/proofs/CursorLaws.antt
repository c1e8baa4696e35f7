-- Loops over what is left of a walk.
use Rattle.std.proofs.Common.{◌≡◌, ℕ, ◌+◌, ◌<◌, ◌≤◌, ℤ, true, false, List, [], ◌∷◌, ◌++◌, Some, None, sym, refl, ap, ◌∙◌, subst, append_assoc, arith}
use Rattle.std.specs.Prelude.{if◌then◌else◌}
use Rattle.std.proofs.lemmas.List.{append-nil}
use Rattle.sn_forest.specs.Trees.{Trees, count}
use Rattle.sn_forest.specs.Walking.{behind_tree}
use Rattle.sn_tree.specs.Trees.{first_of, running_labels}
use Rattle.sn_tree.specs.Order.{Key}
use Rattle.sn_tree.specs.Kept.{uses as key_uses}
use Rattle.sn_tree.specs.Members.{tops}
use Rattle.sn_tree.specs.Below.{top_ids}
use Rattle.sn_tree.specs.declared.item.Item.{Item}
use Rattle.sn_tree.specs.Keyed.{label_by, labels, first_row}
use Rattle.sn_tree.specs.Stored.{BeginsRunning}
use Rattle.sn_tree.proofs.RowLaws.{Begins, begins, no_first}

-- a loop passes a tree
passed_is : (t now : Trees Item) (key : ℕ) (item : Item) (e : Some (key, item) ≡ first_row t) → now ≡ behind_tree t → now ≡ (begins t key item e).after
passed_is t now key item e f = f ∙ ap behind_tree (begins t key item e).is

pub pass_fewer : (t now : Trees Item) (key : ℕ) (item : Item) → Some (key, item) ≡ first_row t → now ≡ behind_tree t → count now < count t
pass_fewer t now key item e f =
    let b : Begins t key item = begins t key item e in
    omega (arith, ap (λ (x : Trees Item). count x) (passed_is t now key item e f), ap (λ (x : Trees Item). count x) b.is)

-- paused nodes are passed with all below them
pub record IsSkipping (all now : Trees Item) : Type 0 where
  pub same : running_labels (labels now) ≡ running_labels (labels all)
  pub within : (key : Key) → key_uses key (labels now) ≤ key_uses key (labels all)

pub skip_start : (all : Trees Item) → IsSkipping all all
skip_start all = record { same = refl; within = λ key. omega arith }

pub skip_next : (all t now : Trees Item) (key : ℕ) (item : Item) → IsSkipping all t → Some (key, item) ≡ first_row t → item.running ≡ false → now ≡ behind_tree t → IsSkipping all now
skip_next all t now key item h e paused f =
    let b : Begins t key item = begins t key item e in
    let left : now ≡ b.after = passed_is t now key item e f in
    record {
      same = ap (λ x. running_labels (labels x)) left
          ∙ (sym (ap (λ r. if r then label_by item ∷ (running_labels (labels b.below) ++ running_labels (labels b.after)) else running_labels (labels b.after)) paused)
          ∙ (sym (ap (λ x. running_labels (labels x)) b.is) ∙ h.same));
      within = λ k. omega (arith, h.within k, ap (λ x. key_uses k (labels x)) left, ap (λ x. key_uses k (labels x)) b.is);
    }

pub skip_runs : (t : Trees Item) (key : ℕ) (item : Item) → Some (key, item) ≡ first_row t → item.running ≡ true → BeginsRunning t
skip_runs t key item e on = subst BeginsRunning (sym (begins t key item e).is) on

pub skip_ends : (t : Trees Item) → None ≡ first_row t → BeginsRunning t
skip_ends t e = subst BeginsRunning (sym (no_first t e)) tt

-- the first id
pub first_some : (t : Trees Item) (key : ℕ) (item : Item) → Some (key, item) ≡ first_row t → Some item.id ≡ first_of (labels t)
first_some t key item e = sym (ap (λ x. first_of (labels x)) (begins t key item e).is)

pub first_none : (t : Trees Item) → None ≡ first_row t → None ≡ first_of (labels t)
first_none t e = sym (ap (λ x. first_of (labels x)) (no_first t e))

-- nodes beside each other are counted
pub record IsCounted (all now : Trees Item) (n : ℕ) : Type 0 where
  pub number : n + tops (labels now) ≡ tops (labels all)
  pub fewer : n + count now ≤ count all

pub count_start : (all : Trees Item) → IsCounted all all 0
count_start all = record { number = omega arith; fewer = omega arith }

pub count_few : (all t : Trees Item) (n key : ℕ) (item : Item) → IsCounted all t n → Some (key, item) ≡ first_row t → n + 1 ≤ count all
count_few all t n key item h e = omega (arith, h.fewer, ap (λ (x : Trees Item). count x) (begins t key item e).is)

pub count_next : (all t now : Trees Item) (n key : ℕ) (item : Item) → IsCounted all t n → Some (key, item) ≡ first_row t → now ≡ behind_tree t → IsCounted all now (n + 1)
count_next all t now n key item h e f =
    let b : Begins t key item = begins t key item e in
    let left : now ≡ b.after = passed_is t now key item e f in
    record {
      number = omega (arith, h.number, ap (λ x. tops (labels x)) left, ap (λ x. tops (labels x)) b.is);
      fewer = omega (arith, h.fewer, ap (λ (x : Trees Item). count x) left, ap (λ (x : Trees Item). count x) b.is);
    }

pub count_ends : (all t : Trees Item) (n : ℕ) → IsCounted all t n → None ≡ first_row t → n ≡ tops (labels all)
count_ends all t n h e = omega (arith, h.number, ap (λ x. tops (labels x)) (no_first t e))

-- and listed
pub list_next : (all t now : Trees Item) (found more : List ℤ) (key : ℕ) (item : Item) → found ++ top_ids (labels t) ≡ top_ids (labels all) → Some (key, item) ≡ first_row t → now ≡ behind_tree t
    → more ≡ found ++ (item.id ∷ []) → more ++ top_ids (labels now) ≡ top_ids (labels all)
list_next all t now found more key item h e f m =
    let b : Begins t key item = begins t key item e in
    (λ i. m i ++ top_ids (labels (passed_is t now key item e f i)))
    ∙ (append_assoc found (item.id ∷ []) (top_ids (labels b.after))
    ∙ (sym (ap (λ x. found ++ top_ids (labels x)) b.is) ∙ h))

pub list_ends : (all t : Trees Item) (found : List ℤ) → found ++ top_ids (labels t) ≡ top_ids (labels all) → None ≡ first_row t → found ≡ top_ids (labels all)
list_ends all t found h e = sym (append-nil found) ∙ (sym (ap (λ x. found ++ top_ids (labels x)) (no_first t e)) ∙ h)
