-- Going over the nodes that run.
use Rattle.std.proofs.Common.{◌≡◌, ℕ, ◌<◌, ◌≤◌, ℤ, true, false, List, [], ◌∷◌, ◌++◌, length, map, Option, Some, None, sym, refl, ap, ◌∙◌, subst, ⊎_elim, arith, append_assoc}
use Rattle.std.specs.Prelude.{if◌then◌else◌, is_some, unwrap_or, slice_index_or}
use Rattle.std.proofs.lemmas.List.{map-append}
use Rattle.std.proofs.lemmas.Bool.{cases_Bool}
use Rattle.sn_forest.specs.Trees.{Trees}
use Rattle.sn_forest.specs.Walking.{behind_node}
use Rattle.sn_tree.specs.declared.item.Item.{Item}
use Rattle.sn_tree.specs.Trees.{Label, Nodes, none, node, joined, running_labels, with_payloads}
use Rattle.sn_tree.specs.Order.{Key}
use Rattle.sn_tree.specs.Kept.{same_key, uses, payload_of, filled}
use Rattle.sn_tree.specs.Keyed.{label_by, labels, first_row}
use Rattle.sn_tree.specs.Stored.{BeginsRunning}
use Rattle.sn_tree.specs.Walking.{payload_at, left_of, IsLeft}
use Rattle.sn_tree.proofs.PayloadLaws.{relabelled, joined-payloads}
use Rattle.sn_tree.proofs.Keeping.{uses-joined, same_key-refl}
use Rattle.sn_tree.proofs.KeyedLaws.{labels-joined}
use Rattle.sn_tree.proofs.RowLaws.{Begins, begins, no_first}

pub running_here : {P : Type 0} (label : Label P) (below after : Nodes P) → label.running ≡ true → running_labels (node label below after) ≡ label ∷ (running_labels below ++ running_labels after)
running_here label below after h = ap (λ b. if b then label ∷ (running_labels below ++ running_labels after) else running_labels after) h

pub running_past : {P : Type 0} (label : Label P) (below after : Nodes P) → label.running ≡ false → running_labels (node label below after) ≡ running_labels after
running_past label below after h = ap (λ b. if b then label ∷ (running_labels below ++ running_labels after) else running_labels after) h

pub running-joined : {P : Type 0} (s t : Nodes P) → running_labels (joined s t) ≡ running_labels s ++ running_labels t
running-joined none t = refl
running-joined (node label below after) t =
    ⊎_elim
    (λ (h : label.running ≡ true). running_here label below (joined after t) h
    ∙ (ap (λ l. label ∷ (running_labels below ++ l)) (running-joined after t)
    ∙ (ap (λ l. label ∷ l) (sym (append_assoc (running_labels below) (running_labels after) (running_labels t)))
    ∙ ap (λ l. l ++ running_labels t) (sym (running_here label below after h)))))
    (λ (h : label.running ≡ false). running_past label below (joined after t) h ∙ (running-joined after t ∙ ap (λ l. l ++ running_labels t) (sym (running_past label below after h))))
    (cases_Bool label.running)

pub running-payloads : {P Q : Type 0} (f : P → Q) (t : Nodes P) → running_labels (with_payloads f t) ≡ map (relabelled f) (running_labels t)
running-payloads f none = refl
running-payloads f (node label below after) =
    ⊎_elim
    (λ (h : label.running ≡ true). running_here (relabelled f label) (with_payloads f below) (with_payloads f after) h
    ∙ (ap (λ l. relabelled f label ∷ l) ((λ i. running-payloads f below i ++ running-payloads f after i) ∙ sym (map-append (relabelled f) (running_labels below) (running_labels after)))
    ∙ ap (map (relabelled f)) (sym (running_here label below after h))))
    (λ (h : label.running ≡ false). running_past (relabelled f label) (with_payloads f below) (with_payloads f after) h ∙ (running-payloads f after ∙ ap (map (relabelled f)) (sym (running_past label below after h))))
    (cases_Bool label.running)

pub held_at : {P : Type 0} (root : P) (slots : List (Option P)) (key : Key) → 1 ≤ filled slots key → payload_at root slots key ≡ Some (payload_of root slots key)
held_at root slots None h = refl
held_at root slots (Some key) h = there (slice_index_or slots key None) h
  where
    there : (o : Option _) → 1 ≤ (if is_some o then 1 else 0) → o ≡ Some (unwrap_or o root)
    there None h = absurd (omega arith)
    there (Some p) h = refl

pub never : {A B : Type 0} (o : Option A) (a : A) → o ≡ Some a → None ≡ o → B
never o a h e = let bad : None ≡ Some a = e ∙ h in cc

pub fewer : {X : Type 0} (xs ys : List X) (x : X) → xs ≡ x ∷ ys → length ys < length xs
fewer xs ys x e = omega (arith, ap length e)

-- a node that was reached has its payload
pub first_held : {P : Type 0} (root : P) (slots : List (Option P)) (t : Trees Item) (key : ℕ) (item : Item) → IsLeft slots t → Some (key, item) ≡ first_row t → payload_at root slots item.key ≡ Some (payload_of root slots item.key)
first_held root slots t key item left e =
    let b : Begins t key item = begins t key item e in
    let used : 1 ≤ (if same_key item.key item.key then 1 else 0) = rw (same_key-refl item.key) (omega arith) in
    held_at root slots item.key (omega (arith, used, left item.key, ap (λ x. uses item.key (labels x)) b.is))

-- the payloads of what is left are there
pub left_next : {P : Type 0} (slots : List (Option P)) (t now : Trees Item) (key : ℕ) (item : Item) → IsLeft slots t → Some (key, item) ≡ first_row t → now ≡ behind_node t → IsLeft slots now
left_next slots t now key item left e f k =
    let b : Begins t key item = begins t key item e in
    omega (
      arith,
      left k,
      ap (λ x. uses k (labels x)) b.is,
      ap (λ x. uses k (labels x)) (f ∙ ap behind_node b.is),
      ap (uses k) (labels-joined b.below b.after),
      uses-joined k (labels b.below) (labels b.after),
    )

pub left_within : {P : Type 0} (slots : List (Option P)) (t now : Trees Item) → IsLeft slots t → ((key : Key) → uses key (labels now) ≤ uses key (labels t)) → IsLeft slots now
left_within slots t now left h k = omega (arith, left k, h k)

left_same : {P : Type 0} (f : Key → P) (s t : Trees Item) → running_labels (labels s) ≡ running_labels (labels t) → running_labels (with_payloads f (labels s)) ≡ running_labels (with_payloads f (labels t))
left_same f s t e = running-payloads f (labels s) ∙ (ap (map (relabelled f)) e ∙ sym (running-payloads f (labels t)))

-- the walk is at its end
pub ended : {P : Type 0} (root : P) (slots : List (Option P)) (t skipped : Trees Item) → running_labels (labels skipped) ≡ running_labels (labels t) → None ≡ first_row skipped → left_of root slots t ≡ []
ended root slots t skipped same e = sym (left_same (payload_of root slots) skipped t same) ∙ ap (left_of root slots) (no_first skipped e)

-- the walk gives the node to which it has come, and goes on
pub given : {P : Type 0} (root : P) (slots : List (Option P)) (t skipped now : Trees Item) (key : ℕ) (item : Item) (id : ℤ) (payload : P) → IsLeft slots skipped → running_labels (labels skipped) ≡ running_labels (labels t)
    → BeginsRunning skipped → Some (key, item) ≡ first_row skipped → now ≡ behind_node skipped → id ≡ item.id → Some payload ≡ payload_at root slots item.key
    → left_of root slots t ≡ (record { id = id; kind = item.kind; running = true; payload = payload }) ∷ left_of root slots now
given {P = P} root slots t skipped now key item id payload left same runs e f i p =
    let g : Key → P = payload_of root slots in
    let b : Begins skipped key item = begins skipped key item e in
    let on : item.running ≡ true = subst BeginsRunning b.is runs in
    let here : g item.key ≡ payload = same_of (sym (first_held root slots skipped key item left e) ∙ sym p) in
    let rest : running_labels (with_payloads g (labels b.below)) ++ running_labels (with_payloads g (labels b.after)) ≡ left_of root slots now =
    sym (running-joined (with_payloads g (labels b.below)) (with_payloads g (labels b.after)))
    ∙ (ap running_labels (joined-payloads g (labels b.below) (labels b.after))
    ∙ (ap (λ x. running_labels (with_payloads g x)) (sym (labels-joined b.below b.after)) ∙ sym (ap (left_of root slots) (f ∙ ap behind_node b.is)))) in
    sym (left_same g skipped t same)
    ∙ (ap (left_of root slots) b.is
    ∙ (running_here (relabelled g (label_by item)) (with_payloads g (labels b.below)) (with_payloads g (labels b.after)) on
    ∙ (λ j. (record { id = sym i j; kind = item.kind; running = on j; payload = here j }) ∷ rest j)))
  where
    same_of : {A : Type 0} {a b : A} → Some a ≡ Some b → a ≡ b
    same_of q = cc
