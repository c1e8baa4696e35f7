-- What is quiet is settled without a word, and stays quiet.
use Rattle.std.proofs.Common.{◌≡◌, ⊎_elim, ℕ, ◌+◌, ◌==◌, Bool, true, false, not, ◌||◌, ◌&&◌, List, [], ◌∷◌, ◌++◌, ℤ, Option, Some, None, get_or, refl, sym, ap, ◌∙◌, append-nil}
use Rattle.std.specs.Prelude.{if◌then◌else◌}
use Rattle.std.specs.List.{list_all}
use Rattle.std.proofs.lemmas.Bool.{cases_Bool, and_parts}
use Rattle.sn_def.specs.declared.unit.Unit.{Unit as UnitLine}
use Rattle.sn_def.specs.Facts.{sends, done_action}
use Rattle.sn_def.specs.StateWords.{unit_words}
use Rattle.sn_reply.specs.declared.events.Notice.{Notice}
use Rattle.sn_reply.specs.Replies.{ReplyShape}
use Rattle.sn_tree.specs.declared.node.NodeView.{NodeView}
use Rattle.sn_tree.specs.Trees.{Nodes, none, node, Label, view_of}
use Rattle.sn_world.specs.declared.endings.Ending.{Ending}
use Rattle.sn_world.specs.Nodes.{Content, group, synth}
use Rattle.sn_world.specs.World.{World, Turn}
use Rattle.sn_world.specs.Settling.{unit_triggers, content_triggers, triggers_in, ending_of, endings_at, unit_endings, content_endings, endings_in, acted_at, all_acted, frees, pauses, told_all, with_nodes_settled, settled}
use Rattle.sn_quiet.specs.Quiet.{acts, is_quiet_unit, is_quiet_content, are_quiet}

-- ---- no trigger

unsent : (s q c : Bool) (xs : List Notice) → (not s && q) ≡ true → (if s && c then xs else []) ≡ []
unsent true q c xs h = absurd cc
unsent false q c xs h = refl

no_unit_triggers : (rate b : ℕ) (id : ℤ) (us : List UnitLine) (place : ℕ) (state : List ℕ) → list_all is_quiet_unit us ≡ true → unit_triggers rate b id us place state ≡ []
no_unit_triggers rate b id [] place state h = refl
no_unit_triggers rate b id (u ∷ us) place state h =
    let parts = and_parts (is_quiet_unit u) (list_all is_quiet_unit us) h in
    ap (λ (xs : List Notice). xs ++ unit_triggers rate b id us (place + unit_words rate u) state) (unsent (sends u.kind) (not (acts (done_action u.kind u.inputs))) (get_or state place 0 == b + 1) _ parts.0)
    ∙ no_unit_triggers rate b id us (place + unit_words rate u) state parts.1

no_content_triggers : (rate b : ℕ) (id : ℤ) (c : Content) → is_quiet_content c ≡ true → content_triggers rate b id c ≡ []
no_content_triggers rate b id group h = refl
no_content_triggers rate b id (synth s) h = no_unit_triggers rate b id s.definition.units 0 s.state h

-- ---- no ending that acts

abbrev is_mild : Ending → Bool
is_mild e = not (acts (Some e.action))

mild_ending : (id : ℤ) (b : Bool) (action : ℤ) (s : Bool) → (not s && not (acts (Some action))) ≡ true → list_all is_mild (if b then record { node = id; action = action } ∷ [] else []) ≡ true
mild_ending id true action true h = absurd cc
mild_ending id true action false h = ap (λ b. b && true) h
mild_ending id false action s h = refl

mild_endings : (id : ℤ) (done : ℕ) (o : Option ℤ) (s : Bool) → (not s && not (acts o)) ≡ true → list_all is_mild (ending_of id done o) ≡ true
mild_endings id done None s h = refl
mild_endings id done (Some action) s h = mild_ending id (done == 1) action s h

both_mild : (xs ys : List Ending) → list_all is_mild xs ≡ true → list_all is_mild ys ≡ true → list_all is_mild (xs ++ ys) ≡ true
both_mild [] ys h k = k
both_mild (x ∷ xs) ys h k =
    let parts = and_parts (is_mild x) (list_all is_mild xs) h in
    ap (λ b. b && list_all is_mild (xs ++ ys)) parts.0 ∙ both_mild xs ys parts.1 k

unit_mild : (rate : ℕ) (id : ℤ) (us : List UnitLine) (place : ℕ) (state : List ℕ) → list_all is_quiet_unit us ≡ true → list_all is_mild (unit_endings rate id us place state) ≡ true
unit_mild rate id [] place state h = refl
unit_mild rate id (u ∷ us) place state h =
    let parts = and_parts (is_quiet_unit u) (list_all is_quiet_unit us) h in
    both_mild (endings_at id u place state) (unit_endings rate id us (place + unit_words rate u) state)
    (mild_endings id (get_or state place 0) (done_action u.kind u.inputs) (sends u.kind) parts.0)
    (unit_mild rate id us (place + unit_words rate u) state parts.1)

content_mild : (rate : ℕ) (id : ℤ) (c : Content) → is_quiet_content c ≡ true → list_all is_mild (content_endings rate id c) ≡ true
content_mild rate id group h = refl
content_mild rate id (synth s) h = unit_mild rate id s.definition.units 0 s.state h

untouched : (a b : Bool) (s t u : Turn) → not (a || b) ≡ true → (if a then s else (if b then t else u)) ≡ u
untouched true b s t u h = absurd cc
untouched false true s t u h = absurd cc
untouched false false s t u h = refl

mild_acted : (e : Ending) (v : Option NodeView) (t : Turn) → is_mild e ≡ true → acted_at e v t ≡ t
mild_acted e None t h = refl
mild_acted e (Some view) t h = untouched (pauses e.action) (frees e.action) _ _ t h

all_mild : (es : List Ending) (t : Turn) → list_all is_mild es ≡ true → all_acted es t ≡ t
all_mild [] t h = refl
all_mild (e ∷ es) t h =
    let parts = and_parts (is_mild e) (list_all is_mild es) h in
    ap (all_acted es) (mild_acted e (view_of e.node t.world.nodes) t parts.0) ∙ all_mild es t parts.1

-- ---- nodes

abbrev pub quiet_if : Label Content → Nodes Content → Bool → Bool
quiet_if label below on = if on then is_quiet_content label.payload && are_quiet below else true

quiet_triggers : (rate b : ℕ) (nodes : Nodes Content) → are_quiet nodes ≡ true → triggers_in rate b nodes ≡ []
quiet_triggers rate b none h = refl
quiet_triggers rate b (node label below after) h =
    let parts = and_parts (quiet_if label below label.running) (are_quiet after) h in
    let told : Bool → List Notice = λ on. if on then content_triggers rate b label.id label.payload ++ (triggers_in rate b below ++ triggers_in rate b after) else triggers_in rate b after in
    let rest : triggers_in rate b after ≡ [] = quiet_triggers rate b after parts.1 in
    ⊎_elim
    (λ (on : label.running ≡ true).
    let inner = and_parts (is_quiet_content label.payload) (are_quiet below) (sym (ap (quiet_if label below) on) ∙ parts.0) in
    ap told on
    ∙ (ap (λ (xs : List Notice). xs ++ (triggers_in rate b below ++ triggers_in rate b after)) (no_content_triggers rate b label.id label.payload inner.0)
    ∙ (ap (λ (xs : List Notice). xs ++ triggers_in rate b after) (quiet_triggers rate b below inner.1) ∙ rest)))
    (λ (off : label.running ≡ false). ap told off ∙ rest)
    (cases_Bool label.running)

quiet_endings : (rate : ℕ) (nodes : Nodes Content) → are_quiet nodes ≡ true → list_all is_mild (endings_in rate nodes) ≡ true
quiet_endings rate none h = refl
quiet_endings rate (node label below after) h =
    let parts = and_parts (quiet_if label below label.running) (are_quiet after) h in
    let ended : Bool → List Ending = λ on. if on then content_endings rate label.id label.payload ++ (endings_in rate below ++ endings_in rate after) else endings_in rate after in
    let rest : list_all is_mild (endings_in rate after) ≡ true = quiet_endings rate after parts.1 in
    ⊎_elim
    (λ (on : label.running ≡ true).
    let inner = and_parts (is_quiet_content label.payload) (are_quiet below) (sym (ap (quiet_if label below) on) ∙ parts.0) in
    ap (λ i. list_all is_mild (ended i)) on
    ∙ both_mild (content_endings rate label.id label.payload) (endings_in rate below ++ endings_in rate after) (content_mild rate label.id label.payload inner.0)
    (both_mild (endings_in rate below) (endings_in rate after) (quiet_endings rate below inner.1) rest))
    (λ (off : label.running ≡ false). ap (λ i. list_all is_mild (ended i)) off ∙ rest)
    (cases_Bool label.running)

-- a settling of what is quiet settles the done words, and does nothing else
pub quiet_settles : (b : ℕ) (t : Turn) → are_quiet t.world.nodes ≡ true → settled b t ≡ with_nodes_settled t
quiet_settles b t h =
    let w : World = t.world in
    let told : List Notice → Turn = λ events. with_nodes_settled (told_all events t) in
    all_mild (endings_in w.rate w.nodes) (told (triggers_in w.rate b w.nodes)) (quiet_endings w.rate w.nodes h)
    ∙ (ap told (quiet_triggers w.rate b w.nodes h)
    ∙ ap (λ (replies : List ReplyShape). with_nodes_settled (record { world = w; replies = replies })) (append-nil t.replies))
