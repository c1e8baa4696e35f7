-- A walk does not see whether the block before was settled.
use Rattle.std.proofs.Common.{◌≡◌, ◌≢◌, ◌≤◌, ◌<◌, ⊎_elim, true≢false, ℕ, zero, suc, ◌+◌, ◌==◌, Bool, true, false, ◌||◌, ◌&&◌, cond, List, [], ◌∷◌, ℤ, Option, Some, None, length, get_or, set, refl, sym, ap, subst, ◌∙◌, arith, length-set, get_or-set_same, get_or-set_other}
use Rattle.std.specs.Prelude.{if◌then◌else◌, is_some}
use Rattle.std.proofs.lemmas.Bool.{cases_Bool, cases_eq, cases_lt}
use Rattle.std.proofs.lemmas.List.{ext_get_or, get_or_past}
use Rattle.sn_mem.specs.Buffers.{Resources}
use Rattle.sn_done.specs.Done.{settled_word}
use Rattle.sn_quiet.specs.Walks.{settled_world, walks, walks_settled}
use Rattle.sn_done.proofs.Settling.{twice}
use Rattle.sn_def.specs.declared.unit.Unit.{Unit as UnitLine}
use Rattle.sn_def.specs.Facts.{done_action}
use Rattle.sn_def.specs.StateWords.{unit_words}
use Rattle.sn_def.proofs.RowLaws.{ender_words}
use Rattle.sn_synth.specs.Synths.{synth_block}
use Rattle.sn_quiet.proofs.Synths.{is_done, later, own_done, past, Alike, synth_alike}
use Rattle.sn_tree.specs.Trees.{Nodes, none, node, Label, with_payload}
use Rattle.sn_world.specs.Nodes.{Content, group, synth}
use Rattle.sn_world.specs.Walk.{Walked, content_after, walk_nodes, resources_in, walk}
use Rattle.sn_world.specs.World.{World}
use Rattle.sn_world.specs.Settling.{after_ending, settled_at, settled_units, settled_content, settled_nodes}

-- ---- the words of a synth after they were settled

length-ending : (place : ℕ) (ws : List ℕ) (done : ℕ) (o : Option ℤ) → length (after_ending place ws done o) ≡ length ws
length-ending place ws done None = refl
length-ending place ws done (Some action) = choose (done == 1)
  where
    choose : (b : Bool) → length (if b then set ws place 2 else ws) ≡ length ws
    choose true = length-set ws place 2
    choose false = refl

length-units : (rate : ℕ) (us : List UnitLine) (p : ℕ) (ws : List ℕ) → length (settled_units rate us p ws) ≡ length ws
length-units rate [] p ws = refl
length-units rate (u ∷ us) p ws = length-units rate us (p + unit_words rate u) (settled_at u p ws) ∙ length-ending p ws (get_or ws p 0) (done_action u.kind u.inputs)

other_ending : (place : ℕ) (ws : List ℕ) (done : ℕ) (o : Option ℤ) (x : ℕ) → ((action : ℤ) → o ≡ Some action → x ≢ place) → get_or (after_ending place ws done o) x 0 ≡ get_or ws x 0
other_ending place ws done None x h = refl
other_ending place ws done (Some action) x h = choose (done == 1)
  where
    choose : (b : Bool) → get_or (if b then set ws place 2 else ws) x 0 ≡ get_or ws x 0
    choose true = get_or-set_other ws place x 2 0 (let ne : x ≢ place = h action refl in omega (arith, ne))
    choose false = refl

-- the done word of a unit that ends
set_settled : (ws : List ℕ) (place : ℕ) (b : Bool) → (get_or ws place 0 == 1) ≡ b → get_or (if b then set ws place 2 else ws) place 0 ≡ cond b 2 (get_or ws place 0)
set_settled ws place false h = refl
set_settled ws place true h = ⊎_elim
    (λ (l : place < length ws). get_or-set_same ws place 2 0 l)
    (λ (g : length ws ≤ place). let zero_there : get_or ws place 0 ≡ 0 = get_or_past ws place 0 g in absurd (true≢false (sym h ∙ ap (λ n. n == 1) zero_there)))
    (cases_lt place (length ws))

ending_word : (ws : List ℕ) (place : ℕ) (o : Option ℤ) (action : ℤ) → o ≡ Some action → get_or (after_ending place ws (get_or ws place 0) o) place 0 ≡ settled_word (get_or ws place 0)
ending_word ws place None action h = absurd cc
ending_word ws place (Some a) action h = set_settled ws place (get_or ws place 0 == 1) refl

none_ending : (ws : List ℕ) (place v : ℕ) (o : Option ℤ) → o ≡ None → after_ending place ws v o ≡ ws
none_ending ws place v None h = refl
none_ending ws place v (Some a) h = absurd cc

-- a word is settled if it is a done word
settled_word_at : (rate : ℕ) (us : List UnitLine) (place : ℕ) (ws : List ℕ) (x : ℕ) → get_or (settled_units rate us place ws) x 0 ≡ cond (is_done rate us place x) (settled_word (get_or ws x 0)) (get_or ws x 0)
settled_word_at rate [] place ws x = refl
settled_word_at rate (u ∷ us) place ws x =
    let next : ℕ = place + unit_words rate u in
    let one : List ℕ = settled_at u place ws in
    settled_word_at rate us next one x ∙ ⊎_elim
    (λ (e : x ≡ place). here (done_action u.kind u.inputs) refl e)
    (λ (ne : x ≢ place).
    let same : get_or one x 0 ≡ get_or ws x 0 = other_ending place ws (get_or ws place 0) (done_action u.kind u.inputs) x (λ action is. ne) in
    ap (λ n. cond (is_done rate us next x) (settled_word n) n) same ∙ ap {B = ℕ} (λ b. cond b (settled_word (get_or ws x 0)) (get_or ws x 0)) (sym (past rate u us place x ne)))
    (cases_eq x place)
  where
    here : (o : Option ℤ) → done_action u.kind u.inputs ≡ o → x ≡ place → cond (is_done rate us (place + unit_words rate u) x) (settled_word (get_or (settled_at u place ws) x 0)) (get_or (settled_at u place ws) x 0) ≡ cond (is_done rate (u ∷ us) place x) (settled_word (get_or ws x 0)) (get_or ws x 0)
    here None is e =
        ap (λ (ys : List ℕ). cond (is_done rate us (place + unit_words rate u) x) (settled_word (get_or ys x 0)) (get_or ys x 0)) (none_ending ws place (get_or ws place 0) (done_action u.kind u.inputs) is)
        ∙ ap {B = ℕ} (λ b. cond b (settled_word (get_or ws x 0)) (get_or ws x 0)) (sym (ap {B = Bool} (λ (o : Option ℤ). (is_some o && x == place) || is_done rate us (place + unit_words rate u) x) is))
    here (Some action) is e =
        ap {B = ℕ} (λ b. cond b (settled_word (get_or (settled_at u place ws) x 0)) (get_or (settled_at u place ws) x 0)) (later rate us (place + unit_words rate u) x (omega (arith, e, ender_words rate u action is)))
        ∙ (ap (λ i. get_or (settled_at u place ws) i 0) e ∙ (ending_word ws place (done_action u.kind u.inputs) action is ∙ (ap (λ i. settled_word (get_or ws i 0)) (sym e)
        ∙ ap {B = ℕ} (λ b. cond b (settled_word (get_or ws x 0)) (get_or ws x 0)) (sym (ap (is_done rate (u ∷ us) place) e ∙ own_done rate u us place action is)))))

settled_alike : (rate : ℕ) (us : List UnitLine) (ws : List ℕ) → Alike (is_done rate us 0) (settled_units rate us 0 ws) ws
settled_alike rate us ws = record {
  long = length-units rate us 0 ws;
  same = λ x no. settled_word_at rate us 0 ws x ∙ ap {B = ℕ} (λ b. cond b (settled_word (get_or ws x 0)) (get_or ws x 0)) no;
  settled = λ x. ap settled_word (settled_word_at rate us 0 ws x) ∙ either (is_done rate us 0 x) (get_or ws x 0);
}
  where
    either : (b : Bool) (n : ℕ) → settled_word (cond b (settled_word n) n) ≡ settled_word n
    either true n = twice n
    either false n = refl

alike_settles : (rate : ℕ) (us : List UnitLine) (s t : List ℕ) → Alike (is_done rate us 0) s t → settled_units rate us 0 s ≡ settled_units rate us 0 t
alike_settles rate us s t a = ext_get_or 0 (settled_units rate us 0 s) (settled_units rate us 0 t) (length-units rate us 0 s ∙ (a.long ∙ sym (length-units rate us 0 t)))
    (λ x lt. settled_word_at rate us 0 s x ∙ (both (is_done rate us 0 x) (get_or s x 0) (get_or t x 0) (a.settled x) (a.same x) ∙ sym (settled_word_at rate us 0 t x)))
  where
    both : (b : Bool) (m n : ℕ) → settled_word m ≡ settled_word n → (b ≡ false → m ≡ n) → cond b (settled_word m) m ≡ cond b (settled_word n) n
    both true m n e h = e
    both false m n e h = h refl

-- ---- nodes

-- what is left of a node, once settled, and what it gives
record ContentsAlike (rate : ℕ) (p q : Content × Resources) : Type 0 where
  content : settled_content rate p.0 ≡ settled_content rate q.0
  resources : p.1 ≡ q.1

content_alike : (rate b : ℕ) (id : ℤ) (c : Content) (r : Resources) → ContentsAlike rate (content_after rate b id (settled_content rate c) r) (content_after rate b id c r)
content_alike rate b id group r = record { content = refl; resources = refl }
content_alike rate b id (synth s) r =
    let old : List ℕ = settled_units rate s.definition.units 0 s.state in
    let a = synth_alike rate b id s.definition s.controls r old s.state (settled_alike rate s.definition.units s.state) in record {
      content = ap {B = Content} (λ (state : List ℕ). synth (record { definition = s.definition; controls = s.controls; state = state; extent = s.extent }))
          (alike_settles rate s.definition.units (synth_block rate b id s.definition s.controls r old).state (synth_block rate b id s.definition s.controls r s.state).state a.states);
      resources = a.resources;
    }

record WalksAlike (rate : ℕ) (p q : Walked) : Type 0 where
  nodes : settled_nodes rate p.nodes ≡ settled_nodes rate q.nodes
  resources : p.resources ≡ q.resources

module _ (rate b : ℕ) where
  pub settled_running : (label : Label Content) (below after : Nodes Content) → label.running ≡ true → settled_nodes rate (node label below after) ≡ node (with_payload (settled_content rate label.payload) label) (settled_nodes rate below) (settled_nodes rate after)
  settled_running label below after h = ap {B = Nodes Content} (λ on. if on then node (with_payload (settled_content rate label.payload) label) (settled_nodes rate below) (settled_nodes rate after) else node label below (settled_nodes rate after)) h

  pub settled_paused : (label : Label Content) (below after : Nodes Content) → label.running ≡ false → settled_nodes rate (node label below after) ≡ node label below (settled_nodes rate after)
  settled_paused label below after h = ap {B = Nodes Content} (λ on. if on then node (with_payload (settled_content rate label.payload) label) (settled_nodes rate below) (settled_nodes rate after) else node label below (settled_nodes rate after)) h

  -- the walk of a node that runs, and of one that is paused
  unfoldable pub run_node : Label Content → Nodes Content → Nodes Content → Resources → Walked
  run_node label below after r =
      let here = content_after rate b label.id label.payload r in
      let inner = walk_nodes rate b below here.1 in
      let rest = walk_nodes rate b after inner.resources in
      record { nodes = node (with_payload here.0 label) inner.nodes rest.nodes; resources = rest.resources }

  unfoldable pub pass_node : Label Content → Nodes Content → Nodes Content → Resources → Walked
  pass_node label below after r = let rest = walk_nodes rate b after r in record { nodes = node label below rest.nodes; resources = rest.resources }

  pub walk_running : (label : Label Content) (below after : Nodes Content) (r : Resources) → label.running ≡ true → walk_nodes rate b (node label below after) r ≡ run_node label below after r
  unfolding run_node pass_node
  walk_running label below after r h = ap {B = Walked} (λ on. if on then run_node label below after r else pass_node label below after r) h

  pub walk_paused : (label : Label Content) (below after : Nodes Content) (r : Resources) → label.running ≡ false → walk_nodes rate b (node label below after) r ≡ pass_node label below after r
  unfolding run_node pass_node
  walk_paused label below after r h = ap {B = Walked} (λ on. if on then run_node label below after r else pass_node label below after r) h

  same_walks : (p q s t : Walked) → s ≡ p → t ≡ q → WalksAlike rate p q → WalksAlike rate s t
  same_walks p q s t e f a = subst (λ (x : Walked). WalksAlike rate x t) (sym e) (subst (λ (y : Walked). WalksAlike rate p y) (sym f) a)

  nodes_alike : (nodes : Nodes Content) (q r : Resources) → q ≡ r → WalksAlike rate (walk_nodes rate b (settled_nodes rate nodes) q) (walk_nodes rate b nodes r)
  unfolding run_node pass_node
  nodes_alike none q r e = record { nodes = refl; resources = e }
  nodes_alike (node label below after) q r e = ⊎_elim
      (λ (on : label.running ≡ true).
      let settled : Label Content = with_payload (settled_content rate label.payload) label in
      let c : ContentsAlike rate (content_after rate b label.id settled.payload q) (content_after rate b label.id label.payload r) =
      subst (λ (x : Resources). ContentsAlike rate (content_after rate b label.id settled.payload q) (content_after rate b label.id label.payload x)) e (content_alike rate b label.id label.payload q) in
      let left : Content × Resources = content_after rate b label.id settled.payload q in
      let right : Content × Resources = content_after rate b label.id label.payload r in
      let inner = nodes_alike below left.1 right.1 c.resources in
      let outer : Walked = walk_nodes rate b (settled_nodes rate below) left.1 in
      let plain : Walked = walk_nodes rate b below right.1 in
      let rest = nodes_alike after outer.resources plain.resources inner.resources in
      let last : Walked = walk_nodes rate b (settled_nodes rate after) outer.resources in
      let end : Walked = walk_nodes rate b after plain.resources in
      same_walks (run_node settled (settled_nodes rate below) (settled_nodes rate after) q) (run_node label below after r)
      (walk_nodes rate b (settled_nodes rate (node label below after)) q) (walk_nodes rate b (node label below after) r)
      (ap (λ (ns : Nodes Content). walk_nodes rate b ns q) (settled_running label below after on) ∙ walk_running settled (settled_nodes rate below) (settled_nodes rate after) q on)
      (walk_running label below after r on)
      (record {
        nodes =
            settled_running (with_payload left.0 settled) outer.nodes last.nodes on
            ∙ (ap {B = Nodes Content} (λ (x : Content). node (with_payload x label) (settled_nodes rate outer.nodes) (settled_nodes rate last.nodes)) c.content
            ∙ (ap (λ (ns : Nodes Content). node (with_payload (settled_content rate right.0) label) ns (settled_nodes rate last.nodes)) inner.nodes
            ∙ (ap (λ (ns : Nodes Content). node (with_payload (settled_content rate right.0) label) (settled_nodes rate plain.nodes) ns) rest.nodes
            ∙ sym (settled_running (with_payload right.0 label) plain.nodes end.nodes on))));
        resources = rest.resources;
      }))
      (λ (off : label.running ≡ false).
      let rest = nodes_alike after q r e in
      let last : Walked = walk_nodes rate b (settled_nodes rate after) q in
      let end : Walked = walk_nodes rate b after r in
      same_walks (pass_node label below (settled_nodes rate after) q) (pass_node label below after r)
      (walk_nodes rate b (settled_nodes rate (node label below after)) q) (walk_nodes rate b (node label below after) r)
      (ap (λ (ns : Nodes Content). walk_nodes rate b ns q) (settled_paused label below after off) ∙ walk_paused label below (settled_nodes rate after) q off)
      (walk_paused label below after r off)
      (record {
        nodes = settled_paused label below last.nodes off ∙ (ap (λ (ns : Nodes Content). node label below ns) rest.nodes ∙ sym (settled_paused label below end.nodes off));
        resources = rest.resources;
      }))
      (cases_Bool label.running)

-- ---- the world

pub walk_unseen : (b : ℕ) (w : World) → settled_world (walk b (settled_world w)) ≡ settled_world (walk b w)
walk_unseen b w =
    let a = nodes_alike w.rate b w.nodes (resources_in w) (resources_in w) refl in
    let left : Walked = walk_nodes w.rate b (settled_nodes w.rate w.nodes) (resources_in w) in
    let right : Walked = walk_nodes w.rate b w.nodes (resources_in w) in
    let made : Nodes Content → Resources → World = λ nodes r. record w { nodes = nodes; audio_buses = r.buses.audio; control_buses = r.buses.control; buffers = r.buffers } in
    ap (λ (ns : Nodes Content). made ns left.resources) a.nodes ∙ ap (made (settled_nodes w.rate right.nodes)) a.resources

-- blocks that are settled once come to the same as blocks that are each settled
pub walks_settle : (b n : ℕ) (w : World) → settled_world (walks b (suc n) w) ≡ walks_settled b (suc n) w
unfolding walks walks_settled
walks_settle b zero w = refl
walks_settle b (suc n) w = sym (walk_unseen (b + suc n) (walks b (suc n) w)) ∙ ap (λ (v : World). settled_world (walk (b + suc n) v)) (walks_settle b n w)
