-- Synths that are paused and freed.
use Rattle.std.proofs.Common.{◌≡◌, ◌≤◌, ◌<◌, ◌+◌, ◌*◌, ℕ, ℤ, pos, negsuc, Bool, true, false, not, ◌||◌, true≢false, List, [], ◌∷◌, ◌++◌, length, Option, Some, None, refl, ap, sym, subst, ◌∙◌, arith, length-append, append_assoc}
use Rattle.std.specs.Prelude.{if◌then◌else◌}
use Rattle.std.specs.Ordering.{int_eq}
use Rattle.std.proofs.lemmas.List.{append-nil}
use Rattle.sn_ports.specs.Octets.{Octets}
use Rattle.sn_mem.specs.declared.extents.Extent.{Extent}
use Rattle.sn_mem.specs.Words.{covers}
use Rattle.sn_pool.specs.Pools.{PoolState, times, same_extent}
use Rattle.sn_reply.specs.Replies.{ReplyShape}
use Rattle.sn_reply.specs.declared.events.Notice.{Notice}
use Rattle.sn_reply.specs.declared.events.Notice.TheVariants as notice
use Rattle.sn_tree.specs.declared.node.NodeView.{NodeView}
use Rattle.sn_tree.specs.declared.node.TreeFault.TheVariants as faults
use Rattle.sn_tree.specs.Trees.{Nodes, none, holds, subtree, without, joined, changed, with_running, view_of, with_payloads}
use Rattle.sn_tree.specs.Faults.{first_fault, detach_fault}
use Rattle.sn_tree.specs.Model.{Journal, NodeTree}
use Rattle.sn_tree.specs.Steps.{HasRoom, running, detached}
use Rattle.sn_tree.proofs.PayloadLaws.{changed-payloads, without-payloads, view-payloads}
use Rattle.sn_world.specs.declared.endings.Ending.{Ending}
use Rattle.sn_world.specs.declared.stage.Held.{Held}
use Rattle.sn_world.specs.declared.stage.Stage.{Stage}
use Rattle.sn_world.specs.Nodes.{content_of}
use Rattle.sn_world.specs.Buffers.{AreBuffers}
use Rattle.sn_mem.specs.Buffers.{overlaps}
use Rattle.sn_world.specs.Pictures.{Pictures, live_held, AreHeld}
use Rattle.sn_world.specs.Settling.{frees, notices_of, neighbours_of, pauses, paused_at, freed_at, acted_at, acted, all_acted}
use Rattle.sn_world.specs.World.{Turn, world_of, turn_of}
use Rattle.sn_world.proofs.Counting.{amount-without, overlaps-amount, times-amount}
use Rattle.sn_world.proofs.Replacing.{held-without}
use Rattle.sn_world.proofs.Turning.{held-turned, live-turned, pictures-tree, with_tree, with_nodes}
use Rattle.sn_settle.specs.Telling.{HaveRoom, AreTold}
use Rattle.sn_settle.specs.Acting.{IsActed}
use Rattle.sn_settle.proofs.Sending.{told_none, told_then, notices_of-append}

pub has_room : (j : Option (Journal Held)) → j ≡ None → HasRoom j
has_room j is = subst HasRoom (sym is) tt

pub detach_allowed : (id : ℤ) (t : Nodes Held) → holds id t ≡ true → int_eq id (pos 0) ≡ false → detach_fault id t ≡ None
detach_allowed id t is other =
    ap (λ (b : Bool). first_fault ((not b, faults.NoNode) ∷ (int_eq id (pos 0), faults.IsRoot) ∷ [])) is ∙ ap (λ (b : Bool). first_fault ((false, faults.NoNode) ∷ (b, faults.IsRoot) ∷ [])) other

-- ---- pausing

turned_pictures : (stage : Stage) (id : ℤ) (words : List ℕ) → Pictures stage words → Pictures (with_tree (running id false stage.tree) stage) words
turned_pictures stage id words p =
    pictures-tree stage (running id false stage.tree) words (λ rate region h. held-turned rate region id false stage.tree.attached h) (live-turned id false stage.tree.attached) refl
    (ap (λ (j : Option (Journal Held)). (running id false (record { attached = stage.tree.attached; detached = stage.tree.detached; journal = j })).journal) p.settled) p

pub paused_acted : (stage : Stage) (id : ℤ) (view : NodeView) (tree : NodeTree Held) (event : Notice) (a b : List Octets) → view.running ≡ true → tree ≡ running id false stage.tree → event ≡ notice.Off (neighbours_of id view)
    → AreTold stage.notify (event ∷ []) a b → IsActed 1 (paused_at id view) stage (with_tree tree stage) a b
paused_acted stage id view tree event a b on is event_is told = record {
  events = event ∷ [];
  few = omega arith;
  is = λ words replies.
      let t : Turn = turn_of stage words replies in
      let off : List Notice = notice.Off (neighbours_of id view) ∷ [] in
      let after : List ReplyShape = replies ++ notices_of stage.notify off in
      ap (λ (r : Bool). if r then with_nodes stage words after (changed id (with_running false) (with_payloads (content_of words) stage.tree.attached)) else t) on
      ∙ ap (with_nodes stage words after) (changed-payloads (content_of words) id (with_running false) (with_running false) (λ l. refl) stage.tree.attached)
      ∙ ap (λ (s : NodeTree Held). turn_of (with_tree s stage) words after) (sym is)
      ∙ ap (λ (e : Notice). turn_of (with_tree tree stage) words (replies ++ notices_of stage.notify (e ∷ []))) (sym event_is);
  told = told;
  notify = refl;
  region = refl;
  pictures = λ words p. subst (λ (s : NodeTree Held). Pictures (with_tree s stage) words) (sym is) (turned_pictures stage id words p);
}

-- ---- freeing

times-without : (e : Extent) (id : ℤ) (t : Nodes Held) → times e (live_held (without id t)) + times e (live_held (subtree id t)) ≡ times e (live_held t)
times-without e id t =
    omega (arith, amount-without (λ y. if same_extent e y then 1 else 0) id t, times-amount e (live_held (without id t)), times-amount e (live_held (subtree id t)), times-amount e (live_held t))

overlaps-without : (x : ℕ) (id : ℤ) (t : Nodes Held) → overlaps x (live_held (without id t)) ≤ overlaps x (live_held t)
overlaps-without x id t =
    omega (arith, amount-without (λ e. if covers e x then 1 else 0) id t, overlaps-amount x (live_held (without id t)), overlaps-amount x (live_held t))

pub times-detached : (e : Extent) (tree taken : NodeTree Held) (id : ℤ) → tree.detached ≡ none → taken ≡ detached id tree → times e (live_held taken.detached) ≡ times e (live_held (subtree id tree.attached))
times-detached e tree taken id nil is =
    ap (λ (t : NodeTree Held). times e (live_held t.detached)) is ∙ ap (λ (d : Nodes Held). times e (live_held (joined d (subtree id tree.attached)))) nil

pub free_live : (stage : Stage) (words : List ℕ) (taken : NodeTree Held) (id : ℤ) → Pictures stage words → taken ≡ detached id stage.tree → (e : Extent) → 1 ≤ e.len → times e (live_held taken.detached) ≤ times e stage.pool.live
free_live stage words taken id p is e some = omega (arith, times-detached e stage.tree taken id p.attached is, times-without e id stage.tree.attached, p.live e some)

abbrev with_parts : Stage → NodeTree Held → PoolState → Stage
with_parts stage tree pool = record stage { tree = tree; pool = pool }

freed_pictures : (stage : Stage) (id : ℤ) (taken tree : NodeTree Held) (pool : PoolState) (words : List ℕ) → taken ≡ detached id stage.tree → tree ≡ record taken { detached = none }
    → ((e : Extent) → 1 ≤ e.len → times e stage.pool.live ≡ times e (live_held taken.detached) + times e pool.live) → pool.journal ≡ None → pool.region ≡ stage.pool.region → Pictures stage words → Pictures (with_parts stage tree pool) words
freed_pictures stage id taken tree pool words is rest live closed region p =
    let attached : tree.attached ≡ without id stage.tree.attached = ap (λ (t : NodeTree Held). t.attached) rest ∙ ap (λ (t : NodeTree Held). t.attached) is in
    record {
      rate = p.rate;
      rate_fits = p.rate_fits;
      base = ap (λ (e : Extent). e.at) region ∙ p.base;
      bounded = omega (arith, ap (λ (e : Extent). e.len) region, p.bounded);
      fits = omega (arith, ap (λ (e : Extent). e.len) region, p.fits);
      synths = subst (λ (g : Extent). AreHeld stage.rate g tree.attached) (sym region) (subst (λ (t : Nodes Held). AreHeld stage.rate stage.pool.region t) (sym attached) (held-without stage.rate stage.pool.region id stage.tree.attached p.synths));
      buffers = subst (λ (g : Extent). AreBuffers g stage.buffers) (sym region) p.buffers;
      live = λ e some. omega (arith, live e some, times-detached e stage.tree taken id p.attached is, times-without e id stage.tree.attached, p.live e some, ap (λ (t : Nodes Held). times e (live_held t)) attached);
      apart = λ x. omega (arith, overlaps-without x id stage.tree.attached, p.apart x, ap (λ (t : Nodes Held). overlaps x (live_held t)) attached);
      attached = ap (λ (t : NodeTree Held). t.detached) rest;
      settled = ap (λ (t : NodeTree Held). t.journal) rest ∙ ap (λ (t : NodeTree Held). t.journal) is
          ∙ ap (λ (j : Option (Journal Held)). (detached id (record { attached = stage.tree.attached; detached = stage.tree.detached; journal = j })).journal) p.settled;
      closed = closed;
    }

pub freed_acted : (stage : Stage) (id : ℤ) (view : NodeView) (taken tree : NodeTree Held) (pool : PoolState) (event : Notice) (a b : List Octets) → taken ≡ detached id stage.tree → tree ≡ record taken { detached = none }
    → ((e : Extent) → 1 ≤ e.len → times e stage.pool.live ≡ times e (live_held taken.detached) + times e pool.live) → pool.journal ≡ None → pool.region ≡ stage.pool.region → event ≡ notice.End (neighbours_of id view)
    → AreTold stage.notify (event ∷ []) a b → IsActed 1 (freed_at id view) stage (with_parts stage tree pool) a b
freed_acted stage id view taken tree pool event a b is rest live closed region event_is told = record {
  events = event ∷ [];
  few = omega arith;
  is = λ words replies.
      let gone : List Notice = notice.End (neighbours_of id view) ∷ [] in
      let after : List ReplyShape = replies ++ notices_of stage.notify gone in
      let attached : tree.attached ≡ without id stage.tree.attached = ap (λ (t : NodeTree Held). t.attached) rest ∙ ap (λ (t : NodeTree Held). t.attached) is in
      ap (with_nodes stage words after) (without-payloads (content_of words) id stage.tree.attached ∙ ap (with_payloads (content_of words)) (sym attached))
      ∙ ap (λ (g : Extent). let r : Turn = record { world = record (world_of stage words) { nodes = with_payloads (content_of words) tree.attached; region = g }; replies = after } in r) (sym region)
      ∙ ap (λ (e : Notice). turn_of (with_parts stage tree pool) words (replies ++ notices_of stage.notify (e ∷ []))) (sym event_is);
  told = told;
  notify = refl;
  region = region;
  pictures = λ words p. freed_pictures stage id taken tree pool words is rest live closed region p;
}

-- ---- one ending

pub with_act : (n : ℕ) (f g : Turn → Turn) (old new : Stage) (a b : List Octets) → ((words : List ℕ) (replies : List ReplyShape) → g (turn_of old words replies) ≡ f (turn_of old words replies)) → IsActed n f old new a b → IsActed n g old new a b
with_act n f g old new a b same acts = record {
  events = acts.events;
  few = acts.few;
  is = λ words replies. same words replies ∙ acts.is words replies;
  told = acts.told;
  notify = acts.notify;
  region = acts.region;
  pictures = acts.pictures;
}

pub no_act : (n : ℕ) (g : Turn → Turn) (stage : Stage) (outs : List Octets) → ((words : List ℕ) (replies : List ReplyShape) → g (turn_of stage words replies) ≡ turn_of stage words replies) → IsActed n g stage stage outs outs
no_act n g stage outs same = record {
  events = [];
  few = omega arith;
  is = λ words replies. same words replies ∙ ap (turn_of stage words) (sym (append-nil replies));
  told = told_none stage.notify outs;
  notify = refl;
  region = refl;
  pictures = λ words p. p;
}

abbrev by_tests : Ending → NodeView → Turn → Bool → Bool → Turn
by_tests e view t first second = if first then paused_at e.node view t else if second then freed_at e.node view t else t

pub act_other : (e : Ending) (view : NodeView) (t : Turn) → pauses e.action ≡ false → frees e.action ≡ false → acted_at e (Some view) t ≡ t
act_other e view t is other = ap (λ b. by_tests e view t b (frees e.action)) is ∙ ap (λ b. by_tests e view t false b) other

neither : (a b : Bool) → (a || b) ≡ false → (a ≡ false) × (b ≡ false)
neither true b e = absurd (true≢false e)
neither false true e = absurd (true≢false e)
neither false false e = (refl, refl)

pub act_none : (e : Ending) (o : Option NodeView) (t : Turn) → (pauses e.action || frees e.action) ≡ false → acted_at e o t ≡ t
act_none e None t off = refl
act_none e (Some view) t off =
    let both = neither (pauses e.action) (frees e.action) off in
    act_other e view t both.0 both.1

pub acted_there : (e : Ending) (stage : Stage) (o : Option NodeView) → o ≡ view_of e.node stage.tree.attached → (words : List ℕ) (replies : List ReplyShape) → acted e (turn_of stage words replies) ≡ acted_at e o (turn_of stage words replies)
acted_there e stage o is words replies =
    ap (λ (v : Option NodeView). acted_at e v (turn_of stage words replies)) (view-payloads (content_of words) (negsuc 0) (negsuc 0) e.node stage.tree.attached ∙ sym is)

-- ---- endings one after the other

-- some were acted on, and others are left
pub record AreActed (left all : List Ending) (old now : Stage) (a b : List Octets) : Type 0 where
  pub events : List Notice
  pub few : length events + length left ≤ length all
  pub is : (words : List ℕ) (replies : List ReplyShape) → all_acted left (turn_of now words (replies ++ notices_of old.notify events)) ≡ all_acted all (turn_of old words replies)
  pub told : AreTold old.notify events a b
  pub notify : now.notify ≡ old.notify
  pub region : now.pool.region ≡ old.pool.region
  pub pictures : (words : List ℕ) → Pictures old words → Pictures now words

pub acted_none : (all : List Ending) (stage : Stage) (outs : List Octets) → AreActed all all stage stage outs outs
acted_none all stage outs = record {
  events = [];
  few = omega arith;
  is = λ words replies. ap (λ rs. all_acted all (turn_of stage words rs)) (append-nil replies);
  told = told_none stage.notify outs;
  notify = refl;
  region = refl;
  pictures = λ words p. p;
}

pub acted_next : (e : Ending) (here left all : List Ending) (old now new : Stage) (a b c : List Octets) → here ≡ e ∷ left → AreActed here all old now a b → IsActed 1 (acted e) now new b c → AreActed left all old new a c
acted_next e here left all old now new a b c split so_far acts = record {
  events = so_far.events ++ acts.events;
  few = omega (arith, so_far.few, acts.few, length-append so_far.events acts.events, ap (λ (es : List Ending). length es) split);
  is = λ words replies.
      let first = notices_of old.notify so_far.events in
      let second = notices_of old.notify acts.events in
      ap (λ rs. all_acted left (turn_of new words rs)) (ap (λ rs. replies ++ rs) (notices_of-append old.notify so_far.events acts.events) ∙ sym (append_assoc replies first second) ∙ ap (λ (flags : List Bool). (replies ++ first) ++ notices_of flags acts.events) (sym so_far.notify))
      ∙ ap (all_acted left) (sym (acts.is words (replies ++ first)))
      ∙ ap (λ (es : List Ending). all_acted es (turn_of now words (replies ++ first))) (sym split)
      ∙ so_far.is words replies;
  told = told_then old.notify so_far.events acts.events a b c so_far.told (subst (λ (flags : List Bool). AreTold flags acts.events b c) so_far.notify acts.told);
  notify = acts.notify ∙ so_far.notify;
  region = acts.region ∙ so_far.region;
  pictures = λ words p. acts.pictures words (so_far.pictures words p);
}

pub acted_room : (left all : List Ending) (old now : Stage) (a b : List Octets) → HaveRoom (48 * length all) a → 0 < length left → AreActed left all old now a b → HaveRoom 48 b
acted_room left all old now a b room some so_far = λ k lt.
    omega (arith, room k (omega (arith, lt, so_far.told.sent.clients)), so_far.told.room k (omega (arith, lt, so_far.told.sent.clients)), so_far.few, some)

pub acted_all : (left all : List Ending) (old new : Stage) (a b : List Octets) → left ≡ [] → AreActed left all old new a b → IsActed (length all) (all_acted all) old new a b
acted_all left all old new a b gone so_far = record {
  events = so_far.events;
  few = omega (arith, so_far.few);
  is = λ words replies. sym (so_far.is words replies) ∙ ap (λ (es : List Ending). all_acted es (turn_of new words (replies ++ notices_of old.notify so_far.events))) gone;
  told = so_far.told;
  notify = so_far.notify;
  region = so_far.region;
  pictures = so_far.pictures;
}
