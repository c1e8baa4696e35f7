-- A block that is settled.
use Rattle.std.proofs.Common.{◌≡◌, ◌≤◌, ◌<◌, ◌+◌, ◌*◌, ◌==◌, ℕ, ℤ, Bool, true, false, List, [], ◌∷◌, ◌++◌, length, get_or, set, Option, Some, None, refl, ap, sym, subst, ◌∙◌, arith, get_or-set_other, inr}
use Rattle.std.specs.Prelude.{if◌then◌else◌}
use Rattle.sn_ports.specs.Octets.{Octets}
use Rattle.sn_mem.specs.declared.extents.Extent.{Extent}
use Rattle.sn_mem.specs.Buses.{AudioBus, ControlBus, audio_buses, control_buses}
use Rattle.sn_mem.proofs.BusLaws.{audio_same, control_same}
use Rattle.sn_mem.proofs.BufferWords.{no_overlap}
use Rattle.sn_def.specs.declared.unit.Unit.{Unit as UnitLine}
use Rattle.sn_def.specs.Defs.{definition_of}
use Rattle.sn_def.specs.StateWords.{unit_words}
use Rattle.sn_reply.specs.declared.events.Notice.{Notice}
use Rattle.sn_tree.specs.Trees.{Label, Nodes, none, node, running_labels, with_payloads}
use Rattle.sn_world.specs.declared.endings.Ending.{Ending}
use Rattle.sn_world.specs.declared.stage.Held.{Held}
use Rattle.sn_world.specs.declared.stage.Held.TheVariants as held
use Rattle.sn_world.specs.declared.stage.Stage.{Stage}
use Rattle.sn_mem.specs.declared.buffers.BufferPlace.{BufferPlace}
use Rattle.sn_mem.specs.Buffers.{Buffer, buffers_of, overlaps}
use Rattle.sn_world.specs.Nodes.{Content, content_of}
use Rattle.sn_world.specs.Noted.{Noted}
use Rattle.sn_world.specs.Pictures.{Pictures, IsHeld, AreHeld, KeepsOutside, held_extents, live_held}
use Rattle.sn_def.specs.Facts.{done_action}
use Rattle.sn_world.specs.Settling.{after_ending, settled_at, settled_units, triggers_in, endings_in, notices_of, told_all, all_acted, with_nodes_settled, settled}
use Rattle.sn_world.specs.SettleWords.{settled_held, walk_triggers, walk_endings, settled_walk, walk_room}
use Rattle.sn_world.specs.World.{World, Turn, world_of, turn_of}
use Rattle.sn_world.proofs.Changes.{pictured_again}
use Rattle.sn_world.proofs.Walking.{HoldEach, running_held, parts_of}
use Rattle.sn_world.proofs.WalkedStage.{can_walk, buffers_walked}
use Rattle.sn_world.proofs.SettleWalks.{IsSettled, triggers_are, endings_are, settled_are, walk_unended, few_events}
use Rattle.sn_settle.specs.Telling.{HaveRoom, AreSent, AreTold, CanLook}
use Rattle.sn_settle.specs.Acting.{IsActed}
use Rattle.sn_settle.proofs.Sending.{told_then, notices_of-append}
use Rattle.sn_settle.proofs.Acted.{no_act}

-- ---- the words of the buses stay

low_ending : (place : ℕ) (ws : List ℕ) (done : ℕ) (o : Option ℤ) (x : ℕ) → x < place → get_or (after_ending place ws done o) x 0 ≡ get_or ws x 0
low_ending place ws done None x low = refl
low_ending place ws done (Some action) x low = choose (done == 1)
  where
    choose : (b : Bool) → get_or (if b then set ws place 2 else ws) x 0 ≡ get_or ws x 0
    choose true = get_or-set_other ws place x 2 0 (omega (arith, low))
    choose false = refl

low_units : (rate : ℕ) (us : List UnitLine) (p : ℕ) (ws : List ℕ) (x : ℕ) → x < p → get_or (settled_units rate us p ws) x 0 ≡ get_or ws x 0
low_units rate [] p ws x low = refl
low_units rate (u ∷ us) p ws x low = low_units rate us (p + unit_words rate u) (settled_at u p ws) x (omega (arith, low)) ∙ low_ending p ws (get_or ws p 0) (done_action u.kind u.inputs) x low

low_held : (rate : ℕ) (region : Extent) (h : Held) (ws : List ℕ) (x : ℕ) → IsHeld rate region h → x < region.at → get_or (settled_held rate h ws) x 0 ≡ get_or ws x 0
low_held rate region held.Group ws x is low = refl
low_held rate region (held.Synth def controls state) ws x is low = low_units rate (definition_of def.value).units state.at ws x (omega (arith, low, is.within.0))

low_walk : (rate : ℕ) (region : Extent) (places : List (Option BufferPlace)) (ls : List (Label Held)) (ws : List ℕ) (x : ℕ) → HoldEach rate region places ls → x < region.at → get_or (settled_walk rate ls ws) x 0 ≡ get_or ws x 0
low_walk rate region places [] ws x each low = refl
low_walk rate region places (l ∷ ls) ws x each low = low_walk rate region places ls (settled_held rate l.payload ws) x each.1 low ∙ low_held rate region l.payload ws x each.0.0 low

-- ---- no node has a word after the region

own_inside : (rate : ℕ) (region : Extent) (h : Held) (x : ℕ) → IsHeld rate region h → region.at + region.len ≤ x → overlaps x (held_extents h) ≡ 0
own_inside rate region held.Group x is high = refl
own_inside rate region (held.Synth def controls state) x is high = no_overlap state x (inr (omega (arith, high, is.within.1)))

held_inside : (rate : ℕ) (region : Extent) (t : Nodes Held) (x : ℕ) → AreHeld rate region t → region.at + region.len ≤ x → overlaps x (live_held t) ≡ 0
held_inside rate region none x are high = refl
held_inside rate region (node l below after) x are high =
    omega (arith, parts_of l below after x, own_inside rate region l.payload x are.0 high, held_inside rate region below x are.1.0 high, held_inside rate region after x are.1.1 high)

-- ---- a stage and its words

module _ (stage : Stage) (b : ℕ) (ws : List ℕ) (p : Pictures stage ws) where
  abbrev events : List Notice
  events = walk_triggers stage.rate b (running_labels stage.tree.attached) ws

  abbrev endings : List Ending
  endings = walk_endings stage.rate (running_labels stage.tree.attached) ws

  abbrev words : List ℕ
  words = settled_walk stage.rate (running_labels stage.tree.attached) ws

  low : (x : ℕ) → x < 10368 → get_or words x 0 ≡ get_or ws x 0
  low x lt = low_walk stage.rate stage.pool.region stage.buffers (running_labels stage.tree.attached) ws x (running_held stage.rate stage.pool.region stage.buffers stage.tree.attached p.synths p.base p.buffers.each p.apart) (omega (arith, lt, p.base))

  settled_nodes_are : IsSettled stage.rate stage.tree.attached ws words
  settled_nodes_are = settled_are stage.rate stage.pool.region stage.tree.attached ws (can_walk stage ws p)

  pub long : length words ≡ length ws
  long = settled_nodes_are.kept.length

  pub outside_kept : KeepsOutside stage.pool.region ws words
  outside_kept = λ k behind past. settled_nodes_are.kept.others k behind (held_inside stage.rate stage.pool.region stage.tree.attached k p.synths past)

  abbrev with_world : World → Turn
  with_world w = record { world = w; replies = notices_of stage.notify events }

  abbrev with_parts : Nodes Content → List AudioBus → List ControlBus → List (Option Buffer) → Turn
  with_parts nodes audio control buffers = with_world (record (world_of stage ws) { nodes = nodes; audio_buses = audio; control_buses = control; buffers = buffers })

  pub settled_turn : with_nodes_settled (told_all (triggers_in stage.rate b (with_payloads (content_of ws) stage.tree.attached)) (turn_of stage ws [])) ≡ turn_of stage words (notices_of stage.notify events)
  settled_turn =
      ap (λ (es : List Notice). with_nodes_settled (told_all es (turn_of stage ws []))) (triggers_are stage.rate b stage.pool.region stage.tree.attached ws p.synths)
      ∙ ap (λ (n : Nodes Content). with_parts n (audio_buses ws) (control_buses ws) (buffers_of ws stage.buffers)) settled_nodes_are.is
      ∙ ap (λ (a : List AudioBus). with_parts (with_payloads (content_of words) stage.tree.attached) a (control_buses ws) (buffers_of ws stage.buffers)) (sym (audio_same words ws (λ k lt. low k (omega (arith, lt)))))
      ∙ ap (λ (a : List ControlBus). with_parts (with_payloads (content_of words) stage.tree.attached) (audio_buses words) a (buffers_of ws stage.buffers)) (sym (control_same words ws (λ k from lt. low k lt)))
      ∙ ap (with_parts (with_payloads (content_of words) stage.tree.attached) (audio_buses words) (control_buses words)) (sym (buffers_walked stage ws words p settled_nodes_are.kept))

  module _ (new : Stage) (outs mid sent : List Octets) (most : ℕ) (told : AreTold stage.notify events outs mid) (acts : IsActed most (all_acted endings) stage new mid sent) where
    pub settled_is : settled b (turn_of stage ws []) ≡ turn_of new words (notices_of stage.notify (events ++ acts.events))
    settled_is =
        ap (λ (es : List Ending). all_acted es (with_nodes_settled (told_all (triggers_in stage.rate b (with_payloads (content_of ws) stage.tree.attached)) (turn_of stage ws [])))) (endings_are stage.rate stage.pool.region stage.tree.attached ws p.synths)
        ∙ ap (all_acted endings) settled_turn
        ∙ acts.is words (notices_of stage.notify events)
        ∙ ap (turn_of new words) (sym (notices_of-append stage.notify events acts.events))

    pub all_sent : AreSent (settled b (turn_of stage ws [])).replies outs sent
    all_sent = subst (λ (t : Turn). AreSent t.replies outs sent) (sym settled_is) (told_then stage.notify events acts.events outs mid sent told acts.told).sent

    pub pictured : Pictures new words
    pictured = acts.pictures words (pictured_again stage words ws long p)

  -- the ends in the world are those in the words
  pub ended : endings_in stage.rate (world_of stage ws).nodes ≡ endings
  ended = endings_are stage.rate stage.pool.region stage.tree.attached ws p.synths

  -- if nothing ended
  pub none_acted : (outs : List Octets) → endings ≡ [] → IsActed 0 (all_acted endings) stage stage outs outs
  none_acted outs nil = no_act 0 (all_acted endings) stage outs (λ us replies. ap (λ (es : List Ending). all_acted es (turn_of stage us replies)) nil)

  pub same_words : endings ≡ [] → words ≡ ws
  same_words nil = walk_unended stage.rate (running_labels stage.tree.attached) ws nil

  -- the room suffices
  pub can_look : (outs : List Octets) (noted : Noted) → length outs ≤ 4 → HaveRoom (48 * walk_room (running_labels stage.tree.attached)) outs → walk_room (running_labels stage.tree.attached) ≤ noted.spare → CanLook events endings outs noted
  can_look outs noted clients bytes room = record {
    clients = clients;
    bytes = λ k lt. omega (arith, bytes k lt, few_events stage.rate b (running_labels stage.tree.attached) ws);
    room = omega (arith, room, few_events stage.rate b (running_labels stage.tree.attached) ws);
  }

  pub room_to_act : (outs mid : List Octets) → HaveRoom (48 * walk_room (running_labels stage.tree.attached)) outs → AreTold stage.notify events outs mid → HaveRoom (48 * length endings) mid
  room_to_act outs mid bytes told = λ k lt.
      omega (arith, bytes k (omega (arith, lt, told.sent.clients)), told.room k (omega (arith, lt, told.sent.clients)), few_events stage.rate b (running_labels stage.tree.attached) ws)
