-- Blocks in a row that are settled once are those that are settled each, with their boundaries.
use Rattle.std.proofs.Common.{◌≡◌, ⊎_elim, true≢false, ℕ, zero, suc, ◌+◌, ◌-◌, ◌<◌, ◌≤◌, ◌⊎◌, Bool, true, false, ◌||◌, List, [], ◌∷◌, ◌++◌, ℤ, get_or, refl, sym, ap, subst, ◌∙◌, arith, append_assoc}
use Rattle.std.specs.Prelude.{nat_le}
use Rattle.std.specs.List.{list_any}
use Rattle.std.proofs.lemmas.Bool.{cases_Bool, le-leb, leb-true}
use Rattle.sn_mem.specs.Blocks.{table}
use Rattle.sn_mem.specs.Buses.{AudioBus, heard, silent}
use Rattle.sn_pcm.specs.Pcm.{pcm}
use Rattle.sn_queue.specs.Waiting.{Waiting, WaitingList}
use Rattle.sn_queue.specs.Steps.{due_of, is_due}
use Rattle.sn_round.specs.declared.jobs.Job.{Job}
use Rattle.sn_reply.specs.Frames.{with_frames}
use Rattle.sn_reply.specs.Replies.{ReplyShape}
use Rattle.sn_tree.specs.Trees.{running_labels}
use Rattle.sn_world.specs.declared.stage.Stage.{Stage}
use Rattle.sn_world.specs.Pictures.{Pictures}
use Rattle.sn_world.specs.SettleWords.{settled_walk}
use Rattle.sn_world.specs.Walk.{walk}
use Rattle.sn_world.specs.WalkWords.{walk_words}
use Rattle.sn_world.specs.World.{Turn, World, world_of}
use Rattle.sn_world.proofs.Changes.{pictured_again}
use Rattle.sn_world.proofs.Walking.{walked as walked_nodes}
use Rattle.sn_world.proofs.WalkedStage.{can_walk, world_walked}
use Rattle.sn_clash.specs.declared.clash.Clash.{Clash}
use Rattle.sn_clash.specs.Clashing.{clashes_of}
use Rattle.sn_quiet.specs.Quiet.{are_quiet}
use Rattle.sn_quiet.specs.Walks.{settled_world, walks}
use Rattle.sn_quiet.proofs.QuietSettles.{quiet_settles}
use Rattle.sn_quiet.proofs.Staying.{walk_stays, settled_stays}
use Rattle.sn_quiet.proofs.Worlds.{walk_unseen}
use Rattle.sn_settle.proofs.Settled.{long, settled_turn}
use Rattle.sn_engine.specs.Boundary.{unsaid, turn_at, waiting_at, clashes_at}
use Rattle.sn_engine.specs.Holding.{AreClashesOf}
use Rattle.sn_engine.specs.Outputs.{frame_of, frames_of, outputs, sounds}
use Rattle.sn_engine.specs.Running.{Running, at_boundary, flow_at, flow_of, with_block, with_settled}
use Rattle.sn_engine.specs.Spans.{IsSpan, in_turn, with_blocks}
use Rattle.sn_engine.specs.declared.standing.Standing.TheVariants.{Bounded, Rendered, Settled}
use Rattle.sn_engine.specs.declared.standing.Flow.TheVariants.{On}
use Rattle.sn_engine.proofs.QuietLemmas.{same_world, all_wait, same_clashes, nothing_said, goes_on}

-- ---- a settling at which nothing is told or done

quiet_settled : (q : Running) → are_quiet q.world.nodes ≡ true → with_settled q ≡ record q { standing = Settled; world = settled_world q.world }
quiet_settled q h = ap (λ (t : Turn). record q { standing = Settled; world = t.world; replies = with_frames 0 t.replies q.replies }) (quiet_settles (q.block - 1) (unsaid q.world) h)

-- ---- a boundary at which none is due, if the clashes still hold

still_bounded : (q : Running) → list_any (is_due q.waiting q.block) q.waiting.waiting ≡ false → q.clashes ≡ clashes_of q.world → at_boundary q ≡ record q { standing = Bounded }
still_bounded q none hold =
    let b : ℕ = q.block in
    let asked : Bool = list_any (is_due q.waiting b) q.waiting.waiting in
    let made : World → WaitingList → List Clash → List ReplyShape → Running = λ w ws cs rs. record q { world = w; waiting = ws; clashes = cs; standing = Bounded; replies = with_frames 0 rs q.replies } in
    let w : World = (turn_at b q.waiting q.world).world in
    let ws : WaitingList = waiting_at b q.waiting q.world in
    let cs : List Clash = clashes_at b q.waiting q.world in
    sym (ap (λ (w : World). made w q.waiting q.clashes []) (same_world b q.waiting asked refl none q.world)
    ∙ (ap (λ (ws : WaitingList). made w ws q.clashes []) (all_wait b q.waiting asked refl none q.world)
    ∙ (ap (λ (cs : List Clash). made w ws cs []) (same_clashes b q.waiting asked refl none q.world q.clashes hold)
    ∙ ap (λ (rs : List ReplyShape). made w ws cs rs) (nothing_said b q.waiting asked refl none q.world q.clashes hold [] refl))))

either_false : (a b : Bool) → a ≡ false → b ≡ false → (a || b) ≡ false
either_false a b p q = ap (λ c. c || b) p ∙ q

both_false : (a b : Bool) → (a || b) ≡ false → (a ≡ false) × (b ≡ false)
both_false true b h = absurd cc
both_false false b h = (refl, h)

later_false : (due m k : ℕ) → m ≤ k → nat_le due k ≡ false → nat_le due m ≡ false
later_false due m k l h = ⊎_elim
    (λ (t : nat_le due m ≡ true). let early : due ≤ m = leb-true due m t in absurd (true≢false (sym (le-leb due k (omega (arith, early, l))) ∙ h)))
    (λ (t : nat_le due m ≡ false). t)
    (cases_Bool (nat_le due m))

-- if none is due at a boundary, none is at an earlier one
none_earlier : (q : WaitingList) (ws : List Waiting) (m k : ℕ) → m ≤ k → list_any (is_due q k) ws ≡ false → list_any (is_due q m) ws ≡ false
none_earlier q [] m k l h = refl
none_earlier q (w ∷ ws) m k l h =
    let parts = both_false (is_due q k w) (list_any (is_due q k) ws) h in
    either_false (is_due q m w) (list_any (is_due q m) ws) (later_false (due_of q w) m k l parts.0) (none_earlier q ws m k l parts.1)

-- ---- a block after a settling, and without it

frames_same : (channels b : ℕ) (u v : World) (n : ℕ) → u.audio_buses ≡ v.audio_buses → frames_of channels b u n ≡ frames_of channels b v n
unfolding frames_of
frames_same channels b u v zero e = refl
frames_same channels b u v (suc k) e =
    ap (λ (xs : List ℤ). xs ++ frame_of channels b u k) (frames_same channels b u v k e)
    ∙ ap (λ (buses : List AudioBus). frames_of channels b v k ++ table (λ c. heard b (get_or buses c silent) k) channels) e

settled_between : (q : Running) → are_quiet q.world.nodes ≡ true → with_settled (with_block (record q { standing = Bounded; world = settled_world q.world })) ≡ with_settled (with_block q)
settled_between q quiet =
    let b : ℕ = q.block in
    let u : World = walk b (settled_world q.world) in
    let v : World = walk b q.world in
    let unseen : settled_world u ≡ settled_world v = walk_unseen b q.world in
    let sound : outputs q.settings b u ≡ outputs q.settings b v = frames_same q.settings.channels b u v 64 (ap (λ (w : World). w.audio_buses) unseen) in
    let made : World → List ℤ → Running = λ w xs. record q { world = w; block = b + 1; standing = Settled; sound = q.sound ++ pcm q.settings xs } in
    quiet_settled (with_block (record q { standing = Bounded; world = settled_world q.world })) (walk_stays b (settled_world q.world) ∙ (settled_stays q.world ∙ quiet))
    ∙ (ap (λ (w : World). made w (outputs q.settings b u)) unseen
    ∙ (ap (made (settled_world v)) sound
    ∙ sym (quiet_settled (with_block q) (walk_stays b q.world ∙ quiet))))

-- ---- words for the worlds between

pub record Stands (stage : Stage) (w : World) : Type 0 where
  pub words : List ℕ
  pub pictures : Pictures stage words
  pub is : w ≡ world_of stage words

walked : (stage : Stage) (b : ℕ) (w : World) → Stands stage w → Stands stage (walk b w)
walked stage b w s =
    let us : List ℕ = walk_words stage.rate b stage.buffers (running_labels stage.tree.attached) s.words in
    let nodes = walked_nodes stage.rate b stage.pool.region stage.buffers stage.tree.attached s.words (record { can = can_walk stage s.words s.pictures; each = s.pictures.buffers.each; apart = s.pictures.apart }) in
    record {
      words = us;
      pictures = pictured_again stage us s.words nodes.kept.length s.pictures;
      is = ap (walk b) s.is ∙ sym (world_walked stage b s.words us s.pictures refl);
    }

settled_stands : (stage : Stage) (w : World) → Stands stage w → Stands stage (settled_world w)
settled_stands stage w s =
    let us : List ℕ = settled_walk stage.rate (running_labels stage.tree.attached) s.words in record {
      words = us;
      pictures = pictured_again stage us s.words (long stage 0 s.words s.pictures) s.pictures;
      is = ap settled_world s.is ∙ ap (λ (t : Turn). t.world) (settled_turn stage 0 s.words s.pictures);
    }

single : (s r : Running) → s ≡ at_boundary r → with_settled (with_blocks 1 s) ≡ in_turn 1 r
unfolding with_blocks in_turn
single s r bounded = ap (λ (t : Running). with_settled (with_block t)) bounded

-- ---- n blocks

module _ (stage : Stage) (s : Running) (stands : Stands stage s.world) (clashes : AreClashesOf stage s.clashes) (quiet : are_quiet s.world.nodes ≡ true) where
  abbrev after : ℕ → Running
  after k = with_blocks k s

  block_is : (k : ℕ) → (after k).block ≡ s.block + k
  unfolding with_blocks
  block_is zero = omega arith
  block_is (suc k) = omega (arith, block_is k)

  waiting_is : (k : ℕ) → (after k).waiting ≡ s.waiting
  unfolding with_blocks
  waiting_is zero = refl
  waiting_is (suc k) = waiting_is k

  clashes_are : (k : ℕ) → (after k).clashes ≡ s.clashes
  unfolding with_blocks
  clashes_are zero = refl
  clashes_are (suc k) = clashes_are k

  still_quiet : (k : ℕ) → are_quiet (after k).world.nodes ≡ true
  unfolding with_blocks
  still_quiet zero = quiet
  still_quiet (suc k) = walk_stays (after k).block (after k).world ∙ still_quiet k

  still_stands : (k : ℕ) → Stands stage (after k).world
  unfolding with_blocks
  still_stands zero = stands
  still_stands (suc k) = walked stage (after k).block (after k).world (still_stands k)

  -- the clashes are those of the world after a settling
  still_hold : (k : ℕ) → (after k).clashes ≡ clashes_of (settled_world (after k).world)
  still_hold k =
      let s = still_stands k in
      let t = settled_stands stage (after k).world s in
      clashes_are k ∙ (clashes t.words ∙ ap clashes_of (sym t.is))

  next : (n k : ℕ) → k + 1 < n + 1 → list_any (is_due s.waiting (s.block + n - 1)) s.waiting.waiting ≡ false → with_settled (with_block (at_boundary (with_settled (after k)))) ≡ with_settled (with_block (after k))
  next n k l none =
      let q : Running = after k in
      let settled : with_settled q ≡ record q { standing = Settled; world = settled_world q.world } = quiet_settled q (still_quiet k) in
      let early : list_any (is_due q.waiting q.block) q.waiting.waiting ≡ false =
      ap (λ (ws : WaitingList). list_any (is_due ws q.block) ws.waiting) (waiting_is k)
      ∙ none_earlier s.waiting s.waiting.waiting q.block (s.block + n - 1) (omega (arith, block_is k, l)) none in
      ap (λ (r : Running). with_settled (with_block (at_boundary r))) settled
      ∙ (ap (λ (r : Running). with_settled (with_block r)) (still_bounded (record q { standing = Settled; world = settled_world q.world }) early (still_hold k))
      ∙ settled_between q (still_quiet k))

  -- blocks in a row from after a boundary are as many in turn from before it
  pub blocks_in_turn : (r : Running) (n k : ℕ) → s ≡ at_boundary r → k + 1 ≤ n → list_any (is_due s.waiting (s.block + n - 1)) s.waiting.waiting ≡ false → with_settled (with_blocks (suc k) s) ≡ in_turn (suc k) r
  unfolding with_blocks in_turn
  blocks_in_turn r n zero bounded l none = ap (λ (t : Running). with_settled (with_block t)) bounded
  blocks_in_turn r n (suc k) bounded l none =
      sym (next n (suc k) (omega (arith, l)) none)
      ∙ ap (λ (t : Running). with_settled (with_block (at_boundary t))) (blocks_in_turn r n k bounded (omega (arith, l)) none)

  -- at a boundary between them the server goes on
  pub between_goes_on : (r : Running) (n k : ℕ) → s ≡ at_boundary r → suc k < n → list_any (is_due s.waiting (s.block + n - 1)) s.waiting.waiting ≡ false → flow_at (in_turn (suc k) r) ≡ On
  between_goes_on r n k bounded l none =
      let q : Running = after (suc k) in
      let asked : Bool = list_any (is_due q.waiting q.block) q.waiting.waiting in
      let early : asked ≡ false =
      ap (λ (ws : WaitingList). list_any (is_due ws q.block) ws.waiting) (waiting_is (suc k))
      ∙ none_earlier s.waiting s.waiting.waiting q.block (s.block + n - 1) (omega (arith, block_is (suc k), l)) none in
      ap (λ (t : Running). flow_at t) (sym (blocks_in_turn r n k bounded (omega (arith, l)) none) ∙ quiet_settled q (still_quiet (suc k)))
      ∙ ap flow_of (sym (goes_on q.block q.waiting asked refl early (settled_world q.world)))

-- ---- n blocks as their world and their sound

-- what n blocks make of an engine
abbrev pub rendered : Running → World → ℕ → List ℕ → Running
rendered r w n sound = record r { world = w; block = r.block + n; standing = Rendered; sound = r.sound ++ sound }

pub blocks_are : (r : Running) (n : ℕ) → with_blocks (suc n) r ≡ rendered r (walks r.block (suc n) r.world) (suc n) (sounds r.settings r.block (suc n) r.world)
unfolding with_blocks walks sounds
blocks_are r zero =
    let next : r.block + 1 ≡ r.block + suc zero = omega arith in
    let here : r.block ≡ r.block + 0 = omega arith in
    ap (λ b. record r { world = walk r.block r.world; block = b; standing = Rendered; sound = r.sound ++ pcm r.settings (outputs r.settings r.block (walk r.block r.world)) }) next
    ∙ ap (λ b. rendered r (walk b r.world) 1 (pcm r.settings (outputs r.settings b (walk b r.world)))) here
blocks_are r (suc n) =
    let q : Running = rendered r (walks r.block (suc n) r.world) (suc n) (sounds r.settings r.block (suc n) r.world) in
    let next : r.block + suc n + 1 ≡ r.block + suc (suc n) = omega arith in
    let one : suc (suc n) ≡ suc n + 1 = omega arith in
    let w : World = walk (r.block + suc n) (walks r.block (suc n) r.world) in
    let bytes : List ℕ = pcm r.settings (outputs r.settings (r.block + suc n) w) in
    ap with_block (blocks_are r n)
    ∙ (ap (λ b. record q { world = w; block = b; standing = Rendered; sound = (r.sound ++ sounds r.settings r.block (suc n) r.world) ++ bytes }) next
    ∙ (ap (λ (xs : List ℕ). record q { world = w; block = r.block + suc (suc n); standing = Rendered; sound = xs }) (append_assoc r.sound (sounds r.settings r.block (suc n) r.world) bytes)
    ∙ ap (λ m. rendered r w (suc (suc n)) (sounds r.settings r.block (suc n) r.world ++ pcm r.settings (outputs r.settings (r.block + suc n) (walks r.block m r.world)))) one))

-- ---- one block, or several in a row

pub one_or_more : (stage : Stage) (s r : Running) (n : ℕ) (jobs : List Job) → Stands stage s.world → AreClashesOf stage s.clashes → s ≡ at_boundary r → (n ≡ 1) ⊎ ((2 ≤ n) × IsSpan jobs s n) → with_settled (with_blocks n s) ≡ in_turn n r
one_or_more stage s r n jobs stands clashes bounded quiet = ⊎_elim
    (λ (e : n ≡ 1). subst (λ m. with_settled (with_blocks m s) ≡ in_turn m r) (sym e) (single s r bounded))
    (λ (q : (2 ≤ n) × IsSpan jobs s n).
    let span : IsSpan jobs s n = q.1 in
    let m : ℕ = n - 1 in
    let is : suc m ≡ n = omega (arith, q.0) in
    subst (λ k. with_settled (with_blocks k s) ≡ in_turn k r) is (blocks_in_turn stage s stands clashes span.quiet_is r n m bounded (omega (arith, q.0)) span.none_due))
    quiet

pub none_quits : (stage : Stage) (s r : Running) (n k : ℕ) (jobs : List Job) → Stands stage s.world → AreClashesOf stage s.clashes → s ≡ at_boundary r → (n ≡ 1) ⊎ ((2 ≤ n) × IsSpan jobs s n) → 1 ≤ k → k < n → flow_at (in_turn k r) ≡ On
none_quits stage s r n k jobs stands clashes bounded quiet some few = ⊎_elim
    (λ (e : n ≡ 1). absurd (omega (arith, e, some, few)))
    (λ (q : (2 ≤ n) × IsSpan jobs s n).
    let span : IsSpan jobs s n = q.1 in
    let m : ℕ = k - 1 in
    let is : suc m ≡ k = omega (arith, some) in
    subst (λ j. flow_at (in_turn j r) ≡ On) is (between_goes_on stage s stands clashes span.quiet_is r n m bounded (omega (arith, few, some)) span.none_due))
    quiet
