-- What acted at a boundary, and the clashes that were told after it.
use Rattle.std.proofs.Common.{◌≡◌, ℕ, List, [], ◌++◌, ap, ◌∙◌}
use Rattle.sn_queue.specs.Waiting.{WaitingList}
use Rattle.sn_reply.specs.Frames.{with_frames}
use Rattle.sn_reply.specs.Replies.{ReplyShape}
use Rattle.sn_world.specs.World.{World, Turn}
use Rattle.sn_clash.specs.declared.clash.Clash.{Clash}
use Rattle.sn_clash.specs.Clashing.{clashes_of}
use Rattle.sn_engine.specs.Clashing.{told_clashes}
use Rattle.sn_engine.specs.Boundary.{act_entries, due_at, turn_at, waiting_at, clashes_at, replies_at}
use Rattle.sn_engine.specs.Running.{Running, at_boundary, KeepsRest}
use Rattle.sn_engine.specs.declared.standing.Standing.{Standing}
use Rattle.sn_engine.specs.declared.standing.Standing.TheVariants.{Bounded}

abbrev pub a_turn : World → List ReplyShape → Turn
a_turn w said = record { world = w; replies = said }

pub acted_turn : (b : ℕ) (q : WaitingList) (old new : World) (none said : List ReplyShape) → none ≡ [] → a_turn new said ≡ act_entries (due_at b q) (a_turn old none) → a_turn new said ≡ turn_at b q old
acted_turn b q old new none said silent acts = acts ∙ ap (λ (rs : List ReplyShape). act_entries (due_at b q) (a_turn old rs)) silent

pub acted_clashes : (b : ℕ) (q : WaitingList) (old new : World) (said : List ReplyShape) (held : List Clash) → a_turn new said ≡ turn_at b q old → held ≡ clashes_of new → held ≡ clashes_at b q old
acted_clashes b q old new said held turn is = is ∙ ap (λ (t : Turn). clashes_of t.world) turn

pub acted_replies : (b : ℕ) (q : WaitingList) (old new : World) (said told : List ReplyShape) (before : List Clash) → a_turn new said ≡ turn_at b q old → told ≡ said ++ told_clashes before (clashes_of new) → told ≡ replies_at b q before old
acted_replies b q old new said told before turn is = is ∙ ap (λ (t : Turn). t.replies ++ told_clashes before (clashes_of t.world)) turn

abbrev at : Running → World → WaitingList → List Clash → List ℕ → List (List ℕ) → Running
at r w q clashes sound sent = record r { world = w; waiting = q; clashes = clashes; standing = Bounded; sound = sound; replies = sent }

pub bounded : (r : Running) (w : World) (q : WaitingList) (clashes : List Clash) (sound : List ℕ) (said : List ReplyShape) (sent : List (List ℕ))
    → w ≡ (turn_at r.block r.waiting r.world).world → q ≡ waiting_at r.block r.waiting r.world → clashes ≡ clashes_at r.block r.waiting r.world → sound ≡ r.sound
    → said ≡ replies_at r.block r.waiting r.clashes r.world → sent ≡ with_frames 0 said r.replies → at r w q clashes sound sent ≡ at_boundary r
bounded r w q clashes sound said sent acted left found same told framed =
    let replied : sent ≡ with_frames 0 (replies_at r.block r.waiting r.clashes r.world) r.replies = framed ∙ ap (λ (rs : List ReplyShape). with_frames 0 rs r.replies) told in
    λ i. at r (acted i) (left i) (found i) (same i) (replied i)

-- what is not changed, of what was at first
pub rest_kept : (r first : Running) (w : World) (q : WaitingList) (clashes : List Clash) (standing : Standing) (sound : List ℕ) (sent : List (List ℕ)) → r ≡ first → q ≡ record r.waiting { waiting = q.waiting } → sound ≡ r.sound
    → KeepsRest first (record r { world = w; waiting = q; clashes = clashes; standing = standing; sound = sound; replies = sent })
rest_kept r first w q clashes standing sound sent is kept same = λ i. record {
  settings = (is i).settings;
  world = w;
  waiting = (kept ∙ ap (λ (x : Running). record x.waiting { waiting = q.waiting }) is) i;
  clashes = clashes;
  block = (is i).block;
  standing = standing;
  sound = (same ∙ ap (λ (x : Running). x.sound) is) i;
  replies = sent;
}
