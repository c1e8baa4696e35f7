-- What a stage and its words stand for after a walk over its nodes.
use Rattle.std.proofs.Common.{◌≡◌, ◌≤◌, ◌<◌, ◌+◌, ℕ, zero, suc, List, ap, sym, ◌∙◌, arith}
use Rattle.sn_tree.specs.Trees.{running_labels}
use Rattle.sn_world.specs.declared.stage.Stage.{Stage}
use Rattle.sn_mem.specs.Buffers.{buffers_of, live_places, overlaps}
use Rattle.sn_world.specs.World.{world_of}
use Rattle.sn_world.specs.Walk.{walk, with_walked}
use Rattle.sn_world.specs.WalkWords.{walk_words}
use Rattle.sn_world.specs.Pictures.{live_held, Pictures}
use Rattle.sn_mem.proofs.BufferWords.{AgreesOn, same_buffers}
use Rattle.sn_world.proofs.Walking.{CanWalk, IsKept, IsWalked, walked}
use Rattle.sn_world.proofs.BufferLaws.{places_from}

pub can_walk : (stage : Stage) (ws : List ℕ) → Pictures stage ws → CanWalk stage.rate stage.pool.region stage.tree.attached ws
can_walk stage ws p = record { held = p.synths; apart = λ x. omega (arith, p.apart x); base = p.base; bounded = p.bounded; fits = p.fits }

walked_stage : (stage : Stage) (b : ℕ) (ws : List ℕ) → Pictures stage ws → IsWalked stage.rate b stage.buffers stage.tree.attached ws (walk_words stage.rate b stage.buffers (running_labels stage.tree.attached) ws)
walked_stage stage b ws p = walked stage.rate b stage.pool.region stage.buffers stage.tree.attached ws (record { can = can_walk stage ws p; each = p.buffers.each; apart = p.apart })

-- what changes only the words of nodes leaves the buffers
pub buffers_walked : (stage : Stage) (ws us : List ℕ) → Pictures stage ws → IsKept (live_held stage.tree.attached) ws us → buffers_of us stage.buffers ≡ buffers_of ws stage.buffers
unfolding AgreesOn
buffers_walked stage ws us p kept = same_buffers stage.buffers us ws (λ x more.
    kept.others x (omega (arith, p.base, places_from stage.pool.region stage.buffers x p.buffers.each more)) (free x more (overlaps x (live_held stage.tree.attached)) (p.apart x)))
  where
    free : (x : ℕ) → 0 < overlaps x (live_places stage.buffers) → (n : ℕ) → n + overlaps x (live_places stage.buffers) ≤ 1 → n ≡ 0
    free x more zero few = omega arith
    free x more (suc n) few = absurd (omega (arith, more, few))

pub world_walked : (stage : Stage) (b : ℕ) (ws us : List ℕ) → Pictures stage ws → us ≡ walk_words stage.rate b stage.buffers (running_labels stage.tree.attached) ws → world_of stage us ≡ walk b (world_of stage ws)
world_walked stage b ws us p is =
    ap (world_of stage) is ∙ sym (ap (with_walked (world_of stage ws)) (walked_stage stage b ws p).walked)
