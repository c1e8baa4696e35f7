-- The steps of an engine only add to its bytes: what it holds stays before what they add, and is not looked at.
use Rattle.std.proofs.Common.{◌≡◌, ℕ, zero, suc, List, [], ◌∷◌, ◌++◌, length, refl, sym, ap, ◌∙◌, append_assoc, append-nil, arith}
use Rattle.sn_ports.specs.Transfer.{Before}
use Rattle.sn_pcm.specs.Pcm.{pcm}
use Rattle.sn_reply.specs.Frames.{frames_to, with_frames}
use Rattle.sn_reply.specs.Replies.{ReplyShape}
use Rattle.sn_reply.proofs.FrameLaws.{first_sent, none_sent, as_many, begins_refl, begins_trans}
use Rattle.sn_world.specs.Walk.{walk}
use Rattle.sn_engine.specs.Boundary.{replies_at}
use Rattle.sn_engine.specs.Outputs.{outputs}
use Rattle.sn_engine.specs.Running.{Running, at_boundary, with_block, with_settled, turn_settled}
use Rattle.sn_render.specs.Going.{before_first, behind}
use Rattle.sn_render.specs.Play.{after_block, after_blocks, to_end, to_first}

-- a step, to which it is the same what was written before it
pub record IsStep (f : Running → Running) : Type 0 where
  pub adds : (sound said : List ℕ) (r : Running) → f (behind sound said r) ≡ behind sound said (f r)
  pub clients : (r : Running) → length (f r).replies ≡ length r.replies

pub both_steps : (f g : Running → Running) → IsStep f → IsStep g → IsStep (λ r. g (f r))
both_steps f g one other = record {
  adds = λ sound said r. ap g (one.adds sound said r) ∙ other.adds sound said (f r);
  clients = λ r. other.clients (f r) ∙ one.clients r;
}

abbrev pub holding : List ℕ → List (List ℕ) → Running → Running
holding sound replies r = record r { sound = sound; replies = replies }

-- what is told comes after what was
pub tells : (rs : List ReplyShape) (said : List ℕ) (out : List (List ℕ)) → with_frames 0 rs (before_first said out) ≡ before_first said (with_frames 0 rs out)
tells rs said [] = none_sent 0 rs ∙ ap (before_first said) (sym (none_sent 0 rs))
tells rs said (t ∷ ts) =
    first_sent 0 rs (said ++ t) ts
    ∙ ap (λ (bytes : List ℕ). bytes ∷ with_frames 1 rs ts) (append_assoc said t (frames_to 0 rs))
    ∙ ap (before_first said) (sym (first_sent 0 rs t ts))

-- ---- the engine's own steps

pub boundary_step : IsStep at_boundary
boundary_step = record {
  adds = λ sound said r. ap (λ out. holding (sound ++ r.sound) out (at_boundary r)) (tells (replies_at r.block r.waiting r.clashes r.world) said r.replies);
  clients = λ r. as_many 0 (replies_at r.block r.waiting r.clashes r.world) r.replies;
}

block_step : IsStep with_block
block_step = record {
  adds = λ sound said r. ap (λ bytes. holding bytes (before_first said r.replies) (with_block r)) (append_assoc sound r.sound (pcm r.settings (outputs r.settings r.block (walk r.block r.world))));
  clients = λ r. refl;
}

settled_step : IsStep with_settled
settled_step = record {
  adds = λ sound said r. ap (λ out. holding (sound ++ r.sound) out (with_settled r)) (tells (turn_settled r).replies said r.replies);
  clients = λ r. as_many 0 (turn_settled r).replies r.replies;
}

-- the block after a boundary, and its settling
pub rendered_step : IsStep (λ r. with_settled (with_block r))
rendered_step = both_steps with_block with_settled block_step settled_step

pub after_block_step : IsStep after_block
after_block_step = both_steps at_boundary (λ r. with_settled (with_block r)) boundary_step rendered_step

pub blocks_step : (n : ℕ) → IsStep (after_blocks n)
blocks_step zero = record { adds = λ sound said r. refl; clients = λ r. refl }
blocks_step (suc n) = both_steps after_block (after_blocks n) after_block_step (blocks_step n)

pub end_step : (n : ℕ) → IsStep (to_end n)
end_step n = both_steps (after_blocks n) at_boundary (blocks_step n) boundary_step

-- ---- an engine of one client

pub as_many_behind : (said : List ℕ) (out : List (List ℕ)) → length (before_first said out) ≡ length out
as_many_behind said [] = refl
as_many_behind said (t ∷ ts) = refl

pub first_behind : (said : List ℕ) (out : List (List ℕ)) → length out ≡ 1 → to_first (before_first said out) ≡ said ++ to_first out
first_behind said [] alone = absurd cc
first_behind said (t ∷ ts) alone = refl

-- of which no bytes are left
abbrev pub drained : Running → Running
drained r = holding [] ([] ∷ []) r

one_held : (out : List (List ℕ)) → length out ≡ 1 → (to_first out ++ []) ∷ [] ≡ out
one_held [] alone = absurd cc
one_held (t ∷ []) alone = ap (λ (bytes : List ℕ). bytes ∷ []) (append-nil t)
one_held (t ∷ (u ∷ ts)) alone = absurd (omega (arith, alone))

all_held : (p : Running) → length p.replies ≡ 1 → behind p.sound (to_first p.replies) (drained p) ≡ p
all_held p alone = λ i. holding (append-nil p.sound i) (one_held p.replies alone i) p

-- what is added to the bytes of one engine is what another holds
pub record AddsTo (old new held : Running) : Type 0 where
  pub rest : drained new ≡ drained held
  pub sound : new.sound ≡ old.sound ++ held.sound
  pub said : to_first new.replies ≡ to_first old.replies ++ to_first held.replies
  pub alone : length new.replies ≡ 1

-- a step adds to the bytes what it gives if none are left
pub added : (f : Running → Running) → IsStep f → (p e : Running) → length p.replies ≡ 1 → e ≡ drained p → AddsTo p (f p) (f e)
added f step p e alone is =
    let all : f p ≡ behind p.sound (to_first p.replies) (f e) =
    ap f (sym (all_held p alone)) ∙ step.adds p.sound (to_first p.replies) (drained p) ∙ ap (λ (r : Running). behind p.sound (to_first p.replies) (f r)) (sym is) in
    let one : length (f e).replies ≡ 1 = step.clients e ∙ ap (λ (r : Running). length r.replies) is in
    record {
      rest = ap drained all;
      sound = ap (λ (r : Running). r.sound) all;
      said = ap (λ (r : Running). to_first r.replies) all ∙ first_behind (to_first p.replies) (f e).replies one;
      alone = step.clients p ∙ alone;
    }

-- ---- one list of bytes begins another

pub begins_more : (a b : List ℕ) → Before a (a ++ b)
begins_more a b = (b, refl)

pub begins_under : (a b c : List ℕ) → Before b c → Before (a ++ b) (a ++ c)
begins_under a b c h = (h.0, ap (λ (l : List ℕ). a ++ l) h.1 ∙ sym (append_assoc a b h.0))

-- the second engine has the bytes of the first, and perhaps more after them
pub record Grows (p q : Running) : Type 0 where
  pub sound : Before p.sound q.sound
  pub replies : Before (to_first p.replies) (to_first q.replies)

pub grows_not : (p : Running) → Grows p p
grows_not p = record { sound = begins_refl p.sound; replies = begins_refl (to_first p.replies) }

pub grows_both : (p q r : Running) → Grows p q → Grows q r → Grows p r
grows_both p q r g h = record {
  sound = begins_trans p.sound q.sound r.sound g.sound h.sound;
  replies = begins_trans (to_first p.replies) (to_first q.replies) (to_first r.replies) g.replies h.replies;
}

pub grows : (f : Running → Running) → IsStep f → (p : Running) → length p.replies ≡ 1 → Grows p (f p)
grows f step p alone =
    let a = added f step p (drained p) alone refl in
    record { sound = ((f (drained p)).sound, a.sound); replies = (to_first (f (drained p)).replies, a.said) }
