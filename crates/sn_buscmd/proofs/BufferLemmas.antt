-- Buffers of a stage by their numbers.
use Rattle.std.proofs.Common.{◌≡◌, ◌≤◌, ◌<◌, ◌+◌, ◌*◌, ℕ, zero, suc, ℤ, pos, negsuc, nat_abs, List, [], ◌∷◌, ◌++◌, length, get_or, set, Bool, true, Option, Some, None, Result, Ok, Err, refl, ap, sym, subst, ◌∙◌, arith}
use Rattle.std.specs.Prelude.{if◌then◌else◌, is_none, codes}
use Rattle.std.specs.Option.{option_map}
use Rattle.sn_mem.specs.declared.extents.Extent.{Extent}
use Rattle.sn_osc.specs.Shape.{Argument}
use Rattle.sn_mem.specs.declared.buffers.BufferPlace.{BufferPlace}
use Rattle.sn_pool.specs.Pools.{PoolState, same_extent, times}
use Rattle.sn_reply.specs.declared.reason.Reason.{Reason}
use Rattle.sn_reply.specs.declared.reason.Reason.TheVariants as Reasons
use Rattle.sn_reply.specs.declared.replies.To.TheVariants.{Client}
use Rattle.sn_reply.specs.Replies.{ReplyShape}
use Rattle.sn_world.specs.declared.stage.Stage.{Stage}
use Rattle.sn_mem.specs.Buffers.{Buffer, buffer_of, buffers_of, place_extents}
use Rattle.sn_world.specs.Buffers.{MayBeBuffer, IsBuffer}
use Rattle.sn_pool.proofs.Counts.{same_itself}
use Rattle.sn_buscmd.proofs.PlacingLemmas.{times_one, times_none}
use Rattle.sn_world.specs.BufferNumbers.{at_number, put_at, buffer_refusal, done_message}
use Rattle.sn_world.specs.BufferCommands.{one_number, without_buffer, free_outcome, free_buffer_row}
use Rattle.sn_world.specs.Pictures.{Pictures}
use Rattle.sn_world.specs.Rows.{first_of, unless}
use Rattle.sn_world.specs.World.{World, Turn, world_of, turn_of}
use Rattle.sn_world.proofs.BufferSteps.{IsSet, buffers-at, each-at, times-set, set_pictures, set_world}

-- ---- the place of a number

pub record IsThere (ps : List (Option BufferPlace)) (n : ℤ) (p : BufferPlace) : Type 0 where
  pub below : nat_abs n < length ps
  pub place : get_or ps (nat_abs n) None ≡ Some p
  pub is : n ≡ pos (nat_abs n)

within : (ps : List (Option BufferPlace)) (n : ℕ) (p : BufferPlace) → Some p ≡ get_or ps n None → n < length ps
within [] n p h = absurd cc
within (q ∷ ps) zero p h = omega arith
within (q ∷ ps) (suc n) p h = omega (arith, within ps n p h)

pub there : (ps : List (Option BufferPlace)) (n : ℤ) (p : BufferPlace) → Some p ≡ at_number ps n → IsThere ps n p
there ps (pos n) p h = record { below = within ps n p h; place = sym h; is = refl }
there ps (negsuc n) p h = absurd cc

pub buffer_there : (ws : List ℕ) (ps : List (Option BufferPlace)) (n : ℤ) → at_number (buffers_of ws ps) n ≡ option_map (buffer_of ws) (at_number ps n)
buffer_there ws ps (pos n) = buffers-at ws ps n
buffer_there ws ps (negsuc n) = refl

refusal_at : (ws : List ℕ) (stage : Stage) (n : ℤ) (o : Option BufferPlace) → o ≡ at_number stage.buffers n → buffer_refusal n (world_of stage ws) ≡ first_of ((is_none (option_map (buffer_of ws) o), Reasons.Buffer) ∷ [])
refusal_at ws stage n o h = ap (λ (b : Option Buffer). first_of ((is_none b, Reasons.Buffer) ∷ [])) (buffer_there ws stage.buffers n ∙ ap (option_map (buffer_of ws)) (sym h))

pub not_there : (ws : List ℕ) (stage : Stage) (n : ℤ) → None ≡ at_number stage.buffers n → buffer_refusal n (world_of stage ws) ≡ Some Reasons.Buffer
not_there ws stage n h = refusal_at ws stage n None h

pub is_there : (ws : List ℕ) (stage : Stage) (n : ℤ) (p : BufferPlace) → Some p ≡ at_number stage.buffers n → buffer_refusal n (world_of stage ws) ≡ None
is_there ws stage n p h = refusal_at ws stage n (Some p) h

pub below_all : (ws : List ℕ) (stage : Stage) (n : ℤ) (p : BufferPlace) → Pictures stage ws → Some p ≡ at_number stage.buffers n → nat_abs n < 1024
below_all ws stage n p pictures h = omega (arith, (there stage.buffers n p h).below, pictures.buffers.number)

pub put_there : (n : ℤ) (b : Option Buffer) (bs : List (Option Buffer)) → n ≡ pos (nat_abs n) → put_at n b bs ≡ set bs (nat_abs n) b
put_there (pos n) b bs is = refl
put_there (negsuc n) b bs is = absurd cc

-- ---- `/b_free`

one_at_least : (a b : ℕ) → 1 ≤ a → 1 ≤ b → 1 ≤ a * b
one_at_least zero b p q = absurd (omega (arith, p))
one_at_least (suc a) b p q = grind arith

counted_one : (b : Bool) → b ≡ true → ◌≡◌ {A = ℕ} (if b then 1 else 0) 1
counted_one b e = ap (λ (c : Bool). let n : ℕ = if c then 1 else 0 in n) e

-- the words of a buffer are live
pub live_there : (stage : Stage) (words : List ℕ) (n : ℤ) (p : BufferPlace) → Pictures stage words → Some p ≡ at_number stage.buffers n → 0 < times p.extent stage.pool.live
live_there stage words n p pictures found =
    let here = there stage.buffers n p found in
    let is : IsBuffer stage.pool.region p = subst (MayBeBuffer stage.pool.region) here.place (each-at stage.pool.region stage.buffers (nat_abs n) pictures.buffers.each) in
    omega (
      arith,
      pictures.live p.extent (omega (arith, is.size, one_at_least p.frames p.channels is.frames is.channels)),
      times-set p.extent stage.buffers (nat_abs n) None here.below,
      ap (λ (o : Option BufferPlace). times p.extent (place_extents o)) here.place,
      times_one p.extent p.extent,
      counted_one (same_extent p.extent p.extent) (same_itself p.extent),
      times_none p.extent,
    )

module _ (old new : Stage) (n : ℤ) (p : BufferPlace) (found : Some p ≡ at_number old.buffers n) (live : List Extent)
    (counted : (e : Extent) → times e old.pool.live ≡ (if same_extent e p.extent then 1 else 0) + times e live)
    (is : new ≡ record old { pool = record old.pool { live = live }; buffers = set old.buffers (nat_abs n) None }) (words : List ℕ) (before : Pictures old words) where
  pool_is : new.pool ≡ record old.pool { live = live }
  pool_is = ap (λ (s : Stage). s.pool) is

  is_set : IsSet (nat_abs n) None old words new words
  is_set = record {
    number = below_all words old n p before found;
    place = tt;
    free = λ x more. absurd (omega (arith, more));
    buffers = ap (λ (s : Stage). s.buffers) is;
    live = λ e some. omega (arith, counted e, times_one e p.extent, times_none e, ap (λ (q : PoolState). times e q.live) pool_is, ap (λ (o : Option BufferPlace). times e (place_extents o)) (there old.buffers n p found).place);
    region = ap (λ (q : PoolState). q.region) pool_is;
    journal = ap (λ (q : PoolState). q.journal) pool_is ∙ before.closed;
    tree = ap (λ (s : Stage). s.tree) is;
    rate = ap (λ (s : Stage). s.rate) is;
    defs = ap (λ (s : Stage). s.defs) is;
    notify = ap (λ (s : Stage). s.notify) is;
    next = ap (λ (s : Stage). s.next_id) is;
    length = refl;
    others = λ x free. refl;
  }

  pub freed_pictures : Pictures new words
  freed_pictures = set_pictures (nat_abs n) None old words new words is_set before

  freed_world : world_of new words ≡ without_buffer n (world_of old words)
  freed_world = set_world (nat_abs n) None old words new words is_set before
      ∙ ap (λ (bs : List (Option Buffer)). let w : World = record (world_of old words) { buffers = bs } in w) (sym (put_there n None (buffers_of words old.buffers) (there old.buffers n p found).is))

  pub freed_row : (from : ℕ) (xs : List Argument) (replies after : List ReplyShape) → Some n ≡ one_number xs → after ≡ replies ++ (record { to = Client from; message = done_message (codes "/b_free") n }) ∷ []
      → free_buffer_row from xs (turn_of old words replies) ≡ Ok (turn_of new words after)
  freed_row from xs replies after asked told =
      let t : Turn = turn_of old words replies in
      ap (λ (o : Option ℤ). free_outcome from o t) (sym asked)
      ∙ ap (λ (o : Option Reason). unless o (Ok (record { world = without_buffer n (world_of old words); replies = replies ++ (record { to = Client from; message = done_message (codes "/b_free") n }) ∷ [] }))) (is_there words old n p found)
      ∙ (λ i. Ok (let u : Turn = record { world = sym freed_world i; replies = sym told i } in u))

pub free_missing : (from : ℕ) (xs : List Argument) (stage : Stage) (words : List ℕ) (replies : List ReplyShape) (n : ℤ) → Some n ≡ one_number xs → None ≡ at_number stage.buffers n → free_buffer_row from xs (turn_of stage words replies) ≡ Err Reasons.Buffer
free_missing from xs stage words replies n asked none =
    let t : Turn = turn_of stage words replies in
    let done : Result Turn Reason = Ok (record { world = without_buffer n (world_of stage words); replies = replies ++ (record { to = Client from; message = done_message (codes "/b_free") n }) ∷ [] }) in
    ap (λ (o : Option ℤ). free_outcome from o t) (sym asked) ∙ ap (λ (o : Option Reason). unless o done) (not_there words stage n none)
