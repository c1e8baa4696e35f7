-- A buffer whose samples are changed where they are.
use Rattle.std.proofs.Common.{◌≡◌, ◌<◌, ◌+◌, ℕ, zero, suc, ℤ, nat_abs, List, [], ◌∷◌, ◌++◌, length, get_or, set, Bool, true, false, Option, Some, None, Result, Ok, Err, refl, ap, sym, subst, ◌∙◌, arith}
use Rattle.std.specs.Prelude.{if◌then◌else◌, codes}
use Rattle.std.specs.Option.{option_map}
use Rattle.sn_mem.specs.declared.extents.Extent.{Extent}
use Rattle.sn_mem.specs.declared.extents.Foot.{Foot}
use Rattle.sn_mem.specs.Words.{MayWrite, covers}
use Rattle.sn_osc.specs.Shape.{Argument}
use Rattle.sn_mem.specs.declared.buffers.BufferPlace.{BufferPlace}
use Rattle.sn_pool.specs.Pools.{times}
use Rattle.sn_reply.specs.declared.reason.Reason.{Reason}
use Rattle.sn_reply.specs.declared.reason.Reason.TheVariants as Reasons
use Rattle.sn_reply.specs.declared.replies.To.TheVariants.{Client}
use Rattle.sn_reply.specs.Replies.{ReplyShape}
use Rattle.sn_world.specs.declared.stage.Stage.{Stage}
use Rattle.sn_mem.specs.Buffers.{Buffer, buffer_of, buffers_of, samples_of, place_extents, overlaps}
use Rattle.sn_world.specs.Buffers.{MayBeBuffer, IsBuffer}
use Rattle.sn_world.specs.BufferNumbers.{at_number, resampled, with_samples, done_message}
use Rattle.sn_world.specs.BufferCommands.{one_number, zeros, zero_outcome, zero_row}
use Rattle.sn_world.specs.BufferSamples.{size_of, samples_in}
use Rattle.sn_world.specs.Pictures.{Pictures, WritesWorld, KeepsOutside}
use Rattle.sn_world.specs.Rows.{unless}
use Rattle.sn_world.specs.World.{World, Turn, world_of, turn_of}
use Rattle.sn_mem.proofs.Meetings.{after}
use Rattle.sn_world.proofs.BufferSteps.{IsSet, each-at, overlaps-set, set_pictures, set_world}
use Rattle.sn_buscmd.specs.Samples.{KeepsAround}
use Rattle.sn_buscmd.proofs.BufferLemmas.{IsThere, there, is_there, not_there, below_all, put_there, buffer_there}

set_back : (ps : List (Option BufferPlace)) (n : ℕ) (o : Option BufferPlace) → n < length ps → get_or ps n None ≡ o → set ps n o ≡ ps
set_back [] n o lt is = absurd (omega arith)
set_back (p ∷ ps) zero o lt is = ap (λ (q : Option BufferPlace). q ∷ ps) (sym is)
set_back (p ∷ ps) (suc n) o lt is = ap (λ (qs : List (Option BufferPlace)). p ∷ qs) (set_back ps n o (omega arith) is)

pub outside : (e : Extent) (x : ℕ) → overlaps x (e ∷ []) ≡ 0 → covers e x ≡ false
outside e x none = at (covers e x) refl none
  where
    at : (b : Bool) → covers e x ≡ b → ◌≡◌ {A = ℕ} ((if b then 1 else 0) + 0) 0 → b ≡ false
    at true c none = absurd (omega (arith, none))
    at false c none = refl

nothing : (x : ℕ) → overlaps x (place_extents None) ≡ 0
nothing x = refl

module _ (stage : Stage) (ws : List ℕ) (n : ℤ) (p : BufferPlace) (found : Some p ≡ at_number stage.buffers n) (before : Pictures stage ws) where
  here : IsThere stage.buffers n p
  here = there stage.buffers n p found

  pub is_buffer : IsBuffer stage.pool.region p
  is_buffer = subst (MayBeBuffer stage.pool.region) here.place (each-at stage.pool.region stage.buffers (nat_abs n) before.buffers.each)

  pub may_write : (f : Foot) → WritesWorld f stage.pool.region → MayWrite f p.extent.at p.extent.len
  may_write f may = record {
    below = omega (arith, before.base, before.bounded, is_buffer.within.1);
    each = λ i low. may.pool (p.extent.at + i) (omega (arith, is_buffer.within.0)) (omega (arith, low, is_buffer.within.1));
  }

  there_now : at_number (buffers_of ws stage.buffers) n ≡ Some (buffer_of ws p)
  there_now = buffer_there ws stage.buffers n ∙ ap (option_map (buffer_of ws)) (sym found)

  pub size_there : size_of (at_number (buffers_of ws stage.buffers) n) ≡ p.extent.len
  size_there = ap size_of there_now ∙ sym is_buffer.size

  pub samples_there : samples_in (at_number (buffers_of ws stage.buffers) n) ≡ samples_of ws p.extent
  samples_there = ap samples_in there_now

  module _ (us : List ℕ) (f : List ℤ → List ℤ) (around : KeepsAround p.extent ws us) (samples : samples_of us p.extent ≡ f (samples_of ws p.extent)) where
    is_set : IsSet (nat_abs n) (Some p) stage ws stage us
    is_set = record {
      number = below_all ws stage n p before found;
      place = is_buffer;
      free = λ x more. omega (arith, more, before.apart x, overlaps-set x stage.buffers (nat_abs n) None here.below, ap (λ (o : Option BufferPlace). overlaps x (place_extents o)) here.place, nothing x);
      buffers = sym (set_back stage.buffers (nat_abs n) (Some p) here.below here.place);
      live = λ e some. ap (λ (o : Option BufferPlace). times e stage.pool.live + times e (place_extents o)) here.place;
      region = refl;
      journal = before.closed;
      tree = refl;
      rate = refl;
      defs = refl;
      notify = refl;
      next = refl;
      length = around.len;
      others = λ x none. around.around x (outside p.extent x none);
    }

    pub resampled_pictures : Pictures stage us
    resampled_pictures = set_pictures (nat_abs n) (Some p) stage ws stage us is_set before

    buffer_is : ◌≡◌ {A = Option Buffer} (Some (buffer_of us p)) (resampled f (at_number (buffers_of ws stage.buffers) n))
    buffer_is =
        ap (λ (xs : List ℤ). let b : Buffer = record { frames = p.frames; channels = p.channels; samples = xs; extent = p.extent } in Some b) samples
        ∙ sym (ap (resampled f) there_now)

    pub resampled_world : world_of stage us ≡ with_samples n f (world_of stage ws)
    resampled_world =
        let w : World = world_of stage ws in
        set_world (nat_abs n) (Some p) stage ws stage us is_set before
        ∙ ap (λ (o : Option Buffer). let v : World = record w { buffers = set (buffers_of ws stage.buffers) (nat_abs n) o } in v) buffer_is
        ∙ ap (λ (bs : List (Option Buffer)). let v : World = record w { buffers = bs } in v) (sym (put_there n (resampled f (at_number (buffers_of ws stage.buffers) n)) (buffers_of ws stage.buffers) here.is))

    pub kept_outside : KeepsOutside stage.pool.region ws us
    kept_outside = λ k low out. around.around k (after p.extent k (omega (arith, out, is_buffer.within.1)))

  pub zeroed_row : (us : List ℕ) → KeepsAround p.extent ws us → samples_of us p.extent ≡ zeros (samples_of ws p.extent) → (from : ℕ) (xs : List Argument) (replies after : List ReplyShape) → Some n ≡ one_number xs
      → after ≡ replies ++ (record { to = Client from; message = done_message (codes "/b_zero") n }) ∷ [] → zero_row from xs (turn_of stage ws replies) ≡ Ok (turn_of stage us after)
  zeroed_row us around samples from xs replies after asked told =
      let t : Turn = turn_of stage ws replies in
      ap (λ (o : Option ℤ). zero_outcome from o t) (sym asked)
      ∙ ap (λ (o : Option Reason). unless o (Ok (record { world = with_samples n zeros (world_of stage ws); replies = replies ++ (record { to = Client from; message = done_message (codes "/b_zero") n }) ∷ [] }))) (is_there ws stage n p found)
      ∙ (λ i. Ok (let u : Turn = record { world = sym (resampled_world us zeros around samples) i; replies = sym told i } in u))

pub zero_missing : (from : ℕ) (xs : List Argument) (stage : Stage) (words : List ℕ) (replies : List ReplyShape) (n : ℤ) → Some n ≡ one_number xs → None ≡ at_number stage.buffers n → zero_row from xs (turn_of stage words replies) ≡ Err Reasons.Buffer
zero_missing from xs stage words replies n asked none =
    let t : Turn = turn_of stage words replies in
    let done : Result Turn Reason = Ok (record { world = with_samples n zeros (world_of stage words); replies = replies ++ (record { to = Client from; message = done_message (codes "/b_zero") n }) ∷ [] }) in
    ap (λ (o : Option ℤ). zero_outcome from o t) (sym asked) ∙ ap (λ (o : Option Reason). unless o done) (not_there words stage n none)
