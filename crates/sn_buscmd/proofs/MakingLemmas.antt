-- A buffer that is made.
use Rattle.std.proofs.Common.{◌≡◌, ◌≤◌, ◌<◌, ◌+◌, ◌*◌, ℕ, zero, suc, ℤ, pos, negsuc, nat_abs, List, [], ◌∷◌, ◌++◌, length, get_or, set, Bool, true, false, not, Option, Some, None, Result, Ok, Err, refl, ap, sym, ◌∙◌, arith}
use Rattle.std.specs.Prelude.{if◌then◌else◌, nat_lt, nat_le}
use Rattle.std.proofs.lemmas.Bool.{ltb-true, leb-true, lt-ltb, and_parts}
use Rattle.sn_mem.specs.declared.extents.Extent.{Extent}
use Rattle.sn_mem.specs.Words.{covers, has}
use Rattle.sn_mem.specs.declared.buffers.BufferPlace.{BufferPlace}
use Rattle.sn_pool.specs.Pools.{times}
use Rattle.sn_pool.specs.Regions.{least_place}
use Rattle.sn_reply.specs.declared.reason.Reason.{Reason}
use Rattle.sn_reply.specs.declared.reason.Reason.TheVariants as Reasons
use Rattle.sn_reply.specs.declared.replies.To.TheVariants.{Client}
use Rattle.sn_reply.specs.Replies.{ReplyShape}
use Rattle.sn_world.specs.declared.buffer_repetition.NewBuffer.{NewBuffer}
use Rattle.sn_world.specs.declared.stage.Stage.{Stage}
use Rattle.sn_mem.specs.Buffers.{Buffer, buffer_of, buffers_of, samples_of, place_extents, live_places, overlaps}
use Rattle.sn_world.specs.Buffers.{live_buffers}
use Rattle.sn_world.specs.BufferNumbers.{is_number, at_number, put_at, number_refusal, done_message}
use Rattle.sn_world.specs.BufferCommands.{without_buffer, place_for, holding, hold_at, hold}
use Rattle.sn_world.specs.Pictures.{Pictures, live_held}
use Rattle.sn_world.specs.Rows.{first_of, unless}
use Rattle.sn_world.specs.World.{World, Turn, world_of, turn_of, live_of}
use Rattle.sn_world.proofs.BufferLaws.{live_buffers-of}
use Rattle.sn_world.proofs.BufferSteps.{IsSet, buffers-set, times-set, set_pictures, set_world}
use Rattle.sn_world.proofs.Counting.{times-append, has-same}
use Rattle.sn_world.proofs.Inserting.{has-overlaps, live_in-payloads, least_place-same}
use Rattle.sn_mem.proofs.BufferWords.{overlaps-append}
use Rattle.sn_buscmd.specs.Samples.{KeepsAround, IsNew, IsLive, AreLeft, IsPlaced}
use Rattle.sn_buscmd.proofs.BufferLemmas.{put_there, live_there}
use Rattle.sn_buscmd.proofs.PlacingLemmas.{times_none}
use Rattle.sn_buscmd.proofs.ResamplingLemmas.{outside}

pub live_if : (stage : Stage) (words : List ℕ) (n : ℤ) (o : Option BufferPlace) → Pictures stage words → o ≡ at_number stage.buffers n → IsLive o stage.pool
live_if stage words n None pictures found = tt
live_if stage words n (Some p) pictures found = live_there stage words n p pictures found

-- ---- its number

pub record IsNumbered (n : ℤ) : Type 0 where
  pub below : nat_abs n < 1024
  pub is : n ≡ pos (nat_abs n)

numbered : (n : ℤ) → is_number n ≡ true → IsNumbered n
numbered (pos n) h = record { below = ltb-true n 1024 h; is = refl }
numbered (negsuc n) h = absurd cc

pub number_is : (n : ℤ) → number_refusal n ≡ None → IsNumbered n
number_is n h = numbered n (at (is_number n) h)
  where
    at : (b : Bool) → first_of ((not b, Reasons.Buffer) ∷ []) ≡ None → b ≡ true
    at true h = refl
    at false h = absurd cc

entry : (ps : List (Option BufferPlace)) (n : ℤ) → n ≡ pos (nat_abs n) → at_number ps n ≡ get_or ps (nat_abs n) None
entry ps (pos n) is = refl
entry ps (negsuc n) is = absurd cc

nothing_from : (n : ℕ) → nat_lt 0 n ≡ false → n ≡ 0
nothing_from zero e = refl
nothing_from (suc n) e = let more : nat_lt 0 (suc n) ≡ true = lt-ltb 0 (suc n) (omega arith) in absurd cc

module _ (stage : Stage) (words : List ℕ) (r : NewBuffer) (free : number_refusal r.number ≡ None) (before : Pictures stage words) (o : Option BufferPlace) (found : o ≡ at_number stage.buffers r.number) where
  here : IsNumbered r.number
  here = number_is r.number free

  within : nat_abs r.number < length stage.buffers
  within = omega (arith, here.below, before.buffers.number)

  at_it : get_or stage.buffers (nat_abs r.number) None ≡ o
  at_it = sym (found ∙ entry stage.buffers r.number here.is)

  abbrev others_live : List Extent
  others_live = live_held stage.tree.attached ++ live_places (set stage.buffers (nat_abs r.number) None)

  -- the words of all synths and of the other buffers
  live_without : live_of (without_buffer r.number (world_of stage words)) ≡ others_live
  live_without = λ i. live_in-payloads stage.tree.attached words i ++ (ap live_buffers (put_there r.number None (buffers_of words stage.buffers) here.is ∙ sym (buffers-set words stage.buffers (nat_abs r.number) None))
      ∙ live_buffers-of (set stage.buffers (nat_abs r.number) None) words) i

  left_same : (left : List Extent) → AreLeft o stage.pool.live left → (x : ℕ) → has left x ≡ has others_live x
  left_same left are x = has-same left others_live (λ e some.
      omega (
        arith,
        are e,
        before.live e some,
        times-set e stage.buffers (nat_abs r.number) None within,
        times_none e,
        ap (λ (q : Option BufferPlace). times e (place_extents q)) at_it,
        times-append e (live_held stage.tree.attached) (live_places (set stage.buffers (nat_abs r.number) None)),
      )) x

  place_is : (left : List Extent) → AreLeft o stage.pool.live left → place_for (world_of stage words) r ≡ least_place stage.pool.region left (r.frames * r.channels)
  place_is left are = least_place-same stage.pool.region (live_of (without_buffer r.number (world_of stage words))) left (r.frames * r.channels)
      (λ x. ap (λ (es : List Extent). has es x) live_without ∙ sym (left_same left are x))

  judged : (command : List ℕ) (samples : List ℤ) (from : ℕ) (replies : List ReplyShape) (left : List Extent) (at : Option ℕ) → AreLeft o stage.pool.live left → least_place stage.pool.region left (r.frames * r.channels) ≡ at
      → hold command samples from r (turn_of stage words replies) ≡ hold_at command samples from r at (turn_of stage words replies)
  judged command samples from replies left at are is =
      ap (λ (q : Option Reason). unless q (hold_at command samples from r (place_for (world_of stage words) r) (turn_of stage words replies))) free
      ∙ ap (λ (q : Option ℕ). hold_at command samples from r q (turn_of stage words replies)) (place_is left are ∙ is)

  pub full_row : (command : List ℕ) (samples : List ℤ) (from : ℕ) (replies : List ReplyShape) (left : List Extent) → AreLeft o stage.pool.live left → least_place stage.pool.region left (r.frames * r.channels) ≡ None
      → hold command samples from r (turn_of stage words replies) ≡ Err Reasons.PoolFull
  full_row command samples from replies left are is = judged command samples from replies left None are is

  module _ (new : Stage) (us : List ℕ) (p : BufferPlace) (fits : IsNew r) (placed : IsPlaced o r stage.pool new.pool p)
      (is : new ≡ record stage { pool = new.pool; buffers = set stage.buffers (nat_abs r.number) (Some p) }) (around : KeepsAround p.extent words us) where
    inside : (x : ℕ) → 0 < overlaps x (p.extent ∷ []) → (p.extent.at ≤ x) × (x < p.extent.at + p.extent.len)
    inside x some = at (covers p.extent x) refl some
      where
        at : (b : Bool) → covers p.extent x ≡ b → 0 < (if b then 1 else 0) + 0 → (p.extent.at ≤ x) × (x < p.extent.at + p.extent.len)
        at true c some = let q = and_parts (nat_le p.extent.at x) (nat_lt x (p.extent.at + p.extent.len)) c in (leb-true p.extent.at x q.0, ltb-true x (p.extent.at + p.extent.len) q.1)
        at false c some = absurd (omega (arith, some))

    unused : (x : ℕ) → 0 < overlaps x (p.extent ∷ []) → overlaps x others_live ≡ 0
    unused x some =
        let q = inside x some in
        nothing_from (overlaps x others_live) (sym (has-overlaps others_live x) ∙ sym (left_same placed.left placed.are_left x) ∙ placed.free.unused x q.0 (omega (arith, q.1, placed.size)))

    is_set : IsSet (nat_abs r.number) (Some p) stage words new us
    is_set = record {
      number = here.below;
      place = record {
        frames = omega (arith, placed.frames, fits.frames);
        short = omega (arith, placed.frames, fits.short);
        channels = omega (arith, placed.channels, fits.channels);
        few = omega (arith, placed.channels, fits.few);
        size = placed.size ∙ (λ i. sym placed.frames i * sym placed.channels i);
        within = (placed.free.from, omega (arith, placed.free.to, placed.size));
      };
      free = λ x some. omega (arith, unused x some, overlaps-append x (live_held stage.tree.attached) (live_places (set stage.buffers (nat_abs r.number) None)));
      buffers = ap (λ (s : Stage). s.buffers) is;
      live = λ e some. omega (arith, placed.live e, placed.are_left e, ap (λ (q : Option BufferPlace). times e (place_extents q)) at_it);
      region = placed.region;
      journal = placed.journal;
      tree = ap (λ (s : Stage). s.tree) is;
      rate = ap (λ (s : Stage). s.rate) is;
      defs = ap (λ (s : Stage). s.defs) is;
      notify = ap (λ (s : Stage). s.notify) is;
      next = ap (λ (s : Stage). s.next_id) is;
      length = around.len;
      others = λ x none. around.around x (outside p.extent x none);
    }

    pub made_pictures : Pictures new us
    made_pictures = set_pictures (nat_abs r.number) (Some p) stage words new us is_set before

    -- a buffer of these samples stands there, and that is told
    module _ (command : List ℕ) (samples : List ℤ) (held : samples_of us p.extent ≡ samples) where
      buffer_is : buffer_of us p ≡ holding samples r p.extent.at
      buffer_is = λ i. record { frames = placed.frames i; channels = placed.channels i; samples = held i; extent = record { at = p.extent.at; len = placed.size i } }

      made_turn : (from : ℕ) (replies after : List ReplyShape) → after ≡ replies ++ (record { to = Client from; message = done_message command r.number }) ∷ []
          → turn_of new us after ≡ (let t : Turn = record { world = record (world_of stage words) { buffers = put_at r.number (Some (holding samples r p.extent.at)) (buffers_of words stage.buffers) }; replies = replies ++ (record { to = Client from; message = done_message command r.number }) ∷ [] } in t)
      made_turn from replies after told =
          let w : World = world_of stage words in
          let world_is = set_world (nat_abs r.number) (Some p) stage words new us is_set before
          ∙ ap (λ (b : Buffer). let v : World = record w { buffers = set (buffers_of words stage.buffers) (nat_abs r.number) (Some b) } in v) buffer_is
          ∙ ap (λ (bs : List (Option Buffer)). let v : World = record w { buffers = bs } in v) (sym (put_there r.number (Some (holding samples r p.extent.at)) (buffers_of words stage.buffers) here.is)) in
          λ i. record { world = world_is i; replies = told i }

      pub made_row : (from : ℕ) (replies after : List ReplyShape) → after ≡ replies ++ (record { to = Client from; message = done_message command r.number }) ∷ []
          → hold command samples from r (turn_of stage words replies) ≡ Ok (turn_of new us after)
      made_row from replies after told =
          judged command samples from replies placed.left (Some p.extent.at) placed.are_left placed.least
          ∙ ap {B = Result Turn Reason} (λ (t : Turn). Ok t) (sym (made_turn from replies after told))
