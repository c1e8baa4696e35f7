-- Packets of a stream are offered one after another.
use Rattle.std.proofs.Common.{◌≡◌, ◌+◌, ◌*◌, ◌≤◌, ℕ, Bool, true, false, List, [], ◌∷◌, ◌++◌, length, refl, sym, ap, subst, ◌∙◌, arith}
use Rattle.std.specs.Prelude.{None, if◌then◌else◌}
use Rattle.std.specs.List.{AllByRecursion}
use Rattle.std.specs.Int.{w32, w64, to_be_bytes}
use Rattle.std.proofs.lemmas.List.{length-append}
use Rattle.sn_osc.specs.Shape.{Shape, message, bundle}
use Rattle.sn_osc.specs.Bytes.{bundle_head, elements_bytes}
use Rattle.sn_osc.specs.Frames.{Frames}
use Rattle.sn_osc.proofs.Encoded.{packet_is}
use Rattle.sn_osc.proofs.Streams.{four_or_more, no_more}
use Rattle.sn_pcm.specs.declared.settings.Settings.{Settings}
use Rattle.sn_queue.specs.Steps.{put}
use Rattle.sn_reply.proofs.FrameLaws.{as_many}
use Rattle.sn_engine.specs.Arriving.{IsSpelled, Offered, next_boundary, nothing_offered, is_full, refusal_of, offer_entry, offer_entries, offered, with_offered}
use Rattle.sn_engine.specs.Entries.{Timed, entries_of}
use Rattle.sn_engine.specs.Running.{Running, opened}
use Rattle.sn_engine.proofs.PutLemmas.{entries_few}
use Rattle.sn_render.specs.Arriving.{ArePut, IsBegun}
use Rattle.sn_render.specs.Play.{arrive}
use Rattle.sn_render.specs.Playing.{ArePlayable}

-- no more entries are put than there are
put_one : (b : Bool) (boundary : ℕ) (e : Timed) (o : Offered)
    → (if b then record o { replies = o.replies ++ refusal_of 0 e ∷ []; refused = o.refused + 1 } else record o { waiting = put o.waiting e.tag boundary 0 e.messages }).waiting.puts ≤ o.waiting.puts + 1
put_one true boundary e o = omega arith
put_one false boundary e o = omega arith

pub offered_puts : (boundary : ℕ) (es : List Timed) (o : Offered) → (offer_entries boundary 0 es o).waiting.puts ≤ o.waiting.puts + length es
offered_puts boundary [] o = omega arith
offered_puts boundary (e ∷ es) o = omega (arith, offered_puts boundary es (offer_entry boundary 0 e o), put_one (is_full o.waiting) boundary e o)

-- nothing but what waits and what is said changes
pub record StaysAt (old new : Running) : Type 0 where
  pub settings : new.settings ≡ old.settings
  pub standing : new.standing ≡ old.standing
  pub block : new.block ≡ old.block
  pub sound : new.sound ≡ old.sound
  pub clients : length new.replies ≡ length old.replies

pub one_stays : (x : Shape) (r : Running) → StaysAt r (with_offered 0 (entries_of x) r)
one_stays x r = record { settings = refl; standing = refl; block = refl; sound = refl; clients = as_many 0 (offered 0 (entries_of x) r).replies r.replies }

pub stay_both : (p q r : Running) → StaysAt p q → StaysAt q r → StaysAt p r
stay_both p q r one others = record {
  settings = others.settings ∙ one.settings;
  standing = others.standing ∙ one.standing;
  block = others.block ∙ one.block;
  sound = others.sound ∙ one.sound;
  clients = others.clients ∙ one.clients;
}

pub all_stay : (xs : List Shape) (r : Running) → StaysAt r (arrive xs r)
all_stay [] r = record { settings = refl; standing = refl; block = refl; sound = refl; clients = refl }
all_stay (x ∷ xs) r =
    let next = with_offered 0 (entries_of x) r in
    stay_both r next (arrive xs next) (one_stays x r) (all_stay xs next)

-- ---- packet after packet

-- what is left to offer after one packet
pub record IsOffering (xs : List Shape) (target : Running) (new : Running) : Type 0 where
  pub begun : IsBegun new
  pub put : ArePut xs new.waiting.puts
  pub arrives : arrive xs new ≡ target

fewer_put : (xs : List Shape) (some most : ℕ) → some ≤ most → ArePut xs most → ArePut xs some
fewer_put [] some most fewer put = tt
fewer_put (x ∷ xs) some most fewer put = (put.0, omega (arith, fewer, put.1), fewer_put xs (some + length (entries_of x)) (most + length (entries_of x)) (omega (arith, fewer)) put.2)

pub offers : (x : Shape) (xs : List Shape) (target old new : Running) → IsOffering (x ∷ xs) target old → new ≡ with_offered 0 (entries_of x) old → IsOffering xs target new
offers x xs target old new o is = subst (IsOffering xs target) (sym is) (record {
  begun = record { block = o.begun.block; standing = o.begun.standing };
  put = fewer_put xs (with_offered 0 (entries_of x) old).waiting.puts (old.waiting.puts + length (entries_of x)) (offered_puts (next_boundary old) (entries_of x) (nothing_offered old.waiting)) o.put.2;
  arrives = o.arrives;
})

-- ---- packets from anywhere

spelled_most : (x : Shape) → IsSpelled x → length (entries_of x) ≤ 134217728
spelled_most (message m) s = omega arith
spelled_most (bundle tag inner) s =
    let len = ap length (packet_is (bundle tag inner) 8 1 s.0 s.1).0 in
    let four : 4 ≤ length s.0 = omega (arith, len, length-append (bundle_head ++ to_be_bytes w64 tag) (elements_bytes inner), length-append bundle_head (to_be_bytes w64 tag)) in
    omega (arith, entries_few (bundle tag inner) s.0 s.1 four, s.2)

playable_put : (xs : List Shape) (puts : ℕ) → AllByRecursion IsSpelled xs → puts + length xs * 134217728 ≤ 4611686018427387904 → ArePut xs puts
playable_put [] puts all few = tt
playable_put (x ∷ xs) puts all few = (all.0, omega (arith, few, spelled_most x all.0), playable_put xs (puts + length (entries_of x)) all.1 (omega (arith, few, spelled_most x all.0)))

-- at an engine at which nothing has arrived
pub opened_begun : (s : Settings) (e : Running) → e ≡ opened s 0 None 1 → IsBegun e
opened_begun s e is = record { block = ap (λ (r : Running). r.block) is; standing = ap (λ (r : Running). r.standing) is }

pub opened_put : (s : Settings) (xs : List Shape) (e : Running) → ArePlayable xs → e ≡ opened s 0 None 1 → ArePut xs e.waiting.puts
opened_put s xs e playable is = subst (ArePut xs) (sym (ap (λ (r : Running). r.waiting.puts) is)) (playable_put xs 0 playable.spelled (omega (arith, playable.few)))

-- the packets of a stream can be played
frames_spelled : (xs : List Shape) (bytes : List ℕ) → Frames xs bytes → AllByRecursion IsSpelled xs × (8 * length xs ≤ length bytes)
frames_spelled [] bytes h = (tt, omega arith)
frames_spelled (x ∷ xs) bytes h =
    let (front, rest, size, spelled, others, parts) = h in
    let len : length bytes ≡ 4 + length front + length rest = omega (arith, ap length parts, length-append (to_be_bytes w32 (length front) ++ front) rest, length-append (to_be_bytes w32 (length front)) front) in
    let after = frames_spelled xs rest others in
    (((front, spelled, omega (arith, no_more (length front) size)), after.0), omega (arith, len, four_or_more (length front) size, after.1))

pub frames_playable : (xs : List Shape) (bytes : List ℕ) → Frames xs bytes → length bytes ≤ 16777216 → ArePlayable xs
frames_playable xs bytes h few = let all = frames_spelled xs bytes h in record { few = omega (arith, few, all.1); spelled = all.0 }
