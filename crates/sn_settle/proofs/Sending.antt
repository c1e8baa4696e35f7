-- What is sent to a client if events are told one after the other.
use Rattle.std.proofs.Common.{◌≡◌, ◌≢◌, ◌≤◌, ◌<◌, ◌+◌, ◌*◌, ◌==◌, ℕ, zero, suc, Bool, true, false, List, [], ◌∷◌, ◌++◌, length, get_or, refl, ap, sym, subst, ◌∙◌, arith, length-append, append_assoc}
use Rattle.std.specs.Prelude.{if◌then◌else◌}
use Rattle.std.proofs.lemmas.Bool.{eqb-true, eq-eqb}
use Rattle.std.proofs.lemmas.List.{append-nil}
use Rattle.sn_ports.specs.Octets.{Octets}
use Rattle.sn_osc.specs.Bytes.{message_bytes, frame_bytes}
use Rattle.sn_reply.specs.Frames.{frame_to, frames_to}
use Rattle.sn_reply.specs.Replies.{ReplyShape}
use Rattle.sn_reply.specs.declared.events.Notice.{Notice}
use Rattle.sn_reply.specs.Events.{notice_message}
use Rattle.sn_world.specs.declared.endings.Ending.{Ending}
use Rattle.sn_world.specs.Notices.{notices}
use Rattle.sn_world.specs.Noted.{Noted}
use Rattle.sn_world.specs.Settling.{notices_of}
use Rattle.sn_settle.specs.Telling.{out_of, HaveRoom, AreTold, AreNoted, CanLook, AreSeen}

frames_to-append : (client : ℕ) (rs ss : List ReplyShape) → frames_to client (rs ++ ss) ≡ frames_to client rs ++ frames_to client ss
frames_to-append client [] ss = refl
frames_to-append client (r ∷ rs) ss = ap (λ bs. frame_to client r ++ bs) (frames_to-append client rs ss) ∙ sym (append_assoc (frame_to client r) (frames_to client rs) (frames_to client ss))

pub notices_of-append : (flags : List Bool) (es fs : List Notice) → notices_of flags (es ++ fs) ≡ notices_of flags es ++ notices_of flags fs
notices_of-append flags [] fs = refl
notices_of-append flags (e ∷ es) fs = ap (λ rs. notices 0 flags (notice_message e) ++ rs) (notices_of-append flags es fs) ∙ sym (append_assoc (notices 0 flags (notice_message e)) (notices_of flags es) (notices_of flags fs))

-- ---- one event

-- its frame, if a flag is on
abbrev pub frame_if : Notice → Bool → List ℕ
frame_if event on = if on then frame_bytes (message_bytes (notice_message event)) else []

differs : (a b : ℕ) → a ≢ b → (a == b) ≡ false
differs a b ne = choose (a == b) refl
  where
    choose : (r : Bool) → (a == b) ≡ r → r ≡ false
    choose true is = absurd (ne (eqb-true a b is))
    choose false is = refl

equals : (a b : ℕ) → a ≡ b → (a == b) ≡ true
equals a b e = eq-eqb a b e

module _ (event : Notice) where
  abbrev told_from : ℕ → List Bool → List ReplyShape
  told_from from flags = notices from flags (notice_message event)

  none_before : (client from : ℕ) (flags : List Bool) → client < from → frames_to client (told_from from flags) ≡ []
  none_before client from [] lt = refl
  none_before client from (true ∷ flags) lt =
      ap (λ on. frame_if event on ++ frames_to client (told_from (from + 1) flags)) (differs from client (omega (arith, lt))) ∙ none_before client (from + 1) flags (omega (arith, lt))
  none_before client from (false ∷ flags) lt = none_before client (from + 1) flags (omega (arith, lt))

  here : (client from : ℕ) (flags : List Bool) → frames_to (from + client) (told_from from flags) ≡ frame_if event (get_or flags client false)
  here zero from [] = refl
  here (suc client) from [] = refl
  here zero from (true ∷ flags) =
      ap (λ on. frame_if event on ++ frames_to (from + 0) (told_from (from + 1) flags)) (equals from (from + 0) (omega arith))
      ∙ ap (λ bs. frame_if event true ++ bs) (none_before (from + 0) (from + 1) flags (omega arith)) ∙ append-nil (frame_if event true)
  here zero from (false ∷ flags) = none_before (from + 0) (from + 1) flags (omega arith)
  here (suc client) from (true ∷ flags) =
      ap (λ on. frame_if event on ++ frames_to (from + suc client) (told_from (from + 1) flags)) (differs from (from + suc client) (λ e. omega (arith, e)))
      ∙ ap (λ n. frames_to n (told_from (from + 1) flags)) (let e : from + suc client ≡ from + 1 + client = omega arith in e) ∙ here client (from + 1) flags
  here (suc client) from (false ∷ flags) =
      ap (λ n. frames_to n (told_from (from + 1) flags)) (let e : from + suc client ≡ from + 1 + client = omega arith in e) ∙ here client (from + 1) flags

  frames_one : (flags : List Bool) (client : ℕ) → frames_to client (notices_of flags (event ∷ [])) ≡ frame_if event (get_or flags client false)
  frames_one flags client =
      ap (frames_to client) (append-nil (told_from 0 flags)) ∙ ap (λ n. frames_to n (told_from 0 flags)) (let e : client ≡ 0 + client = omega arith in e) ∙ here client 0 flags

-- what one client's bytes are after an event
pub record IsOne (flags : List Bool) (event : Notice) (client : ℕ) (old new : Octets) : Type 0 where
  pub bytes : new.bytes ≡ old.bytes ++ frame_if event (get_or flags client false)
  pub room : old.spare ≤ new.spare + 48

-- the first clients were told
pub record AreFirst (flags : List Bool) (event : Notice) (old new : List Octets) (client : ℕ) : Type 0 where
  pub clients : length new ≡ length old
  pub told : (k : ℕ) → k < client → IsOne flags event k (out_of old k) (out_of new k)
  pub same : (k : ℕ) → client ≤ k → out_of new k ≡ out_of old k

pub first_none : (flags : List Bool) (event : Notice) (outs : List Octets) → AreFirst flags event outs outs 0
first_none flags event outs = record { clients = refl; told = λ k lt. absurd (omega (arith, lt)); same = λ k from. refl }

pub first_all : (flags : List Bool) (event : Notice) (old new : List Octets) (client : ℕ) → length old ≤ client → AreFirst flags event old new client → AreTold flags (event ∷ []) old new
first_all flags event old new client all first = record {
  sent = record {
    clients = first.clients;
    frames = λ k lt. (first.told k (omega (arith, lt, all))).bytes ∙ ap (λ bs. (out_of old k).bytes ++ bs) (sym (frames_one event flags k));
  };
  room = λ k lt. omega (arith, (first.told k (omega (arith, lt, all))).room);
}

-- ---- events one after the other

pub told_none : (flags : List Bool) (outs : List Octets) → AreTold flags [] outs outs
told_none flags outs = record { sent = record { clients = refl; frames = λ k lt. sym (append-nil (out_of outs k).bytes) }; room = λ k lt. omega arith }

pub told_then : (flags : List Bool) (es fs : List Notice) (a b c : List Octets) → AreTold flags es a b → AreTold flags fs b c → AreTold flags (es ++ fs) a c
told_then flags es fs a b c p q = record {
  sent = record {
    clients = q.sent.clients ∙ p.sent.clients;
    frames = λ k lt.
        q.sent.frames k (omega (arith, lt, p.sent.clients))
        ∙ ap (λ bs. bs ++ frames_to k (notices_of flags fs)) (p.sent.frames k lt)
        ∙ append_assoc (out_of a k).bytes (frames_to k (notices_of flags es)) (frames_to k (notices_of flags fs))
        ∙ ap (λ bs. (out_of a k).bytes ++ bs) (sym (ap (frames_to k) (notices_of-append flags es fs) ∙ frames_to-append k (notices_of flags es) (notices_of flags fs)));
  };
  room = λ k lt. omega (arith, p.room k lt, q.room k (omega (arith, lt, p.sent.clients)), length-append es fs);
}

pub room_left : (flags : List Bool) (es : List Notice) (n : ℕ) (a b : List Octets) → HaveRoom (48 * length es + n) a → AreTold flags es a b → HaveRoom n b
room_left flags es n a b room told = λ k lt. omega (arith, room k (omega (arith, lt, told.sent.clients)), told.room k (omega (arith, lt, told.sent.clients)))

-- ---- with endings

pub seen_none : (flags : List Bool) (outs : List Octets) (noted : Noted) → AreSeen flags [] [] outs outs noted noted
seen_none flags outs noted = record { told = told_none flags outs; noted = record { items = sym (append-nil noted.items); room = omega arith } }

pub seen_then : (flags : List Bool) (es fs : List Notice) (xs ys : List Ending) (a b c : List Octets) (n m k : Noted) → AreSeen flags es xs a b n m → AreSeen flags fs ys b c m k → AreSeen flags (es ++ fs) (xs ++ ys) a c n k
seen_then flags es fs xs ys a b c n m k p q = record {
  told = told_then flags es fs a b c p.told q.told;
  noted = record {
    items = q.noted.items ∙ ap (λ zs. zs ++ ys) p.noted.items ∙ append_assoc n.items xs ys;
    room = omega (arith, p.noted.room, q.noted.room, length-append xs ys);
  };
}

-- the room for the first events, and for those that are left
pub look_first : (es fs : List Notice) (xs ys : List Ending) (a : List Octets) (n : Noted) → CanLook (es ++ fs) (xs ++ ys) a n → CanLook es xs a n
look_first es fs xs ys a n can = record {
  clients = can.clients;
  bytes = λ k lt. omega (arith, can.bytes k lt, length-append es fs);
  room = omega (arith, can.room, length-append xs ys);
}

pub look_left : (flags : List Bool) (es fs : List Notice) (xs ys : List Ending) (a b : List Octets) (n m : Noted) → CanLook (es ++ fs) (xs ++ ys) a n → AreSeen flags es xs a b n m → CanLook fs ys b m
look_left flags es fs xs ys a b n m can seen = record {
  clients = omega (arith, can.clients, seen.told.sent.clients);
  bytes = λ k lt. omega (arith, can.bytes k (omega (arith, lt, seen.told.sent.clients)), seen.told.room k (omega (arith, lt, seen.told.sent.clients)), length-append es fs);
  room = omega (arith, can.room, seen.noted.room, length-append xs ys);
}

-- the room that endings take is counted
pub room_kept : (endings : List Ending) (old clear new : Noted) → clear.items ≡ [] → old.spare ≤ clear.spare → AreNoted endings clear new → old.spare ≤ new.spare + length new.items
room_kept endings old clear new gone room noted = omega (arith, room, noted.room, ap (λ (es : List Ending). length es) (noted.items ∙ ap (λ (es : List Ending). es ++ endings) gone))

-- ---- a walk over all of them

-- some events were told and some endings noted, and others are left
pub record IsUnderway (flags : List Bool) (all_events left_events : List Notice) (all_endings left_endings : List Ending) (a b : List Octets) (n m : Noted) : Type 0 where
  pub events : List Notice
  pub endings : List Ending
  pub seen : AreSeen flags events endings a b n m
  pub events_are : events ++ left_events ≡ all_events
  pub endings_are : endings ++ left_endings ≡ all_endings

pub underway_none : (flags : List Bool) (all_events left_events : List Notice) (all_endings left_endings : List Ending) (outs : List Octets) (noted : Noted) → left_events ≡ all_events → left_endings ≡ all_endings
    → IsUnderway flags all_events left_events all_endings left_endings outs outs noted noted
underway_none flags all_events left_events all_endings left_endings outs noted e f = record { events = []; endings = []; seen = seen_none flags outs noted; events_are = e; endings_are = f }

pub underway_can : (flags : List Bool) (all_events es left_events : List Notice) (all_endings xs left_endings : List Ending) (a b : List Octets) (n m : Noted) → CanLook all_events all_endings a n
    → IsUnderway flags all_events (es ++ left_events) all_endings (xs ++ left_endings) a b n m → CanLook es xs b m
underway_can flags all_events es left_events all_endings xs left_endings a b n m can is =
    look_first es left_events xs left_endings b m
    (look_left flags is.events (es ++ left_events) is.endings (xs ++ left_endings) a b n m
    (subst (λ zs. CanLook (is.events ++ (es ++ left_events)) zs a n) (sym is.endings_are) (subst (λ fs. CanLook fs all_endings a n) (sym is.events_are) can)) is.seen)

pub underway_next : (flags : List Bool) (all_events es left_events : List Notice) (all_endings xs left_endings : List Ending) (a b c : List Octets) (n m k : Noted)
    → IsUnderway flags all_events (es ++ left_events) all_endings (xs ++ left_endings) a b n m → AreSeen flags es xs b c m k → IsUnderway flags all_events left_events all_endings left_endings a c n k
underway_next flags all_events es left_events all_endings xs left_endings a b c n m k is seen = record {
  events = is.events ++ es;
  endings = is.endings ++ xs;
  seen = seen_then flags is.events es is.endings xs a b c n m k is.seen seen;
  events_are = append_assoc is.events es left_events ∙ is.events_are;
  endings_are = append_assoc is.endings xs left_endings ∙ is.endings_are;
}

pub underway_all : (flags : List Bool) (all_events left_events : List Notice) (all_endings left_endings : List Ending) (a b : List Octets) (n m : Noted) → left_events ≡ [] → left_endings ≡ []
    → IsUnderway flags all_events left_events all_endings left_endings a b n m → AreSeen flags all_events all_endings a b n m
underway_all flags all_events left_events all_endings left_endings a b n m e f is =
    subst (λ es. AreSeen flags es all_endings a b n m) (sym (append-nil is.events) ∙ ap (λ ls. is.events ++ ls) (sym e) ∙ is.events_are)
    (subst (λ xs. AreSeen flags is.events xs a b n m) (sym (append-nil is.endings) ∙ ap (λ ls. is.endings ++ ls) (sym f) ∙ is.endings_are) is.seen)
