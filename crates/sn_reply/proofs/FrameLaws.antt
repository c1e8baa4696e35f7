-- What each client is sent by itself.
use Rattle.std.proofs.Common.{◌≡◌, ℕ, suc, ◌+◌, List, [], ◌∷◌, ◌++◌, length, refl, sym, ap, ◌∙◌, append_assoc, append-nil, Result, Ok, Err, OnErr}
use Rattle.sn_ports.specs.Transfer.{Before}
use Rattle.sn_reply.specs.Replies.{ReplyShape}
use Rattle.sn_reply.specs.Frames.{frame_to, frames_to, with_frame, with_frames, EachBegins}

-- the first client gets the frames that go to it
pub first_sent : (client : ℕ) (rs : List ReplyShape) (t : List ℕ) (ts : List (List ℕ)) → with_frames client rs (t ∷ ts) ≡ (t ++ frames_to client rs) ∷ with_frames (client + 1) rs ts
first_sent client [] t ts = ap (λ (s : List ℕ). s ∷ ts) (sym (append-nil t))
first_sent client (r ∷ rs) t ts =
    first_sent client rs (t ++ frame_to client r) (with_frame (client + 1) r ts)
    ∙ ap (λ (s : List ℕ). s ∷ with_frames (client + 1) rs (with_frame (client + 1) r ts)) (append_assoc t (frame_to client r) (frames_to client rs))

pub as_many : (client : ℕ) (rs : List ReplyShape) (ts : List (List ℕ)) → length (with_frames client rs ts) ≡ length ts
as_many client [] ts = refl
as_many client (r ∷ rs) ts = as_many client rs (with_frame client r ts) ∙ one client r ts
  where
    one : (client : ℕ) (r : ReplyShape) (ts : List (List ℕ)) → length (with_frame client r ts) ≡ length ts
    one client r [] = refl
    one client r (t ∷ ts) = ap suc (one (client + 1) r ts)

-- if there are no clients, nothing is sent
pub none_sent : (client : ℕ) (rs : List ReplyShape) → with_frames client rs [] ≡ []
none_sent client [] = refl
none_sent client (r ∷ rs) = none_sent client rs

-- ---- what was to be sent to a client is kept

pub begins_refl : (bytes : List ℕ) → Before bytes bytes
begins_refl bytes = ([], sym (append-nil bytes))

pub begins_trans : (a b c : List ℕ) → Before a b → Before b c → Before a c
begins_trans a b c p q = (p.0 ++ q.0, q.1 ∙ ap (λ (l : List ℕ). l ++ q.0) p.1 ∙ append_assoc a p.0 q.0)

pub each_begins_refl : (ts : List (List ℕ)) → EachBegins ts ts
each_begins_refl [] = tt
each_begins_refl (t ∷ ts) = (begins_refl t, each_begins_refl ts)

pub each_begins_trans : (ts us vs : List (List ℕ)) → EachBegins ts us → EachBegins us vs → EachBegins ts vs
each_begins_trans [] [] [] p q = tt
each_begins_trans [] [] (v ∷ vs) p q = absurd q
each_begins_trans [] (u ∷ us) vs p q = absurd p
each_begins_trans (t ∷ ts) [] vs p q = absurd p
each_begins_trans (t ∷ ts) (u ∷ us) [] p q = absurd q
each_begins_trans (t ∷ ts) (u ∷ us) (v ∷ vs) p q = (begins_trans t u v p.0 q.0, each_begins_trans ts us vs p.1 q.1)

-- the frame of a reply comes after what each client had
pub frame_behind : (client : ℕ) (r : ReplyShape) (ts : List (List ℕ)) → EachBegins ts (with_frame client r ts)
frame_behind client r [] = tt
frame_behind client r (t ∷ ts) = ((frame_to client r, refl), frame_behind (client + 1) r ts)

pub frames_behind : (client : ℕ) (rs : List ReplyShape) (ts : List (List ℕ)) → EachBegins ts (with_frames client rs ts)
frames_behind client [] ts = each_begins_refl ts
frames_behind client (r ∷ rs) ts = each_begins_trans ts (with_frame client r ts) (with_frames client rs (with_frame client r ts)) (frame_behind client r ts) (frames_behind client rs (with_frame client r ts))

pub on_err : {T E P : Type 0} (r : Result T E) → P → OnErr r P
on_err (Ok x) p = tt
on_err (Err e) p = p
