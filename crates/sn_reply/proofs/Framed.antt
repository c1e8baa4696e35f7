-- What is read in the frames of replies are these replies.
use Rattle.std.proofs.Common.{◌≡◌, ◌≤◌, ◌<◌, ◌+◌, ◌-◌, ℕ, zero, suc, List, [], ◌∷◌, ◌++◌, length, map, take, drop, get_or, refl, sym, ap, subst, ◌∙◌, append_assoc, append-nil, arith, length-append}
use Rattle.std.specs.Int.{w32, to_be_bytes}
use Rattle.std.proofs.lemmas.List.{take_at, drop_at, length-map}
use Rattle.sn_osc.specs.Shape.{MessageShape, message}
use Rattle.sn_osc.specs.Bytes.{message_bytes}
use Rattle.sn_osc.specs.Reading.{message_in}
use Rattle.sn_osc.proofs.Encoded.{packet_spelled}
use Rattle.sn_osc.proofs.Messages.{message_again}
use Rattle.sn_reply.specs.declared.replies.Mark.{Mark}
use Rattle.sn_reply.specs.Replies.{ReplyShape}
use Rattle.sn_reply.specs.Sending.{IsSendable, AllSendable}
use Rattle.sn_reply.specs.Framed.{frame_of, mark_of, joined, or_blank, message_framed, replies_in, AreFramed}

-- ---- what is framed is read again

message_back : (m : MessageShape) → IsSendable m → message_framed (to_be_bytes w32 (length (message_bytes m)) ++ message_bytes m) ≡ m
message_back m s =
    let size = to_be_bytes w32 (length (message_bytes m)) in
    let behind : drop 4 (size ++ message_bytes m) ≡ message_bytes m = drop_at size (message_bytes m) 4 (omega arith) in
    ap (λ (bytes : List ℕ). or_blank (message_in 0 bytes)) behind ∙ ap or_blank (message_again 0 m (message_bytes m) (packet_spelled (message m) 8 1 s.valid s.short))

abbrev with_message : ReplyShape → MessageShape → ReplyShape
with_message r m = record { to = r.to; message = m }

back : (rs : List ReplyShape) (rest : List ℕ) → AllSendable rs → replies_in (joined rs ++ rest) (map mark_of rs) ≡ rs
back [] rest all = refl
back (r ∷ rs) rest all =
    let n = length (frame_of r) in
    let bytes = joined (r ∷ rs) ++ rest in
    let parts : bytes ≡ frame_of r ++ (joined rs ++ rest) = append_assoc (frame_of r) (joined rs) rest in
    let first : take n bytes ≡ frame_of r = ap (take n) parts ∙ take_at (frame_of r) (joined rs ++ rest) n refl in
    let others : drop n bytes ≡ joined rs ++ rest = ap (drop n) parts ∙ drop_at (frame_of r) (joined rs ++ rest) n refl in
    let here : message_framed (take n bytes) ≡ r.message = ap message_framed first ∙ message_back r.message all.0 in
    let behind : replies_in (drop n bytes) (map mark_of rs) ≡ rs = ap (λ (b : List ℕ). replies_in b (map mark_of rs)) others ∙ back rs rest all.1 in
    ap (λ (m : MessageShape). with_message r m ∷ replies_in (drop n bytes) (map mark_of rs)) here ∙ ap (λ (l : List ReplyShape). r ∷ l) behind

-- the bytes and the marks of replies
pub record Hold (bytes : List ℕ) (marks : List Mark) (rs : List ReplyShape) : Type 0 where
  pub sendable : AllSendable rs
  pub frames : bytes ≡ joined rs
  pub marks_are : marks ≡ map mark_of rs

pub read_as : (bytes : List ℕ) (marks : List Mark) (rs : List ReplyShape) → Hold bytes marks rs → replies_in bytes marks ≡ rs
read_as bytes marks rs h =
    ap (λ (b : List ℕ). replies_in b marks) (h.frames ∙ sym (append-nil (joined rs))) ∙ ap (replies_in (joined rs ++ [])) h.marks_are ∙ back rs [] h.sendable

pub are_framed : (bytes : List ℕ) (marks : List Mark) (rs : List ReplyShape) → Hold bytes marks rs → AreFramed bytes marks
are_framed bytes marks rs h =
    let is : rs ≡ replies_in bytes marks = sym (read_as bytes marks rs h) in
    record {
      sendable = subst AllSendable is h.sendable;
      frames = h.frames ∙ ap joined is;
      marks_are = h.marks_are ∙ ap (map mark_of) is;
    }

pub hold_of : (bytes : List ℕ) (marks : List Mark) (rs : List ReplyShape) → AreFramed bytes marks → replies_in bytes marks ≡ rs → Hold bytes marks rs
hold_of bytes marks rs a is = record {
  sendable = subst AllSendable is a.sendable;
  frames = a.frames ∙ ap joined is;
  marks_are = a.marks_are ∙ ap (map mark_of) is;
}

pub as_many_read : (bytes : List ℕ) (marks : List Mark) → length (replies_in bytes marks) ≡ length marks
as_many_read bytes [] = refl
as_many_read bytes (m ∷ ms) = ap suc (as_many_read (drop m.len bytes) ms)

-- the same bytes and the same marks
pub same : (bytes more : List ℕ) (marks others : List Mark) (rs : List ReplyShape) → Hold bytes marks rs → more ≡ bytes → others ≡ marks → Hold more others rs
same bytes more marks others rs h put noted = record {
  sendable = h.sendable;
  frames = put ∙ h.frames;
  marks_are = noted ∙ h.marks_are;
}

-- ---- one more

marks-push : (rs : List ReplyShape) (r : ReplyShape) → map mark_of (rs ++ r ∷ []) ≡ map mark_of rs ++ mark_of r ∷ []
marks-push [] r = refl
marks-push (x ∷ rs) r = ap (λ (l : List Mark). mark_of x ∷ l) (marks-push rs r)

joined-push : (rs : List ReplyShape) (r : ReplyShape) → joined (rs ++ r ∷ []) ≡ joined rs ++ frame_of r
joined-push [] r = append-nil (frame_of r)
joined-push (x ∷ rs) r = ap (λ (l : List ℕ). frame_of x ++ l) (joined-push rs r) ∙ sym (append_assoc (frame_of x) (joined rs) (frame_of r))

all-push : (rs : List ReplyShape) (r : ReplyShape) → AllSendable rs → IsSendable r.message → AllSendable (rs ++ r ∷ [])
all-push [] r all here = (here, tt)
all-push (x ∷ rs) r all here = (all.0, all-push rs r all.1 here)

pub pushed : (bytes more : List ℕ) (marks others : List Mark) (rs : List ReplyShape) (r : ReplyShape) → Hold bytes marks rs → IsSendable r.message → more ≡ bytes ++ frame_of r → others ≡ marks ++ mark_of r ∷ []
    → Hold more others (rs ++ r ∷ [])
pushed bytes more marks others rs r h here put noted = record {
  sendable = all-push rs r h.sendable here;
  frames = put ∙ ap (λ (l : List ℕ). l ++ frame_of r) h.frames ∙ sym (joined-push rs r);
  marks_are = noted ∙ ap (λ (l : List Mark). l ++ mark_of r ∷ []) h.marks_are ∙ sym (marks-push rs r);
}

-- ---- one less

all-front : (rs : List ReplyShape) (r : ReplyShape) → AllSendable (rs ++ r ∷ []) → AllSendable rs
all-front [] r all = tt
all-front (x ∷ rs) r all = (all.0, all-front rs r all.1)

-- the replies before the last, and the last, by their marks
pub record Last (rs : List ReplyShape) (marks : List Mark) (mark : Mark) : Type 0 where
  pub front : List ReplyShape
  pub reply : ReplyShape
  pub parts : rs ≡ front ++ reply ∷ []
  pub marks_are : marks ≡ map mark_of front
  pub mark_is : mark ≡ mark_of reply

last_of : (rs : List ReplyShape) (marks : List Mark) (mark : Mark) → marks ++ mark ∷ [] ≡ map mark_of rs → Last rs marks mark
last_of [] [] mark is = absurd cc
last_of [] (x ∷ marks) mark is = absurd cc
last_of (r ∷ []) [] mark is = record { front = []; reply = r; parts = refl; marks_are = refl; mark_is = ap (λ (l : List Mark). get_or l 0 mark) is }
last_of (r ∷ s ∷ rs) [] mark is = absurd cc
last_of (r ∷ []) (x ∷ []) mark is = absurd cc
last_of (r ∷ []) (x ∷ y ∷ marks) mark is = absurd cc
last_of (r ∷ s ∷ rs) (x ∷ marks) mark is =
    let first : x ≡ mark_of r = ap (λ (l : List Mark). get_or l 0 x) is in
    let l = last_of (s ∷ rs) marks mark (ap (λ (l : List Mark). drop 1 l) is) in
    record {
      front = r ∷ l.front;
      reply = l.reply;
      parts = ap (λ (t : List ReplyShape). r ∷ t) l.parts;
      marks_are = ap (λ (m : Mark). m ∷ marks) first ∙ ap (λ (t : List Mark). mark_of r ∷ t) l.marks_are;
      mark_is = l.mark_is;
    }

-- what is left after the last frame is cut off
pub record WithoutLast (bytes : List ℕ) (marks : List Mark) (mark : Mark) (rs : List ReplyShape) : Type 0 where
  pub fits : mark.len ≤ length bytes
  pub kept : Hold (take (length bytes - mark.len) bytes) marks (take (length rs - 1) rs)

pub cut_last : (bytes : List ℕ) (all marks : List Mark) (mark : Mark) (rs : List ReplyShape) → Hold bytes all rs → all ≡ marks ++ mark ∷ [] → WithoutLast bytes marks mark rs
cut_last bytes all marks mark rs h is =
    let l = last_of rs marks mark (sym is ∙ h.marks_are) in
    let parts : bytes ≡ joined l.front ++ frame_of l.reply = h.frames ∙ ap joined l.parts ∙ joined-push l.front l.reply in
    let size : mark.len ≡ length (frame_of l.reply) = ap (λ (m : Mark). m.len) l.mark_is in
    let whole : length bytes ≡ length (joined l.front) + length (frame_of l.reply) = ap length parts ∙ length-append (joined l.front) (frame_of l.reply) in
    let left : length (joined l.front) ≡ length bytes - mark.len = omega (arith, whole, size) in
    let many : length rs ≡ length l.front + 1 = ap length l.parts ∙ length-append l.front (l.reply ∷ []) in
    let fewer : length l.front ≡ length rs - 1 = omega (arith, many) in
    let is_front : take (length rs - 1) rs ≡ l.front = ap (take (length rs - 1)) l.parts ∙ take_at l.front (l.reply ∷ []) (length rs - 1) fewer in
    record {
      fits = omega (arith, whole, size);
      kept = record {
        sendable = subst AllSendable (sym is_front) (all-front l.front l.reply (subst AllSendable l.parts h.sendable));
        frames = ap (take (length bytes - mark.len)) parts ∙ take_at (joined l.front) (frame_of l.reply) (length bytes - mark.len) left ∙ ap joined (sym is_front);
        marks_are = l.marks_are ∙ ap (map mark_of) (sym is_front);
      };
    }

no_marks : (rs : List ReplyShape) → map mark_of rs ≡ [] → rs ≡ []
no_marks [] e = refl
no_marks (r ∷ rs) e = absurd cc

-- there was none
pub none_cut : (bytes : List ℕ) (all marks : List Mark) (rs : List ReplyShape) → Hold bytes all rs → all ≡ [] → marks ≡ [] → Hold bytes marks (take (length rs - 1) rs)
none_cut bytes all marks rs h none is =
    let empty : rs ≡ [] = no_marks rs (sym h.marks_are ∙ none) in
    subst (λ (l : List ReplyShape). Hold bytes marks (take (length l - 1) l)) (sym empty) (record { sendable = tt; frames = h.frames ∙ ap joined empty; marks_are = is })

-- ---- one after the other

-- the reply with this number, and the bytes after its frame
pub record NextReply (rs : List ReplyShape) (i : ℕ) (mark : Mark) (bytes : List ℕ) : Type 0 where
  pub reply : ReplyShape
  pub others : drop i rs ≡ reply ∷ drop (i + 1) rs
  pub mark_is : mark ≡ mark_of reply
  pub sendable : IsSendable reply.message
  pub parts : bytes ≡ frame_of reply ++ joined (drop (i + 1) rs)

at_number : (rs : List ReplyShape) (i : ℕ) (d : Mark) → i < length rs → AllSendable rs → (r : ReplyShape) × (drop i rs ≡ r ∷ drop (i + 1) rs) × (get_or (map mark_of rs) i d ≡ mark_of r) × IsSendable r.message
at_number [] i d lt all = absurd (omega (arith, lt))
at_number (r ∷ rs) zero d lt all = (r, refl, refl, all.0)
at_number (r ∷ rs) (suc i) d lt all =
    let h = at_number rs i d (omega (arith, lt)) all.1 in
    (h.0, h.1 ∙ ap (λ n. h.0 ∷ drop n (r ∷ rs)) (let e : suc (i + 1) ≡ suc i + 1 = omega arith in e), h.2, h.3)

pub reply_at : (rs : List ReplyShape) (marks : List Mark) (i : ℕ) (d : Mark) (bytes : List ℕ) → i < length marks → marks ≡ map mark_of rs → AllSendable rs → bytes ≡ joined (drop i rs) → NextReply rs i (get_or marks i d) bytes
reply_at rs marks i d bytes lt is all left =
    let many : length marks ≡ length rs = ap length is ∙ length-map rs mark_of in
    let h = at_number rs i d (omega (arith, lt, many)) all in
    record {
      reply = h.0;
      others = h.1;
      mark_is = ap (λ (ms : List Mark). get_or ms i d) is ∙ h.2;
      sendable = h.3;
      parts = left ∙ ap joined h.1;
    }

pub frame_length : (r : ReplyShape) → length (frame_of r) ≡ 4 + length (message_bytes r.message)
frame_length r = omega (arith, length-append (to_be_bytes w32 (length (message_bytes r.message))) (message_bytes r.message))

past_all : (rs : List ReplyShape) (i : ℕ) → length rs ≤ i → drop i rs ≡ []
past_all [] zero past = refl
past_all [] (suc i) past = refl
past_all (r ∷ rs) zero past = absurd (omega (arith, past))
past_all (r ∷ rs) (suc i) past = past_all rs i (omega (arith, past))

pub none_left : (rs : List ReplyShape) (marks : List Mark) (i : ℕ) → length marks ≤ i → marks ≡ map mark_of rs → drop i rs ≡ []
none_left rs marks i past is =
    let many : length marks ≡ length rs = ap length is ∙ length-map rs mark_of in
    past_all rs i (omega (arith, past, many))
