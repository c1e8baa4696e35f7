-- What each client is sent of a settling.
use Rattle.std.proofs.Common.{◌≡◌, ◌<◌, ◌+◌, ℕ, zero, suc, List, [], ◌∷◌, ◌++◌, map, length, sym, ap, ◌∙◌, arith}
use Rattle.sn_ports.specs.Octets.{Octets, bytes_of}
use Rattle.sn_reply.specs.Replies.{ReplyShape}
use Rattle.sn_reply.specs.Frames.{frames_to, with_frames, EachHasRoom}
use Rattle.sn_reply.proofs.FrameLaws.{first_sent, none_sent}
use Rattle.sn_settle.specs.Telling.{out_of, HaveRoom, AreSent}

pub each_room : (n : ℕ) (ts : List Octets) → EachHasRoom n ts → HaveRoom n ts
each_room n [] h client low = absurd (omega (arith, low))
each_room n (t ∷ ts) h zero low = h.0
each_room n (t ∷ ts) h (suc k) low = each_room n ts h.1 k (omega (arith, low))

frames_sent : (base : ℕ) (rs : List ReplyShape) (old new : List Octets) → length new ≡ length old
    → ((client : ℕ) → client < length old → (out_of new client).bytes ≡ (out_of old client).bytes ++ frames_to (base + client) rs) → map bytes_of new ≡ with_frames base rs (map bytes_of old)
frames_sent base rs [] [] same each = sym (none_sent base rs)
frames_sent base rs [] (t ∷ ts) same each = absurd (omega (arith, same))
frames_sent base rs (t ∷ ts) [] same each = absurd (omega (arith, same))
frames_sent base rs (t ∷ ts) (u ∷ us) same each =
    let here : u.bytes ≡ t.bytes ++ frames_to base rs = each 0 (omega arith) ∙ ap (λ n. t.bytes ++ frames_to n rs) (omega arith) in
    let rest : map bytes_of us ≡ with_frames (base + 1) rs (map bytes_of ts) =
    frames_sent (base + 1) rs ts us (omega (arith, same)) (λ client low. each (suc client) (omega (arith, low)) ∙ ap (λ n. (out_of ts client).bytes ++ frames_to n rs) (omega arith)) in
    (λ i. here i ∷ rest i) ∙ sym (first_sent base rs t.bytes (map bytes_of ts))

pub all_sent : (rs : List ReplyShape) (old new : List Octets) → AreSent rs old new → map bytes_of new ≡ with_frames 0 rs (map bytes_of old)
all_sent rs old new s = frames_sent 0 rs old new s.clients (λ client low. s.frames client low ∙ ap (λ n. (out_of old client).bytes ++ frames_to n rs) (omega arith))
