-- What decoding a stream answers is the only answer.
use Rattle.std.proofs.Common.{◌≡◌, ◌<◌, ◌+◌, ℕ, List, ◌++◌, length, slice_index, Result, Ok, Err, IfOk, sym, subst, ◌∙◌}
use Rattle.sn_osc.specs.declared.fault.StreamFault.{StreamFault}
use Rattle.sn_osc.specs.Shape.{Shape}
use Rattle.sn_osc.specs.Frames.{Frames, FrameFault, StreamFaultAt}
use Rattle.sn_osc.proofs.Streams.{one_list, excluded, one_stream_fault}
use Rattle.std.specs.Result.{IsErrAnd}
use Rattle.sn_render.specs.declared.stream.BadFrame.{BadFrame}
use Rattle.sn_render.specs.declared.stream.NoPackets.{NoPackets}
use Rattle.sn_render.specs.declared.stream.NoPackets.TheVariants as no_packets
use Rattle.sn_render.specs.Stream.{AreFramed, IfBad, IsFound, IsRefused}

pub are_framed : {X : Type 0} (view : X → List Shape) (bytes : List ℕ) (r : Result X NoPackets) → ((i : ℕ) → slice_index bytes i < 256) → IfOk r (λ v. Frames (view v) bytes) → IfOk r (λ v. AreFramed (view v))
are_framed view bytes (Ok v) small found = (bytes, small, found)
are_framed view bytes (Err e) small found = tt

pub only_found : {X : Type 0} (view : X → List Shape) (bytes : List ℕ) (r : Result X NoPackets) → IfOk r (λ v. Frames (view v) bytes) → IfBad r (λ f. StreamFaultAt bytes f.packet f.place f.fault)
    → (xs : List Shape) → Frames xs bytes → IsFound view r xs
only_found view bytes (Ok v) found bad xs h = one_list (view v) xs bytes found h
only_found view bytes (Err no_packets.NoMemory) found bad xs h = tt
only_found view bytes (Err (no_packets.Bad f)) found bad xs h = excluded xs bad.before 0 bytes bad.front bad.rest f.place f.fault h bad.frames bad.parts bad.why

pub only_bad : {X : Type 0} (view : X → List Shape) (bytes : List ℕ) (r : Result X NoPackets) → IfOk r (λ v. Frames (view v) bytes) → IfBad r (λ f. StreamFaultAt bytes f.packet f.place f.fault)
    → (number place : ℕ) (fault : StreamFault) → StreamFaultAt bytes number place fault → IsRefused r number place fault
only_bad view bytes (Ok v) found bad number place fault s = excluded (view v) s.before 0 bytes s.front s.rest place fault found s.frames s.parts s.why
only_bad view bytes (Err no_packets.NoMemory) found bad number place fault s = tt
only_bad view bytes (Err (no_packets.Bad f)) found bad number place fault s =
    let same = one_stream_fault bad.before s.before 0 bad.front bad.rest s.front s.rest f.place place f.fault fault bad.frames s.frames (sym bad.parts ∙ s.parts) bad.why s.why in
    (sym bad.count ∙ same.0 ∙ s.count, same.1, same.2)

-- the fault after some frames
pub fault_behind : (X Y : Type 0) (bytes front rest : List ℕ) (xs : List Shape) (number at : ℕ) (e : NoPackets) → Frames xs front → bytes ≡ front ++ rest → length xs ≡ number → at ≡ 0 + length front → IfBad {X = X} (Err e) (λ f. f.packet ≡ number)
    → IfBad {X = X} (Err e) (λ f. FrameFault at rest f.place f.fault) → IfBad {X = Y} (Err e) (λ f. StreamFaultAt bytes f.packet f.place f.fault)
fault_behind X Y bytes front rest xs number at no_packets.NoMemory frames parts count is numbered why = tt
fault_behind X Y bytes front rest xs number at (no_packets.Bad f) frames parts count is numbered why =
    record { before = xs; front = front; rest = rest; frames = frames; parts = parts; count = count ∙ sym numbered; why = subst (λ (n : ℕ). FrameFault n rest f.place f.fault) is why }

pub behind_question : {Y : Type 0} (r : Result Y NoPackets) (e : NoPackets) (P : BadFrame → Type 0) → IsErrAnd r (λ e'. e' ≡ e) → IfBad {X = Y} (Err e) P → IfBad r P
behind_question (Ok y) e P h p = absurd h
behind_question {Y} (Err e') e P h p = subst (λ k. IfBad {X = Y} (Err k) P) (sym h) p
